use Rattle.std.proofs.Common.{◌∙◌, ap, inl, inr, refl, w64}
use Rattle.std.proofs.lemmas.Int.{to_z-of_z}
use Rattle.x_text.specs.declared.text.fault.TextFault.TheVariants.{NoMemory}
use Rattle.x_documents.specs.Documents.{opened_as, put}
use Rattle.x_documents.specs.Grounds.{ground_of}
use Rattle.x_documents.specs.Noting.{refused_text}
use Rattle.x_documents.specs.Replies.{said_of}
use Rattle.x_documents.specs.Views.{documents_of}
use Rattle.x_documents.proofs.NotingLemmas.{published_as}
use Rattle.x_documents.proofs.SaidLemmas.{no_memory_is_note, shows_note}
use Rattle.x_documents.proofs.documents.Documents.open.Goals as goal

pub returns-in-Ok-put-clause-opens : goal.returns-in-Ok-put-clause-opens
returns-in-Ok-put-clause-opens c =
    let on = ground_of c.args.setting.now in
    let uri = c.args.uri.now in
    let text = c.args.text.now in
    let opened = c.in-Ok.ensures.opened ∙ ap (λ v. opened_as c.args.client on uri v text)
    (to_z-of_z w64 c.args.version c.ranges.version) in
    inl (
      c.in-Ok.ensures.small,
      c.in-Ok-put.ensures.put ∙ ap (λ d. put uri d (documents_of c.args.self.now))
          (c.publish-reply.ensures.same ∙ opened),
      published_as c.in-Ok.document c.args.client on uri c.args.version text
          (said_of c.publish-reply.result) opened c.in-Ok.ensures.in_step c.publish-reply.ensures.says,
    )

pub returns-in-Err-put-clause-opens : goal.returns-in-Err-put-clause-opens
returns-in-Err-put-clause-opens c =
    inr (NoMemory, tt, inr (refl, c.in-Err-put.ensures.none, c.in-Err-put.ensures.same))

pub returns-in-Err-put-clause-note : goal.returns-in-Err-put-clause-note
returns-in-Err-put-clause-note c = no_memory_is_note

pub returns-in-Err-clause-note : goal.returns-in-Err-clause-note
returns-in-Err-clause-note c = c.open_lost.ensures.note
    (shows_note (refused_text c.in-Err.fault) (said_of c.told-why.result) c.told-why.ensures)

use Rattle.std.proofs.Common.{◌++◌, List, inl, inr, refl, rules, subst, w64}
use Rattle.std.proofs.lemmas.Int.{to_z-of_z}
use Rattle.std.proofs.Math.Logic.{∥∥₁_map₂}
use Rattle.std.specs.Prelude.{string_bytes}
use Rattle.x_session.specs.Foreign.{ForeignName, view_all}
use Rattle.x_session.proofs.DeclaredLemmas.{of_each}
use Rattle.x_prelude.specs.Before.{IsBefore}
use Rattle.x_prelude.specs.Foreign.{AreForeign}
use Rattle.x_session.specs.Session.{Compiles}
use Rattle.x_published.specs.Diagnostics.{hints_of}
use Rattle.x_documents.specs.Publishing.{IsPublishedOf}
use Rattle.x_documents.specs.Grounds.{constants_of}
use Rattle.x_documents.proofs.SaidLemmas.{no_memory_is_note, published_note}
use Rattle.x_documents.proofs.StandLemmas.{published_alike}
use Rattle.x_documents.proofs.document.OpenDocument.publish.Goals as goal

pub returns-in-Ok-publish-clause-says : goal.returns-in-Ok-publish-clause-says
returns-in-Ok-publish-clause-says c =
    let d = c.args.self.now in
    let is = d.followed c.requires in
    let said = c.in-Ok-publish.text.items in
    let known = d.compiled.session.known in
    let text = d.compiled.session.text in
    let from = d.compiled.from_c in
    let front = d.files.items ++ constants_of d.blanks d.shown in
    let names = view_all c.in-Ok.foreign.items in
    let looked = c.has_lines.result in
    let published = subst (λ n. Compiles known text (λ items. IsPublishedOf d.client (string_bytes d.uri)
    d.version looked d.warns d.most (view_all n) d.shown text items said)) c.deref.ensures.value
    (subst (λ s. Compiles known text (λ items. IsPublishedOf d.client (string_bytes d.uri) d.version looked
    d.warns d.most (view_all c.deref.result.now) s text items said)) c.bytes.ensures.text
    (subst (λ u. Compiles known text (λ items. IsPublishedOf d.client u d.version looked
    d.warns d.most (view_all c.deref.result.now) c.bytes.result.now text items said)) c.as_str.ensures.value
    (subst (λ v. Compiles known text (λ items. IsPublishedOf d.client c.as_str.result.now v looked
    d.warns d.most (view_all c.deref.result.now) c.bytes.result.now text items said))
    (to_z-of_z w64 d.version (search rules)) c.in-Ok-publish.ensures.said))) in
    let items = published.1 in
    inl (
      said,
      refl,
      ∥∥₁_map₂ is.before d.over (λ before over. (
        known,
        subst (λ t. IsBefore front from t known) is.text_is
            (subst (λ f. IsBefore f from text known) is.files_are before),
        subst (λ t. Compiles known t (λ items. (foreign : List ForeignName)
            × AreForeign front from t items foreign
            × IsPublishedOf d.client
            (string_bytes d.uri) d.version d.blanks d.warns d.most foreign d.shown t items
            said))
            is.text_is (
              published.0,
              items,
              published.2,
              (
                names,
                subst (λ f. AreForeign f from text items names) is.files_are
                    (of_each text (c.in-Ok.ensures over) published.0 items published.2),
                published_alike d.client
                    (string_bytes d.uri) d.version d.blanks d.stands d.warns d.most names d.shown text
                    items said looked c.has_lines.ensures (λ yes. (d.stood yes).stands) published.3,
              ),
            ),
      )),
    )

pub returns-in-Ok-publish-clause-note : goal.returns-in-Ok-publish-clause-note
returns-in-Ok-publish-clause-note c =
    let d = c.args.self.now in
    let of = c.in-Ok-publish.ensures.said.3 in
    published_note c.as_str.result.now _
    (of.0 ++ hints_of c.has_lines.result d.client.encoding c.bytes.result.now ++ of.1 ++ of.2)
    c.in-Ok-publish.text.items of.6

pub returns-in_default-clause-says : goal.returns-in_default-clause-says
returns-in_default-clause-says c = inr refl

pub returns-in_default-clause-note : goal.returns-in_default-clause-note
returns-in_default-clause-note c = no_memory_is_note

pub returns-clause-says : goal.returns-clause-says
returns-clause-says c = inr refl

pub returns-clause-note : goal.returns-clause-note
returns-clause-note c = no_memory_is_note

use Rattle.std.proofs.Common.{◌≡◌, ◌∙◌, ap, subst}
use Rattle.serde_json.specs.View.{view}
use Rattle.x_frames.specs.Answers.{to_misread, to_no_json}
use Rattle.x_lsp.specs.States.{LosesAll, by_misread, by_no_json, state_of}
use Rattle.x_lsp.specs.declared.server.Server.{Server}
use Rattle.x_lsp.proofs.server.Server.reply_to_no_json.Goals as goal
use Rattle.x_lsp.proofs.server.Server.reply_to_no_json.Goals.{in-Some+in_default-miss+in-String-1}
use Rattle.x_lsp.proofs.server.Server.reply_to_no_json.Goals.{in-Some+in_default-miss+in-Array-1}
use Rattle.x_lsp.proofs.server.Server.reply_to_no_json.Goals.{in-Some+in_default-miss+in-Object-1}
use Rattle.x_lsp.proofs.server.Server.reply_to_no_json.Goals.{in-Some+in_default-miss+in-Null-1, in_default}

pub returns-in-Some-miss-clause-said : goal.returns-in-Some-miss-clause-said
returns-in-Some-miss-clause-said c =
    let missed = c.in-Some-miss.ensures.misread in
    to_misread (view c.in-Some.message) missed.noted c.requires c.in-Some.ensures missed.noted_is
    missed.is_note
    missed.life_stays

pub returns-in-Some-miss-clause-makes : goal.returns-in-Some-miss-clause-makes
returns-in-Some-miss-clause-makes c =
    by_misread (view c.in-Some.message) c.requires c.in-Some.ensures c.in-Some-miss.ensures.misread

-- nothing has changed where there is no such notification
same : (c : goal.After-refuse_no_json) → c.match-mended_message.self ≡ c.args.self.now
same c = elim c.match-mended_message.branch [
  | in-Some+in_default-miss+in-String-1 w ↦ w.self-is ∙ w.miss.ensures.none w.in_default-miss.is
  | in-Some+in_default-miss+in-Array-1 w ↦ w.self-is ∙ w.miss.ensures.none w.in_default-miss.is
  | in-Some+in_default-miss+in-Object-1 w ↦ w.self-is ∙ w.miss.ensures.none w.in_default-miss.is
  | in-Some+in_default-miss+in-Null-1 w ↦ w.self-is ∙ w.miss.ensures.none w.in_default-miss.is
  | in_default w ↦ w.self-is
]

pub returns-clause-said : goal.returns-clause-said
returns-clause-said c =
    to_no_json c.requires c.refuse_no_json.ensures.said
    (c.refuse_no_json.ensures.life ∙ ap (λ (s : Server). s.life) (same c))

pub returns-clause-makes : goal.returns-clause-makes
returns-clause-makes c =
    by_no_json c.requires c.refuse_no_json.ensures.said
    (subst (λ (s : Server). LosesAll (state_of s) (state_of c.refuse_no_json.new.self)) (same c)
    c.refuse_no_json.ensures.loses)

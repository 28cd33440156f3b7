use Rattle.std.proofs.Common.{◌≡◌, true, false, sym, ◌∙◌}
use Rattle.x_recheck.specs.Editing.{definitions_after}
use Rattle.x_recheck.specs.inside.Deciding.{text_edit}
use Rattle.x_recheck.proofs.FirstDeclarers.{first_within}
use Rattle.x_recheck.proofs.rechecking.candidates.add_candidates.Goals as goal

pub is_alike-requires-clause-after : goal.is_alike-requires-clause-after
is_alike-requires-clause-after g c f is =
    first_within (definitions_after (text_edit g.L.CheckedItems.text c.args.items.now)) c.args.name.now f
    (sym c.first_after-after.ensures ∙ is)

pub returns-then-not-may_have_kept_users-clause-covered :
    goal.returns-then-not-may_have_kept_users-clause-covered
returns-then-not-may_have_kept_users-clause-covered g c f first here place k lt u waits =
    let kept : true ≡ false = sym (c.may_have_kept_users.ensures k u) ∙ c.if-not-may_have_kept_users.true in
    absurd (cc)

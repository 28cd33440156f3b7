use Rattle.std.proofs.Common.{sym, ◌∙◌}
use Rattle.x_recheck.specs.Editing.{definitions_after}
use Rattle.x_recheck.specs.inside.Deciding.{text_edit}
use Rattle.x_recheck.proofs.FirstDeclarers.{first_within}
use Rattle.x_recheck.proofs.rechecking.sights.new_view.Goals as goal

pub checked-declaring-requires-clause-item : goal.checked-declaring-requires-clause-item
checked-declaring-requires-clause-item g c =
    first_within (definitions_after (text_edit g.L.CheckedItems.text c.args.items.now)) c.args.name.now
    c.in-Some.declarer (sym c.first_after-first.ensures ∙ c.in-Some.is)

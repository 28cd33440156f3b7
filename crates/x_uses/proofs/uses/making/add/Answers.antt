use Rattle.std.proofs.Common.{Some, map, ap, subst, ◌∙◌}
use Rattle.std.proofs.lemmas.Result.{on_ok_weaker}
use Rattle.x_trees.specs.View.{view_definition}
use Rattle.x_trees.specs.Collected.{view_name}
use Rattle.x_trees.specs.Collected.{view_mention}
use Rattle.x_names.specs.Declarers.{declarer_in}
use Rattle.x_uses.specs.Occurrences.{sees}
use Rattle.x_uses.specs.Slots.{Notes}
use Rattle.x_uses.proofs.NotedLaws.{item_noted}
use Rattle.x_uses.proofs.uses.making.add.Goals as goal

pub returns : goal.returns
returns c =
    let d = view_definition c.args.definition.now in
    let item = c.args.item in
    on_ok_weaker c.add_mentioned.result
    (λ more short.
    subst (λ es. Notes es c.add_mentioned.new.table.entries (λ name. declarer_in item name (Some d))
    (sees (Some d)) item) c.reserve_names.ensures
    (item_noted c.reserve_names.new.table.entries c.add_declared.new.table.entries
    c.add_mentioned.new.table.entries item d c.deref.result.now c.deref-2.result.now
    (ap (map view_name) c.deref.ensures.value ∙ c.in_ok-read.ensures.declared short)
    (ap (map view_mention) c.deref-2.ensures.value ∙ c.in_ok-read.ensures.mentioned short)
    c.in_ok-add_declared.ensures more))
    c.add_mentioned.ensures

use Rattle.std.proofs.Common.{take}
use Rattle.std.specs.Cow.{cow_slice_items}
use Rattle.std.specs.List.{IsAmong}
use Rattle.x_trees.specs.declared.names.declared_name.DeclaredName.{DeclaredName}
use Rattle.x_trees.specs.declared.names.mention.Mention.{Mention}
use Rattle.x_recheck.specs.inside.Deciding.{SeesSame, text_edit}
use Rattle.x_recheck.specs.Staleness.{result_after}
use Rattle.x_recheck.proofs.rechecking.sights.sees_same.Given as goal

-- the names so far are seen as before
abbrev pub invariant-loop-declared : goal.invariant-loop-declared
invariant-loop-declared g l =
    let e = text_edit g.L.CheckedItems.text l.items in
    (d : DeclaredName) → IsAmong (take l.declared-index l.declared-items) d
    → SeesSame e (result_after e l.rechecked) l.was l.item (cow_slice_items d.name)

abbrev pub invariant-loop-mention : goal.invariant-loop-mention
invariant-loop-mention g l =
    let e = text_edit g.L.CheckedItems.text l.items in
    record {
      declared : (d : DeclaredName) → IsAmong l.outline.declared.items d
          → SeesSame e (result_after e l.rechecked) l.was l.item (cow_slice_items d.name);
      mentioned : (m : Mention) → IsAmong (take l.mention-index l.mention-items) m
          → SeesSame e (result_after e l.rechecked) l.was l.item m.name.now;
    }

use Rattle.std.proofs.Common.{◌≡◌, ℕ, length, map, take}
use Rattle.x_trees.specs.Collected.{view_mention}
use Rattle.x_names.specs.DeclarerTable.{first_in}
use Rattle.x_prelude.specs.Leading.{declaring_all}
use Rattle.x_prelude.specs.Reaching.{AreReached, GoesOnTo}
use Rattle.x_prelude.proofs.leading.Reached.add_used.Given as goal

-- what the mentions so far use is reached
abbrev pub invariant-loop-mention : goal.invariant-loop-mention
invariant-loop-mention l = record {
  counted : length l.self.marks.items ≡ length l.fn.self.marks.items;
  on : (count : ℕ) → AreReached count l.fn.self → GoesOnTo (declaring_all (first_in l.names)
      (map view_mention (take l.mention-index l.mentions))) count l.fn.self l.self;
}

use Rattle.std.proofs.Common.{◌≡◌, ◌+◌, ◌≤◌, length}
use Rattle.x_text.specs.declared.text.source.TheConstants.{MAX_TEXT}
use Rattle.x_lex.specs.Tiling.{AreTokens}
use Rattle.x_compile.specs.FaultWalk.{AreOrdered, StandAt, faults_behind}
use Rattle.x_compile.proofs.item_walk.ItemWalk.next_faulty.Given as goal

-- the items so far have no fault
abbrev pub invariant-items : goal.invariant-items
invariant-items l = record {
  tokens : AreTokens l.self-inside.source.now l.self-inside.tokens.now.list;
  stand : StandAt l.self-inside.source.now l.self-inside.tokens.now.list l.self-inside.token
      l.self-inside.start l.self-inside.entries;
  ordered : AreOrdered l.self-inside.entries;
  small : length l.self-inside.tokens.now.list ≤ MAX_TEXT;
  places : length l.self-inside.source.now ≤ MAX_TEXT;
  few : l.self-inside.number + length l.self-inside.entries ≤ MAX_TEXT + 1;
  left : faults_behind l.self-inside.source.now l.self-inside.tokens.now.list l.self-inside.token
      l.self-inside.number l.self-inside.entries ≡ l.fn.self;
}

abbrev pub decreases-items : goal.decreases-items
decreases-items l = length l.self-inside.entries

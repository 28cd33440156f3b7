use Rattle.std.proofs.Common.{◌≡◌, ◌++◌, ◌-◌, ◌≤◌, map, take, drop}
use Rattle.x_lex.specs.Places.{lexeme}
use Rattle.x_follow.proofs.fresh.take_tokens.Given as goal

-- the tokens so far and those that are still to be taken
abbrev pub invariant-loop-taken : goal.invariant-loop-taken
invariant-loop-taken l = record {
  within : l._taken ≤ l.count;
  part : map lexeme l.part.items ++ take (l.count - l._taken) l.walk ≡ take l.count l.fn.walk;
  left : drop (l.count - l._taken) l.walk ≡ drop l.count l.fn.walk;
}

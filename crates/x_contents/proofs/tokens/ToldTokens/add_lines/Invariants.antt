use Rattle.std.proofs.Common.{◌≡◌, ◌-◌}
use Rattle.x_contents.specs.Reading.{told_of}
use Rattle.x_contents.specs.Tokens.{with_lines}
use Rattle.x_contents.proofs.tokens.ToldTokens.add_lines.Given as goal

abbrev pub invariant-loop-at : goal.invariant-loop-at
invariant-loop-at l = record {
  told : with_lines l.fn.self.places.encoding l.shown l.kind (told_of l.self) l.start l.token.end l.at
      (l.token.end - l.at)
      ≡ with_lines l.fn.self.places.encoding l.shown l.kind
      (told_of l.fn.self) l.token.start l.token.end l.token.start (l.token.end - l.token.start);
  places : l.self.places ≡ l.fn.self.places;
}

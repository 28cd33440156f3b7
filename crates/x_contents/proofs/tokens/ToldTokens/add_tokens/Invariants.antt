use Rattle.std.proofs.Common.{◌≡◌, drop, map}
use Rattle.x_lex.specs.Places.{lexeme}
use Rattle.x_contents.specs.Reading.{told_of}
use Rattle.x_contents.specs.Tokens.{with_tokens}
use Rattle.x_contents.proofs.tokens.ToldTokens.add_tokens.Given as goal

abbrev pub invariant-loop-place : goal.invariant-loop-place
invariant-loop-place l = record {
  told : with_tokens l.self.places.encoding l.shown l.kinds (told_of l.self) l.place
      (map lexeme (drop l.place l.tokens))
      ≡ with_tokens l.fn.self.places.encoding l.shown l.kinds (told_of l.fn.self) 0 (map lexeme l.tokens);
  places : l.self.places ≡ l.fn.self.places;
}

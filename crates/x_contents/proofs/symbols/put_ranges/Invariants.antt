use Rattle.std.proofs.Common.{◌≡◌, ◌++◌, drop, map}
use Rattle.x_lex.specs.Places.{lexeme}
use Rattle.x_contents.specs.Symbols.{token_range}
use Rattle.x_contents.proofs.symbols.put_ranges.Given as goal

abbrev pub invariant-loop-token : goal.invariant-loop-token
invariant-loop-token l = record {
  ranges : l.ranges.items ++ map (token_range l.fn.places.encoding l.fn.places.text)
      (map lexeme (drop l.token-index l.tokens))
      ≡ map (token_range l.fn.places.encoding l.fn.places.text) (map lexeme l.tokens);
  same : l.places ≡ l.fn.places;
}

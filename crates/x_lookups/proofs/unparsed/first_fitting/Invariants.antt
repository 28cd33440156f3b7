use Rattle.std.proofs.Common.{◌≡◌, drop, map}
use Rattle.x_lex.specs.Places.{lexeme}
use Rattle.x_lookups.specs.Unparsed.{is_wanted}
use Rattle.x_lookups.proofs.UnparsedLemmas.{FirstNamed}
use Rattle.x_lookups.proofs.unparsed.first_fitting.Given as goal

abbrev pub invariant-loop-token : goal.invariant-loop-token
invariant-loop-token l = FirstNamed (is_wanted l.wanted) (map lexeme (drop l.token-index l.tokens))
    ≡ FirstNamed (is_wanted l.wanted) (map lexeme l.tokens)

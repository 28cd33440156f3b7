use Rattle.std.proofs.Common.{◌≡◌, drop, map}
use Rattle.x_lex.specs.Places.{lexeme}
use Rattle.x_lookups.specs.Parts.{kind_of}
use Rattle.x_lookups.proofs.parts.definition_kind.Given as goal

abbrev pub invariant-loop-token : goal.invariant-loop-token
invariant-loop-token l = kind_of (map lexeme (drop l.token-index l.tokens)) ≡ kind_of (map lexeme l.tokens)

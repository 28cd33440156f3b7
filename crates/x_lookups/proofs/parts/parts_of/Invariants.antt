use Rattle.std.proofs.Common.{◌≡◌, drop, map}
use Rattle.x_lex.specs.Places.{lexeme}
use Rattle.x_lookups.specs.Parts.{parts_from, parts_of}
use Rattle.x_lookups.specs.Surrounding.{reading_of}
use Rattle.x_lookups.proofs.parts.parts_of.Given as goal

abbrev pub invariant-loop-index : goal.invariant-loop-index
invariant-loop-index l =
    parts_from (reading_of l.reader) l.index (map lexeme (drop l.index l.tokens))
    ≡ parts_of (map lexeme l.tokens)

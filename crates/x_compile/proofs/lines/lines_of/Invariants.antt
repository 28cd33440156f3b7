use Rattle.std.proofs.Common.{◌≡◌, ◌++◌, map, drop}
use Rattle.x_lex.specs.Places.{lexeme}
use Rattle.x_compile.specs.Generated.{lines_of}
use Rattle.x_compile.proofs.lines.lines_of.Given as goal

-- the lines so far and those that are left
abbrev pub invariant-loop-token : goal.invariant-loop-token
invariant-loop-token l = l.lines.items ++ lines_of (map lexeme (drop l.token-index l.tokens))
    ≡ lines_of (map lexeme l.tokens)

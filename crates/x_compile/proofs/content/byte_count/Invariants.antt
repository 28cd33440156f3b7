use Rattle.std.proofs.Common.{◌≡◌, ◌+◌, map, drop}
use Rattle.x_lex.specs.Places.{lexeme}
use Rattle.x_compile.specs.KeptView.{byte_count}
use Rattle.x_compile.proofs.content.byte_count.Given as goal

-- how many bytes were counted, and those of the tokens that are left
abbrev pub invariant-loop-token : goal.invariant-loop-token
invariant-loop-token l = l.count + byte_count (map lexeme (drop l.token-index l.tokens))
    ≡ byte_count (map lexeme l.tokens)

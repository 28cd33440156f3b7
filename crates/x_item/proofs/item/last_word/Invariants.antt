use Rattle.std.proofs.Common.{◌≡◌, map, [], drop}
use Rattle.x_lex.specs.Places.{lexeme}
use Rattle.x_trees.specs.Words.{words_of}
use Rattle.x_item.proofs.item.last_word.Given as goal

abbrev pub invariant-loop-at : goal.invariant-loop-at
invariant-loop-at l = words_of (map lexeme (drop l.at l.tokens)) ≡ []

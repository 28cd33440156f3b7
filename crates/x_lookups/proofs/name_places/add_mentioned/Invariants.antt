use Rattle.std.proofs.Common.{◌≡◌, ◌++◌, drop, map}
use Rattle.std.specs.List.{flat_map}
use Rattle.x_lex.specs.Places.{lexeme}
use Rattle.x_trees.specs.Collected.{view_mention}
use Rattle.x_lookups.specs.NamePlaces.{mentioned_on, tokens_where}
use Rattle.x_lookups.specs.Sought.{is_sought}
use Rattle.x_lookups.proofs.name_places.add_mentioned.Given as goal

abbrev pub invariant-loop-mention : goal.invariant-loop-mention
invariant-loop-mention l =
    map lexeme l.found.items ++ tokens_where (is_sought l.sought)
    (flat_map (mentioned_on (map lexeme l.words)) (map view_mention (drop l.mention-index l.mentioned)))
    ≡ map lexeme l.fn.found.items ++ tokens_where (is_sought l.sought)
    (flat_map (mentioned_on (map lexeme l.words)) (map view_mention l.mentioned))

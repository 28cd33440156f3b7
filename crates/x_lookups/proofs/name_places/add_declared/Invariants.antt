use Rattle.std.proofs.Common.{◌≡◌, ◌++◌, drop, map}
use Rattle.std.specs.List.{flat_map}
use Rattle.x_lex.specs.Places.{lexeme}
use Rattle.x_trees.specs.Collected.{view_name}
use Rattle.x_lookups.specs.NamePlaces.{declared_on, tokens_where}
use Rattle.x_lookups.specs.Sought.{is_sought}
use Rattle.x_lookups.proofs.name_places.add_declared.Given as goal

abbrev pub invariant-loop-name : goal.invariant-loop-name
invariant-loop-name l =
    map lexeme l.found.items ++ tokens_where (is_sought l.sought)
    (flat_map (declared_on (map lexeme l.words)) (map view_name (drop l.name-index l.declared)))
    ≡ map lexeme l.fn.found.items ++ tokens_where (is_sought l.sought)
    (flat_map (declared_on (map lexeme l.words)) (map view_name l.declared))

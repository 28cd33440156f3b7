use Rattle.std.proofs.Common.{◌≡◌, ◌+◌, ◌∷◌, ◌++◌, drop, map, ap, sym, ◌∙◌}
use Rattle.std.specs.List.{flat_map}
use Rattle.std.specs.Prelude.{slice_get}
use Rattle.std.proofs.lemmas.List.{append-nil, drop_all, drop_more}
use Rattle.x_lex.specs.Places.{lexeme}
use Rattle.x_trees.specs.Collected.{view_name}
use Rattle.x_lookups.specs.NamePlaces.{declared_on, name_on, tokens_where}
use Rattle.x_lookups.specs.Sought.{is_sought}
use Rattle.x_lookups.proofs.NamePlaceLemmas.{found_more, where_over}
use Rattle.x_lookups.proofs.name_places.add_declared.Goals as goal

pub loop-name-preserved : goal.loop-name-preserved
loop-name-preserved c =
    let test = is_sought c.args.sought in
    let words = map lexeme c.args.words.now in
    let item = c.name-item.result in
    let rest = drop (c.loop-name.name-index + 1) c.args.declared.now in
    let front : drop c.loop-name.name-index c.args.declared.now ≡ item ∷ rest =
    drop_more c.args.declared.now c.loop-name.name-index _ c.loop-name-test.true
    ∙ ap (λ x. x ∷ rest) (sym c.name-item.is) in
    let more : map lexeme c.add_name.new.found.items
    ≡ map lexeme c.loop-name.found.items ++ tokens_where test (declared_on words (view_name item)) =
    c.in_ok-add_name.ensures
    ∙ (λ k. map lexeme c.loop-name.found.items
    ++ tokens_where test (name_on (slice_get words item.word) (c.as_slice.ensures.value k)
    (c.of_declared-standing.ensures k))) in
    found_more (map lexeme c.loop-name.found.items) (map lexeme c.add_name.new.found.items)
    (tokens_where test (declared_on words (view_name item)))
    (tokens_where test (flat_map (declared_on words) (map view_name rest)))
    (tokens_where test (flat_map (declared_on words)
    (map view_name (drop c.loop-name.name-index c.args.declared.now)))) _ more
    (where_over test (declared_on words) (view_name item)
    (map view_name (drop c.loop-name.name-index c.args.declared.now)) (map view_name rest)
    (ap (map view_name) front)) c.loop-name.invariant

pub returns : goal.returns
returns c =
    sym (append-nil (map lexeme c.loop-name.found.items))
    ∙ ap (λ l. map lexeme c.loop-name.found.items
    ++ tokens_where (is_sought c.args.sought) (flat_map (declared_on (map lexeme c.args.words.now))
    (map view_name l))) (sym (drop_all _ _ c.loop-name-test.false))
    ∙ c.loop-name.invariant

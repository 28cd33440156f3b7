use Rattle.std.proofs.Common.{◌+◌, ◌++◌, drop, map, ap, sym, ◌∙◌}
use Rattle.std.specs.List.{flat_map}
use Rattle.std.proofs.lemmas.List.{append-nil, drop_all, drop_more}
use Rattle.x_lex.specs.Places.{lexeme}
use Rattle.x_trees.specs.Collected.{view_mention}
use Rattle.x_lookups.specs.NamePlaces.{mentioned_on, tokens_where}
use Rattle.x_lookups.specs.Sought.{is_sought}
use Rattle.x_lookups.proofs.NamePlaceLemmas.{found_more, where_over}
use Rattle.x_lookups.proofs.name_places.add_mentioned.Goals as goal

pub loop-mention-preserved : goal.loop-mention-preserved
loop-mention-preserved c =
    let test = is_sought c.args.sought in
    let words = map lexeme c.args.words.now in
    let rest = drop (c.loop-mention.mention-index + 1) c.args.mentioned.now in
    let front = drop_more c.args.mentioned.now c.loop-mention.mention-index _ c.loop-mention-test.true in
    found_more (map lexeme c.loop-mention.found.items) (map lexeme c.add_name.new.found.items) _
    (tokens_where test (flat_map (mentioned_on words) (map view_mention rest)))
    (tokens_where test
    (flat_map (mentioned_on words)
    (map view_mention (drop c.loop-mention.mention-index c.args.mentioned.now)))) _ c.in_ok-add_name.ensures
    (where_over test (mentioned_on words) _
    (map view_mention (drop c.loop-mention.mention-index c.args.mentioned.now)) (map view_mention rest)
    (ap (map view_mention) front)) c.loop-mention.invariant

pub returns : goal.returns
returns c =
    sym (append-nil (map lexeme c.loop-mention.found.items))
    ∙ ap (λ l. map lexeme c.loop-mention.found.items
    ++ tokens_where (is_sought c.args.sought) (flat_map (mentioned_on (map lexeme c.args.words.now))
    (map view_mention l))) (sym (drop_all _ _ c.loop-mention-test.false))
    ∙ c.loop-mention.invariant

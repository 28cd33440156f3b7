use Rattle.std.proofs.Common.{◌+◌, ap, drop, map, sym, ◌∙◌}
use Rattle.std.proofs.lemmas.List.{drop_more}
use Rattle.x_names.specs.DeclarerTable.{first_in}
use Rattle.x_trees.specs.Collected.{view_mention}
use Rattle.x_contents.specs.TokenKinds.{with_kind, with_uses}
use Rattle.x_contents.proofs.tokens.put_uses.Goals as goal

pub loop-mention-preserved : goal.loop-mention-preserved
loop-mention-preserved c =
    let first = first_in c.args.names.now in
    let words = c.args.words.now in
    let kinds = c.loop-mention.kinds.items in
    let rest = drop (c.loop-mention.mention-index + 1) c.args.mentioned.now in
    let front = drop_more c.args.mentioned.now c.loop-mention.mention-index _ c.loop-mention-test.true in
    ap (λ k. with_uses first words k (map view_mention rest))
    (c.put_kind_at.ensures ∙ (λ i. with_kind kinds (c.place_of.ensures i) (c.of_used-kind.ensures i)))
    ∙ sym (ap (λ l. with_uses first words kinds (map view_mention l)) front)
    ∙ c.loop-mention.invariant

use Rattle.std.proofs.Common.{refl, sym, ap}
use Rattle.x_cutting.specs.ItemList.{ItemChange}
use Rattle.x_lex.specs.TokenList.{patched}
use Rattle.x_compile.specs.declared.content.Content.{Content}
use Rattle.x_follow.proofs.FollowLemmas.{fresh_within, items_followed}
use Rattle.x_follow.proofs.PatchLemmas.{same_patch}
use Rattle.x_follow.proofs.planning.next_items.Goals as goal

pub parse_fresh-requires-clause-within : goal.parse_fresh-requires-clause-within
parse_fresh-requires-clause-within c =
    fresh_within c.args.text.now c.args.tokens.now.list c.args.items.now.list c.args.patch.now
    c.in_ok-fresh.fresh c.requires (c.in_ok-fresh.ensures.patch c.requires.change c.requires.relexed)
    c.in_ok-fresh.ensures.front c.in_ok-fresh.ensures.rear

pub returns-clause-recut : goal.returns-clause-recut
returns-clause-recut c change rel =
    let is = c.in_ok-parse_fresh.ensures.others in
    same_patch change c.args.tokens.now.list (patched c.args.tokens.now.list c.args.patch.now)
    c.args.items.now.list c.args.items.now.list c.in_ok-fresh.fresh c.parse_fresh.new.items refl
    (sym (ap (λ (p : ItemChange Content). p.at) is)) (sym (ap (λ (p : ItemChange Content). p.removed) is))
    (sym (ap (λ (p : ItemChange Content). p.start) is)) (sym c.in_ok-parse_fresh.ensures.counts)
    (c.in_ok-fresh.ensures.patch change rel)

pub returns-clause-parsed : goal.returns-clause-parsed
returns-clause-parsed c =
    items_followed c.args.text.now c.args.tokens.now.list c.args.items.now.list c.args.patch.now
    c.in_ok-fresh.fresh c.requires (c.in_ok-fresh.ensures.patch c.requires.change c.requires.relexed)
    c.in_ok-fresh.ensures.front c.in_ok-fresh.ensures.rear c.parse_fresh.new.items
    c.in_ok-parse_fresh.ensures.counts c.in_ok-parse_fresh.ensures.others c.in_ok-parse_fresh.ensures.along

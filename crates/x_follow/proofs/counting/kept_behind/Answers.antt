use Rattle.std.proofs.Common.{ap, ◌∙◌, ◌+◌, ◌-◌, arith}
use Rattle.std.specs.Prelude.{option_map}
use Rattle.x_cutting.specs.declared.cutting.item_entry.ItemEntry.{ItemEntry}
use Rattle.x_compile.specs.declared.content.Content.{Content}
use Rattle.x_follow.proofs.CountingLemmas.{kept_fresh, kept_rear}
use Rattle.x_follow.proofs.counting.kept_behind.Goals as goal

pub returns-then-behind-len : goal.returns-then-behind-len
returns-then-behind-len c =
    let not_before = c.if-index-at.false in
    let at = c.at.ensures in
    let again = c.at-2.ensures in
    let lt = c.if-behind-len.true in
    let many = c.len.ensures in
    c.kept_of-then-behind-len.ensures
    ∙ ap (option_map (λ (e : ItemEntry Content). e.kept)) c.get-then-behind-len.ensures
    ∙ kept_fresh c.args.items.now.list c.args.patch.now c.args.index (c.args.index - c.at-2.result)
    c.requires.among (omega (arith, not_before, at)) (omega (arith, again)) (omega (arith, lt, many))

pub returns : goal.returns
returns c =
    let not_before = c.if-index-at.false in
    let at = c.at.ensures in
    let again = c.at-2.ensures in
    let le = c.if-behind-len.false in
    let many = c.len.ensures in
    let third = c.at-3.ensures in
    let removed = c.removed.ensures in
    let long = c.len-2.ensures in
    let j = c.at-3.result + c.removed.result + (c.args.index - c.at-2.result - c.len-2.result) in
    c.kept_of-2.ensures ∙ ap (option_map (λ (e : ItemEntry Content). e.kept)) c.get-2.ensures
    ∙ kept_rear c.args.items.now.list c.args.patch.now c.args.index j c.requires.among
    (omega (arith, not_before, at, again, le, many))
    (omega (arith, not_before, at, again, le, many, third, removed, long))

use Rattle.std.proofs.Common.{subst, sym, arith}
use Rattle.std.proofs.lemmas.Grind.{common_steps}
use Rattle.std.proofs.lemmas.Bool.Decides.{nat_tests}
use Rattle.std.specs.List.{IsAmong}
use Rattle.std.proofs.lemmas.List.Filters.{dedup_is}
use Rattle.std.proofs.lemmas.List.Kept.{IsStrictlySortedBy-dedup, Contains-dedup}
use Rattle.std.proofs.lemmas.List.Sorted.{Contains-permutation}
use Rattle.x_rules.specs.Rules.{Ascends}
use Rattle.x_rules.proofs.OrderLemmas.{strict_ascends, placed_before, among_contains, contains_among}
use Rattle.x_rules.proofs.check.order.Goals as goal

pub returns-clause-ascend : goal.returns-clause-ascend
returns-clause-ascend c =
    let is = dedup_is _ _ _ c.dedup.ensures.filtered in
    let strict = IsStrictlySortedBy-dedup c.order_laws.ensures.total c.order_laws.ensures.ties _
    c.sort_unstable.ensures.sorted in
    subst Ascends (sym is)
    (strict_ascends _ (λ x y h. placed_before x y (grind (arith, nat_tests, common_steps))) _ strict)

pub returns-clause-kept : goal.returns-clause-kept
returns-clause-kept c f k =
    let is = dedup_is _ _ _ c.dedup.ensures.filtered in
    let sorted = Contains-permutation _ _ f c.sort_unstable.ensures.permutation
    (among_contains c.args.faults.now.items f k) in
    let kept = Contains-dedup c.order_laws.ensures.equal (λ x y h. grind (arith, nat_tests, common_steps))
    _ f sorted in
    subst (λ xs. IsAmong xs f) (sym is) (contains_among _ f kept)

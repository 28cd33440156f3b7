use Rattle.std.proofs.Common.{subst, sym, ◌∙◌}
use Rattle.std.proofs.lemmas.List.Filters.{dedup_is}
use Rattle.x_rules.specs.NumberSets.{AreAscending}
use Rattle.x_rules.proofs.NumberSetLemmas.{sorted_ascends, sorted_is_set}
use Rattle.x_rules.proofs.numbers.Numbers.of.Goals as goal

pub invariant_of-result : goal.invariant_of-result
invariant_of-result c =
    subst AreAscending (sym (c.in_ok-from_vec.ensures ∙ dedup_is _ _ _ c.dedup.ensures.filtered))
    (sorted_ascends _ c.sort_unstable.ensures.sorted)

pub returns : goal.returns
returns c = c.in_ok-from_vec.ensures ∙ dedup_is _ _ _ c.dedup.ensures.filtered
    ∙ sorted_is_set _ _ c.sort_unstable.ensures.permutation c.sort_unstable.ensures.sorted

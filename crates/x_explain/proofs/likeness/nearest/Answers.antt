use Rattle.std.proofs.Common.{◌≡◌, ◌-◌, ◌∷◌, map, drop, length, ap, sym, ◌∙◌, arith}
use Rattle.std.specs.Cow.{cow_slice_items}
use Rattle.std.specs.Prelude.{option_map, true, false}
use Rattle.x_lists.proofs.ListLemmas.{drop_none}
use Rattle.x_explain.proofs.SuggestionLemmas.{mapped_next, nearest_next, nearest_none}
use Rattle.x_explain.proofs.likeness.nearest.Goals as goal

pub loop-index-init : goal.loop-index-init
loop-index-init c =
    let names = c.args.names.now in
    nearest_none c.args.word.now.bytes.now (map cow_slice_items (drop (length names) names))
    (ap (map cow_slice_items) (drop_none names (length names) (omega arith)))

pub loop-index-preserved-then-branch : goal.loop-index-preserved-then-branch
loop-index-preserved-then-branch c =
    let names = c.args.names.now in
    let index = c.loop-index.index in
    let name = c.deref-name.result.now in
    let split : map cow_slice_items (drop (index - 1) names) ≡ name ∷ map cow_slice_items (drop index names) =
    mapped_next cow_slice_items names index c.index-names-index.result name c.loop-index-test.true
    c.loop-index.auto.index c.index-names-index.is c.deref-name.ensures.value in
    nearest_next c.args.word.now.bytes.now name (option_map (λ n. n.now) c.loop-index.found)
    (map cow_slice_items (drop index names)) (map cow_slice_items (drop (index - 1) names)) true
    c.loop-index.invariant (sym c.if-branch.true ∙ c.in_ok-is_nearer.ensures) split

pub loop-index-preserved : goal.loop-index-preserved
loop-index-preserved c =
    let names = c.args.names.now in
    let index = c.loop-index.index in
    let name = c.deref-name.result.now in
    let split : map cow_slice_items (drop (index - 1) names) ≡ name ∷ map cow_slice_items (drop index names) =
    mapped_next cow_slice_items names index c.index-names-index.result name c.loop-index-test.true
    c.loop-index.auto.index c.index-names-index.is c.deref-name.ensures.value in
    nearest_next c.args.word.now.bytes.now name (option_map (λ n. n.now) c.loop-index.found)
    (map cow_slice_items (drop index names)) (map cow_slice_items (drop (index - 1) names)) false
    c.loop-index.invariant (sym c.if-branch.false ∙ c.in_ok-is_nearer.ensures) split

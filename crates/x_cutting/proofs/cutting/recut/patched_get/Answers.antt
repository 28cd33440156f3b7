use Rattle.std.proofs.Common.{◌≡◌, ◌+◌, ◌-◌, ◌≤◌, length, ap, sym, ◌∙◌, arith}
use Rattle.std.specs.Prelude.{slice_get}
use Rattle.x_cutting.proofs.PatchedLemmas.{get_kept, get_fresh, get_behind}
use Rattle.x_cutting.proofs.cutting.recut.patched_get.Goals as goal

pub overflow_add-at : goal.overflow_add-at
overflow_add-at c =
    let among : c.args.patch.now.at + c.args.patch.now.removed ≤ length c.args.tokens.now.list =
    c.requires.among in
    let at = c.at-at.ensures in
    let removed = c.removed.ensures in
    let count = c.len-count.ensures.count in
    let few = c.len-count.ensures.small in
    omega (arith, among, at, removed, count, few)

pub overflow_add-at-2 : goal.overflow_add-at-2
overflow_add-at-2 c =
    let among : c.args.patch.now.at + c.args.patch.now.removed ≤ length c.args.tokens.now.list =
    c.requires.among in
    let at = c.at-at.ensures in
    let removed = c.removed.ensures in
    let count = c.len-count.ensures.count in
    let few = c.len-count.ensures.small in
    let fits = c.requires.of_text.few in
    let within = c.requires.within in
    omega (arith, among, at, removed, count, few, fits, within)

pub returns-then-index-at : goal.returns-then-index-at
returns-then-index-at c =
    let at = c.at-at.ensures in
    c.kind_and_length.ensures
    ∙ sym (get_kept c.args.tokens.now.list c.args.patch.now c.requires.among c.args.index (omega (arith, at)))

pub returns-then-index-behind : goal.returns-then-index-behind
returns-then-index-behind c =
    let at = c.at-at.ensures in
    let len = c.len.ensures in
    c.get.ensures
    ∙ ap (λ n. slice_get c.args.patch.now.fresh (c.args.index - n)) at
    ∙ sym (get_fresh c.args.tokens.now.list c.args.patch.now c.requires.among c.args.index (omega (arith, at))
    (omega (arith, at, len)))

pub returns : goal.returns
returns c =
    let at = c.at-at.ensures in
    let len = c.len.ensures in
    let removed = c.removed.ensures in
    let same : c.at-at.result + c.removed.result + (c.args.index - (c.at-at.result + c.len.result))
    ≡ c.args.patch.now.at + c.args.patch.now.removed + (c.args.index
    - (c.args.patch.now.at + length c.args.patch.now.fresh)) = omega (arith, at, len, removed) in
    c.kind_and_length-2.ensures
    ∙ ap (λ n. slice_get c.args.tokens.now.list n) same
    ∙ sym (get_behind c.args.tokens.now.list c.args.patch.now c.requires.among c.args.index
    (omega (arith, at, len)))

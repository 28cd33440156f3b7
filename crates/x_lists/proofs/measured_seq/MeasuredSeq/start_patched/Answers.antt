use Rattle.std.proofs.Common.{◌≡◌, ◌+◌, ◌-◌, ◌≤◌, min, length, take, ap, ◌∙◌, arith}
use Rattle.std.proofs.lemmas.List.{take_min}
use Rattle.x_lists.specs.Lengths.{total_length, length_before}
use Rattle.x_lists.proofs.LengthLemmas.{before_le, total-splice}
use Rattle.x_lists.proofs.PatchLemmas.{before_order, behind_at, length-spliced, StartsBy, starts_by}
use Rattle.x_lists.proofs.measured_seq.MeasuredSeq.start_patched.Goals as goal

pub overflow_sub-behind : goal.overflow_sub-behind
overflow_sub-behind g c =
    let size = g.T.Measured.length in
    let xs = c.args.self.now.list in
    let patch = c.args.patch.now in
    let a = c.len-2.ensures.count in
    let d = c.len-3.ensures.count in
    let l = c.len-4.ensures.count in
    let b = c.at-2.ensures in
    let r = c.removed.ensures in
    let among = c.requires.among in
    before_order size xs (c.len-4.result - (c.len-2.result - c.at-2.result - c.removed.result))
    (c.len-3.result - (c.len-2.result - c.at-2.result - c.removed.result
    - (c.args.index - c.min-from.result - c.min-into.result))) c.start_of-2.result c.start_of.result
    (omega (arith, a, d, l, b, r, among)) c.start_of-2.ensures c.start_of.ensures

pub total_length-requires : goal.total_length-requires
total_length-requires g c =
    let size = g.T.Measured.length in
    let xs = c.args.self.now.list in
    let patch = c.args.patch.now in
    let among = c.requires.among in
    let within : patch.at ≤ length xs = omega (arith, among) in
    let all = total-splice size xs patch.fresh patch.at (patch.at + patch.removed) within in
    let part = before_le size c.fresh.result.now c.min-into.result in
    let same = ap (total_length size) c.fresh.ensures in
    let short = c.requires.short in
    omega (arith, all, part, same, short)

parts : (g : _) (c : goal.After-total_length g)
    → StartsBy g.T.Measured.length c.args.self.now.list c.args.patch.now.fresh c.args.patch.now.at
    (c.args.patch.now.at + c.args.patch.now.removed) c.args.index c.start_of-3.result c.total_length.result
    c.start_of-2.result c.start_of.result
parts g c =
    let size = g.T.Measured.length in
    let xs = c.args.self.now.list in
    let patch = c.args.patch.now in
    let ys = patch.fresh in
    let index = c.args.index in
    let end = patch.at + patch.removed in
    let among = c.requires.among in
    let within : patch.at ≤ length xs = omega (arith, among) in
    let fits : index ≤ patch.at + (length ys + (length xs - end)) = let w = c.requires.within in
    let l = length-spliced xs ys patch.at end within in omega (arith, w, l) in
    let from : c.min-from.result ≡ min index patch.at = let m = c.min-from.ensures in let a = c.at.ensures in
    omega (arith, m, a) in
    let into : c.min-into.result ≡ min (index - c.min-from.result) (length ys) = let m = c.min-into.ensures in
    let l = c.len.ensures in omega (arith, m, l) in
    let same : min (index - c.min-from.result) (length ys) ≡ min (index - patch.at) (length ys) =
    omega (arith, from) in
    let passed : c.total_length.result ≡ length_before size ys (index - patch.at) =
    c.total_length.ensures ∙ (λ i. total_length size (take ((into ∙ same) i) (c.fresh.ensures i)))
    ∙ ap (total_length size) (take_min (index - patch.at) ys) in
    let count3 = c.len-3.ensures.count in
    let left = c.len-4.ensures.count in
    let gone : c.start_of-2.result ≡ length_before size xs end =
    c.start_of-2.ensures ∙ ap (length_before size xs) (let a = c.len-2.ensures.count in
    let b = c.at-2.ensures in let r = c.removed.ensures in omega (arith, a, b, r, left, among)) in
    let behind : c.start_of.result ≡ length_before size xs (end + (index - patch.at - length ys)) =
    c.start_of.ensures
    ∙ ap (λ n. length_before size xs
    (n - (c.len-2.result - c.at-2.result - c.removed.result
    - (index - c.min-from.result - c.min-into.result)))) count3
    ∙ ap (length_before size xs)
    (behind_at c.len-2.result (length xs) c.at-2.result patch.at c.removed.result patch.removed index
    c.min-from.result c.min-into.result (length ys) among fits c.len-2.ensures.count c.at-2.ensures
    c.removed.ensures from into) in
    starts_by size xs ys patch.at end index c.start_of-3.result c.total_length.result c.start_of-2.result
    c.start_of.result within (c.start_of-3.ensures ∙ ap (length_before size xs) from) passed gone behind

pub overflow_add-result : goal.overflow_add-result
overflow_add-result g c = let p = (parts g c).fits in let s = c.requires.short in omega (arith, p, s)

pub overflow_add-result-2 : goal.overflow_add-result-2
overflow_add-result-2 g c = let p = (parts g c).fits in let s = c.requires.short in omega (arith, p, s)

pub returns : goal.returns
returns g c = (parts g c).start

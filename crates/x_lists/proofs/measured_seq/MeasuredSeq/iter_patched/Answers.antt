use Rattle.std.proofs.Common.{◌≡◌, ◌+◌, ◌-◌, ◌≤◌, ◌++◌, min, length, take, drop, ap, ◌∙◌, arith}
use Rattle.std.proofs.lemmas.List.{take_rest}
use Rattle.x_lists.proofs.PatchLemmas.{patched_from, length-spliced}
use Rattle.x_lists.proofs.measured_seq.MeasuredSeq.iter_patched.Goals as goal

pub returns : goal.returns
returns g c =
    let xs = c.args.self.now.list in
    let patch = c.args.patch.now in
    let ys = patch.fresh in
    let index = c.args.index in
    let end = patch.at + patch.removed in
    let among = c.requires.among in
    let at = c.at-at.ensures in
    let within : patch.at ≤ length xs = omega (arith, among) in
    let whole = length-spliced xs ys patch.at end within in
    let fits = c.requires.within in
    let from : c.min-from.result ≡ min index patch.at = let m = c.min-from.ensures in omega (arith, m, at) in
    let into : c.min.result ≡ min (index - patch.at) (length ys) = let m = c.min.ensures in
    let l = c.len.ensures in omega (arith, m, l, from) in
    let behind : c.len-4.result - (c.len-2.result - c.at-at.result - c.removed.result
    - c.saturating_sub.result) ≡ end + (index - patch.at - length ys) =
    let a = c.len-4.ensures.count in let b = c.len-2.ensures.count in let r = c.removed.ensures in
    let s = c.saturating_sub.ensures in let n = c.len-3.ensures in
    omega (arith, a, b, r, s, n, at, from, among, whole, fits) in
    let first : take (c.at-at.result - c.min-from.result) c.iter_from.result
    ≡ take (patch.at - min index patch.at) (drop (min index patch.at) xs) =
    λ i. take (at i - from i) ((c.iter_from.ensures.list ∙ ap (λ n. drop n xs) from) i) in
    let second : take (length c.fresh.result.now - c.min.result) (drop c.min.result c.fresh.result.now)
    ≡ drop (min (index - patch.at) (length ys)) ys =
    take_rest c.fresh.result.now c.min.result ∙ (λ i. drop (into i) (c.fresh.ensures i)) in
    let third = c.iter_from-rear.ensures.list ∙ ap (λ n. drop n xs) behind in
    c.new.ensures ∙ (λ i. first i ++ (second i ++ third i)) ∙ patched_from xs ys patch.at end index within

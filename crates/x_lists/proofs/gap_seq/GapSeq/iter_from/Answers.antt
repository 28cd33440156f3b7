use Rattle.std.proofs.Common.{◌≡◌, ◌+◌, ◌-◌, ◌≤◌, ◌++◌, length, reverse, take, drop, ap, ◌∙◌, arith}
use Rattle.std.proofs.Common.{length-append}
use Rattle.std.proofs.lemmas.List.{length-reverse, take_rest}
use Rattle.x_lists.proofs.SeqLemmas.{walked}
use Rattle.x_lists.proofs.gap_seq.GapSeq.iter_from.Goals as goal

pub returns-clause-list : goal.returns-clause-list
returns-clause-list g c =
    let front = c.self.inside.front.items in
    let rear = c.self.inside.rear.items in
    let list = ap (λ v. v.list) c.self.view_is in
    let within : c.args.index ≤ length front + length rear = let l = ap length list in
    let a = length-append front (reverse rear) in let r = length-reverse rear in let q = c.requires in
    omega (arith, l, a, r, q) in
    let kept : c.len.result - c.saturating_sub.result ≡ length rear - (c.args.index - c.len-seat.result) =
    let l = c.len.ensures in let s = c.saturating_sub.ensures in let ok = c.self.inside.rear.ok.0 in
    omega (arith, l, s, ok) in
    let seat : c.len-seat.result ≡ length front = let l = c.len-seat.ensures in
    let ok = c.self.inside.front.ok.0 in omega (arith, l, ok) in
    c.new.ensures
    ∙ (λ i. take_rest (c.deref.ensures.value i) c.min.result i
    ++ reverse (take (c.len.result - c.saturating_sub.result) (c.deref-2.ensures.value i)))
    ∙ walked front rear c.args.index c.len-seat.result (c.len.result - c.saturating_sub.result) c.min.result
    within seat c.min.ensures kept
    ∙ ap (drop c.args.index) list

use Rattle.std.proofs.Common.{◌≡◌, ◌<◌, ◌+◌, ◌∷◌, ◌++◌, [], arith, cond, take, Bool, true, false, ◌∙◌, ap}
use Rattle.std.proofs.Common.{sym}
use Rattle.std.proofs.lemmas.List.{take_all, take_more}
use Rattle.x_explain.specs.Suggestions.{strange, HasBytes}
use Rattle.x_explain.proofs.ByteLemmas.{strange_more}
use Rattle.x_explain.proofs.likeness.Word.strange_in.Goals as goal
use Rattle.x_explain.proofs.likeness.Word.strange_in.Goals.{then-not-self-from, else-not-self-from}

pub loop-byte-preserved : goal.loop-byte-preserved
loop-byte-preserved c =
    let i = c.loop-byte.byte-index in
    let all = c.args.name.now in
    let word = c.args.self.now.bytes.now in
    let known : HasBytes c.args.self.now.has word = c.args.self.now.known in
    let small = c.type_inv.name i in
    let is = c.from.ensures in
    let had = known c.from.result (omega (arith, is, small)) in
    let more : take (i + 1) all ≡ take i all ++ c.from.result ∷ [] =
    take_more all i 0 c.loop-byte-test.true ∙ ap (λ x. take i all ++ x ∷ []) (sym is) in
    elim c.if-not-self-from.branch [
      | then-not-self-from w ↦
          let one = ap (λ l. strange l word) more
          ∙ strange_more (take i all) word c.from.result false (sym had ∙ w.if-not-self-from.true) in
          record {
            counted = w.count-is ∙ ap (λ n. n + 1) c.loop-byte.invariant.counted ∙ sym one;
            few = (let e = w.count-is in let f = c.loop-byte.invariant.few in omega (arith, e, f));
          }
      | else-not-self-from w ↦
          let one = ap (λ l. strange l word) more
          ∙ strange_more (take i all) word c.from.result true (sym had ∙ w.if-not-self-from.false) in
          record {
            counted = w.count-is ∙ c.loop-byte.invariant.counted ∙ (let z = one in omega (arith, z));
            few = (let e = w.count-is in let f = c.loop-byte.invariant.few in omega (arith, e, f));
          }
    ]

pub returns : goal.returns
returns c =
    c.loop-byte.invariant.counted
    ∙ ap (λ l. strange l c.args.self.now.bytes.now)
    (take_all c.loop-byte.byte-index c.args.name.now c.loop-byte-test.false)

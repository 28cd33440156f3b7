use Rattle.std.proofs.Common.{◌≡◌, ◌<◌, ◌+◌, ◌∷◌, ◌++◌, [], arith, false, length, refl, set, take, true, ap}
use Rattle.std.proofs.Common.{sym, subst, ◌∙◌}
use Rattle.std.proofs.lemmas.List.{length-replicate, length-set, take_all, take_more}
use Rattle.x_explain.specs.Suggestions.{HasBytes}
use Rattle.x_explain.proofs.ByteLemmas.{no_bytes, one_more}
use Rattle.x_explain.proofs.likeness.Word.of.Goals as goal

pub loop-byte-init : goal.loop-byte-init
loop-byte-init c = record { known = no_bytes; full = length-replicate 256 false }

pub loop-byte-preserved : goal.loop-byte-preserved
loop-byte-preserved c =
    let i = c.loop-byte.byte-index in
    let all = c.args.bytes.now in
    let has = c.loop-byte.has in
    let full = c.loop-byte.invariant.full in
    let small = c.type_inv.bytes i in
    let fits : c.from.result < length has = (let e = c.from.ensures in omega (arith, e, full, small)) in
    let more : take i all ++ c.from.result ∷ [] ≡ take (i + 1) all =
    ap (λ x. take i all ++ x ∷ []) c.from.ensures ∙ sym (take_more all i 0 c.loop-byte-test.true) in
    record {
      known = subst (HasBytes (set has c.from.result true)) more
          (one_more has (take i all) c.from.result fits c.loop-byte.invariant.known);
      full = length-set has c.from.result true ∙ full;
    }

pub invariant_of-result : goal.invariant_of-result
invariant_of-result c =
    record {
      known = subst (HasBytes c.loop-byte.has)
          (take_all c.loop-byte.byte-index c.args.bytes.now c.loop-byte-test.false)
          c.loop-byte.invariant.known;
    }

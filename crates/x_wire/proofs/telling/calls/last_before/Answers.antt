use Rattle.std.proofs.Common.{ℕ, List, Some, length, refl, sym, ap, ◌∙◌, arith}
use Rattle.std.specs.BTreeMap.{BTreeMap}
use Rattle.x_wire.specs.LastCalls.{last_in}
use Rattle.x_wire.specs.declared.telling.calls.CompactCall.{CompactCall}
use Rattle.x_wire.proofs.Generations.{get_none, get_some, none_left}
use Rattle.x_wire.proofs.telling.calls.last_before.Goals as goal

pub returns-in-Some-get : goal.returns-in-Some-get
returns-in-Some-get c =
    let others = c.in-Some.others.now in
    ap Some c.whole.ensures
    ∙ sym (get_some others c.in-Some.last.now (length others) c.args.xid c.in-Some-get.call.now refl
    (sym c.in-Some-get.ensures.value))
    ∙ ap (λ (ms : List (BTreeMap ℕ CompactCall)). last_in 0 ms c.args.xid) (sym c.in-Some.ensures.cases.0)
    ∙ c.loop-last.invariant.same

pub loop-last-preserved : goal.loop-last-preserved
loop-last-preserved c = record {
  same = sym (get_none c.in-Some.others.now c.in-Some.last.now c.args.xid
      (sym c.in_default-get.ensures.value))
      ∙ ap (λ (ms : List (BTreeMap ℕ CompactCall)). last_in 0 ms c.args.xid) (sym c.in-Some.ensures.cases.0)
      ∙ c.loop-last.invariant.same;
  few = (let one = c.in-Some.ensures.cases.1 in let few = c.loop-last.invariant.few in
      omega (arith, one, few));
}

pub returns : goal.returns
returns c = sym (none_left c.loop-last.left.now c.args.xid c.in_default.ensures.cases)
    ∙ c.loop-last.invariant.same

use Rattle.std.proofs.Common.{◌≤◌, ℕ, List, [], ◌∷◌, ◌++◌, length, sym, ap, subst, ◌∙◌, arith}
use Rattle.std.proofs.lemmas.List.{length-append}
use Rattle.std.specs.BTreeMap.{BTreeMap}
use Rattle.x_wire.specs.LastCalls.{last_in}
use Rattle.x_wire.specs.declared.telling.calls.CompactCall.{CompactCall}
use Rattle.x_wire.proofs.Generations.{last_begun}
use Rattle.x_wire.proofs.telling.calls.begin_generations.Goals as goal

pub loop-alloc-preserved : goal.loop-alloc-preserved
loop-alloc-preserved c =
    let before = c.loop-alloc.before.items in
    let begun = c.in_ok-begin_generation.ensures.begun in
    record {
      same = λ xid. ap (λ (ms : List (BTreeMap ℕ CompactCall)).
          last_in 0 (ms ++ c.begin_generation.new.last ∷ []) xid) begun
          ∙ last_begun (before ++ c.loop-alloc.last ∷ []) c.begin_generation.new.last xid
          c.in_ok-begin_generation.ensures.empty ∙ c.loop-alloc.invariant.same xid;
      few = subst (λ (ms : List (BTreeMap ℕ CompactCall)). length ms ≤ c.args.generation) (sym begun)
          (let less = c.loop-alloc-test.true in let is = c.len.ensures in
          omega (arith, less, is, length-append before (c.loop-alloc.last ∷ [])));
    }

pub returns-in_err-begin_generation-clause-same : goal.returns-in_err-begin_generation-clause-same
returns-in_err-begin_generation-clause-same c xid =
    let same = c.in_err-begin_generation.ensures.same in
    ap (λ (ms : List (BTreeMap ℕ CompactCall)). last_in 0 (ms ++ c.begin_generation.new.last ∷ []) xid) same.0
    ∙ ap (λ (m : BTreeMap ℕ CompactCall). last_in 0 (c.loop-alloc.before.items ++ m ∷ []) xid) same.1
    ∙ c.loop-alloc.invariant.same xid

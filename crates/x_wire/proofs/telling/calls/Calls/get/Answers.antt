use Rattle.std.proofs.Common.{ℕ, List, Some, sym, ap, ◌∙◌}
use Rattle.std.specs.BTreeMap.{BTreeMap}
use Rattle.x_wire.specs.LastCalls.{CountedCalls, last_call, last_in}
use Rattle.x_wire.specs.declared.telling.calls.CompactCall.{CompactCall}
use Rattle.x_wire.proofs.Generations.{get_none, get_some}
use Rattle.x_wire.proofs.telling.calls.Calls.get.Goals as goal

pub returns-in-Some : goal.returns-in-Some
returns-in-Some c =
    ap Some c.whole.ensures
    ∙ sym (get_some c.self.inside.before.items c.self.inside.last c.len.result c.args.xid c.in-Some.call.now
    (c.len.ensures ∙ c.self.inside.before.ok.0) (sym c.in-Some.ensures.value))
    ∙ ap (λ (s : CountedCalls). last_call s c.args.xid) c.self.view_is

pub returns-in-None : goal.returns-in-None
returns-in-None c =
    c.last_before.ensures ∙ ap (λ (ms : List (BTreeMap ℕ CompactCall)). last_in 0 ms c.args.xid)
    c.deref.ensures.value
    ∙ sym (get_none c.self.inside.before.items c.self.inside.last c.args.xid (sym c.in-None.ensures.value))
    ∙ ap (λ (s : CountedCalls). last_call s c.args.xid) c.self.view_is

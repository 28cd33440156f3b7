use Rattle.std.proofs.Common.{◌≡◌, ◌∷◌, map, ap, sym, subst, ◌∙◌}
use Rattle.x_compile.specs.FaultWalk.{TellsOn, IsOnward, places_left, rule_at}
use Rattle.x_compile.specs.declared.fault.FaultCode.TheVariants as codes
use Rattle.x_compile.proofs.FaultLemmas.{behind_first, later_places}
use Rattle.x_compile.proofs.item_faults.ItemFaults.tell.Goals as goal

pub returns-in_ok-fault-in-Rules-clause-told : goal.returns-in_ok-fault-in-Rules-clause-told
returns-in_ok-fault-in-Rules-clause-told c =
    let reader = c.args.self.now.reader in
    let fault = c.in_ok-fault-in-Rules.fault.now in
    let others = c.in_ok-fault-in-Rules.others.now in
    let all : c.in-Rules.faults.now ≡ fault ∷ others = c.in_ok-fault-in-Rules.ensures.cases.0 in
    let onward : IsOnward reader (fault ∷ others) =
    subst (IsOnward reader) all (subst (TellsOn reader) c.in-Rules.is c.requires) in
    let later = later_places reader c.seek-in-Rules.new.self fault.word others
    (behind_first fault others onward.1) c.seek-in-Rules.ensures.same in
    ap (places_left reader) c.in-Rules.is ∙ ap (map (rule_at reader)) all
    ∙ (λ i. (sym c.seek-in-Rules.ensures.place i, codes.Rule fault.code) ∷ later i)

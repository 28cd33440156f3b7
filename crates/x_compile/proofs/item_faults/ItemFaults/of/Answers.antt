use Rattle.std.proofs.Common.{map, ◌∙◌}
use Rattle.x_compile.specs.Compile.{faults_at, place_in, rule_faults}
use Rattle.x_compile.specs.KeptView.{found_result, kept_found, kept_parse}
use Rattle.x_compile.proofs.FaultLemmas.{begun}
use Rattle.x_compile.proofs.item_faults.ItemFaults.of.Goals as goal

pub returns-clause-faults : goal.returns-clause-faults
returns-clause-faults c =
    let e = c.args.entry.now in
    let parse = kept_parse e.kept in
    let ruled = rule_faults (found_result (kept_found e.kept)) in
    begun c.args.number c.of.result parse ruled c.told.result c.of.ensures.read c.of.ensures.words
    c.told.ensures
    ∙ (λ i. map (place_in c.args.number (c.of.ensures.unread i))
    (faults_at (c.of.ensures.unread i) parse ruled))

use Rattle.std.proofs.Common.{◌≡◌, ◌++◌, length, map, sym, ap, ◌∙◌}
use Rattle.x_compile.specs.Compile.{places_of}
use Rattle.x_compile.specs.FaultWalk.{faults_behind, faults_here, found_at}
use Rattle.x_compile.specs.KeptText.{items_of}
use Rattle.x_compile.proofs.FaultLemmas.{places_many}
use Rattle.x_compile.proofs.faults.FaultPlaces.of.Goals as goal

pub invariant_of-result : goal.invariant_of-result
invariant_of-result c =
    let text = c.args.source.now in
    let ts = c.args.tokens.now.list in
    let items = items_of text ts c.args.items.now.entries.list in
    let left : faults_here c.none.result ++ c.of.result ≡ places_of items =
    (λ i. map (found_at c.none.result.number) (c.none.ensures.none i)
    ++ (c.of.ensures ∙ ap (faults_behind text ts 0 0) c.iter-2.ensures.list) i) in
    (c.none.ensures.telling, c.requires.count ∙ places_many text 0 items ∙ sym (ap length left))

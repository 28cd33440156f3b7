use Rattle.std.proofs.Common.{map, ◌∙◌}
use Rattle.x_compile.specs.Compile.{in_lines}
use Rattle.x_compile.specs.KeptText.{items_of}
use Rattle.x_compile.proofs.FaultLemmas.{in_lines_from}
use Rattle.x_compile.proofs.faults.Faults.of.Goals as goal

pub returns : goal.returns
returns c =
    (λ i. map (in_lines (c.of-2.ensures i)) (c.of.ensures i))
    ∙ in_lines_from c.args.source.now 0
    (items_of c.args.source.now c.args.tokens.now.list c.args.items.now.entries.list)

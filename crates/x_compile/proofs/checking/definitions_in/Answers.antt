use Rattle.std.proofs.Common.{map, ap, ◌∙◌, arith}
use Rattle.std.specs.Borrow.{Bor}
use Rattle.std.proofs.lemmas.List.{take_all}
use Rattle.x_rules.proofs.OutlineLemmas.{map_map}
use Rattle.x_compile.specs.KeptView.{kept_definition}
use Rattle.x_compile.specs.declared.content.Content.{Content}
use Rattle.x_compile.proofs.checking.definitions_in.Goals as goal

pub returns : goal.returns
returns c =
    c.loop-item.invariant ∙ ap (map (λ (k : Bor Content). kept_definition k.now))
    (take_all c.loop-item.item-index c.args.items.now (omega arith))
    ∙ map_map kept_definition (λ (k : Bor Content). k.now) c.args.items.now

use Rattle.std.proofs.Common.{map}
use Rattle.x_trees.specs.View.{tree_at}
use Rattle.x_compile.specs.Compile.{parsed_definition}
use Rattle.x_session.proofs.DeclaredLemmas.{HasTold}
use Rattle.x_session.proofs.declared.definitions.Given as goal

abbrev pub invariant-loop-item : goal.invariant-loop-item
invariant-loop-item l = HasTold (λ i. parsed_definition i.parse) l.session.known l.session.text l.item
    (map tree_at l.list.items)

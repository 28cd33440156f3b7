use Rattle.std.proofs.Common.{List, ℕ, map, ap, subst, ◌∙◌}
use Rattle.std.specs.Prelude.{IfOk}
use Rattle.x_trees.specs.View.{tree_at}
use Rattle.x_names.specs.DeclarerTable.{first_in}
use Rattle.x_names.specs.Declarers.{AreShort, FirstIs}
use Rattle.x_compile.proofs.checking.names_of.Goals as goal

pub returns : goal.returns
returns c =
    subst (λ ds. IfOk c.keyed.result
    (λ names. AreShort ds → (name : List ℕ) → FirstIs ds name (first_in names name)))
    (ap (map tree_at) c.deref.ensures.value ∙ c.in_ok-definitions_in.ensures) c.keyed.ensures

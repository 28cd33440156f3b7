-- How many definitions there are.
use Rattle.std.proofs.Common.{◌≡◌, ℕ, suc, true, false, ◌+◌, List, [], ◌∷◌, length, Option, None, Some, refl}
use Rattle.std.proofs.Common.{sym, ap, ◌∙◌, arith}
use Rattle.std.specs.Borrow.{Bor}
use Rattle.std.specs.Option.{is_some}
use Rattle.x_trees.specs.declared.trees.definition.Definition as rust
use Rattle.x_trees.specs.View.{tree_at}
use Rattle.x_trees.specs.Tree.{Definition}
use Rattle.x_compile.specs.Definitions.{numbered}

many_numbered : (n m : ℕ) (ds : List (Option Definition)) → length (numbered n ds) ≡ length (numbered m ds)
many_numbered n m [] = refl
many_numbered n m (None ∷ ds) = many_numbered (suc n) (suc m) ds
many_numbered n m (Some d ∷ ds) = ap suc (many_numbered (suc n) (suc m) ds)

pub count_none : (d : Option Definition) (ds : List (Option Definition)) (lent : Option (Bor rust.Definition))
    → tree_at lent ≡ d → false ≡ is_some lent → length (numbered 0 (d ∷ ds)) ≡ length (numbered 0 ds)
count_none d ds None same none = ap (λ x. length (numbered 0 (x ∷ ds))) (sym same) ∙ many_numbered 1 0 ds
count_none d ds (Some r) same none = absurd (cc)

pub count_some : (d : Option Definition) (ds : List (Option Definition)) (lent : Option (Bor rust.Definition))
    → tree_at lent ≡ d → true ≡ is_some lent → length (numbered 0 (d ∷ ds)) ≡ 1 + length (numbered 0 ds)
count_some d ds None same some = absurd (cc)
count_some d ds (Some r) same some =
    let here = ap (λ x. length (numbered 0 (x ∷ ds))) (sym same) in
    let others = many_numbered 1 0 ds in
    omega (arith, here, others)

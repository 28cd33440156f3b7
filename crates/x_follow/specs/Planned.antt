-- What is planned to be kept with the items that an edit makes stale.
use Rattle.std.specs.Prelude.{◌≡◌, ℕ, suc, nat_eq, List, [], ◌∷◌, map, Option, None, Some, slice_get}
use Rattle.std.specs.Prelude.{if◌then◌else◌}
use Rattle.std.specs.Global.{Box}
use Rattle.std.specs.Option.{option_or}
use Rattle.x_compile.specs.Checking.{sound_pieces}
use Rattle.x_compile.specs.KeptView.{found_pieces, found_result, kept_definition, kept_found, renewed_pieces}
use Rattle.x_compile.specs.declared.content.CheckResult.{CheckResult}
use Rattle.x_compile.specs.declared.content.Content.{Content}
use Rattle.x_follow.specs.declared.planned.PlannedResult.{PlannedResult}

-- the numbers of the items for which these are planned
abbrev pub numbers_of : List PlannedResult → List ℕ
numbers_of ps = map (λ p. p.item) ps

-- what is planned for the item of this number
abbrev pub planned_at : ℕ → List PlannedResult → Option (Box CheckResult)
planned_at n [] = None
planned_at n (p ∷ ps) = if nat_eq n p.item then Some p.found else planned_at n ps

-- what will be kept of each of these items, of which the first has this number: what is planned for it, or
-- else what it has
abbrev pub overlaid : ℕ → List Content → List PlannedResult → List (Option (Box CheckResult))
overlaid n [] ps = []
overlaid n (k ∷ ks) ps = option_or (planned_at n ps) (kept_found k) ∷ overlaid (suc n) ks ps

-- The item has a definition, and it will have pieces exactly where that has no fault.
pub record IsPlannedOf (ks : List Content) (p : PlannedResult) : Type 0 where
  pub item : Content
  pub at : slice_get ks p.item ≡ Some item
  pub defined : kept_definition item ≡ None → ⊥
  pub rendered : renewed_pieces (found_pieces (kept_found item)) (Some p.found)
      ≡ sound_pieces (kept_definition item) (found_result (Some p.found))

-- so it is with each of them, and no item is planned twice
abbrev pub ArePlanned : List Content → List PlannedResult → Type 0
ArePlanned ks [] = Unit {0}
ArePlanned ks (p ∷ ps) = IsPlannedOf ks p × (planned_at p.item ps ≡ None) × ArePlanned ks ps

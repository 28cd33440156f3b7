-- What is to be kept of items that were checked.
use Rattle.std.specs.Prelude.{◌≡◌, ℕ, List, [], ◌∷◌, Some, slice_get}
use Rattle.x_trees.specs.Tree.{Definition}
use Rattle.x_recheck.specs.declared.rechecking.Rechecked.{Rechecked}
use Rattle.x_compile.specs.KeptView.{kept_definition}
use Rattle.x_follow.specs.Planned.{IsPlannedOf}
use Rattle.x_compile.specs.declared.content.Content.{Content}
use Rattle.x_follow.specs.declared.planned.PlannedResult.{PlannedResult}

-- the item at an index has a definition
pub record HasDefinitionAt (ks : List Content) (n : ℕ) : Type 0 where
  pub item : Content
  pub at : slice_get ks n ≡ Some item
  pub definition : Definition
  pub defined : kept_definition item ≡ Some definition

abbrev pub HaveDefinitions : List Content → List Rechecked → Type 0
HaveDefinitions ks [] = Unit {0}
HaveDefinitions ks (r ∷ rs) = HasDefinitionAt ks r.item × HaveDefinitions ks rs

-- what was found of the item, with what is generated of it where that has no fault
pub record IsRendering (ks : List Content) (r : Rechecked) (p : PlannedResult) : Type 0 where
  pub item_is : p.item ≡ r.item
  pub checked_is : p.found.value.checked ≡ r.checked
  pub planned : IsPlannedOf ks p

-- so it is with each of them
abbrev pub AreRenderings : List Content → List Rechecked → List PlannedResult → Type 0
AreRenderings ks [] [] = Unit {0}
AreRenderings ks (r ∷ rs) (p ∷ ps) = IsRendering ks r p × AreRenderings ks rs ps
AreRenderings ks rs ps = ⊥

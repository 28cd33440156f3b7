-- Names that a text uses and does not declare, by the table of its names.
use Rattle.std.proofs.Common.{◌≡◌, ℕ, suc, ◌==◌, Bool, true, false, not, ◌&&◌, ◌||◌, List, [], ◌∷◌, Option}
use Rattle.std.proofs.Common.{length, arith, ne_eqb, refl, sym, ap, ◌∙◌}
use Rattle.std.specs.Prelude.{is_some, if◌then◌else◌}
use Rattle.std.specs.List.{list_any}
use Rattle.x_trees.specs.Tree.{Definition}
use Rattle.x_names.specs.Declarers.{first_declarer}
use Rattle.x_names.specs.declared.names.Declarer.{Declarer}
use Rattle.x_uses.specs.Occurrences.{IsUsesOf, UseTable, sees, users_in, users_of}
use Rattle.x_follow.specs.Lacking.{is_lacking_name}

-- there are users exactly where an item sees the name
some_user : (item : ℕ) (ds : List (Option Definition)) (name : List ℕ)
    → not (length (users_of item ds name) == 0) ≡ list_any (λ d. sees d name) ds
some_user item [] name = refl
some_user item (d ∷ ds) name = by (sees d name) (some_user (suc item) ds name)
  where
    by : (b : Bool) → not (length (users_of (suc item) ds name) == 0) ≡ list_any (λ d. sees d name) ds
        → not (length (if b then item ∷ users_of (suc item) ds name else users_of (suc item) ds name) == 0)
        ≡ (b || list_any (λ d. sees d name) ds)
    by true h = ap not (ne_eqb (suc (length (users_of (suc item) ds name))) 0 (λ e. omega (arith, e)))
    by false h = h

turned : (b s : Bool) → s ≡ not b → b ≡ not s
turned true s e = sym (ap not e)
turned false s e = sym (ap not e)

-- what the program computes
pub lacking_by : (ds : List (Option Definition)) (u : UseTable) (name : List ℕ) (first : Option Declarer)
    (users : List ℕ) (none empty : Bool) → IsUsesOf ds u → first ≡ first_declarer ds name
    → users ≡ users_in u name → is_some first ≡ not none → empty ≡ (length users == 0)
    → (none && not empty) ≡ is_lacking_name ds name
lacking_by ds u name first users none empty uses first_is users_are none_is empty_is =
    let left = turned none (is_some first) none_is ∙ ap (λ f. not (is_some f)) first_is in
    let all = users_are ∙ uses.users name in
    let right = ap not (empty_is ∙ ap (λ us. length us == 0) all) ∙ some_user 0 ds name in
    λ i. left i && right i

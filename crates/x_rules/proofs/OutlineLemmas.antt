-- What is kept of a definition is what the definitions have of it.
use Rattle.std.specs.Prelude.{option_map, ◌||◌}
use Rattle.std.specs.Str.{bytes_eq}
use Rattle.std.specs.List.{IsAmong, flat_map, list_any}
use Rattle.std.proofs.Common.{◌≡◌, ◌<◌, ℕ, suc, length, arith, Bool, true, false, cond, List, [], ◌∷◌, ◌++◌}
use Rattle.std.proofs.Common.{map, Option, None, Some, refl, ap, subst, ◌∙◌, append_assoc}
use Rattle.x_trees.specs.Tree.{Definition}
use Rattle.x_outline.specs.Bodies as spec
use Rattle.x_rules.specs.Views as views
use Rattle.x_rules.specs.Outlined.{GivesOutcome}
use Rattle.x_rules.specs.Results.{Outcome, IsOutcome}
use Rattle.x_rules.specs.Views.{view_in}
use Rattle.x_trees.specs.Seen.{names_of}
use Rattle.x_outline.specs.BodyWalks.{view_body_at}
use Rattle.x_rules.specs.RustViews.{view_view}
use Rattle.x_rules.specs.FirstPlaces.{first_place}
use Rattle.x_rules.specs.Tables.{view_at}
use Rattle.x_outline.specs.declared.parts.BodyAt.{BodyAt}
use Rattle.x_rules.specs.declared.fault.WordFault.{WordFault}
use Rattle.x_rules.specs.declared.views.View.{View}
use Rattle.x_trees.proofs.AmongLemmas.{among_first, among_more}
use Rattle.x_rules.proofs.FirstLemmas.{shift}

-- ---- views

-- the view in the first place of a name is that of the name
view_first : (names : List (List ℕ)) (vs : List View) (name : List ℕ)
    → view_at vs (first_place 0 names name) ≡ view_in names (map view_view vs) name
view_first [] vs name = refl
view_first (x ∷ names) [] name = none (first_place 0 (x ∷ names) name)
  where
    none : (o : Option ℕ) → view_at [] o ≡ views.Undeclared
    none None = refl
    none (Some k) = refl
view_first (x ∷ names) (v ∷ vs) name =
    by (bytes_eq name x) (first_place 0 names name) (shift (bytes_eq name) 0 names) (view_first names vs name)
  where
    by : (b : Bool) (o : Option ℕ) → first_place 1 names name ≡ option_map suc o
        → view_at vs o ≡ view_in names (map view_view vs) name
        → view_at (v ∷ vs) (cond b (Some 0) (first_place 1 names name))
        ≡ cond b (view_view v) (view_in names (map view_view vs) name)
    by true o s h = refl
    by false None s h = ap (view_at (v ∷ vs)) s ∙ h
    by false (Some k) s h = ap (view_at (v ∷ vs)) s ∙ h

pub seen_is : (names : List (List ℕ)) (vs : List View)
    → (λ name. view_at vs (first_place 0 names name)) ≡ view_in names (map view_view vs)
seen_is names vs = λ i name. view_first names vs name i

-- ---- lists

pub none_below : {X : Type 0} (xs : List X) → length xs < 1 → xs ≡ []
none_below [] h = refl
none_below (x ∷ xs) h = absurd (omega (arith, h))

pub map_map : {X Y Z : Type 0} (f : Y → Z) (g : X → Y) (xs : List X)
    → map (λ x. f (g x)) xs ≡ map f (map g xs)
map_map f g [] = refl
map_map f g (x ∷ xs) = ap (λ l. f (g x) ∷ l) (map_map f g xs)

pub flat_mapped : {X Y Z : Type 0} (f : Y → List Z) (g : X → Y) (xs : List X)
    → flat_map (λ x. f (g x)) xs ≡ flat_map f (map g xs)
flat_mapped f g [] = refl
flat_mapped f g (x ∷ xs) = ap (λ l. f (g x) ++ l) (flat_mapped f g xs)

-- what is kept of bodies, element by element
pub flat_bodies : (f : BodyAt → List WordFault) (g : spec.BodyAt → List WordFault) (bs : List BodyAt)
    → ((b : BodyAt) → IsAmong bs b → f b ≡ g (view_body_at b))
    → flat_map f bs ≡ flat_map g (map view_body_at bs)
flat_bodies f g [] h = refl
flat_bodies f g (b ∷ bs) h = ap (λ l. l ++ flat_map f bs) (h b (among_first b bs))
    ∙ ap (λ l. g (view_body_at b) ++ l) (flat_bodies f g bs (λ x k. h x (among_more b x bs k)))

pub any_append : {X : Type 0} (p : X → Bool) (xs ys : List X)
    → list_any p (xs ++ ys) ≡ (list_any p xs || list_any p ys)
any_append p [] ys = refl
any_append p (x ∷ xs) ys = by (p x) (any_append p xs ys)
  where
    by : (b : Bool) → list_any p (xs ++ ys) ≡ (list_any p xs || list_any p ys)
        → (b || list_any p (xs ++ ys)) ≡ ((b || list_any p xs) || list_any p ys)
    by true h = refl
    by false h = h

pub any_map : {X Y : Type 0} (p : Y → Bool) (f : X → Y) (xs : List X)
    → list_any (λ x. p (f x)) xs ≡ list_any p (map f xs)
any_map p f [] = refl
any_map p f (x ∷ xs) = ap (λ b. p (f x) || b) (any_map p f xs)

-- ---- faults that are added family by family

-- what was added before, where the last of what was added is known
pub added_before : (all now next found is rest : List WordFault) → all ≡ next ++ rest → next ≡ now ++ found
    → found ≡ is → all ≡ now ++ (is ++ rest)
added_before all now next found is rest h step same =
    h ∙ ap (λ l. l ++ rest) (step ∙ ap (λ l. now ++ l) same) ∙ append_assoc now is rest

pub added_last : (all now found is : List WordFault) → all ≡ now ++ found → found ≡ is → all ≡ now ++ is
added_last all now found is h same = h ∙ ap (λ l. now ++ l) same

-- ---- outcomes

-- what is found by the names that are seen is what checking the definition gives by its views
pub outcome_by : (d : Definition) (names : List (List ℕ)) (vs given : List View) (o : Outcome)
    → names ≡ names_of d → vs ≡ given
    → GivesOutcome d (λ name. view_at vs (first_place 0 names name)) o → IsOutcome d (map view_view given) o
outcome_by d names vs given o are is h =
    subst (λ l. IsOutcome d (map view_view l) o) is
    (let by = subst (λ see. GivesOutcome d see o)
    (seen_is names vs ∙ ap (λ l. view_in l (map view_view vs)) are) h in
    record { are_faults = by.are_faults; are_meanings = by.are_meanings })

-- Tables of names that grow, by a name and by a list.
use Rattle.std.proofs.Common.{◌≡◌, ℕ, ◌+◌, ◌<◌, Bool, true, false, cond, ◌||◌, Bor, List, [], ◌∷◌, ◌++◌}
use Rattle.std.proofs.Common.{Option, Some}
use Rattle.std.proofs.Common.{length, map, drop, get_or, refl, sym, ap, ◌∙◌}
use Rattle.std.proofs.lemmas.List.{at_drop_more, map-append}
use Rattle.std.proofs.lemmas.List.Folds.{list_any-append}
use Rattle.std.specs.Str.{bytes_eq}
use Rattle.x_taken.specs.TakenNames.{is_among, kind_in, view_lists, words}
use Rattle.x_taken.specs.declared.taken.TakenAs.{TakenAs}

-- a name more, behind those that were taken in
pub name_more : (kind : TakenAs) (name : List ℕ) (ys : List (Bor (List ℕ))) (x : Bor (List ℕ))
    (bytes : List ℕ) (old mid after : Option TakenAs)
    → bytes ≡ x.now → mid ≡ cond (is_among name (map (λ y. y.now) ys)) (Some kind) old
    → after ≡ cond (bytes_eq bytes name) (Some kind) mid
    → after ≡ cond (is_among name (map (λ y. y.now) (ys ++ x ∷ []))) (Some kind) old
name_more kind name ys x bytes old mid after is had more =
    more ∙ ap (λ b. cond (bytes_eq b name) (Some kind) mid) is
    ∙ ap (cond (bytes_eq x.now name) (Some kind)) had
    ∙ step (is_among name (map (λ y. y.now) ys)) (bytes_eq x.now name)
    ∙ sym (ap (λ b. cond b (Some kind) old)
    (ap (is_among name) (map-append (λ (y : Bor (List ℕ)). y.now) ys (x ∷ []))
    ∙ list_any-append (λ own. bytes_eq own name) (map (λ y. y.now) ys) (x.now ∷ [])))
  where
    step : (before here : Bool) → cond here (Some kind) (cond before (Some kind) old)
        ≡ cond (before || (here || false)) (Some kind) old
    step true true = refl
    step true false = refl
    step false true = refl
    step false false = refl

-- a list more, in front of those that were taken in
pub list_more : (lists : List (TakenAs × Bor (List ℕ))) (i later : ℕ) (d : TakenAs × Bor (List ℕ))
    (name : List ℕ) (mid after : Option TakenAs)
    → i + 1 ≡ later → i < length lists → mid ≡ kind_in (view_lists (drop later lists)) name
    → after ≡ cond (is_among name (words (get_or lists i d).1.now)) (Some (get_or lists i d).0) mid
    → after ≡ kind_in (view_lists (drop i lists)) name
list_more lists i later d name mid after next within had more =
    let here = get_or lists i d in
    more ∙ ap (cond (is_among name (words here.1.now)) (Some here.0))
    (had ∙ ap (λ n. kind_in (view_lists (drop n lists)) name) (sym next))
    ∙ sym (at_drop_more (λ ls. kind_in (view_lists ls) name) lists i d within)

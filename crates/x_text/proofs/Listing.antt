-- A list that is written element by element.
use Rattle.std.specs.Prelude.{slice_get}
use Rattle.std.proofs.Common.{◌≡◌, ℕ, zero, suc, ◌+◌, ◌<◌, ◌≤◌, drop, get_or, length, map, arith, List, []}
use Rattle.std.proofs.Common.{◌∷◌, ◌++◌, refl, sym, ap, subst, ◌∙◌, append_assoc, append-nil}
use Rattle.std.specs.List.{flat_map}
use Rattle.std.specs.Option.{option_map_or}
use Rattle.std.proofs.lemmas.List.Concat.{flat_map_single}
use Rattle.x_streams.specs.Streams.{Stream}
use Rattle.x_streams.specs.Writing.{Inked, Adds}
use Rattle.x_streams.proofs.Pens.{adds_none, adds_trans}
use Rattle.x_lists.proofs.ListLemmas.{drop_one, drop_none, get_at, some_at}

flat_map_more : {X : Type 0} (f : X → List ℕ) (xs : List X) (x : X)
    → flat_map f (xs ++ x ∷ []) ≡ flat_map f xs ++ f x
flat_map_more f [] x = append-nil (f x)
flat_map_more f (y ∷ ys) x = ap (λ l. f y ++ l) (flat_map_more f ys x)
    ∙ sym (append_assoc (f y) (flat_map f ys) (f x))

-- the lines of all but those that are left were added
pub record HasListed (X : Type 0) (line : X → List ℕ) (all left : List X) (p : Inked) (before : Stream)
    (q : Inked) (now : Stream) : Type 0 where
  pub seen : List X
  pub split : seen ++ left ≡ all
  pub added : Adds p before q now (flat_map line seen)

pub lists_none : {X : Type 0} (line : X → List ℕ) (all : List X) (p : Inked) (now : Stream)
    → HasListed X line all all p now p now
lists_none line all p now = record { seen = []; split = refl; added = adds_none p now }

pub lists_more : {X : Type 0} (line : X → List ℕ) (all left : List X) (x : X) (p q r : Inked) (a b c : Stream)
    → HasListed X line all (x ∷ left) p a q b → Adds q b r c (line x) → HasListed X line all left p a r c
lists_more line all left x p q r a b c so more = record {
  seen = so.seen ++ x ∷ [];
  split = append_assoc so.seen (x ∷ []) left ∙ so.split;
  added = subst (λ t. Adds p a r c t) (sym (flat_map_more line so.seen x))
      (adds_trans p q r a b c (flat_map line so.seen) (line x) so.added more);
}

pub lists_all : {X : Type 0} (line : X → List ℕ) (all left : List X) (p q : Inked) (a b : Stream)
    → left ≡ [] → HasListed X line all left p a q b → Adds p a q b (flat_map line all)
lists_all line all left p q a b none so =
    subst (λ xs. Adds p a q b (flat_map line xs))
    (sym (append-nil so.seen) ∙ ap (λ l. so.seen ++ l) (sym none) ∙ so.split) so.added

-- the same by the index of what is added next
pub lists_at : {X : Type 0} (line : X → List ℕ) (all : List X) (i : ℕ) (p q r : Inked) (a b c : Stream)
    → i < length all → HasListed X line all (drop i all) p a q b
    → Adds q b r c (option_map_or line (slice_get all i) [])
    → HasListed X line all (drop (i + 1) all) p a r c
lists_at {X} line all i p q r a b c lt so more =
    let one = some_at all i lt in
    let next : suc i ≡ i + 1 = omega arith in
    let split : drop i all ≡ one.0 ∷ drop (i + 1) all = one.1 ∙ ap (λ n. one.0 ∷ drop n all) next in
    lists_more line all (drop (i + 1) all) one.0 p q r a b c
    (subst (λ left. HasListed X line all left p a q b) split so)
    (subst (λ it. Adds q b r c (option_map_or line it [])) (get_at all i one.0 (drop (i + 1) all) split) more)

pub lists_past : {X : Type 0} (line : X → List ℕ) (all : List X) (i : ℕ) (p q : Inked) (a b : Stream)
    → length all ≤ i → HasListed X line all (drop i all) p a q b → Adds p a q b (flat_map line all)
lists_past line all i p q a b past so = lists_all line all (drop i all) p q a b (drop_none all i past) so

-- the same of a list whose elements are one number each
pub maps_at : (f : ℕ → ℕ) (all : List ℕ) (i : ℕ) (p q r : Inked) (a b c : Stream)
    → i < length all → HasListed ℕ (λ n. f n ∷ []) all (drop i all) p a q b
    → Adds q b r c (f (get_or all i 0) ∷ [])
    → HasListed ℕ (λ n. f n ∷ []) all (drop (i + 1) all) p a r c
maps_at f all i p q r a b c lt so more =
    lists_more (λ n. f n ∷ []) all (drop (i + 1) all) (get_or all i 0) p q r a b c
    (subst (λ left. HasListed ℕ (λ n. f n ∷ []) all left p a q b) (drop_one all i 0 lt) so) more

pub maps_past : (f : ℕ → ℕ) (all : List ℕ) (i : ℕ) (p q : Inked) (a b : Stream)
    → length all ≤ i → HasListed ℕ (λ n. f n ∷ []) all (drop i all) p a q b → Adds p a q b (map f all)
maps_past f all i p q a b past so =
    subst (λ t. Adds p a q b t) (flat_map_single f all) (lists_past (λ n. f n ∷ []) all i p q a b past so)

-- what stands at a place of a list that is made of another, and behind it
pub mapped_one : {X Y : Type 0} (f : X → Y) (xs : List X) (i : ℕ) (x : X) → i < length xs → x ≡ get_or xs i x
    → drop i (map f xs) ≡ f x ∷ drop (suc i) (map f xs)
mapped_one f [] i x h is = absurd (omega (arith, h))
mapped_one f (y ∷ ys) zero x h is = ap (λ z. f z ∷ map f ys) (sym is)
mapped_one f (y ∷ ys) (suc i) x h is = mapped_one f ys i x (omega (arith, h)) is

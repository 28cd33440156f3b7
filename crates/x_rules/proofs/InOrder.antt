-- Lists whose elements stand in an order.
use Rattle.std.proofs.Common.{◌≡◌, ◌⊎◌, inl, inr, List, [], ◌∷◌, refl, sym, ap, subst, ◌∙◌}
use Rattle.std.specs.List.{IsAmong}
use Rattle.x_trees.proofs.AmongLemmas.{among_first, among_same, among_more, among_cases, among_none}

-- each stands before all behind it
abbrev pub AreInOrder : {X : Type 0} → (X → X → Type 0) → List X → Type 0
AreInOrder before [] = Unit {0}
AreInOrder {X} before (x ∷ xs) = ((y : X) → IsAmong xs y → before x y) × AreInOrder before xs

-- behind the first, which two lists have, each element of one is in the other
tail_among : {X : Type 0} (before : X → X → Type 0) → ((x y : X) → before x y → before y x → ⊥)
    → (x y : X) (xs ys : List X) → ((z : X) → IsAmong xs z → before x z) → x ≡ y
    → ((z : X) → IsAmong (x ∷ xs) z → IsAmong (y ∷ ys) z) → (z : X) → IsAmong xs z → IsAmong ys z
tail_among {X} before not_both x y xs ys first same into z k =
    step (among_cases y z ys (into z (among_more x z xs k)))
  where
    not_self : (w : X) → before w w → ⊥
    not_self w h = not_both w w h h

    step : (z ≡ y) ⊎ IsAmong ys z → IsAmong ys z
    step (inl w) = absurd (not_self z (subst (λ v. before v z) (same ∙ sym w) (first z k)))
    step (inr j) = j

-- lists in order with the same elements are one
pub one_order : {X : Type 0} (before : X → X → Type 0) → ((x y : X) → before x y → before y x → ⊥)
    → (xs ys : List X) → AreInOrder before xs → AreInOrder before ys
    → ((x : X) → IsAmong xs x → IsAmong ys x) → ((x : X) → IsAmong ys x → IsAmong xs x) → xs ≡ ys
one_order before not_both [] [] a b to back = refl
one_order before not_both [] (y ∷ ys) a b to back = absurd (among_none y (back y (among_first y ys)))
one_order before not_both (x ∷ xs) [] a b to back = absurd (among_none x (to x (among_first x xs)))
one_order {X} before not_both (x ∷ xs) (y ∷ ys) a b to back =
    by (one_order before not_both xs ys a.1 b.1) (among_cases y x ys (to x (among_first x xs)))
    (among_cases x y xs (back y (among_first y ys)))
  where
    by : (((z : X) → IsAmong xs z → IsAmong ys z) → ((z : X) → IsAmong ys z → IsAmong xs z) → xs ≡ ys)
        → (x ≡ y) ⊎ IsAmong ys x → (y ≡ x) ⊎ IsAmong xs y → (x ∷ xs) ≡ (y ∷ ys)
    by more (inl e) other = ap (λ z. z ∷ xs) e
        ∙ ap (λ l. y ∷ l) (more (tail_among before not_both x y xs ys a.0 e to)
        (tail_among before not_both y x ys xs b.0 (sym e) back))
    by more (inr j) (inl e) = ap (λ z. z ∷ xs) (sym e)
        ∙ ap (λ l. y ∷ l) (more (tail_among before not_both x y xs ys a.0 (sym e) to)
        (tail_among before not_both y x ys xs b.0 e back))
    by more (inr j) (inr k) = absurd (not_both x y (a.0 y k) (b.0 x j))

-- ---- putting in order

-- one stands before the other, or they are one
abbrev pub Compared : {X : Type 0} → (X → X → Type 0) → X → X → Type 0
Compared before x y = before x y ⊎ ((x ≡ y) ⊎ before y x)

-- these elements in order, each once
pub record Ordered {X : Type 0} (before : X → X → Type 0) (xs : List X) : Type 0 where
  pub list : List X
  pub in_order : AreInOrder before list
  pub from : (y : X) → IsAmong list y → IsAmong xs y
  pub kept : (y : X) → IsAmong xs y → IsAmong list y

-- an element is put in front of the first that it stands before
put : {X : Type 0} (before : X → X → Type 0) → ((x y z : X) → before x y → before y z → before x z)
    → ((x y : X) → Compared before x y)
    → (x : X) (xs : List X) → AreInOrder before xs → Ordered before (x ∷ xs)
put before trans compare x [] h =
    record {
      list = x ∷ [];
      in_order = (λ y k. absurd (among_none y k), tt);
      from = λ y k. k;
      kept = λ y k. k;
    }
put {X} before trans compare x (y ∷ ys) h = by (compare x y) (put before trans compare x ys h.1)
  where
    first : before x y → (z : X) → (z ≡ y) ⊎ IsAmong ys z → before x z
    first lt z (inl e) = subst (before x) (sym e) lt
    first lt z (inr k) = trans x y z lt (h.0 z k)

    once : x ≡ y → (z : X) → (z ≡ x) ⊎ IsAmong (y ∷ ys) z → IsAmong (y ∷ ys) z
    once same z (inl e) = among_same y z ys (sym (e ∙ same))
    once same z (inr k) = k

    behind : before y x → (z : X) → (z ≡ x) ⊎ IsAmong ys z → before y z
    behind lt z (inl e) = subst (before y) (sym e) lt
    behind lt z (inr k) = h.0 z k

    back : (z : X) → (z ≡ x) ⊎ IsAmong ys z → IsAmong (x ∷ y ∷ ys) z
    back z (inl e) = among_same x z (y ∷ ys) (sym e)
    back z (inr k) = among_more x z (y ∷ ys) (among_more y z ys k)

    out : (o : Ordered before (x ∷ ys)) (z : X) → (z ≡ y) ⊎ IsAmong o.list z → IsAmong (x ∷ y ∷ ys) z
    out o z (inl e) = among_more x z (y ∷ ys) (among_same y z ys (sym e))
    out o z (inr k) = back z (among_cases x z ys (o.from z k))

    behind_it : (o : Ordered before (x ∷ ys)) (z : X) → (z ≡ y) ⊎ IsAmong ys z → IsAmong (y ∷ o.list) z
    behind_it o z (inl e) = among_same y z o.list (sym e)
    behind_it o z (inr k) = among_more y z o.list (o.kept z (among_more x z ys k))

    into : (o : Ordered before (x ∷ ys)) (z : X) → (z ≡ x) ⊎ IsAmong (y ∷ ys) z → IsAmong (y ∷ o.list) z
    into o z (inl e) = among_more y z o.list (o.kept z (among_same x z ys (sym e)))
    into o z (inr k) = behind_it o z (among_cases y z ys k)

    by : Compared before x y → Ordered before (x ∷ ys) → Ordered before (x ∷ y ∷ ys)
    by (inl lt) more =
        record {
          list = x ∷ y ∷ ys;
          in_order = (λ z k. first lt z (among_cases y z ys k), h);
          from = λ z k. k;
          kept = λ z k. k;
        }
    by (inr (inl e)) more =
        record {
          list = y ∷ ys;
          in_order = h;
          from = λ z k. among_more x z (y ∷ ys) k;
          kept = λ z k. once e z (among_cases x z (y ∷ ys) k);
        }
    by (inr (inr lt)) more = record {
      list = y ∷ more.list;
      in_order = (λ z k. behind lt z (among_cases x z ys (more.from z k)), more.in_order);
      from = λ z k. out more z (among_cases y z more.list k);
      kept = λ z k. into more z (among_cases x z (y ∷ ys) k);
    }

-- the elements of a list can be put in order
pub ordered : {X : Type 0} (before : X → X → Type 0) → ((x y z : X) → before x y → before y z → before x z)
    → ((x y : X) → Compared before x y) → (xs : List X) → Ordered before xs
ordered before trans compare [] = record { list = []; in_order = tt; from = λ y k. k; kept = λ y k. k }
ordered {X} before trans compare (x ∷ xs) = with_rest (ordered before trans compare xs)
  where
    more_in : (os ls : List X) → ((y : X) → IsAmong os y → IsAmong ls y) → (y : X) → (y ≡ x) ⊎ IsAmong os y
        → IsAmong (x ∷ ls) y
    more_in os ls to y (inl e) = among_same x y ls (sym e)
    more_in os ls to y (inr k) = among_more x y ls (to y k)

    with_rest : Ordered before xs → Ordered before (x ∷ xs)
    with_rest rest =
        let o = put before trans compare x rest.list rest.in_order in
        record {
          list = o.list;
          in_order = o.in_order;
          from = λ y k. more_in rest.list xs rest.from y (among_cases x y rest.list (o.from y k));
          kept = λ y k. o.kept y (more_in xs rest.list rest.kept y (among_cases x y xs k));
        }

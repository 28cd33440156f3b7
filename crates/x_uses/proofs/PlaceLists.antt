-- Lists of what stands at items, cut and joined.
use Rattle.std.proofs.Common.{◌≡◌, ℕ, zero, suc, ◌+◌, ◌-◌, ◌^◌, ◌≤◌, ◌<◌, nat_lt, true, false, Bool, cond}
use Rattle.std.proofs.Common.{List, [], ◌∷◌, ◌++◌, length, take, drop, refl, sym, ap, ◌∙◌, arith}
use Rattle.std.proofs.Common.{append_assoc, length-append, length-drop, length-take, append-nil, subst}
use Rattle.std.proofs.lemmas.List.{take_all, take_at, drop_at, drop_all, drop-append-le, take-append-le}
use Rattle.std.specs.List.{refill}
use Rattle.std.proofs.lemmas.Bool.Decides.{nat_tests}
use Rattle.x_uses.specs.Slots.{front_of, rear_of, sum_of, stays}
use Rattle.x_uses.specs.declared.uses.ItemSplice.{ItemSplice}

-- a list that is written over as a whole
refilled : {X : Type 0} (n : ℕ) (xs ws : List X) → length ws ≡ n → n ≡ length xs → refill n xs ws ≡ ws
refilled n xs ws same full =
    let none : length xs ≤ length ws = omega arith in
    ap (take n) (ap (λ l. ws ++ l) (drop_all (length ws) xs none)) ∙ take_at ws [] n same

-- what stands behind the rest of a list
none_behind : {X : Type 0} (a : ℕ) (xs : List X) → drop (length xs - a) (drop a xs) ≡ []
none_behind a xs = let n = length-drop a xs in drop_all (length xs - a) (drop a xs) (omega arith)

-- the rest of a list turned
pub turned : {X : Type 0} (front gone : ℕ) (xs : List X) → front + gone ≤ length xs
    → (new now rot : List X) → now ≡ xs → rot ≡ drop gone (take (length now - front) (drop front now))
    ++ take gone (take (length now - front) (drop front now))
    → new ≡ refill (length xs) xs (take front now ++ (rot ++ drop (length now - front) (drop front now)))
    → new ≡ take front xs ++ (drop gone (drop front xs) ++ take gone (drop front xs))
turned front gone xs within new now rot same turn write =
    let rest : List _ = drop front xs in
    let n = length-drop front xs in
    let all : take (length xs - front) rest ≡ rest = take_all (length xs - front) rest (omega arith) in
    let rot_is : rot ≡ drop gone rest ++ take gone rest = turn
    ∙ ap (λ l. drop gone (take (length l - front) (drop front l)) ++ take gone
    (take (length l - front) (drop front l))) same ∙ ap (λ l. drop gone l ++ take gone l) all in
    let whole : take front now ++ (rot ++ drop (length now - front) (drop front now))
    ≡ take front xs ++ ((drop gone rest ++ take gone rest) ++ []) =
    ap (λ l. take front l ++ (rot ++ drop (length l - front) (drop front l))) same
    ∙ ap (λ l. take front xs ++ (rot ++ l)) (none_behind front xs)
    ∙ ap (λ l. take front xs ++ (l ++ [])) rot_is in
    let lt = length-take front xs in
    let ld = length-drop gone rest in
    let lg = length-take gone rest in
    let la = length-append (drop gone rest) (take gone rest) in
    let ln : length ((drop gone rest ++ take gone rest) ++ []) ≡ length (drop gone rest ++ take gone rest) =
    ap length (append-nil (drop gone rest ++ take gone rest)) in
    let lw = length-append (take front xs) ((drop gone rest ++ take gone rest) ++ []) in
    let full : length (take front xs ++ ((drop gone rest ++ take gone rest) ++ [])) ≡ length xs =
    omega arith in
    write ∙ ap (refill (length xs) xs) whole ∙ refilled (length xs) xs _ full refl
    ∙ ap (λ l. take front xs ++ l) (append-nil (drop gone rest ++ take gone rest))

-- the front is longer where the bound is higher
front_longer : {X : Type 0} (item_of : X → ℕ) (at to : ℕ) (xs : List X) → at ≤ to
    → length (front_of item_of at xs) ≤ length (front_of item_of to xs)
front_longer item_of at to [] le = omega arith
front_longer item_of at to (x ∷ xs) le =
    by (nat_lt (item_of x) at) refl (nat_lt (item_of x) to) refl (front_longer item_of at to xs le)
  where
    by : (b : Bool) → nat_lt (item_of x) at ≡ b → (c : Bool) → nat_lt (item_of x) to ≡ c
        → length (front_of item_of at xs) ≤ length (front_of item_of to xs)
        → length (cond b (x ∷ front_of item_of at xs) []) ≤ length (cond c (x ∷ front_of item_of to xs) [])
    by false e c f h = omega arith
    by true e true f h = omega (arith, h)
    by true e false f h = absurd (grind (arith, nat_tests, e, f, le))

none_dropped : {X : Type 0} (n : ℕ) → drop {A = X} n [] ≡ []
none_dropped zero = refl
none_dropped (suc n) = refl

-- two parts dropped are one
pub drop_drop : {X : Type 0} (n m : ℕ) (xs : List X) → drop n (drop m xs) ≡ drop (m + n) xs
drop_drop n zero xs = let e : n ≡ 0 + n = omega arith in ap (λ k. drop k xs) e
drop_drop n (suc m) [] = none_dropped n ∙ sym (none_dropped (suc m + n))
drop_drop n (suc m) (x ∷ xs) =
    let e : suc (m + n) ≡ suc m + n = omega arith in drop_drop n m xs ∙ ap (λ k. drop k (x ∷ xs)) e

-- what stays once those in between stand last and are cut off
pub cut_off : {X : Type 0} (item_of : X → ℕ) (at to : ℕ) (xs : List X) (front behind : ℕ) → at ≤ to
    → front ≤ length xs → behind ≤ length xs
    → take front xs ≡ front_of item_of at xs → take behind xs ≡ front_of item_of to xs
    → drop behind xs ≡ rear_of item_of to xs
    → take (length xs - (behind - front))
    (take front xs ++ (drop (behind - front) (drop front xs) ++ take (behind - front) (drop front xs)))
    ≡ front_of item_of at xs ++ rear_of item_of to xs
cut_off item_of at to xs front behind le within below is_front is_behind is_rear =
    let longer = front_longer item_of at to xs le in
    let n = length-take front xs in
    let m = length-take behind xs in
    let a : length (take front xs) ≡ length (front_of item_of at xs) = ap length is_front in
    let b : length (take behind xs) ≡ length (front_of item_of to xs) = ap length is_behind in
    let order : front ≤ behind = omega arith in
    let rest = length-drop front xs in
    let more = length-drop (behind - front) (drop front xs) in
    let join = length-append (take front xs) (drop (behind - front) (drop front xs)) in
    let size : length (take front xs ++ drop (behind - front) (drop front xs))
    ≡ length xs - (behind - front) = omega arith in
    let sum : front + (behind - front) ≡ behind = omega arith in
    ap (take (length xs - (behind - front)))
    (sym (append_assoc (take front xs) (drop (behind - front) (drop front xs))
    (take (behind - front) (drop front xs))))
    ∙ take_at (take front xs ++ drop (behind - front) (drop front xs))
    (take (behind - front) (drop front xs)) _ size
    ∙ ap (λ l. take front xs ++ l) (drop_drop (behind - front) front xs ∙ ap (λ k. drop k xs) sum ∙ is_rear)
    ∙ ap (λ l. l ++ rear_of item_of to xs) is_front

-- what stays, where those in between were counted, turned to the end and cut off
pub taken_out : {X : Type 0} (item_of : X → ℕ) (at to : ℕ) (xs seen seen' : List X)
    (front behind gone len : ℕ) → at ≤ to → seen ≡ xs → seen' ≡ xs
    → front ≤ length seen → take front seen ≡ front_of item_of at seen
    → behind ≤ length seen' → take behind seen' ≡ front_of item_of to seen'
    → drop behind seen' ≡ rear_of item_of to seen'
    → gone ≡ behind - front → len ≡ length xs
    → (now rot : List X) → now ≡ xs → rot ≡ drop gone (take (length now - front) (drop front now))
    ++ take gone (take (length now - front) (drop front now))
    → take (len - gone) (refill (length xs) xs
    (take front now ++ (rot ++ drop (length now - front) (drop front now))))
    ≡ front_of item_of at xs ++ rear_of item_of to xs
taken_out item_of at to xs seen seen' front behind gone len le same same' within is_front below is_behind
    is_rear difference all now rot is turn =
    let n : length seen ≡ length xs = ap length same in
    let m : length seen' ≡ length xs = ap length same' in
    let longer = front_longer item_of at to xs le in
    let front_is : take front xs ≡ front_of item_of at xs =
    subst (λ l. take front l ≡ front_of item_of at l) same is_front in
    let behind_is : take behind xs ≡ front_of item_of to xs =
    subst (λ l. take behind l ≡ front_of item_of to l) same' is_behind in
    let rear_is : drop behind xs ≡ rear_of item_of to xs =
    subst (λ l. drop behind l ≡ rear_of item_of to l) same' is_rear in
    let a : length (take front xs) ≡ length (front_of item_of at xs) = ap length front_is in
    let b : length (take behind xs) ≡ length (front_of item_of to xs) = ap length behind_is in
    let c = length-take front xs in
    let d = length-take behind xs in
    ap (λ k. take (k - gone)
    (refill (length xs) xs (take front now ++ (rot ++ drop (length now - front) (drop front now))))) all
    ∙ ap (take (length xs - gone)) (turned front gone xs (omega arith) _ now rot is turn refl)
    ∙ ap (λ k. take (length xs - k) (take front xs ++ (drop k (drop front xs) ++ take k (drop front xs))))
    difference
    ∙ cut_off item_of at to xs front behind le (omega arith) (omega arith) front_is behind_is rear_is

-- others between, where they were put at the end and turned to their place
pub put_between : {X : Type 0} (item_of : X → ℕ) (at : ℕ) (xs ys all seen : List X) (front rear : ℕ)
    → seen ≡ xs
    → front ≤ length seen → take front seen ≡ front_of item_of at seen
    → drop front seen ≡ rear_of item_of at seen
    → rear ≡ length xs - front → all ≡ xs ++ ys
    → (now rot : List X) → now ≡ all → rot ≡ drop rear (take (length now - front) (drop front now))
    ++ take rear (take (length now - front) (drop front now))
    → refill (length all) all (take front now ++ (rot ++ drop (length now - front) (drop front now)))
    ≡ front_of item_of at xs ++ (ys ++ rear_of item_of at xs)
put_between item_of at xs ys all seen front rear same within is_front is_rear difference joined now
    rot is turn =
    let n : length seen ≡ length xs = ap length same in
    let m : length all ≡ length xs + length ys = ap length joined ∙ length-append xs ys in
    let front_is : take front xs ≡ front_of item_of at xs =
    subst (λ l. take front l ≡ front_of item_of at l) same is_front in
    let rear_is : drop front xs ≡ rear_of item_of at xs =
    subst (λ l. drop front l ≡ rear_of item_of at l) same is_rear in
    let inside : front ≤ length xs = omega arith in
    let size : length (drop front xs) ≡ rear = length-drop front xs ∙ sym difference in
    let first : take front all ≡ take front xs = ap (take front) joined ∙ take-append-le front xs ys inside in
    let rest : drop front all ≡ drop front xs ++ ys = ap (drop front) joined
    ∙ drop-append-le front xs ys inside in
    let behind : drop rear (drop front all) ≡ ys = ap (drop rear) rest
    ∙ drop_at (drop front xs) ys rear size in
    let ahead : take rear (drop front all) ≡ drop front xs = ap (take rear) rest
    ∙ take_at (drop front xs) ys rear size in
    turned front rear all (omega arith) _ now rot is turn refl
    ∙ ap (λ l. l ++ (drop rear (drop front all) ++ take rear (drop front all))) (first ∙ front_is)
    ∙ ap (λ l. front_of item_of at xs ++ (l ++ take rear (drop front all))) behind
    ∙ ap (λ l. front_of item_of at xs ++ (ys ++ l)) (ahead ∙ rear_is)

parts_length : {X : Type 0} (item_of : X → ℕ) (to : ℕ) (xs : List X)
    → length (front_of item_of to xs) + length (rear_of item_of to xs) ≡ length xs
parts_length item_of to [] = refl
parts_length item_of to (x ∷ xs) = by (nat_lt (item_of x) to) (parts_length item_of to xs)
  where
    by : (b : Bool) → length (front_of item_of to xs) + length (rear_of item_of to xs) ≡ length xs
        → length (cond b (x ∷ front_of item_of to xs) []) + length (cond b (rear_of item_of to xs) (x ∷ xs))
        ≡ length (x ∷ xs)
    by true h = omega (arith, h)
    by false h = omega arith

-- what stays is no longer
pub length_stays : {X : Type 0} (item_of : X → ℕ) (p : ItemSplice) (xs : List X) → p.at < 2 ^ 64
    → length (stays item_of p xs) ≤ length xs
length_stays item_of p xs small =
    let to = sum_of p.at p.removed in
    let longer = front_longer item_of p.at to xs (omega (arith, small)) in
    let all = parts_length item_of to xs in
    let both = length-append (front_of item_of p.at xs) (rear_of item_of to xs) in
    omega (arith, longer, all, both)

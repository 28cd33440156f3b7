-- Lists of declarers and users, as they are kept and as they are seen.
use Rattle.std.proofs.Common.{◌≡◌, ℕ, ◌-◌, nat_lt, Bool, true, false, cond, List, [], ◌∷◌, length, take, drop}
use Rattle.std.proofs.Common.{map, refl, ap, arith, length-drop}
use Rattle.std.proofs.lemmas.List.{take_all}
use Rattle.x_uses.specs.Occurrences.{declarer_of}
use Rattle.x_uses.specs.Slots.{front_of, rear_of, declarer_item, item_of_declarer}
use Rattle.x_uses.specs.declared.uses.slot.CompactDeclarer.{CompactDeclarer}

pub front_seen : (bound : ℕ) (xs : List CompactDeclarer)
    → map declarer_of (front_of declarer_item bound xs) ≡ front_of item_of_declarer bound (map declarer_of xs)
front_seen bound [] = refl
front_seen bound (x ∷ xs) = by (nat_lt x.item bound) (front_seen bound xs)
  where
    by : (b : Bool) → map declarer_of (front_of declarer_item bound xs)
        ≡ front_of item_of_declarer bound (map declarer_of xs)
        → map declarer_of (cond b (x ∷ front_of declarer_item bound xs) [])
        ≡ cond b (declarer_of x ∷ front_of item_of_declarer bound (map declarer_of xs)) []
    by true h = ap (λ l. declarer_of x ∷ l) h
    by false h = refl

pub rear_seen : (bound : ℕ) (xs : List CompactDeclarer)
    → map declarer_of (rear_of declarer_item bound xs) ≡ rear_of item_of_declarer bound (map declarer_of xs)
rear_seen bound [] = refl
rear_seen bound (x ∷ xs) = by (nat_lt x.item bound) (rear_seen bound xs)
  where
    by : (b : Bool) → map declarer_of (rear_of declarer_item bound xs)
        ≡ rear_of item_of_declarer bound (map declarer_of xs)
        → map declarer_of (cond b (rear_of declarer_item bound xs) (x ∷ xs)) ≡ cond b
        (rear_of item_of_declarer bound (map declarer_of xs)) (declarer_of x ∷ map declarer_of xs)
    by true h = h
    by false h = refl

-- the rest of a list up to its end
pub rest_of : {X : Type 0} (n : ℕ) (xs : List X) → take (length xs - n) (drop n xs) ≡ drop n xs
rest_of n xs = let e = length-drop n xs in take_all (length xs - n) (drop n xs) (omega (arith, e))

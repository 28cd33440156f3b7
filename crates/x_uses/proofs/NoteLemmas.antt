-- Taking names in, and making room for them.
use Rattle.std.proofs.Common.{◌≡◌, ℕ, suc, ◌-◌, Bool, true, false, cond, List, [], ◌∷◌, ◌++◌, length, map}
use Rattle.std.proofs.Common.{Option, None, Some, ◌⊎◌, inl, inr, refl, sym, ap, subst, ◌∙◌, arith}
use Rattle.std.specs.Prelude.{slice_get, nat_eq, OnOk, OnErr, Result, Ok, Err}
use Rattle.std.specs.Str.{bytes_eq}
use Rattle.std.proofs.lemmas.Slice.Eq.{bytes_eq-Decides}
use Rattle.std.proofs.lemmas.List.{map-append}
use Rattle.x_uses.specs.Occurrences.{declarers_at, users_at, declarer_of, HasRoom}
use Rattle.x_uses.specs.Slots.{Entries, slot_at, Changes, empty_slot, ends_at, noted, noted_some, Notes}
use Rattle.x_uses.specs.Slots.{HasSameSlots, HasSameLists, KeepsRooms, Widens, item_of_declarer}
use Rattle.x_uses.specs.Slots.{declarer_item, user_item}
use Rattle.x_uses.specs.declared.uses.slot.CompactDeclarer.{CompactDeclarer}
use Rattle.x_uses.specs.declared.uses.slot.Slot.{Slot}

-- the last of a list
pub ends_with : {X : Type 0} (item_of : X → ℕ) (item : ℕ) (xs : List X) (x : X)
    → slice_get xs (length xs - 1) ≡ Some x → ends_at item_of item xs ≡ nat_eq (item_of x) item
ends_with item_of item [] x h = absurd (cc)
ends_with item_of item (y ∷ []) x h = let same : y ≡ x = cc in ap (λ z. nat_eq (item_of z) item) same
ends_with item_of item (y ∷ z ∷ ys) x h =
    let last : length (y ∷ z ∷ ys) - 1 ≡ suc (length (z ∷ ys) - 1) = omega arith in
    ends_with item_of item (z ∷ ys) x (sym (ap (slice_get (y ∷ z ∷ ys)) last) ∙ h)

-- the same declarers, as they are kept
noted_alike : (xs : List CompactDeclarer) (item : ℕ)
    → ends_at item_of_declarer item (map declarer_of xs) ≡ ends_at declarer_item item xs
noted_alike [] item = refl
noted_alike (x ∷ []) item = refl
noted_alike (x ∷ y ∷ xs) item = noted_alike (y ∷ xs) item

seen_noted : (xs : List CompactDeclarer) (x : CompactDeclarer)
    → map declarer_of (noted declarer_item xs x) ≡ noted item_of_declarer (map declarer_of xs) (declarer_of x)
seen_noted xs x = by (ends_at declarer_item x.item xs) (noted_alike xs x.item)
  where
    by : (b : Bool) → ends_at item_of_declarer x.item (map declarer_of xs) ≡ b
        → map declarer_of (cond b xs (xs ++ x ∷ []))
        ≡ noted item_of_declarer (map declarer_of xs) (declarer_of x)
    by true e = sym (ap (λ b. cond b (map declarer_of xs) (map declarer_of xs ++ declarer_of x ∷ [])) e)
    by false e = map-append declarer_of xs (x ∷ [])
        ∙ sym (ap (λ b. cond b (map declarer_of xs) (map declarer_of xs ++ declarer_of x ∷ [])) e)

-- what a name has whose slot was put in or written over
module _ {Y : Type 0} (at : Option Slot → List Y) (old new : Entries) (name : List ℕ) (w : Slot)
    (write : Changes old new name (λ _. Some w)) where
  list_after : (other : List ℕ) (b : Bool) → bytes_eq other name ≡ b
      → at (slot_at new other) ≡ cond b (at (Some w)) (at (slot_at old other))
  list_after other true e = ap at (write other ∙ ap (λ b. cond b (Some w) (slot_at old other)) e)
  list_after other false e = ap at (write other ∙ ap (λ b. cond b (Some w) (slot_at old other)) e)

  -- the list is the same
  pub same_list : at (Some w) ≡ at (slot_at old name) → (other : List ℕ)
      → at (slot_at new other) ≡ at (slot_at old other)
  same_list same other = by (bytes_eq other name) refl
    where
      by : (b : Bool) → bytes_eq other name ≡ b → at (slot_at new other) ≡ at (slot_at old other)
      by true e = list_after other true e ∙ same
          ∙ ap (λ n. at (slot_at old n)) (sym ((bytes_eq-Decides other name).0 e))
      by false e = list_after other false e

  -- one more is in it
  pub more_in_list : (item_of : Y → ℕ) (y : Y) → at (Some w) ≡ noted item_of (at (slot_at old name)) y
      → (other : List ℕ) → at (slot_at new other)
      ≡ noted_some item_of (at (slot_at old other)) (cond (bytes_eq other name) (Some y) None)
  more_in_list item_of y more other = by (bytes_eq other name) refl
    where
      by : (b : Bool) → bytes_eq other name ≡ b
          → at (slot_at new other) ≡ noted_some item_of (at (slot_at old other)) (cond b (Some y) None)
      by true e = list_after other true e ∙ more
          ∙ ap (λ l. noted item_of l y)
          (ap (λ n. at (slot_at old n)) (sym ((bytes_eq-Decides other name).0 e)))
      by false e = list_after other false e

-- the slot that a name had, or an empty one
abbrev pub HadSlot : Entries → List ℕ → Slot → Type 0
HadSlot old name s = (slot_at old name ≡ Some s) ⊎ ((slot_at old name ≡ None) × (s ≡ empty_slot))

had_declarers : (old : Entries) (name : List ℕ) (s : Slot) → HadSlot old name s
    → map declarer_of s.declarers.items ≡ declarers_at (slot_at old name)
had_declarers old name s (inl e) = sym (ap declarers_at e)
had_declarers old name s (inr e) = ap (λ t. map declarer_of t.declarers.items) e.1 ∙ sym (ap declarers_at e.0)

had_users : (old : Entries) (name : List ℕ) (s : Slot) → HadSlot old name s
    → s.users.items ≡ users_at (slot_at old name)
had_users old name s (inl e) = sym (ap users_at e)
had_users old name s (inr e) = ap (λ t. t.users.items) e.1 ∙ sym (ap users_at e.0)

pub user_noted : (old new : Entries) (name : List ℕ) (s w : Slot) (item : ℕ) → HadSlot old name s
    → Changes old new name (λ _. Some w)
    → w.declarers.items ≡ s.declarers.items → w.users.items ≡ noted user_item s.users.items item
    → Notes old new (λ _. None) (λ other. bytes_eq other name) item
user_noted old new name s w item had write same more = record {
  declarers = same_list declarers_at old new name w write
      (ap (map declarer_of) same ∙ had_declarers old name s had);
  users = more_in_list users_at old new name w write user_item item
      (more ∙ ap (λ l. noted user_item l item) (had_users old name s had));
}

pub declarer_noted : (old new : Entries) (name : List ℕ) (s w : Slot) (d : CompactDeclarer)
    → HadSlot old name s → Changes old new name (λ _. Some w)
    → w.declarers.items ≡ noted declarer_item s.declarers.items d
    → w.users.items ≡ noted user_item s.users.items d.item
    → Notes old new (λ other. cond (bytes_eq other name) (Some (declarer_of d)) None)
    (λ other. bytes_eq other name) d.item
declarer_noted old new name s w d had write more users = record {
  declarers = more_in_list declarers_at old new name w write item_of_declarer (declarer_of d)
      (ap (map declarer_of) more ∙ seen_noted s.declarers.items d
      ∙ ap (λ l. noted item_of_declarer l (declarer_of d)) (had_declarers old name s had));
  users = more_in_list users_at old new name w write user_item d.item
      (users ∙ ap (λ l. noted user_item l d.item) (had_users old name s had));
}

-- ---- room

pub room_made : (old new : Entries) (name : List ℕ) (s w : Slot) → HadSlot old name s
    → Changes old new name (λ _. Some w) → Widens s w → HasSameLists old new
room_made old new name s w had write h = record {
  declarers = same_list declarers_at old new name w write
      (ap (map declarer_of) h.declarers ∙ had_declarers old name s had);
  users = same_list users_at old new name w write (h.users ∙ had_users old name s had);
}

-- a slot that is widened has as much room
wide : (s w f : Slot) → Widens s w → HasRoom (Some s) f → HasRoom (Some w) f
wide s w f h room =
    let a : length w.declarers.items ≡ length s.declarers.items = ap length h.declarers in
    let b : length w.users.items ≡ length s.users.items = ap length h.users in
    let c = h.declarer_room in
    let d = h.user_room in
    let x = room.0 in
    let y = room.1 in
    (omega arith, omega arith)

pub rooms_kept : (old new : Entries) (name : List ℕ) (s w : Slot) → HadSlot old name s
    → Changes old new name (λ _. Some w) → Widens s w → KeepsRooms old new
rooms_kept old new name s w had write h other f room = by (bytes_eq other name) refl
  where
    here : HadSlot old name s → HasRoom (slot_at old name) f → HasRoom (Some w) f
    here (inl e) has = wide s w f h (subst (λ o. HasRoom o f) e has)
    here (inr e) has = absurd (subst (λ o. HasRoom o f) e.0 has)

    by : (b : Bool) → bytes_eq other name ≡ b → HasRoom (slot_at new other) f
    by false e = subst (λ o. HasRoom o f)
        (sym (write other ∙ ap (λ b. cond b (Some w) (slot_at old other)) e)) room
    by true e =
        subst (λ o. HasRoom o f) (sym (write other ∙ ap (λ b. cond b (Some w) (slot_at old other)) e))
        (here had (subst (λ n. HasRoom (slot_at old n) f) ((bytes_eq-Decides other name).0 e) room))

pub room_there : (old new : Entries) (name : List ℕ) (w f : Slot) → Changes old new name (λ _. Some w)
    → HasRoom (Some w) f → HasRoom (slot_at new name) f
room_there old new name w f write room =
    subst (λ o. HasRoom o f)
    (sym (write name ∙ ap (λ b. cond b (Some w) (slot_at old name)) ((bytes_eq-Decides name name).1 refl)))
    room

-- ---- where a slot could not be put in

pub lists_stay : (old new : Entries) → HasSameSlots old new → HasSameLists old new
lists_stay old new h =
    record { declarers = λ name. ap declarers_at (h name); users = λ name. ap users_at (h name) }

pub rooms_stay : (old new : Entries) → HasSameSlots old new → KeepsRooms old new
rooms_stay old new h name f room = subst (λ o. HasRoom o f) (sym (h name)) room

-- ---- results

pub on_ok_both : {T E P Q R : Type 0} (r : Result T E) → (P → Q → R) → OnOk r P → OnOk r Q → OnOk r R
on_ok_both (Ok x) f p q = f p q
on_ok_both (Err e) f p q = tt

pub on_either : {T E P : Type 0} (r : Result T E) → OnOk r P → OnErr r P → P
on_either (Ok x) p q = p
on_either (Err e) p q = q

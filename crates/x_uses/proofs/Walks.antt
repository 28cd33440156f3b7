-- Going over the names of one table, and changing another at each.
use Rattle.std.proofs.Common.{◌≡◌, ℕ, Bool, true, false, cond, List, [], ◌∷◌, Option, None, Some, refl, sym}
use Rattle.std.proofs.Common.{ap, subst, ◌∙◌, ◌⊎◌, inl, inr}
use Rattle.std.specs.Global.{Vec}
use Rattle.std.specs.List.{IsDistinct, AllByRecursion}
use Rattle.std.specs.Map.{keys_of}
use Rattle.std.specs.Str.{bytes_eq}
use Rattle.std.proofs.lemmas.Slice.Eq.{bytes_eq-Decides}
use Rattle.x_uses.specs.Occurrences.{HasRoom}
use Rattle.x_uses.specs.Slots.{Entries, slot_at, by_slot, Changes, ChangesEach, HasSameLists, RoomFor}
use Rattle.x_uses.specs.Slots.{KeepsRooms}
use Rattle.x_uses.specs.declared.uses.slot.Slot.{Slot}
use Rattle.x_uses.proofs.TableLemmas.{same_name}

-- none of these entries has the name
absent : (name : List ℕ) (es : Entries)
    → AllByRecursion (λ (k : Vec ℕ). bytes_eq name k.items ≡ false) (keys_of es) → slot_at es name ≡ None
absent name [] h = refl
absent name (e ∷ es) h = ap (λ b. cond b (Some e.1) (slot_at es name)) h.0 ∙ absent name es h.1

-- the names that are left are distinct, and once they are changed all is as wanted
pub record IsWalked (change : Slot → Option Slot → Option Slot) (left now : Entries)
    (wanted : List ℕ → Option Slot) : Type 0 where
  pub distinct : IsDistinct same_name (keys_of left)
  pub rest : (name : List ℕ) → by_slot change (slot_at left name) (slot_at now name) ≡ wanted name

-- what is to be found of a name in the end
abbrev pub wanted_of : (Slot → Option Slot → Option Slot) → Entries → Entries → List ℕ → Option Slot
wanted_of change names old name = by_slot change (slot_at names name) (slot_at old name)

pub walk_starts : (change : Slot → Option Slot → Option Slot) (left names old : Entries) → left ≡ names
    → IsDistinct same_name (keys_of names) → IsWalked change left old (wanted_of change names old)
walk_starts change left names old is distinct = record {
  distinct = subst (λ l. IsDistinct same_name (keys_of l)) (sym is) distinct;
  rest = λ name. ap (λ l. by_slot change (slot_at l name) (slot_at old name)) is;
}

-- the first of the names that are left, and no later one
first_name : (key : Vec ℕ) (f : Slot) (rest : Entries) → IsDistinct same_name (key ∷ keys_of rest)
    → slot_at rest key.items ≡ None
unfolding IsDistinct
first_name key f rest h = absent key.items rest h.0

pub walk_goes_on : (change : Slot → Option Slot → Option Slot) (left rest : Entries) (key : Vec ℕ) (f : Slot)
    (now next : Entries) (wanted : List ℕ → Option Slot)
    → left ≡ (key, f) ∷ rest → Changes now next key.items (change f) → IsWalked change left now wanted
    → IsWalked change rest next wanted
unfolding IsDistinct
walk_goes_on change left rest key f now next wanted is step h =
    record { distinct = distinct.1; rest = λ name. by name (bytes_eq name key.items) refl }
  where
    distinct : IsDistinct same_name (key ∷ keys_of rest)
    distinct = subst (λ l. IsDistinct same_name (keys_of l)) is h.distinct

    by : (name : List ℕ) (b : Bool) → bytes_eq name key.items ≡ b
        → by_slot change (slot_at rest name) (slot_at next name) ≡ wanted name
    by name true e =
        let same : name ≡ key.items = (bytes_eq-Decides name key.items).0 e in
        let gone : slot_at rest name ≡ None = ap (slot_at rest) same ∙ first_name key f rest distinct in
        let here : slot_at left name ≡ Some f = ap (λ l. slot_at l name) is
        ∙ ap (λ b. cond b (Some f) (slot_at rest name)) e in
        let new : slot_at next name ≡ change f (slot_at now name) = step name
        ∙ ap (λ b. cond b (change f (slot_at now name)) (slot_at now name)) e in
        ap (λ o. by_slot change o (slot_at next name)) gone ∙ new
        ∙ sym (ap (λ o. by_slot change o (slot_at now name)) here) ∙ h.rest name
    by name false e =
        let there : slot_at left name ≡ slot_at rest name = ap (λ l. slot_at l name) is
        ∙ ap (λ b. cond b (Some f) (slot_at rest name)) e in
        let new : slot_at next name ≡ slot_at now name = step name
        ∙ ap (λ b. cond b (change f (slot_at now name)) (slot_at now name)) e in
        ap (by_slot change (slot_at rest name)) new
        ∙ sym (ap (λ o. by_slot change o (slot_at now name)) there) ∙ h.rest name

pub walk_ends : (change : Slot → Option Slot → Option Slot) (left names old now : Entries) → left ≡ []
    → IsWalked change left now (wanted_of change names old) → ChangesEach old now names change
walk_ends change left names old now none h name =
    sym (ap (λ l. by_slot change (slot_at l name) (slot_at now name)) none) ∙ h.rest name

-- ---- room

-- the first of the names that are left has room
pub room_here : (left rest : Entries) (key : Vec ℕ) (f : Slot) (now : Entries) → left ≡ (key, f) ∷ rest
    → RoomFor now left → HasRoom (slot_at now key.items) f
room_here left rest key f now is room =
    room key.items f (ap (λ l. slot_at l key.items) is
    ∙ ap (λ b. cond b (Some f) (slot_at rest key.items)) ((bytes_eq-Decides key.items key.items).1 refl))

-- the others still have, once it is changed
pub room_goes_on : (change : Slot → Option Slot → Option Slot) (left rest : Entries) (key : Vec ℕ) (f : Slot)
    (now next : Entries) (wanted : List ℕ → Option Slot)
    → left ≡ (key, f) ∷ rest → Changes now next key.items (change f) → IsWalked change left now wanted
    → RoomFor now left → RoomFor next rest
room_goes_on change left rest key f now next wanted is step h room name g there =
    by (bytes_eq name key.items) refl
  where
    distinct : IsDistinct same_name (key ∷ keys_of rest)
    distinct = subst (λ l. IsDistinct same_name (keys_of l)) is h.distinct

    by : (b : Bool) → bytes_eq name key.items ≡ b → HasRoom (slot_at next name) g
    by true e =
        let gone : slot_at rest name ≡ None = ap (slot_at rest) ((bytes_eq-Decides name key.items).0 e)
        ∙ first_name key f rest distinct in
        absurd (cc)
    by false e =
        let here : slot_at left name ≡ Some g = ap (λ l. slot_at l name) is
        ∙ ap (λ b. cond b (Some f) (slot_at rest name)) e ∙ there in
        let new : slot_at next name ≡ slot_at now name = step name
        ∙ ap (λ b. cond b (change f (slot_at now name)) (slot_at now name)) e in
        subst (λ o. HasRoom o g) (sym new) (room name g here)

-- what is not among the names that are left has room
abbrev pub HasMadeRoom : Entries → Entries → Entries → Type 0
HasMadeRoom names left now = (name : List ℕ) (f : Slot) → slot_at names name ≡ Some f
    → (slot_at left name ≡ Some f) ⊎ HasRoom (slot_at now name) f

pub more_room : (names left rest : Entries) (key : Vec ℕ) (f : Slot) (now next : Entries)
    → left ≡ (key, f) ∷ rest
    → HasRoom (slot_at next key.items) f → KeepsRooms now next → HasMadeRoom names left now
    → HasMadeRoom names rest next
more_room names left rest key f now next is room rooms h name g there = by (h name g there)
  where
    chosen : (b : Bool) → bytes_eq name key.items ≡ b → cond b (Some f) (slot_at rest name) ≡ Some g
        → (slot_at rest name ≡ Some g) ⊎ HasRoom (slot_at next name) g
    chosen true e here =
        let same : f ≡ g = cc in
        inr (subst (λ n. HasRoom (slot_at next n) g) (sym ((bytes_eq-Decides name key.items).0 e))
        (subst (HasRoom (slot_at next key.items)) same room))
    chosen false e here = inl here

    by : (slot_at left name ≡ Some g) ⊎ HasRoom (slot_at now name) g
        → (slot_at rest name ≡ Some g) ⊎ HasRoom (slot_at next name) g
    by (inl here) = chosen (bytes_eq name key.items) refl (sym (ap (λ l. slot_at l name) is) ∙ here)
    by (inr has) = inr (rooms name g has)

pub all_room : (names left now : Entries) → left ≡ [] → HasMadeRoom names left now → RoomFor now names
all_room names left now none h name f there = by (h name f there)
  where
    by : (slot_at left name ≡ Some f) ⊎ HasRoom (slot_at now name) f → HasRoom (slot_at now name) f
    by (inl here) = let gone : slot_at left name ≡ None = ap (λ l. slot_at l name) none in absurd (cc)
    by (inr has) = has

-- ---- lists that stay

pub same_again : (a b c : Entries) → HasSameLists a b → HasSameLists b c → HasSameLists a c
same_again a b c h k =
    record {
      declarers = λ name. k.declarers name ∙ h.declarers name;
      users = λ name. k.users name ∙ h.users name;
    }

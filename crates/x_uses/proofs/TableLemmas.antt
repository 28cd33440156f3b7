-- Looking names up in a table that changes.
use Rattle.std.proofs.Common.{◌≡◌, ℕ, zero, suc, ◌+◌, Bool, true, false, cond, List, [], ◌∷◌, ◌++◌, take}
use Rattle.std.proofs.Common.{drop, map, Option, None, Some, refl, sym, ap, subst, ◌∙◌, arith, true≢false}
use Rattle.std.specs.Prelude.{is_some, slice_get, option_map}
use Rattle.std.specs.Global.{Vec}
use Rattle.std.specs.Map.{lookup, IsKeyTest, KeepsOthers}
use Rattle.std.specs.HashMap.{HashMap, UpdatesBy, WritesThrough}
use Rattle.std.specs.Str.{bytes_eq}
use Rattle.std.proofs.lemmas.Slice.Eq.{bytes_eq-Decides}
use Rattle.indexmap.specs.IndexMap.{IndexMap, IsUnique, set_value_at, values, with_value_at}
use Rattle.indexmap.proofs.CallerLemmas.{updates-with_value_at}
use Rattle.std.specs.Cmp.{IsEquivalence}
use Rattle.std.proofs.lemmas.Cmp.{nat_list_eq_equiv}
use Rattle.x_uses.specs.Occurrences.{UseTable, declarer_of, declarers_at, users_at, declarers_in, users_in}
use Rattle.x_uses.specs.Occurrences.{slot_in, HasRoom, HasRoomFor, IsSameTable}
use Rattle.x_uses.specs.Slots.{Entries, slot_at, Changes, HasSameLists, StandsIn, AreEmptyFrom}
use Rattle.x_uses.specs.Slots.{names_of_entries, RoomFor}
use Rattle.x_uses.specs.declared.uses.slot.Slot.{Slot}

-- names are compared by their bytes
abbrev pub same_name : Vec ℕ → Vec ℕ → Bool
same_name a b = bytes_eq a.items b.items

-- once the entry of a name has changed
after_change : {K X : Type 0} (eq : K → K → Bool) (text : K → List ℕ)
    → ((a b : K) → eq a b ≡ bytes_eq (text a) (text b))
    → (name other : List ℕ) (old new : List (K × X)) (w : Option X)
    → lookup (λ k. bytes_eq name (text k)) new ≡ w → KeepsOthers eq (λ k. bytes_eq name (text k)) old new
    → lookup (λ k. bytes_eq other (text k)) new
    ≡ cond (bytes_eq other name) w (lookup (λ k. bytes_eq other (text k)) old)
unfolding KeepsOthers
after_change {K} {X} eq text is name other old new w here others = by (bytes_eq other name) refl
  where
    key : IsKeyTest eq (λ k. bytes_eq other (text k))
    key x y h = ap (λ n. bytes_eq n (text y)) ((bytes_eq-Decides other (text x)).0 h) ∙ sym (is x y)

    by : (b : Bool) → bytes_eq other name ≡ b
        → lookup (λ k. bytes_eq other (text k)) new ≡ cond b w (lookup (λ k. bytes_eq other (text k)) old)
    by true e = ap (λ n. lookup (λ k. bytes_eq n (text k)) new) ((bytes_eq-Decides other name).0 e) ∙ here
    by false e = others (λ k. bytes_eq other (text k)) key
        (λ k h. ap (bytes_eq other) (sym ((bytes_eq-Decides name (text k)).0 h)) ∙ e)

-- the slot of a name is changed, and no other
pub changed : {S : Type 0} (old new : HashMap (Vec ℕ) Slot S) (name : List ℕ) (w : Option Slot)
    (change : Option Slot → Option Slot)
    → UpdatesBy same_name (λ k. bytes_eq name k.items) old new w → w ≡ change (slot_at old.entries name)
    → Changes old.entries new.entries name change
changed old new name w change h is other =
    after_change same_name (λ k. k.items) (λ a b. refl) name other old.entries new.entries w h.1 h.3
    ∙ chosen (bytes_eq other name) refl
  where
    chosen : (b : Bool) → bytes_eq other name ≡ b → cond b w (slot_at old.entries other)
        ≡ cond b (change (slot_at old.entries other)) (slot_at old.entries other)
    chosen true e = is ∙ ap (λ n. change (slot_at old.entries n)) (sym ((bytes_eq-Decides other name).0 e))
    chosen false e = refl

-- where it was written over
pub written : {S : Type 0} (old new : HashMap (Vec ℕ) Slot S) (name : List ℕ) (s w : Slot)
    (change : Option Slot → Option Slot)
    → slot_at old.entries name ≡ Some s → Some w ≡ change (Some s)
    → WritesThrough same_name (λ k. bytes_eq name k.items) old w new
    → Changes old.entries new.entries name change
written old new name s w change there is h =
    changed old new name (Some w) change (h.3 (ap is_some there)) (is ∙ ap change (sym there))

-- where it was put in
pub inserted : {S : Type 0} (old new : HashMap (Vec ℕ) Slot S) (key : Vec ℕ) (name : List ℕ) (w : Slot)
    (change : Option Slot → Option Slot)
    → key.items ≡ name → UpdatesBy same_name (same_name key) old new (Some w)
    → Some w ≡ change (slot_at old.entries name) → Changes old.entries new.entries name change
inserted old new key name w change same h is =
    subst (λ n. Some w ≡ change (slot_at old.entries n) → Changes old.entries new.entries n change) same
    (changed old new key.items (Some w) change h) is

-- a name without declarers and users is taken out
pub forgotten : {S : Type 0} (old new : HashMap (Vec ℕ) Slot S) (name : List ℕ)
    → UpdatesBy same_name (λ k. bytes_eq name k.items) old new None
    → declarers_at (slot_at old.entries name) ≡ [] → users_at (slot_at old.entries name) ≡ []
    → HasSameLists old.entries new.entries
forgotten old new name h no_declarers no_users =
    record {
      declarers = λ other. same declarers_at refl no_declarers other;
      users = λ other. same users_at refl no_users other;
    }
  where
    same : {Y : Type 0} (at : Option Slot → List Y) → at None ≡ [] → at (slot_at old.entries name) ≡ []
        → (other : List ℕ) → at (slot_at new.entries other) ≡ at (slot_at old.entries other)
    same {Y} at none empty other =
        ap at (after_change same_name (λ k. k.items) (λ a b. refl) name other old.entries new.entries None h.1
        h.3) ∙ by (bytes_eq other name) refl
      where
        by : (b : Bool) → bytes_eq other name ≡ b
            → at (cond b None (slot_at old.entries other)) ≡ at (slot_at old.entries other)
        by false e = refl
        by true e = none
            ∙ sym (ap (λ n. at (slot_at old.entries n)) ((bytes_eq-Decides other name).0 e) ∙ empty)

-- slots without declarers and users are as none
empty_at : (es : Entries) → AreEmptyFrom 0 es → (name : List ℕ)
    → (declarers_at (slot_at es name) ≡ []) × (users_at (slot_at es name) ≡ [])
empty_at [] h name = (refl, refl)
empty_at (e ∷ es) h name = by (bytes_eq name e.0.items) (h 0 e (omega arith) refl)
    (empty_at es (λ i x le at. h (suc i) x (omega arith) at) name)
  where
    by : (b : Bool) → (e.1.declarers.items ≡ []) × (e.1.users.items ≡ [])
        → (declarers_at (slot_at es name) ≡ []) × (users_at (slot_at es name) ≡ [])
        → (declarers_at (cond b (Some e.1) (slot_at es name)) ≡ [])
        × (users_at (cond b (Some e.1) (slot_at es name)) ≡ [])
    by true here more = (ap (map declarer_of) here.0, here.1)
    by false here more = more

cut_at : (n : ℕ) (es : Entries) → AreEmptyFrom n es → (name : List ℕ)
    → (declarers_at (slot_at (take n es) name) ≡ declarers_at (slot_at es name))
    × (users_at (slot_at (take n es) name) ≡ users_at (slot_at es name))
cut_at zero es h name = let empty = empty_at es h name in (sym empty.0, sym empty.1)
cut_at (suc n) [] h name = (refl, refl)
cut_at (suc n) (e ∷ es) h name =
    by (bytes_eq name e.0.items) (cut_at n es (λ i x le at. h (suc i) x (omega (arith, le)) at) name)
  where
    by : (b : Bool) → (declarers_at (slot_at (take n es) name) ≡ declarers_at (slot_at es name))
        × (users_at (slot_at (take n es) name) ≡ users_at (slot_at es name))
        → (declarers_at (cond b (Some e.1) (slot_at (take n es) name))
        ≡ declarers_at (cond b (Some e.1) (slot_at es name)))
        × (users_at (cond b (Some e.1) (slot_at (take n es) name))
        ≡ users_at (cond b (Some e.1) (slot_at es name)))
    by true more = (refl, refl)
    by false more = more

-- the last ones are cut off
pub cut_off : (n : ℕ) (old new : Entries) → new ≡ take n old → AreEmptyFrom n old → HasSameLists old new
cut_off n old new is h = record {
  declarers = λ name. ap (λ es. declarers_at (slot_at es name)) is ∙ (cut_at n old h name).0;
  users = λ name. ap (λ es. users_at (slot_at es name)) is ∙ (cut_at n old h name).1;
}

same_name_equiv : IsEquivalence same_name
same_name_equiv = record {
  refl = λ a. nat_list_eq_equiv.refl a.items;
  symm = λ a b. nat_list_eq_equiv.symm a.items b.items;
  congr = λ a b x. nat_list_eq_equiv.congr a.items b.items x.items;
}

value_in : (es : Entries) (i : ℕ) (e : Vec ℕ × Slot) → slice_get es i ≡ Some e
    → slice_get (map (λ x. x.1) es) i ≡ Some e.1
value_in [] zero e h = ap (option_map (λ y. y.1)) h
value_in [] (suc i) e h = ap (option_map (λ y. y.1)) h
value_in (x ∷ es) zero e h = ap (option_map (λ y. y.1)) h
value_in (x ∷ es) (suc i) e h = value_in es i e h

-- what stands in a place is written over
pub written_in : {S : Type 0} (old : IndexMap (Vec ℕ) Slot S) (index : ℕ) (name : List ℕ) (s w : Slot)
    (f : Slot → Slot) → IsUnique same_name old → StandsIn old.entries index name
    → slice_get (values old) index ≡ Some s → w ≡ f s
    → Changes old.entries (with_value_at old index w).entries name (option_map f)
written_in old index name s w f unique stands at is =
    let e = stands.entry in
    let here : Some s ≡ Some e.1 = sym at ∙ value_in old.entries index e stands.there in
    inserted old (with_value_at old index w) e.0 name w (option_map f) stands.is
    (updates-with_value_at old index w same_name_equiv unique e.0 e.1 stands.there) (ap Some is
    ∙ ap (option_map f) (here ∙ sym stands.slot))

-- something stands there
pub not_missing : {S : Type 0} (old : IndexMap (Vec ℕ) Slot S) (index : ℕ) (name : List ℕ)
    → StandsIn old.entries index name → slice_get (values old) index ≡ None → ⊥
not_missing old index name stands none =
    true≢false (ap is_some (sym (value_in old.entries index stands.entry stands.there) ∙ none))

-- ---- all slots in turn

-- each slot by a function
abbrev pub each_slot : (Slot → Slot) → Entries → Entries
each_slot f es = map (λ e. (e.0, f e.1)) es

pub slot_of_each : (f : Slot → Slot) (es : Entries) (name : List ℕ)
    → slot_at (each_slot f es) name ≡ option_map f (slot_at es name)
slot_of_each f [] name = refl
slot_of_each f (e ∷ es) name = by (bytes_eq name e.0.items) (slot_of_each f es name)
  where
    by : (b : Bool) → slot_at (each_slot f es) name ≡ option_map f (slot_at es name)
        → cond b (Some (f e.1)) (slot_at (each_slot f es) name)
        ≡ option_map f (cond b (Some e.1) (slot_at es name))
    by true h = refl
    by false h = h

abbrev slot_get_value : Entries → ℕ → Option Slot
slot_get_value es i = slice_get (map (λ e. e.1) es) i

-- one more of them is written over
at_next : (f : Slot → Slot) (es : Entries) (i : ℕ) (s : Slot) → slot_get_value es i ≡ Some s
    → set_value_at (each_slot f (take i es) ++ drop i es) i (f s) ≡ each_slot f (take (suc i) es)
    ++ drop (suc i) es
at_next f [] zero s h = refl
at_next f [] (suc i) s h = refl
at_next f (e ∷ es) zero s h = let same : e.1 ≡ s = cc in ap (λ t. (e.0, f t) ∷ es) (sym same)
at_next f (e ∷ es) (suc i) s h = ap (λ l. (e.0, f e.1) ∷ l) (at_next f es i s h)

-- what stands there is what stood there
still_there : (f : Slot → Slot) (es : Entries) (i : ℕ)
    → slice_get (map (λ e. e.1) (each_slot f (take i es) ++ drop i es)) i ≡ slot_get_value es i
still_there f [] zero = refl
still_there f [] (suc i) = refl
still_there f (e ∷ es) zero = refl
still_there f (e ∷ es) (suc i) = still_there f es i

pub one_more : (f : Slot → Slot) (es now : Entries) (i : ℕ) (s : Slot)
    → now ≡ each_slot f (take i es) ++ drop i es → slice_get (map (λ e. e.1) now) i ≡ Some s
    → set_value_at now i (f s) ≡ each_slot f (take (i + 1) es) ++ drop (i + 1) es
one_more f es now i s is there =
    let next : suc i ≡ i + 1 = omega arith in
    let here : slot_get_value es i ≡ Some s = sym (still_there f es i)
    ∙ ap (λ l. slice_get (map (λ e. e.1) l) i) (sym is) ∙ there in
    ap (λ l. set_value_at l i (f s)) is ∙ at_next f es i s here
    ∙ ap (λ n. each_slot f (take n es) ++ drop n es) next

-- ---- what a table is seen as

pub slot_seen : (es : Entries) (name : List ℕ) → slot_in (names_of_entries es) name ≡ slot_at es name
slot_seen [] name = refl
slot_seen (e ∷ es) name = ap (cond (bytes_eq name e.0.items) (Some e.1)) (slot_seen es name)

pub lists_seen : (es fs : Entries) (u : UseTable) → names_of_entries es ≡ u → HasSameLists es fs
    → IsSameTable u (names_of_entries fs)
lists_seen es fs u is h = record {
  declarers = λ name. ap declarers_at (slot_seen fs name) ∙ h.declarers name
      ∙ ap declarers_at (sym (slot_seen es name)) ∙ ap (λ t. declarers_in t name) is;
  users = λ name. ap users_at (slot_seen fs name) ∙ h.users name ∙ ap users_at (sym (slot_seen es name))
      ∙ ap (λ t. users_in t name) is;
}

pub room_seen : (es fresh : Entries) (u : UseTable) → names_of_entries fresh ≡ u → RoomFor es fresh
    → HasRoomFor (names_of_entries es) u
room_seen es fresh u is h name f there = subst (λ o. HasRoom o f) (sym (slot_seen es name))
    (h name f (sym (slot_seen fresh name) ∙ ap (λ t. slot_in t name) is ∙ there))

pub room_known : (es fresh : Entries) (t u : UseTable) → names_of_entries es ≡ t → names_of_entries fresh ≡ u
    → HasRoomFor t u → RoomFor es fresh
room_known es fresh t u is is' h name f there =
    subst (λ o. HasRoom o f) (slot_seen es name)
    (subst (λ v. HasRoom (slot_in v name) f) (sym is)
    (h name f (ap (λ v. slot_in v name) (sym is') ∙ slot_seen fresh name ∙ there)))

-- The lists of a name follow an edit.
use Rattle.std.proofs.Common.{◌≡◌, ℕ, suc, ◌+◌, ◌-◌, ◌^◌, ◌<◌, ◌⊎◌, inl, inr, min, Bool, true, false, cond}
use Rattle.std.proofs.Common.{List, [], ◌∷◌, ◌++◌, take, drop, map, Option, None, Some, refl, sym, ap, subst}
use Rattle.std.proofs.Common.{◌∙◌, arith}
use Rattle.std.specs.Prelude.{option_map}
use Rattle.std.specs.List.{splice}
use Rattle.std.specs.Option.{option_or}
use Rattle.std.specs.Str.{bytes_eq}
use Rattle.std.proofs.lemmas.Bool.{cases_eq}
use Rattle.std.proofs.lemmas.List.{map-append, length-map}
use Rattle.x_trees.specs.Tree.{Definition}
use Rattle.x_trees.specs.Names.{Declared, declared}
use Rattle.x_names.specs.Declarers.{declarer_at, place_of_name, declarer_in, first_from}
use Rattle.x_names.specs.declared.names.Declarer.{Declarer}
use Rattle.x_uses.specs.Occurrences.{Definitions, UseTable, declarers_in, sees, put_before, declarers_of}
use Rattle.x_uses.specs.Occurrences.{users_of, declarer_of, declarers_at, users_at, HasRoom, IsUsesOf}
use Rattle.x_uses.specs.Occurrences.{slot_in}
use Rattle.x_uses.specs.Slots.{front_of, rear_of, sum_of, number_after, stays, renumbered, filled}
use Rattle.x_uses.specs.Slots.{declarer_item, put_declarer, user_item, put_user, slot_stays, slot_renumbered}
use Rattle.x_uses.specs.Slots.{slot_filled, Entries, slot_at, by_slot, going, coming, ChangesEach}
use Rattle.x_uses.specs.Slots.{HasSameSlots, HasSameLists, RoomFor, item_of_declarer, with_item, first_of}
use Rattle.x_uses.specs.Slots.{first_after, names_of_entries}
use Rattle.x_uses.specs.declared.uses.ItemSplice.{ItemSplice}
use Rattle.x_uses.specs.declared.uses.slot.CompactDeclarer.{CompactDeclarer}
use Rattle.x_uses.specs.declared.uses.slot.Slot.{Slot}
use Rattle.x_uses.proofs.OccurrenceLaws as laws
use Rattle.x_uses.proofs.OccurrenceLaws.{found, Picks, IsEdit}
use Rattle.x_uses.proofs.NotedLaws.{of_item}
use Rattle.x_uses.proofs.SeenLists.{front_seen, rear_seen}
use Rattle.x_uses.proofs.PlaceLists.{length_stays}
use Rattle.x_uses.proofs.TableLemmas.{slot_seen}

-- ---- the two lists of a name

abbrev pub declarer_pick : List ℕ → ℕ → Option Definition → Option Declarer
declarer_pick name item d = declarer_in item name d

abbrev pub user_pick : List ℕ → ℕ → Option Definition → Option ℕ
user_pick name item d = cond (sees d name) (Some item) None

abbrev pub put_item : ℕ → Declarer → Declarer
put_item item d = with_item (min item (2 ^ 32 - 1)) d

pub declarers_found : (i : ℕ) (ds : Definitions) (name : List ℕ)
    → declarers_of i ds name ≡ found (declarer_pick name) i ds
declarers_found i [] name = refl
declarers_found i (d ∷ ds) name = ap (put_before (declarer_in i name d)) (declarers_found (suc i) ds name)

pub users_found : (i : ℕ) (ds : Definitions) (name : List ℕ)
    → users_of i ds name ≡ found (user_pick name) i ds
users_found i [] name = refl
users_found i (d ∷ ds) name = by (sees d name) (users_found (suc i) ds name)
  where
    by : (b : Bool) → users_of (suc i) ds name ≡ found (user_pick name) (suc i) ds
        → cond b (i ∷ users_of (suc i) ds name) (users_of (suc i) ds name)
        ≡ put_before (cond b (Some i) None) (found (user_pick name) (suc i) ds)
    by true h = ap (λ l. i ∷ l) h
    by false h = h

place_moved : (i j k : ℕ) (name : List ℕ) (xs : List Declared)
    → place_of_name j k name xs ≡ option_map (with_item j) (place_of_name i k name xs)
place_moved i j k name [] = refl
place_moved i j k name (x ∷ xs) = by (bytes_eq name x.name) (place_moved i j (suc k) name xs)
  where
    by : (b : Bool) → place_of_name j (suc k) name xs
        ≡ option_map (with_item j) (place_of_name i (suc k) name xs)
        → cond b (Some (declarer_at j k x)) (place_of_name j (suc k) name xs)
        ≡ option_map (with_item j) (cond b (Some (declarer_at i k x)) (place_of_name i (suc k) name xs))
    by true h = refl
    by false h = h

in_item : (name : List ℕ) (i : ℕ) (d : Option Definition) (y : Declarer) → declarer_in i name d ≡ Some y
    → y.item ≡ i
in_item name i None y h = absurd (cc)
in_item name i (Some d) y h = of_item i 0 name (declared d) y h

moved_in : (name : List ℕ) (i j : ℕ) (d : Option Definition)
    → declarer_in j name d ≡ option_map (with_item j) (declarer_in i name d)
moved_in name i j None = refl
moved_in name i j (Some d) = place_moved i j 0 name (declared d)

pub declarer_picks : (name : List ℕ) → Picks item_of_declarer with_item (declarer_pick name)
declarer_picks name = record { at = in_item name; moves = λ i j d few. moved_in name i j d }

pub kept_picks : (name : List ℕ) → Picks item_of_declarer put_item (declarer_pick name)
kept_picks name = record {
  at = in_item name;
  moves = λ i j d few. moved_in name i j d ∙ ap (λ k. option_map (with_item k) (declarer_in i name d))
      (let e : j ≡ min j (2 ^ 32 - 1) = omega (arith, few) in e);
}

pub user_picks : (name : List ℕ) → Picks user_item put_user (user_pick name)
user_picks name =
    record { at = λ i d y h. at (sees d name) i y h; moves = λ i j d few. moves (sees d name) i j few }
  where
    at : (b : Bool) (i y : ℕ) → cond b (Some i) None ≡ Some y → y ≡ i
    at true i y h = cc
    at false i y h = absurd (cc)

    moves : (b : Bool) (i j : ℕ) → j < 2 ^ 32
        → cond b (Some j) None ≡ option_map (put_user j) (cond b (Some i) None)
    moves true i j few = ap Some (let e : j ≡ min j (2 ^ 32 - 1) = omega (arith, few) in e)
    moves false i j few = refl

-- ---- what a slot shows, over its changes

pub record IsShown {Y : Type 0} (item_of : Y → ℕ) (put : ℕ → Y → Y) (at : Option Slot → List Y) : Type 0 where
  pub none : at None ≡ []
  pub staying : (p : ItemSplice) (s : Slot) → at (Some (slot_stays p s)) ≡ stays item_of p (at (Some s))
  pub numbered : (p : ItemSplice) (s : Slot)
      → at (Some (slot_renumbered p s)) ≡ renumbered item_of put p (at (Some s))
  pub full : (n : ℕ) (f s : Slot)
      → at (Some (slot_filled n f s)) ≡ filled item_of put n (at (Some f)) (at (Some s))

put_seen : (f : ℕ → ℕ) (xs : List CompactDeclarer) → map declarer_of (map (λ x. put_declarer (f x.item) x) xs)
    ≡ map (λ y. put_item (f y.item) y) (map declarer_of xs)
put_seen f [] = refl
put_seen f (x ∷ xs) = ap (λ l. declarer_of (put_declarer (f x.item) x) ∷ l) (put_seen f xs)

pub declarers_shown : IsShown item_of_declarer put_item declarers_at
declarers_shown = record {
  none = refl;
  staying = λ p s.
      map-append declarer_of (front_of declarer_item p.at s.declarers.items)
      (rear_of declarer_item (sum_of p.at p.removed) s.declarers.items)
      ∙ ap (λ l. l ++ map declarer_of (rear_of declarer_item (sum_of p.at p.removed) s.declarers.items))
      (front_seen p.at s.declarers.items)
      ∙ ap (λ l. front_of item_of_declarer p.at (map declarer_of s.declarers.items) ++ l)
      (rear_seen (sum_of p.at p.removed) s.declarers.items);
  numbered = λ p s. put_seen (number_after p) s.declarers.items;
  full = λ n f s.
      let xs = s.declarers.items in
      let ys = f.declarers.items in
      map-append declarer_of (front_of declarer_item n xs)
      (map (λ y. put_declarer (sum_of n y.item) y) ys ++ rear_of declarer_item n xs)
      ∙ ap (λ l. l ++ map declarer_of (map (λ y. put_declarer (sum_of n y.item) y) ys
      ++ rear_of declarer_item n xs)) (front_seen n xs)
      ∙ ap (λ l. front_of item_of_declarer n (map declarer_of xs) ++ l)
      (map-append declarer_of (map (λ y. put_declarer (sum_of n y.item) y) ys) (rear_of declarer_item n xs))
      ∙ ap (λ l. front_of item_of_declarer n (map declarer_of xs)
      ++ (l ++ map declarer_of (rear_of declarer_item n xs))) (put_seen (sum_of n) ys)
      ∙ ap (λ l. front_of item_of_declarer n (map declarer_of xs)
      ++ (map (λ y. put_item (sum_of n y.item) y) (map declarer_of ys) ++ l)) (rear_seen n xs);
}

pub users_shown : IsShown user_item put_user users_at
users_shown = record { none = refl; staying = λ p s. refl; numbered = λ p s. refl; full = λ n f s. refl }

module _ {Y : Type 0} (item_of : Y → ℕ) (put : ℕ → Y → Y) (at : Option Slot → List Y)
    (shown : IsShown item_of put at) where
  staying_in : (p : ItemSplice) (s : Option Slot) → at (option_map (slot_stays p) s) ≡ stays item_of p (at s)
  staying_in p None = shown.none ∙ sym (ap (stays item_of p) shown.none)
  staying_in p (Some s) = shown.staying p s

  numbered_in : (p : ItemSplice) (s : Option Slot)
      → at (option_map (slot_renumbered p) s) ≡ renumbered item_of put p (at s)
  numbered_in p None = shown.none ∙ sym (ap (renumbered item_of put p) shown.none)
  numbered_in p (Some s) = shown.numbered p s

  full_in : (n : ℕ) (f : Slot) (s : Option Slot) → HasRoom s f
      → at (option_map (slot_filled n f) s) ≡ filled item_of put n (at (Some f)) (at s)
  full_in n f None room = absurd room
  full_in n f (Some s) room = shown.full n f s

  -- the list of a name is that of the text after the edit
  pub follows : {D : Type 0} (pick : ℕ → D → Option Y) → Picks item_of put pick
      → (p : ItemSplice) (old fresh : List D) → IsEdit p old fresh
      → (s t u v gone come : Option Slot) → at s ≡ found pick 0 old
      → at gone ≡ found pick 0 (take p.removed (drop p.at old)) → at come ≡ found pick 0 fresh
      → t ≡ by_slot (going p) gone s → (p.removed ≡ p.added → u ≡ t)
      → ((p.removed ≡ p.added → ⊥) → u ≡ option_map (slot_renumbered p) t)
      → v ≡ by_slot (coming p.at) come u → ((f : Slot) → come ≡ Some f → HasRoom u f)
      → at v ≡ found pick 0 (splice old p.at (p.at + p.removed) fresh)
  follows pick is p old fresh edit s t u v gone come is_old is_gone is_come taken same moved put_in room =
      last come refl
    where
      parts : List Y
      parts = laws.front item_of put pick is p old fresh edit
          ++ laws.rear item_of put pick is p old fresh edit

      after : List Y
      after = laws.front item_of put pick is p old fresh edit
          ++ laws.rear_after item_of put pick is p old fresh edit

      first : (g : Option Slot) → gone ≡ g → at t ≡ laws.front item_of put pick is p old fresh edit
          ++ laws.rear item_of put pick is p old fresh edit
      first None e = ap at (taken ∙ ap (λ o. by_slot (going p) o s) e) ∙ is_old
          ∙ laws.all_stay item_of put pick is p old fresh edit (sym is_gone ∙ ap at e ∙ shown.none)
      first (Some g) e = ap at (taken ∙ ap (λ o. by_slot (going p) o s) e) ∙ staying_in p s
          ∙ ap (stays item_of p) is_old ∙ laws.stays_are item_of put pick is p old fresh edit

      next : (p.removed ≡ p.added) ⊎ (p.removed ≡ p.added → ⊥)
          → at u ≡ laws.front item_of put pick is p old fresh edit
          ++ laws.rear_after item_of put pick is p old fresh edit
      next (inl e) = ap at (same e) ∙ first gone refl
          ∙ laws.numbers_stay item_of put pick is p old fresh edit e
      next (inr ne) = ap at (moved ne) ∙ numbered_in p t ∙ ap (renumbered item_of put p) (first gone refl)
          ∙ laws.numbers_after item_of put pick is p old fresh edit

      last : (c : Option Slot) → come ≡ c → at v ≡ found pick 0 (splice old p.at (p.at + p.removed) fresh)
      last None e =
          ap at (put_in ∙ ap (λ o. by_slot (coming p.at) o u) e) ∙ next (cases_eq p.removed p.added)
          ∙ laws.none_filled item_of put pick is p old fresh edit (sym is_come ∙ ap at e ∙ shown.none)
      last (Some f) e =
          ap at (put_in ∙ ap (λ o. by_slot (coming p.at) o u) e) ∙ full_in p.at f u (room f e)
          ∙ ap (filled item_of put p.at (at (Some f))) (next (cases_eq p.removed p.added))
          ∙ ap (λ l. filled item_of put p.at l
          (laws.front item_of put pick is p old fresh edit ++ laws.rear_after item_of put pick is p old fresh
          edit)) (sym (ap at e) ∙ is_come) ∙ laws.filled_is item_of put pick is p old fresh edit

-- ---- room through the steps

stays_room : (p : ItemSplice) → p.at < 2 ^ 64 → (s : Option Slot) (f : Slot) → HasRoom s f
    → HasRoom (option_map (slot_stays p) s) f
stays_room p small None f room = room
stays_room p small (Some s) f room =
    let a = length_stays declarer_item p s.declarers.items small in
    let b = length_stays user_item p s.users.items small in
    let x = room.0 in
    let y = room.1 in
    (omega (arith, a, x), omega (arith, b, y))

pub room_stays : (p : ItemSplice) → p.at < 2 ^ 64 → (old new gone fresh : Entries)
    → ChangesEach old new gone (going p) → RoomFor old fresh → RoomFor new fresh
room_stays p small old new gone fresh step room name f there =
    subst (λ o. HasRoom o f) (sym (step name)) (by (slot_at gone name))
  where
    by : (g : Option Slot) → HasRoom (by_slot (going p) g (slot_at old name)) f
    by None = room name f there
    by (Some g) = stays_room p small (slot_at old name) f (room name f there)

numbered_room : (p : ItemSplice) (s : Option Slot) (f : Slot) → HasRoom s f
    → HasRoom (option_map (slot_renumbered p) s) f
numbered_room p None f room = room
numbered_room p (Some s) f room =
    let a = length-map s.declarers.items (λ x. put_declarer (number_after p (declarer_item x)) x) in
    let b = length-map s.users.items (λ x. put_user (number_after p (user_item x)) x) in
    let x = room.0 in
    let y = room.1 in
    (omega (arith, a, x), omega (arith, b, y))

pub room_numbered : (p : ItemSplice) (old new fresh : Entries) → (p.removed ≡ p.added → HasSameSlots old new)
    → ((p.removed ≡ p.added → ⊥) → (name : List ℕ) → slot_at new name
    ≡ option_map (slot_renumbered p) (slot_at old name)) → RoomFor old fresh → RoomFor new fresh
room_numbered p old new fresh same moved room name f there = by (cases_eq p.removed p.added)
  where
    by : (p.removed ≡ p.added) ⊎ (p.removed ≡ p.added → ⊥) → HasRoom (slot_at new name) f
    by (inl e) = subst (λ o. HasRoom o f) (sym (same e name)) (room name f there)
    by (inr ne) = subst (λ o. HasRoom o f) (sym (moved ne name))
        (numbered_room p (slot_at old name) f (room name f there))

-- ---- the table

pub table_follows : (p : ItemSplice) (a b c d e gone fresh : Entries) → ChangesEach a b gone (going p)
    → (p.removed ≡ p.added → HasSameSlots b c)
    → ((p.removed ≡ p.added → ⊥) → (name : List ℕ)
    → slot_at c name ≡ option_map (slot_renumbered p) (slot_at b name))
    → RoomFor c fresh → ChangesEach c d fresh (coming p.at) → HasSameLists d e
    → (old put : Definitions) → IsUsesOf old (names_of_entries a)
    → IsUsesOf (take p.removed (drop p.at old)) (names_of_entries gone)
    → IsUsesOf put (names_of_entries fresh)
    → IsEdit p old put → IsUsesOf (splice old p.at (p.at + p.removed) put) (names_of_entries e)
table_follows p a b c d e gone fresh taken same moved room put_in forgot old put is_old is_gone is_put edit =
    record { declarers = declarers; users = users }
  where
    shown : {Y : Type 0} (at : Option Slot → List Y) (es : Entries) (name : List ℕ) (ys : List Y)
        → at (slot_in (names_of_entries es) name) ≡ ys → at (slot_at es name) ≡ ys
    shown at es name ys h = sym (ap at (slot_seen es name)) ∙ h

    declarers : (name : List ℕ) → declarers_at (slot_in (names_of_entries e) name)
        ≡ declarers_of 0 (splice old p.at (p.at + p.removed) put) name
    declarers name =
        ap declarers_at (slot_seen e name) ∙ forgot.declarers name
        ∙ follows item_of_declarer put_item declarers_at declarers_shown (declarer_pick name)
        (kept_picks name) p old put edit (slot_at a name) (slot_at b name) (slot_at c name) (slot_at d name)
        (slot_at gone name) (slot_at fresh name)
        (shown declarers_at a name _ (is_old.declarers name) ∙ declarers_found 0 old name)
        (shown declarers_at gone name _ (is_gone.declarers name)
        ∙ declarers_found 0 (take p.removed (drop p.at old)) name)
        (shown declarers_at fresh name _ (is_put.declarers name) ∙ declarers_found 0 put name) (taken name)
        (λ s. same s name) (λ n. moved n name) (put_in name) (room name)
        ∙ sym (declarers_found 0 (splice old p.at (p.at + p.removed) put) name)

    users : (name : List ℕ) → users_at (slot_in (names_of_entries e) name)
        ≡ users_of 0 (splice old p.at (p.at + p.removed) put) name
    users name =
        ap users_at (slot_seen e name) ∙ forgot.users name
        ∙ follows user_item put_user users_at users_shown (user_pick name) (user_picks name) p old put edit
        (slot_at a name) (slot_at b name) (slot_at c name) (slot_at d name) (slot_at gone name)
        (slot_at fresh name)
        (shown users_at a name _ (is_old.users name) ∙ users_found 0 old name)
        (shown users_at gone name _ (is_gone.users name)
        ∙ users_found 0 (take p.removed (drop p.at old)) name)
        (shown users_at fresh name _ (is_put.users name) ∙ users_found 0 put name) (taken name)
        (λ s. same s name) (λ n. moved n name) (put_in name) (room name)
        ∙ sym (users_found 0 (splice old p.at (p.at + p.removed) put) name)

-- ---- first declarers

pub first_of_declarers : (i : ℕ) (ds : Definitions) (name : List ℕ)
    → first_of (declarers_of i ds name) ≡ first_from i ds name
first_of_declarers i [] name = refl
first_of_declarers i (d ∷ ds) name = by (declarer_in i name d) (first_of_declarers (suc i) ds name)
  where
    by : (o : Option Declarer) → first_of (declarers_of (suc i) ds name) ≡ first_from (suc i) ds name
        → first_of (put_before o (declarers_of (suc i) ds name)) ≡ option_or o (first_from (suc i) ds name)
    by None h = h
    by (Some y) h = refl

-- the first after the edit is the first before the place, of what is put in, or behind the place
pub first_follows : (p : ItemSplice) (old put : Definitions) → IsEdit p old put
    → (es fs : Entries) (t u : UseTable) → names_of_entries es ≡ t → names_of_entries fs ≡ u → IsUsesOf old t
    → IsUsesOf put u
    → (name : List ℕ) → first_after p (declarers_at (slot_at fs name)) (declarers_at (slot_at es name))
    ≡ first_from 0 (splice old p.at (p.at + p.removed) put) name
first_follows p old put edit es fs t u seen seen' is_old is_put name =
    ap (λ l. first_after p l (declarers_at (slot_at es name))) (ap declarers_at (sym (slot_seen fs name))
    ∙ ap (λ v. declarers_in v name) seen' ∙ is_put.declarers name ∙ declarers_found 0 put name)
    ∙ ap (first_after p (found (declarer_pick name) 0 put)) (ap declarers_at (sym (slot_seen es name))
    ∙ ap (λ v. declarers_in v name) seen ∙ is_old.declarers name ∙ declarers_found 0 old name)
    ∙ laws.first_is item_of_declarer with_item (declarer_pick name) (declarer_picks name) p old put edit
    ∙ ap first_of (sym (declarers_found 0 (splice old p.at (p.at + p.removed) put) name))
    ∙ first_of_declarers 0 (splice old p.at (p.at + p.removed) put) name

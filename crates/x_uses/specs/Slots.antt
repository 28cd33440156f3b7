-- Lists of what stands at items, and tables of them, over an edit.
use Rattle.std.specs.Prelude.{◌≡◌, ◌≤◌, ℕ, ◌+◌, ◌-◌, ◌^◌, min, nat_lt, nat_eq, Bool, false, List, []}
use Rattle.std.specs.Prelude.{◌∷◌, ◌++◌, map, Option, None, Some, IfSome, option_map, slice_get}
use Rattle.std.specs.Prelude.{if◌then◌else◌}
use Rattle.std.specs.Global.{Vec}
use Rattle.std.specs.Option.{option_or}
use Rattle.std.specs.Map.{lookup}
use Rattle.std.specs.Str.{bytes_eq}
use Rattle.x_trees.specs.Tree.{Definition}
use Rattle.x_trees.specs.Spell.{IsShort}
use Rattle.x_names.specs.declared.names.Declarer.{Declarer}
use Rattle.x_uses.specs.Occurrences.{declarers_at, users_at, HasRoom}
use Rattle.x_uses.specs.declared.uses.ItemSplice.{ItemSplice}
use Rattle.x_uses.specs.declared.uses.slot.CompactDeclarer.{CompactDeclarer}
use Rattle.x_uses.specs.declared.uses.slot.Slot.{Slot}

-- ---- lists

-- the first of a list, as long as their items are below a bound
abbrev pub front_of : {X : Type 0} → (X → ℕ) → ℕ → List X → List X
front_of item_of bound [] = []
front_of item_of bound (x ∷ xs) = if nat_lt (item_of x) bound then x ∷ front_of item_of bound xs else []

-- the others
abbrev pub rear_of : {X : Type 0} → (X → ℕ) → ℕ → List X → List X
rear_of item_of bound [] = []
rear_of item_of bound (x ∷ xs) = if nat_lt (item_of x) bound then rear_of item_of bound xs else x ∷ xs

-- a sum of numbers of the program, at most the greatest of them
abbrev pub sum_of : ℕ → ℕ → ℕ
sum_of a b = min (a + b) (2 ^ 64 - 1)

-- the number after the edit of an item that stays
abbrev pub number_after : ItemSplice → ℕ → ℕ
number_after p k = if nat_lt k p.at then k else sum_of (k - p.removed) p.added

-- what stays, before and behind the place
abbrev pub stays : {X : Type 0} → (X → ℕ) → ItemSplice → List X → List X
stays item_of p xs = front_of item_of p.at xs ++ rear_of item_of (sum_of p.at p.removed) xs

-- with the numbers after the edit
abbrev pub renumbered : {X : Type 0} → (X → ℕ) → (ℕ → X → X) → ItemSplice → List X → List X
renumbered item_of put p xs = map (λ x. put (number_after p (item_of x)) x) xs

-- with others between, whose items are counted from `at`
abbrev pub filled : {X : Type 0} → (X → ℕ) → (ℕ → X → X) → ℕ → List X → List X → List X
filled item_of put at ys xs =
    front_of item_of at xs ++ (map (λ y. put (sum_of at (item_of y)) y) ys ++ rear_of item_of at xs)

-- the list ends with what stands at this item
abbrev pub ends_at : {X : Type 0} → (X → ℕ) → ℕ → List X → Bool
ends_at item_of item [] = false
ends_at item_of item (x ∷ []) = nat_eq (item_of x) item
ends_at item_of item (x ∷ y ∷ ys) = ends_at item_of item (y ∷ ys)

-- with one more at the end, but for a second of the same item
abbrev pub noted : {X : Type 0} → (X → ℕ) → List X → X → List X
noted item_of xs x = if ends_at item_of (item_of x) xs then xs else xs ++ x ∷ []

abbrev pub noted_some : {X : Type 0} → (X → ℕ) → List X → Option X → List X
noted_some item_of xs None = xs
noted_some item_of xs (Some x) = noted item_of xs x

-- ---- slots

abbrev pub declarer_item : CompactDeclarer → ℕ
declarer_item d = d.item

abbrev pub put_declarer : ℕ → CompactDeclarer → CompactDeclarer
put_declarer item d = record {
  item = min item (2 ^ 32 - 1);
  word = d.word;
  place = d.place;
  kind = d.kind;
  lifted = d.lifted;
}

abbrev pub user_item : ℕ → ℕ
user_item k = k

abbrev pub put_user : ℕ → ℕ → ℕ
put_user item k = min item (2 ^ 32 - 1)

abbrev pub slot_stays : ItemSplice → Slot → Slot
slot_stays p s = record {
  declarers = record { items = stays declarer_item p s.declarers.items; capacity = s.declarers.capacity };
  users = record { items = stays user_item p s.users.items; capacity = s.users.capacity };
}

abbrev pub slot_renumbered : ItemSplice → Slot → Slot
slot_renumbered p s = record {
  declarers = record {
    items = renumbered declarer_item put_declarer p s.declarers.items;
    capacity = s.declarers.capacity;
  };
  users = record { items = renumbered user_item put_user p s.users.items; capacity = s.users.capacity };
}

abbrev pub slot_filled : ℕ → Slot → Slot → Slot
slot_filled at f s = record {
  declarers = record {
    items = filled declarer_item put_declarer at f.declarers.items s.declarers.items;
    capacity = s.declarers.capacity;
  };
  users = record {
    items = filled user_item put_user at f.users.items s.users.items;
    capacity = s.users.capacity;
  };
}

-- one without declarers and users
abbrev pub empty_slot : Slot
empty_slot = record {
  declarers = record { items = []; capacity = 1 };
  users = record { items = []; capacity = 4 };
}

-- the lists are the same, and have as much room
pub record Widens (old new : Slot) : Type 0 where
  pub declarers : new.declarers.items ≡ old.declarers.items
  pub users : new.users.items ≡ old.users.items
  pub declarer_room : old.declarers.capacity ≤ new.declarers.capacity
  pub user_room : old.users.capacity ≤ new.users.capacity

-- ---- tables

abbrev pub Entries : Type 0
Entries = List (Vec ℕ × Slot)

-- the slot of a name
abbrev pub slot_at : Entries → List ℕ → Option Slot
slot_at es name = lookup (λ key. bytes_eq name key.items) es

-- the slot of the name is changed, and no other
abbrev pub Changes : Entries → Entries → List ℕ → (Option Slot → Option Slot) → Type 0
Changes old new name change = (other : List ℕ)
    → slot_at new other ≡ (if bytes_eq other name then change (slot_at old other) else slot_at old other)

-- a change by the slot that another table has of the same name, if it has one
abbrev pub by_slot : (Slot → Option Slot → Option Slot) → Option Slot → Option Slot → Option Slot
by_slot change None s = s
by_slot change (Some f) s = change f s

-- the items that an edit takes out go, and what another table has is put in
abbrev pub going : ItemSplice → Slot → Option Slot → Option Slot
going p g = option_map (slot_stays p)

abbrev pub coming : ℕ → Slot → Option Slot → Option Slot
coming at f = option_map (slot_filled at f)

-- the slot of each name of another table is changed
abbrev pub ChangesEach : Entries → Entries → Entries → (Slot → Option Slot → Option Slot) → Type 0
ChangesEach old new names change = (name : List ℕ)
    → slot_at new name ≡ by_slot change (slot_at names name) (slot_at old name)

-- the names of a table, and their slots
abbrev pub names_of_entries : Entries → List (List ℕ × Slot)
names_of_entries es = map (λ e. (e.0.items, e.1)) es

-- each name has the same slot
abbrev pub HasSameSlots : Entries → Entries → Type 0
HasSameSlots old new = (name : List ℕ) → slot_at new name ≡ slot_at old name

-- the name stands in this place
pub record StandsIn (es : Entries) (index : ℕ) (name : List ℕ) : Type 0 where
  pub entry : Vec ℕ × Slot
  pub there : slice_get es index ≡ Some entry
  pub is : entry.0.items ≡ name
  pub slot : slot_at es name ≡ Some entry.1

-- each name has the same declarers and users
pub record HasSameLists (old new : Entries) : Type 0 where
  pub declarers : (name : List ℕ) → declarers_at (slot_at new name) ≡ declarers_at (slot_at old name)
  pub users : (name : List ℕ) → users_at (slot_at new name) ≡ users_at (slot_at old name)

-- the slots from a place on have no declarers and users
abbrev pub AreEmptyFrom : ℕ → Entries → Type 0
AreEmptyFrom n es = (i : ℕ) (e : Vec ℕ × Slot) → n ≤ i → slice_get es i ≡ Some e
    → (e.1.declarers.items ≡ []) × (e.1.users.items ≡ [])

-- an item without a definition is short as well
abbrev pub IsShortItem : Option Definition → Type 0
IsShortItem d = IfSome d IsShort

-- the declarer of an item, as the definitions have it
abbrev pub item_of_declarer : Declarer → ℕ
item_of_declarer d = d.item

-- each name has the declarers and users that it had, and those that an item declares or sees behind them
pub record Notes (old new : Entries) (declares : List ℕ → Option Declarer) (sees : List ℕ → Bool) (item : ℕ)
    : Type 0 where
  pub declarers : (name : List ℕ) → declarers_at (slot_at new name)
      ≡ noted_some item_of_declarer (declarers_at (slot_at old name)) (declares name)
  pub users : (name : List ℕ) → users_at (slot_at new name)
      ≡ noted_some user_item (users_at (slot_at old name)) (if sees name then Some item else None)

-- ---- first declarers

abbrev pub first_of : {X : Type 0} → List X → Option X
first_of [] = None
first_of (x ∷ xs) = Some x

abbrev pub with_item : ℕ → Declarer → Declarer
with_item item d = record { item = item; word = d.word; place = d.place; kind = d.kind; lifted = d.lifted }

-- the first of the old ones before the place, of the fresh ones, or of the old ones behind the place
abbrev pub first_after : ItemSplice → List Declarer → List Declarer → Option Declarer
first_after p fresh old =
    option_or (first_of (front_of item_of_declarer p.at old))
    (option_or (option_map (λ d. with_item (sum_of p.at d.item) d) (first_of fresh))
    (option_map (λ d. with_item (number_after p d.item) d)
    (first_of (rear_of item_of_declarer (sum_of p.at p.removed) old))))

-- ---- room

-- what the names of the other table have can be put in without memory
abbrev pub RoomFor : Entries → Entries → Type 0
RoomFor es fresh = (name : List ℕ) (f : Slot) → slot_at fresh name ≡ Some f → HasRoom (slot_at es name) f

-- where there was room there still is
abbrev pub KeepsRooms : Entries → Entries → Type 0
KeepsRooms old new = (name : List ℕ) (f : Slot) → HasRoom (slot_at old name) f → HasRoom (slot_at new name) f

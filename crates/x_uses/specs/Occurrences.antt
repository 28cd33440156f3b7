-- Who declares and who sees each name of a text.
use Rattle.std.specs.Prelude.{◌≡◌, ◌≤◌, ◌+◌, ℕ, suc, Bool, false, List, [], ◌∷◌, length, map}
use Rattle.std.specs.Prelude.{Option, None, Some, if◌then◌else◌}
use Rattle.std.specs.List.{list_any}
use Rattle.std.specs.Map.{lookup}
use Rattle.std.specs.Str.{bytes_eq}
use Rattle.x_trees.specs.Tree.{Definition}
use Rattle.x_names.specs.Declarers.{declarer_in}
use Rattle.x_trees.specs.Seen.{names_of}
use Rattle.x_names.specs.declared.names.Declarer.{Declarer}
use Rattle.x_uses.specs.declared.uses.slot.CompactDeclarer.{CompactDeclarer}
use Rattle.x_uses.specs.declared.uses.slot.Slot.{Slot}

-- ---- of the definitions of a text

-- what the items of a text define, if anything
abbrev pub Definitions : Type 0
Definitions = List (Option Definition)

-- the item declares or mentions the name
abbrev pub sees : Option Definition → List ℕ → Bool
sees None name = false
sees (Some d) name = list_any (bytes_eq name) (names_of d)

-- the list, behind this where it is there
abbrev pub put_before : {X : Type 0} → Option X → List X → List X
put_before None xs = xs
put_before (Some x) xs = x ∷ xs

-- of each item that declares the name, its first place there, in the order of items, of which the first has
-- this number
abbrev pub declarers_of : ℕ → Definitions → List ℕ → List Declarer
declarers_of item [] name = []
declarers_of item (d ∷ ds) name = put_before (declarer_in item name d) (declarers_of (suc item) ds name)

-- the items that see the name, in order
abbrev pub users_of : ℕ → Definitions → List ℕ → List ℕ
users_of item [] name = []
users_of item (d ∷ ds) name =
    if sees d name then item ∷ users_of (suc item) ds name else users_of (suc item) ds name

-- ---- of a table

-- a table of uses is seen as the list of its names with their slots
abbrev pub UseTable : Type 0
UseTable = List (List ℕ × Slot)

abbrev pub slot_in : UseTable → List ℕ → Option Slot
slot_in u name = lookup (bytes_eq name) u

abbrev pub declarer_of : CompactDeclarer → Declarer
declarer_of d = record { item = d.item; word = d.word; place = d.place; kind = d.kind; lifted = d.lifted }

abbrev pub declarers_at : Option Slot → List Declarer
declarers_at None = []
declarers_at (Some s) = map declarer_of s.declarers.items

abbrev pub users_at : Option Slot → List ℕ
users_at None = []
users_at (Some s) = s.users.items

-- the declarers of a name, and its users; a name without a slot is as one with an empty one
abbrev pub declarers_in : UseTable → List ℕ → List Declarer
declarers_in u name = declarers_at (slot_in u name)

abbrev pub users_in : UseTable → List ℕ → List ℕ
users_in u name = users_at (slot_in u name)

-- the table has the declarers and the users of each name
pub record IsUsesOf (definitions : Definitions) (u : UseTable) : Type 0 where
  pub declarers : (name : List ℕ) → declarers_in u name ≡ declarers_of 0 definitions name
  pub users : (name : List ℕ) → users_in u name ≡ users_of 0 definitions name

-- each name has the same declarers and users
pub record IsSameTable (old new : UseTable) : Type 0 where
  pub declarers : (name : List ℕ) → declarers_in new name ≡ declarers_in old name
  pub users : (name : List ℕ) → users_in new name ≡ users_in old name

-- there is a slot, and its lists have room for those of the other
abbrev pub HasRoom : Option Slot → Slot → Type 0
HasRoom None f = ⊥
HasRoom (Some s) f =
    (length s.declarers.items + length f.declarers.items ≤ s.declarers.capacity)
    × (length s.users.items + length f.users.items ≤ s.users.capacity)

-- each name of the other table can be put in without memory
abbrev pub HasRoomFor : UseTable → UseTable → Type 0
HasRoomFor u fresh = (name : List ℕ) (f : Slot) → slot_in fresh name ≡ Some f → HasRoom (slot_in u name) f

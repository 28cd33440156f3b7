-- Who declares each name first (RFC 4506, section 6.4).
use Rattle.std.specs.Prelude.{◌≡◌, ◌<◌, ◌⊎◌, ℕ, suc, Bool, false, ◌||◌, List, [], ◌∷◌, Option}
use Rattle.std.specs.Prelude.{Some, None, codes, slice_get, if◌then◌else◌}
use Rattle.std.specs.Option.{option_or}
use Rattle.std.specs.Str.{bytes_eq}
use Rattle.x_trees.specs.Tree.{Definition}
use Rattle.x_trees.specs.Spell.{IsShort}
use Rattle.x_trees.specs.Names.{Declared, declared}
use Rattle.x_names.specs.declared.names.Declarer.{Declarer}

-- none of these definitions has 2^64 words
abbrev pub AreShort : List (Option Definition) → Type 0
AreShort definitions = (item : ℕ) (d : Definition) → slice_get definitions item ≡ Some (Some d) → IsShort d

-- TRUE and FALSE are constants that no item declares: they are declared beforehand
abbrev pub is_beforehand : List ℕ → Bool
is_beforehand name = bytes_eq name (codes "TRUE") || bytes_eq name (codes "FALSE")

-- the name is the one that the item declares in this place of those that it declares; an item without a
-- definition declares none
pub record IsDeclarer (definitions : List (Option Definition)) (name : List ℕ) (at : Declarer) : Type 0 where
  pub definition : Definition
  pub item_is : slice_get definitions at.item ≡ Some (Some definition)
  pub declares : slice_get (declared definition) at.place
      ≡ Some (record { name = name; word = at.word; kind = at.kind; lifted = at.lifted })

-- in an item before, or before in the same item: names are declared in the order of their words, at one word
-- the own name first
abbrev pub IsEarlier : Declarer → Declarer → Type 0
IsEarlier a b = (a.item < b.item) ⊎ ((a.item ≡ b.item) × (a.place < b.place))

-- the name is declared there, was not declared beforehand, and is declared nowhere earlier
pub record IsFirstDeclarer (definitions : List (Option Definition)) (name : List ℕ)
    (at : Declarer) : Type 0 where
  pub not_beforehand : is_beforehand name ≡ false
  pub declares : IsDeclarer definitions name at
  pub none_earlier : (other : Declarer) → IsDeclarer definitions name other → IsEarlier other at → ⊥

-- this is the first declarer of the name, or there is none
abbrev pub FirstIs : List (Option Definition) → List ℕ → Option Declarer → Type 0
FirstIs definitions name (Some at) = IsFirstDeclarer definitions name at
FirstIs definitions name None = (at : Declarer) → IsFirstDeclarer definitions name at → ⊥

-- a declared name as a declarer: the item, and the place among the names that it declares
abbrev pub declarer_at : ℕ → ℕ → Declared → Declarer
declarer_at item place d =
    record { item = item; word = d.word; place = place; kind = d.kind; lifted = d.lifted }

-- the first of an item's declared names that is this one, where the first of them has this place
abbrev pub place_of_name : ℕ → ℕ → List ℕ → List Declared → Option Declarer
place_of_name item place name [] = None
place_of_name item place name (d ∷ ds) =
    if bytes_eq name d.name then Some (declarer_at item place d) else place_of_name item (suc place) name ds

-- the first place where an item declares the name; one without a definition declares nothing
abbrev pub declarer_in : ℕ → List ℕ → Option Definition → Option Declarer
declarer_in item name None = None
declarer_in item name (Some d) = place_of_name item 0 name (declared d)

-- the first declarer of the name in items of which the first has this number
abbrev pub first_from : ℕ → List (Option Definition) → List ℕ → Option Declarer
first_from item [] name = None
first_from item (d ∷ ds) name = option_or (declarer_in item name d) (first_from (suc item) ds name)

-- the first declarer of the name as a function: the one answer that `FirstIs` admits
abbrev pub first_declarer : List (Option Definition) → List ℕ → Option Declarer
first_declarer definitions name = if is_beforehand name then None else first_from 0 definitions name

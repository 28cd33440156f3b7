-- What an item sees of a name: who declares it first, as what, and what it means.
use Rattle.std.specs.Prelude.{ℕ, Bool, List, [], ◌∷◌, ℤ, if◌then◌else◌}
use Rattle.std.specs.Str.{bytes_eq}
use Rattle.x_trees.specs.Tree.{Definition}
use Rattle.x_trees.specs.Seen.{names_of}
use Rattle.x_trees.specs.declared.names.declared_name.NameKind.{NameKind}

-- what a type is as the discriminant of a union; an enum's numbers ascend, and each stands once
pub data Class : Type 0 where
  Other : Class
  Signed : Class
  Unsigned : Class
  Boolean : Class
  Enumeration : (numbers : List ℤ) → Class

-- what a name means; a bad one is declared first by an item that has a fault
pub data Meaning : Type 0 where
  Constant : (number : ℤ) → Meaning
  OfType : (class : Class) (height : ℕ) → Meaning
  Program : Meaning
  Bad : Meaning

-- whether the first declarer is none, an earlier item or beforehand, the item itself or a later one; what the
-- name is declared as there, and whether it is lifted; and what it means, where that is earlier
pub data View : Type 0 where
  Undeclared : View
  Earlier : (kind : NameKind) (lifted : Bool) (meaning : Meaning) → View
  Own : (kind : NameKind) (lifted : Bool) → View
  Later : (kind : NameKind) (lifted : Bool) → View

-- the view of a name among the views of names
abbrev pub view_in : List (List ℕ) → List View → List ℕ → View
view_in [] views name = Undeclared
view_in (n ∷ ns) [] name = Undeclared
view_in (n ∷ ns) (v ∷ vs) name = if bytes_eq name n then v else view_in ns vs name

-- what an item sees of a name, by its views of the names that it sees
abbrev pub seen : Definition → List View → List ℕ → View
seen d views = view_in (names_of d) views

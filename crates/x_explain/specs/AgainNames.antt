-- The names of inline types that a text declares although they are declared before.
use Rattle.std.specs.Prelude.{◌≡◌, ℕ, suc, Bool, false, not, ◌==◌, ◌&&◌, List, [], ◌∷◌, ◌++◌, length}
use Rattle.std.specs.Prelude.{Option, None, Some, option_map, if◌then◌else◌}
use Rattle.std.specs.Map.{lookup}
use Rattle.std.specs.Cow.{cow_slice_items}
use Rattle.std.specs.declared.borrow.CowSlice.{CowSlice}
use Rattle.std.specs.Global.{Global}
use Rattle.x_trees.specs.Tree.{Definition}
use Rattle.x_trees.specs.Names.{Declared, declared}
use Rattle.x_names.specs.Declarers.{declarer_at, first_declarer}
use Rattle.x_names.specs.declared.names.Declarer.{Declarer}
use Rattle.x_compile.specs.Compile.{Item, definitions_of, parsed_definition}
use Rattle.x_explain.specs.declared.again.AgainNames.{AgainNames}
use Rattle.x_session.specs.DeclaredNames.{word_at}

-- The last of these names is the word's own. It stands right in front of that of the word's inline type: at
-- one word the own name comes first.
abbrev pub ends_with_own : ℕ → List Declared → Bool
ends_with_own word [] = false
ends_with_own word (d ∷ []) = d.word == word && not d.lifted
ends_with_own word (d ∷ e ∷ es) = ends_with_own word (e ∷ es)

-- A name is that of an inline type, and its word has no name of its own, where these names are declared in
-- front of it. A `typedef` declares both names at one word.
abbrev pub is_alone : List Declared → Declared → Bool
is_alone front d = d.lifted && not (ends_with_own d.word front)

-- the first declarer is another word than this one
abbrev pub is_elsewhere : Declarer → Option Declarer → Bool
is_elsewhere here None = false
is_elsewhere here (Some first) = not (first.item == here.item && first.word == here.word)

-- where the word starts of a name that is declared again
abbrev pub start_of : List Item → Declarer → Option ℕ
start_of items here = option_map (λ t. t.start) (word_at items here)

abbrev pub start_again : List Item → ℕ → List Declared → Declared → Option ℕ
start_again items item front d =
    let here = declarer_at item (length front) d in
    if is_alone front d && is_elsewhere here (first_declarer (definitions_of items) d.name)
    then start_of items here else None

-- a name at the place where its word starts
abbrev pub at_start : Option ℕ → List ℕ → List (ℕ × List ℕ)
at_start None name = []
at_start (Some start) name = (start, name) ∷ []

-- the names among these that are declared again, where the item declares the others in front of them
abbrev pub again_among : List Item → ℕ → List Declared → List Declared → List (ℕ × List ℕ)
again_among items item front [] = []
again_among items item front (d ∷ ds) =
    at_start (start_again items item front d) d.name ++ again_among items item (front ++ d ∷ []) ds

-- those of an item; one without a definition declares nothing
abbrev pub again_in : List Item → ℕ → Option Definition → List (ℕ × List ℕ)
again_in items item None = []
again_in items item (Some d) = again_among items item [] (declared d)

-- those of items of which the first has this number
abbrev pub again_from : List Item → ℕ → List Item → List (ℕ × List ℕ)
again_from items item [] = []
again_from items item (i ∷ is) =
    again_in items item (parsed_definition i.parse) ++ again_from items (suc item) is

-- the whole names of the inline types that are declared again, each at the place where its word starts
abbrev pub again_names : List Item → List (ℕ × List ℕ)
again_names items = again_from items 0 items

-- what a list of names has at a place
abbrev pub name_at : List (ℕ × List ℕ) → ℕ → Option (List ℕ)
name_at names start = lookup (λ s. s == start) names

-- the name that is declared again at a place
abbrev pub again_at : List Item → ℕ → Option (List ℕ)
again_at items start = name_at (again_names items) start

-- what the entries of a table have for a place
abbrev pub entry_at : List (ℕ × CowSlice ℕ Global) → ℕ → Option (List ℕ)
entry_at entries start = option_map cow_slice_items (lookup (λ s. start == s) entries)

-- the table has the names that are declared again, and no others
abbrev pub AreAgain : List Item → AgainNames → Type 0
AreAgain items names = (start : ℕ) → entry_at names.table.entries start ≡ again_at items start

-- What checking an item gives, and the results of all items of a text.
use Rattle.std.specs.Prelude.{◌≡◌, ℕ, suc, nat_eq, nat_lt, false, List, [], ◌∷◌, map, Option, Some, None, ℤ}
use Rattle.std.specs.Prelude.{pos, option_map, option_and_then, slice_get, codes, if◌then◌else◌}
use Rattle.std.specs.Option.{unwrap_or}
use Rattle.std.specs.Str.{bytes_eq}
use Rattle.x_trees.specs.Tree as tree
use Rattle.x_trees.specs.Tree.{Definition}
use Rattle.x_trees.specs.Names.{Declared, declared}
use Rattle.x_trees.specs.declared.names.declared_name.NameKind.{NameKind}
use Rattle.x_trees.specs.declared.names.declared_name.NameKind.TheVariants as kinds
use Rattle.x_rules.specs.Views.{View, Undeclared, Earlier, Own, Later, Meaning, Constant, OfType, Program}
use Rattle.x_rules.specs.Views.{Bad, Class, seen}
use Rattle.x_trees.specs.Seen.{names_of}
use Rattle.x_outline.specs.Bodies.{BodyAt, bodies, enumerators}
use Rattle.x_rules.specs.Constants.{Known, knowns, number_named, number_at}
use Rattle.x_rules.specs.Types.{body_class, declaration_class, body_height, held_height}
use Rattle.x_rules.specs.Rules.{AreFaults}
use Rattle.x_names.specs.Declarers.{is_beforehand, first_declarer}
use Rattle.x_rules.specs.declared.fault.WordFault.{WordFault}
use Rattle.x_names.specs.declared.names.Declarer.{Declarer}

-- ---- what a declared name means, where its item has no fault

-- the number of a constant, or of the enumerator of the name
abbrev pub constant_number : Definition → (List ℕ → View) → List ℕ → Option ℤ
constant_number (tree.Const own value) see name = number_at see [] 3 value
constant_number d see name = number_named (knowns see (enumerators d)) name

abbrev pub constant_of : Option ℤ → Meaning
constant_of None = Bad
constant_of (Some z) = Constant z

-- a type of a known class
abbrev pub type_of : Option Class → ℕ → Meaning
type_of None height = Bad
type_of (Some class) height = OfType class height

-- the type of the first of these bodies whose type's name stands at the word
abbrev pub type_named : (List ℕ → View) → List Known → List BodyAt → ℕ → Meaning
type_named see known [] word = Bad
type_named see known (b ∷ bs) word =
    if nat_eq b.named word then type_of (body_class known b.body) (body_height see b.body)
    else type_named see known bs word

-- the type that a typedef declares
abbrev pub type_defined : (List ℕ → View) → List Known → Definition → Meaning
type_defined see known (tree.Typedef d) = type_of (declaration_class see known d) (suc (held_height see d))
type_defined see known d = Bad

-- what a name means that is declared as such at the word
abbrev pub meaning_as : Definition → (List ℕ → View) → NameKind → List ℕ → ℕ → Meaning
meaning_as d see kinds.Constant name word = constant_of (constant_number d see name)
meaning_as d see kinds.Typedef name word = type_defined see (knowns see (enumerators d)) d
meaning_as d see kinds.Program name word = Program
meaning_as d see kind name word = type_named see (knowns see (enumerators d)) (bodies d) word

abbrev pub meaning_of : Definition → (List ℕ → View) → Declared → Meaning
meaning_of d see x = meaning_as d see x.kind x.name x.word

-- ---- what checking an item gives

-- The faults of an item; and what the names mean that it declares, in their order. Those of an item with a
-- fault are all bad, and none is kept.
pub record Outcome : Type 0 where
  pub faults : List WordFault
  pub meanings : List Meaning

-- what the name means that stands at the place among those that an item declares
abbrev pub meaning_in : Outcome → ℕ → Meaning
meaning_in o place = unwrap_or (slice_get o.meanings place) Bad

-- the meanings that are kept of an item with these faults
abbrev pub meanings_by : Definition → (List ℕ → View) → List WordFault → List Meaning
meanings_by d see [] = map (meaning_of d see) (declared d)
meanings_by d see (f ∷ fs) = []

-- what checking a definition gives, by its views of the names that it declares and then of those that it uses
pub record IsOutcome (d : Definition) (views : List View) (o : Outcome) : Type 0 where
  pub are_faults : AreFaults d (seen d views) o.faults
  pub are_meanings : o.meanings ≡ meanings_by d (seen d views) o.faults

-- ---- the results of all items

-- what a constant that is declared beforehand means: 1 for TRUE, 0 for FALSE
abbrev pub beforehand_meaning : List ℕ → Meaning
beforehand_meaning name = if bytes_eq name (codes "TRUE") then Constant (pos 1) else Constant (pos 0)

-- what a name means whose first declarer is given, by the results of items
abbrev pub meaning_at : (ℕ → Option Outcome) → Declarer → Meaning
meaning_at results at = unwrap_or (option_map (λ o. meaning_in o at.place) (results at.item)) Bad

-- what an item sees of a name whose first declarer is given
abbrev pub view_of : (ℕ → Option Outcome) → ℕ → Option Declarer → View
view_of results item None = Undeclared
view_of results item (Some at) =
    if nat_lt at.item item then Earlier at.kind at.lifted (meaning_at results at)
    else (if nat_lt item at.item then Later at.kind at.lifted else Own at.kind at.lifted)

-- What is known of names before a text, by definitions that stand before it: what its items see of each name
-- that these declare, whoever declares it in the text.
abbrev pub KnownNames : Type 0
KnownNames = List ℕ → Option View

-- nothing is known before a text
abbrev pub no_names : KnownNames
no_names name = None

-- what is known of a name, and else this
abbrev pub known_or : Option View → View → View
known_or None view = view
known_or (Some known) view = known

-- what an item sees of a name, by what is known of it before the text, the name's first declarer and what
-- checking that item gives
abbrev pub view_named : ℕ → List ℕ → Option View → Option Declarer → Option Outcome → View
view_named item name known first declaring =
    if is_beforehand name then Earlier kinds.Constant false (beforehand_meaning name)
    else known_or known (view_of (λ k. declaring) item first)

-- what an item of a text with these definitions sees of a name; of the results only those of earlier items
-- are read
abbrev pub view_by : KnownNames → List (Option Definition) → (ℕ → Option Outcome) → ℕ → List ℕ → View
view_by known definitions results item name =
    if is_beforehand name then Earlier kinds.Constant false (beforehand_meaning name)
    else known_or (known name) (view_of results item (first_declarer definitions name))

-- what checking the definition of an item gives, by the results of the items before it; an item without one
-- gives nothing
abbrev pub IsResult : KnownNames → List (Option Definition) → (ℕ → Option Outcome) → ℕ → Option Definition
    → Option Outcome → Type 0
IsResult known definitions results item None None = Unit {0}
IsResult known definitions results item None (Some o) = ⊥
IsResult known definitions results item (Some d) None = ⊥
IsResult known definitions results item (Some d) (Some o) =
    IsOutcome d (map (view_by known definitions results item) (names_of d)) o

-- what a list of results has for an item
abbrev pub result_at : List (Option Outcome) → ℕ → Option Outcome
result_at results item = option_and_then (λ o. o) (slice_get results item)

-- the results of these items, of which the first has the number `item`
abbrev pub AreResultsFrom : KnownNames → List (Option Definition) → (ℕ → Option Outcome) → ℕ
    → List (Option Definition) → List (Option Outcome) → Type 0
AreResultsFrom known definitions results item [] [] = Unit {0}
AreResultsFrom known definitions results item [] (o ∷ os) = ⊥
AreResultsFrom known definitions results item (d ∷ ds) [] = ⊥
AreResultsFrom known definitions results item (d ∷ ds) (o ∷ os) =
    IsResult known definitions results item d o × AreResultsFrom known definitions results (suc item) ds os

-- the results of all items of a text, before which these names are known: each is what checking the item
-- gives
abbrev pub AreResults : KnownNames → List (Option Definition) → List (Option Outcome) → Type 0
AreResults known definitions results =
    AreResultsFrom known definitions (result_at results) 0 definitions results

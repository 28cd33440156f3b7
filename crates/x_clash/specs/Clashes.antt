-- Which names of a text clash in C (C11, 6.2.1, 6.2.3 and 6.10.3): two things have one name and meet, or C
-- has the name already.
use Rattle.std.specs.Prelude.{◌≡◌, ℕ, suc, Bool, true, false, not, ◌&&◌, List, [], ◌∷◌, ◌++◌, map, find}
use Rattle.std.specs.Prelude.{Option, None, Some, codes, is_some, option_and_then, option_map, IsPermutation}
use Rattle.std.specs.Prelude.{if◌then◌else◌}
use Rattle.std.specs.List.Sorted.{IsSortedByKey, IsStableByKey}
use Rattle.std.specs.Option.{option_or, option_to_list}
use Rattle.std.specs.Ordering.{nat_cmp}
use Rattle.std.specs.Str.{bytes_eq}
use Rattle.x_trees.specs.Tree as tree
use Rattle.x_taken.specs.declared.taken.TakenAs.{TakenAs}
use Rattle.x_taken.specs.declared.taken.TakenAs.TheVariants as taken
use Rattle.x_clash.specs.declared.clash.Clash as rust
use Rattle.x_clash.specs.declared.clash.Place.{Place}
use Rattle.x_clash.specs.declared.clash.Rival.{Rival}
use Rattle.x_clash.specs.declared.clash.Rival.TheVariants.{OfC, OfText}
use Rattle.x_clash.specs.Given.{Given, Sort, Macro, Tagged, Function, Plain, Member, names_given}
use Rattle.x_clash.specs.Views.{Clash, view_clash}

-- a name that a text gives to C, and the item that gives it
pub record Thing : Type 0 where
  pub item : ℕ
  pub given : Given

abbrev pub thing_place : Thing → Place
thing_place t = record { item = t.item; word = t.given.word }

-- ---- what meets what

abbrev pub is_macro : Sort → Bool
is_macro (Macro text) = true
is_macro sort = false

-- a macro that stands for another text
abbrev pub is_other_macro : List ℕ → Sort → Bool
is_other_macro text (Macro other) = not (bytes_eq text other)
is_other_macro text sort = false

abbrev pub is_at_file_scope : Sort → Bool
is_at_file_scope Tagged = true
is_at_file_scope Function = true
is_at_file_scope Plain = true
is_at_file_scope sort = false

abbrev pub is_member : Sort → Bool
is_member Member = true
is_member sort = false

-- the first thing of a name that passes the test
abbrev pub has_name : List ℕ → (Sort → Bool) → Thing → Bool
has_name name test t = bytes_eq name t.given.name && test t.given.sort

abbrev pub first_of : (Sort → Bool) → List ℕ → List Thing → Option Place
first_of test name things = option_map thing_place (find (has_name name test) things)

-- The first of these things of the name that one of the sort meets: macros come first, and then what is at
-- file scope. The preprocessor replaces the name of a macro everywhere. Members of different structs do not
-- meet, and the language keeps those of one apart.
abbrev pub met_by : Sort → List ℕ → List Thing → Option Place
met_by (Macro text) name things =
    option_or (first_of (is_other_macro text) name things)
    (option_or (first_of is_at_file_scope name things) (first_of is_member name things))
met_by Member name things = first_of is_macro name things
met_by sort name things = option_or (first_of is_macro name things) (first_of is_at_file_scope name things)

-- ---- what C has

-- Whether a name that C has already is in the way of a thing of the sort: a keyword or a macro is in the way
-- of all; a macro with parameters of what stands before a parenthesis; names at file scope, and parameters of
-- generated functions, of those that they hide or replace. And no macro may replace any of them.
abbrev pub is_in_way : TakenAs → Sort → Bool
is_in_way kind (Macro text) = true
is_in_way taken.Keyword sort = true
is_in_way taken.KeywordOfCpp sort = true
is_in_way taken.Macro sort = true
is_in_way taken.CallMacro Function = true
is_in_way taken.Name Tagged = true
is_in_way taken.Name Function = true
is_in_way taken.Name Plain = true
is_in_way taken.Tag Tagged = true
is_in_way taken.TaggedName Tagged = true
is_in_way taken.TaggedName Function = true
is_in_way taken.TaggedName Plain = true
is_in_way taken.Parameter Tagged = true
is_in_way taken.Parameter Plain = true
is_in_way kind sort = false

-- Whether C has a macro of the name that stands for the same number, spelled alike: so it may be defined
-- again (6.10.3).
abbrev pub has_number : (List ℕ → Option TakenAs) → List ℕ → Sort → Bool
has_number taken name (Macro text) = is_some (taken (name ++ codes "=" ++ text))
has_number taken name sort = false

-- what C has the name for, if that is in the way
abbrev pub rival_of_c : (List ℕ → Option TakenAs) → Given → Option Rival
rival_of_c taken g =
    option_and_then (λ kind. if is_in_way kind g.sort && not (has_number taken g.name g.sort)
    then Some (OfC kind) else None) (taken g.name)

-- ---- clashes

-- the other member of the same struct
abbrev pub twin_of : Thing → Option Rival
twin_of t = option_map (λ word. OfText (record { item = t.item; word = word })) t.given.twin

-- what a thing clashes with, behind these things: what C has, another member, another thing
abbrev pub rivals : (List ℕ → Option TakenAs) → List Thing → Thing → List Rival
rivals taken things t =
    option_to_list (rival_of_c taken t.given)
    ++ (option_to_list (twin_of t)
    ++ option_to_list (option_map OfText (met_by t.given.sort t.given.name things)))

abbrev pub clash_with : Thing → Rival → Clash
clash_with t rival = record { name = t.given.name; place = thing_place t; rival = rival }

abbrev pub clashes_of : (List ℕ → Option TakenAs) → List Thing → Thing → List Clash
clashes_of taken things t = map (clash_with t) (rivals taken things t)

-- those of things behind others, in their order
abbrev pub clashes_behind : (List ℕ → Option TakenAs) → List Thing → List Thing → List Clash
clashes_behind taken things [] = []
clashes_behind taken things (t ∷ ts) =
    clashes_of taken things t ++ clashes_behind taken (things ++ t ∷ []) ts

-- the things of an item
abbrev pub thing : ℕ → Given → Thing
thing item g = record { item = item; given = g }

abbrev pub things_of : ℕ → Option tree.Definition → List Thing
things_of item None = []
things_of item (Some d) = map (thing item) (names_given d)

-- these clashes, in the order of their words; those at one word stay in order
pub record AreInOrder (all : List Clash) (found : List rust.Clash) : Type 0 where
  pub unsorted : List rust.Clash
  pub these : map view_clash unsorted ≡ all
  pub permuted : IsPermutation unsorted found
  pub sorted : IsSortedByKey (λ c. c.place.word) nat_cmp found
  pub stable : IsStableByKey (λ c. c.place.word) nat_cmp unsorted found

-- The clashes of a text whose items have these definitions, behind these things of the items before: item by
-- item, those of an item in the order of their words.
abbrev pub AreClashes : (List ℕ → Option TakenAs) → ℕ → List Thing → List (Option tree.Definition)
    → List rust.Clash → Type 0
AreClashes taken item things [] found = found ≡ []
AreClashes taken item things (d ∷ ds) found = (here rest : List rust.Clash) × (found ≡ here ++ rest)
    × AreInOrder (clashes_behind taken things (things_of item d)) here
    × AreClashes taken (suc item) (things ++ things_of item d) ds rest

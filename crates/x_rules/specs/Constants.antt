-- The numbers that values stand for, and those of enumerators. `see` tells what the item sees of each name,
-- and `es` are the enumerators that stand in it, in the order of their words.
use Rattle.std.specs.Prelude.{ℕ, ◌-◌, Bool, false, nat_lt, List, [], ◌∷◌, ◌++◌, Option, Some, None, ℤ, pos}
use Rattle.std.specs.Prelude.{if◌then◌else◌}
use Rattle.std.specs.Str.{bytes_eq}
use Rattle.x_trees.specs.Tree as tree
use Rattle.x_trees.specs.declared.names.declared_name.NameKind.TheVariants as kinds
use Rattle.x_numbers.specs.Numbers.{next_number, number_spelled}
use Rattle.x_rules.specs.Views as views
use Rattle.x_rules.specs.Views.{View}
use Rattle.x_outline.specs.Bodies.{EnumeratorAt}

-- an enumerator with its number; it has none where its value has a fault, or where the number before it has
-- one
pub record Known : Type 0 where
  pub enumerator : EnumeratorAt
  pub number : Option ℤ

-- The word before which names stand that a value may use: two words in front of it stands its own name, where
-- it is the value of an enumerator; any other value stands further behind a name.
abbrev pub limit_of : ℕ → ℕ
limit_of word = word - 2

-- whether the first of these enumerators that has the name stands before the word
abbrev pub is_declared_before : List EnumeratorAt → ℕ → List ℕ → Bool
is_declared_before [] limit name = false
is_declared_before (e ∷ es) limit name =
    if bytes_eq name e.name then nat_lt e.word limit else is_declared_before es limit name

-- the number of the first of these that has the name
abbrev pub number_named : List Known → List ℕ → Option ℤ
number_named [] name = None
number_named (k ∷ ks) name = if bytes_eq name k.enumerator.name then k.number else number_named ks name

-- the number of the first of these that has the name, if it stands before the word
abbrev pub number_before : List Known → ℕ → List ℕ → Option ℤ
number_before [] limit name = None
number_before (k ∷ ks) limit name =
    if bytes_eq name k.enumerator.name then (if nat_lt k.enumerator.word limit then k.number else None)
    else number_before ks limit name

-- the number of a name used as a value: that which it means, or its own number in the same item
abbrev pub number_seen : View → Option ℤ → Option ℤ
number_seen (views.Earlier kinds.Constant lifted (views.Constant number)) own = Some number
number_seen (views.Own kinds.Constant lifted) own = own
number_seen view own = None

-- the number of a value that may use those of these enumerators of its item whose names stand before the word
abbrev pub number_by : (List ℕ → View) → List Known → ℕ → tree.Value → Option ℤ
number_by see known limit (tree.Number text) = number_spelled text
number_by see known limit (tree.Named name) = number_seen (see name) (number_before known limit name)

-- the number of an enumerator: that of its value; without one 0 for the first, and for another one more than
-- the one before
abbrev pub number_given : (List ℕ → View) → List Known → Option ℤ → ℕ → Bool → Option tree.Value → Option ℤ
number_given see known before word is_first (Some v) = number_by see known word v
number_given see known before word is_first None = if is_first then Some (pos 0) else next_number before

abbrev pub enumerator_number : (List ℕ → View) → List Known → Option ℤ → EnumeratorAt → Option ℤ
enumerator_number see known before e = number_given see known before e.word e.is_first e.given

-- these and the enumerators behind them, each with its number; `before` is the number of the last of these
abbrev pub known_with : (List ℕ → View) → List Known → Option ℤ → List EnumeratorAt → List Known
known_with see known before [] = known
known_with see known before (e ∷ es) =
    known_with see (known ++ record { enumerator = e; number = enumerator_number see known before e } ∷ [])
    (enumerator_number see known before e) es

-- the enumerators with their numbers
abbrev pub knowns : (List ℕ → View) → List EnumeratorAt → List Known
knowns see es = known_with see [] None es

-- the number of the value at a word
abbrev pub number_at : (List ℕ → View) → List EnumeratorAt → ℕ → tree.Value → Option ℤ
number_at see es word v = number_by see (knowns see es) (limit_of word) v

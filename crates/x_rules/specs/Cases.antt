-- The faults of cases that no discriminant has, in the order in which the program finds them.
use Rattle.std.specs.Prelude.{ℕ, ◌+◌, ℤ, pos, nat_lt, nat_le, Bool, false, not, ◌&&◌, List, [], Option, Some}
use Rattle.std.specs.Prelude.{None, map, if◌then◌else◌}
use Rattle.std.specs.List.{flat_map, list_any}
use Rattle.std.specs.Ordering.{int_eq}
use Rattle.x_trees.specs.Tree as tree
use Rattle.x_trees.specs.View.{view_body}
use Rattle.x_rules.specs.Views.{View, Class, Other, Signed, Unsigned, Boolean, Enumeration}
use Rattle.x_outline.specs.Bodies.{ValueAt}
use Rattle.x_rules.specs.Constants.{Known, limit_of, number_by}
use Rattle.x_rules.specs.Found.{fault_at}
use Rattle.x_numbers.specs.Numbers.{is_enum_number, is_word_number}
use Rattle.x_outline.specs.Parts.{view_value_at}
use Rattle.x_rules.specs.Types.{declaration_class}
use Rattle.x_rules.specs.declared.fault.RuleCode.{RuleCode}
use Rattle.x_rules.specs.declared.fault.RuleCode.TheVariants as codes
use Rattle.x_rules.specs.declared.fault.WordFault.{WordFault}
use Rattle.x_outline.specs.declared.parts.BodyAt.{BodyAt}

-- whether the discriminant has no value of the number
abbrev pub is_outside : Class → ℤ → Bool
is_outside Other z = false
is_outside Signed z = not (is_enum_number z)
is_outside Unsigned z = not (is_word_number z)
is_outside Boolean z = not (int_eq z (pos 0)) && not (int_eq z (pos 1))
is_outside (Enumeration numbers) z = not (list_any (int_eq z) numbers)

abbrev pub case_fault : Class → Option ℤ → Option RuleCode
case_fault class None = None
case_fault class (Some z) = if is_outside class z then Some codes.BadCase else None

-- whether one of the faults stands at a word from one to before another
abbrev pub has_fault : List WordFault → ℕ → ℕ → Bool
has_fault faults from to = list_any (λ f. nat_le from f.word && nat_lt f.word to) faults

-- the faults of cases of a discriminant of the class
abbrev pub case_faults : (List ℕ → View) → List Known → Class → List ValueAt → List WordFault
case_faults see known class vs =
    flat_map (λ v. fault_at v.word (case_fault class (number_by see known (limit_of v.word) v.value))) vs

-- the same, of a class that may not be known
abbrev pub class_faults : (List ℕ → View) → List Known → Option Class → List ValueAt → List WordFault
class_faults see known None vs = []
class_faults see known (Some class) vs = case_faults see known class vs

-- the faults of the cases of a body, if it is a union in whose brackets no fault was found
abbrev pub bad_cases_by : (List ℕ → View) → List Known → List WordFault → tree.Body → ℕ → ℕ → List ValueAt
    → List WordFault
bad_cases_by see known found (tree.Union d arms other) at behind vs =
    if has_fault found (at + 2) behind then [] else class_faults see known (declaration_class see known d) vs
bad_cases_by see known found body at behind vs = []

abbrev pub bad_cases_of : (List ℕ → View) → List Known → List WordFault → BodyAt → List WordFault
bad_cases_of see known found b =
    bad_cases_by see known found (view_body b.body.now) b.at b.behind_discriminant
    (map view_value_at b.cases.items)

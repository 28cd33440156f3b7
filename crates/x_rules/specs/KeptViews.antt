-- What the program keeps of what an item's names mean.
use Rattle.std.specs.Borrow.{Bor}
use Rattle.std.specs.Prelude.{Option, option_map, List, map}
use Rattle.x_rules.specs.Views as views
use Rattle.x_rules.specs.Results.{Outcome}
use Rattle.x_rules.specs.declared.fault.WordFault.{WordFault}
use Rattle.x_rules.specs.declared.checked.OwnedClass.{OwnedClass}
use Rattle.x_rules.specs.declared.checked.OwnedClass.TheVariants as classes
use Rattle.x_rules.specs.declared.checked.OwnedMeaning.{OwnedMeaning}
use Rattle.x_rules.specs.declared.checked.OwnedMeaning.TheVariants as kept

abbrev pub kept_class : OwnedClass → views.Class
kept_class classes.Other = views.Other
kept_class classes.Signed = views.Signed
kept_class classes.Unsigned = views.Unsigned
kept_class classes.Boolean = views.Boolean
kept_class (classes.Enumeration numbers) = views.Enumeration numbers

abbrev pub kept_meaning : OwnedMeaning → views.Meaning
kept_meaning (kept.Constant number) = views.Constant number
kept_meaning (kept.Type class height) = views.OfType (kept_class class) height
kept_meaning kept.Program = views.Program
kept_meaning kept.Bad = views.Bad

-- what was found of an item
abbrev pub outcome_of : List WordFault → List OwnedMeaning → Outcome
outcome_of faults meanings = record { faults = faults; meanings = map kept_meaning meanings }

-- what was found of an item, if it is lent
abbrev pub lent_outcome : Option (Bor Outcome) → Option Outcome
lent_outcome outcome = option_map (λ o. o.now) outcome

-- The numbers and names of rules (this project).
use Rattle.std.specs.Prelude.{ℕ, List, codes}
use Rattle.x_rules.specs.declared.fault.RuleCode.{RuleCode}
use Rattle.x_rules.specs.declared.fault.RuleCode.TheVariants as rules

-- the number of a rule, by which faults of one word stand in order
abbrev pub rule_number : RuleCode → ℕ
rule_number rules.Duplicate = 20
rule_number rules.Unknown = 21
rule_number rules.LateName = 22
rule_number rules.NotType = 23
rule_number rules.NotConst = 24
rule_number rules.Range = 25
rule_number rules.BadSize = 26
rule_number rules.VoidPlace = 27
rule_number rules.EmptyArray = 28
rule_number rules.BadDiscriminant = 29
rule_number rules.BadCase = 30
rule_number rules.RepeatedCase = 31
rule_number rules.RepeatedField = 32
rule_number rules.RepeatedNumber = 33
rule_number rules.TooHigh = 34
rule_number rules.InlineArgument = 36
rule_number rules.UsesFaulty = 37

-- what is printed for a rule: its number and its name
abbrev pub rule_text : RuleCode → List ℕ
rule_text rules.Duplicate = codes "20 Duplicate"
rule_text rules.Unknown = codes "21 Unknown"
rule_text rules.LateName = codes "22 LateName"
rule_text rules.NotType = codes "23 NotType"
rule_text rules.NotConst = codes "24 NotConst"
rule_text rules.Range = codes "25 Range"
rule_text rules.BadSize = codes "26 BadSize"
rule_text rules.VoidPlace = codes "27 VoidPlace"
rule_text rules.EmptyArray = codes "28 EmptyArray"
rule_text rules.BadDiscriminant = codes "29 BadDiscriminant"
rule_text rules.BadCase = codes "30 BadCase"
rule_text rules.RepeatedCase = codes "31 RepeatedCase"
rule_text rules.RepeatedField = codes "32 RepeatedField"
rule_text rules.RepeatedNumber = codes "33 RepeatedNumber"
rule_text rules.TooHigh = codes "34 TooHigh"
rule_text rules.InlineArgument = codes "36 InlineArgument"
rule_text rules.UsesFaulty = codes "37 UsesFaulty"

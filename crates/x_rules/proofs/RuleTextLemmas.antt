-- The texts of rules, and the numbers by which these stand in order.
use Rattle.std.proofs.Common.{◌≡◌, ℕ, ◌+◌, ◌<◌, nat_lt, cond, [], map, refl, lit<, arith, subst}
use Rattle.std.proofs.lemmas.Bool.Decides.{nat_tests}
use Rattle.std.specs.Prelude.{slice_index_or}
use denote.Enum.Declared.{tag_of}
use Rattle.x_rules.specs.RuleTexts.{rule_number, rule_text}
use Rattle.x_rules.specs.contracts.fault.RuleCode.{the_type}
use Rattle.x_rules.specs.declared.fault.RuleCode.{RuleCode}
use Rattle.x_rules.specs.declared.fault.RuleCode.TheVariants as codes
use Rattle.x_rules.specs.declared.fault.TheConstants.{RULE_TEXTS}

-- each rule has a text
pub within : (rule : RuleCode) → tag_of the_type rule < 17
within codes.Duplicate = lit< tt
within codes.Unknown = lit< tt
within codes.LateName = lit< tt
within codes.NotType = lit< tt
within codes.NotConst = lit< tt
within codes.Range = lit< tt
within codes.BadSize = lit< tt
within codes.VoidPlace = lit< tt
within codes.EmptyArray = lit< tt
within codes.BadDiscriminant = lit< tt
within codes.BadCase = lit< tt
within codes.RepeatedCase = lit< tt
within codes.RepeatedField = lit< tt
within codes.RepeatedNumber = lit< tt
within codes.TooHigh = lit< tt
within codes.InlineArgument = lit< tt
within codes.UsesFaulty = lit< tt

-- which is the one at its place in the table
pub text_is : (rule : RuleCode) → slice_index_or (map (λ text. text.now) RULE_TEXTS) (tag_of the_type rule) []
    ≡ rule_text rule
text_is codes.Duplicate = refl
text_is codes.Unknown = refl
text_is codes.LateName = refl
text_is codes.NotType = refl
text_is codes.NotConst = refl
text_is codes.Range = refl
text_is codes.BadSize = refl
text_is codes.VoidPlace = refl
text_is codes.EmptyArray = refl
text_is codes.BadDiscriminant = refl
text_is codes.BadCase = refl
text_is codes.RepeatedCase = refl
text_is codes.RepeatedField = refl
text_is codes.RepeatedNumber = refl
text_is codes.TooHigh = refl
text_is codes.InlineArgument = refl
text_is codes.UsesFaulty = refl

-- the numbers by the places of the rules: there is no 35
number_at : ℕ → ℕ
number_at place = cond (nat_lt place 15) (place + 20) (place + 21)

at_place : (rule : RuleCode) → number_at (tag_of the_type rule) ≡ rule_number rule
unfolding number_at
at_place codes.Duplicate = refl
at_place codes.Unknown = refl
at_place codes.LateName = refl
at_place codes.NotType = refl
at_place codes.NotConst = refl
at_place codes.Range = refl
at_place codes.BadSize = refl
at_place codes.VoidPlace = refl
at_place codes.EmptyArray = refl
at_place codes.BadDiscriminant = refl
at_place codes.BadCase = refl
at_place codes.RepeatedCase = refl
at_place codes.RepeatedField = refl
at_place codes.RepeatedNumber = refl
at_place codes.TooHigh = refl
at_place codes.InlineArgument = refl
at_place codes.UsesFaulty = refl

rises : (a b : ℕ) → a < b → number_at a < number_at b
unfolding number_at
rises a b lt = grind (arith, nat_tests)

-- a rule in front of another has the lower number
pub number_rises : (a b : RuleCode) → tag_of the_type a < tag_of the_type b → rule_number a < rule_number b
number_rises a b lt =
    subst (λ n. n < rule_number b) (at_place a)
    (subst (λ n. number_at (tag_of the_type a) < n) (at_place b)
    (rises (tag_of the_type a) (tag_of the_type b) lt))

-- The rules that a definition keeps beyond its spelling (RFC 4506, section 6.4; RFC 5531, section 12.3):
-- which of them a word breaks. `see` tells what the definition's item sees of each name. A rule that needs a
-- number or a class is not applied where there is none.
use Rattle.std.specs.Prelude.{◌≡◌, ◌<◌, ◌≤◌, ◌⊎◌, ℕ, ◌+◌, Bool, true, false, nat_lt, List, [], ◌∷◌, ◌++◌}
use Rattle.std.specs.Prelude.{length, Option, Some, None, ℤ, pos, slice_get}
use Rattle.std.specs.List.{IsAmong}
use Rattle.x_trees.specs.Tree as tree
use Rattle.x_trees.specs.Tree.{Definition, Declaration, Value}
use Rattle.x_trees.specs.Gloss as gloss
use Rattle.x_trees.specs.Gloss.{Gloss, Role}
use Rattle.x_trees.specs.Names.{Declared, declared}
use Rattle.x_trees.specs.Mentions.{Mention, mentioned}
use Rattle.x_trees.specs.Spell.{spell_declaration}
use Rattle.x_numbers.specs.Numbers.{in_range, value, is_word_number, is_enum_number, number_spelled}
use Rattle.x_rules.specs.Views as views
use Rattle.x_rules.specs.Views.{View, Class, Other, Signed, Unsigned, Boolean, Enumeration}
use Rattle.x_outline.specs.Bodies.{BodyAt, EnumeratorAt, NameAt, ValueAt, NumberAt, Members, bodies}
use Rattle.x_outline.specs.Bodies.{enumerators, cases_of, members, name_groups}
use Rattle.x_rules.specs.Constants.{Known, knowns, number_at}
use Rattle.x_rules.specs.Limits.{most_height}
use Rattle.x_rules.specs.Mentioned.{mention_fault, suits}
use Rattle.x_rules.specs.RuleTexts.{rule_number}
use Rattle.x_rules.specs.Types.{declaration_class, heights}
use Rattle.x_rules.specs.declared.fault.RuleCode.{RuleCode}
use Rattle.x_rules.specs.declared.fault.RuleCode.TheVariants as codes
use Rattle.x_rules.specs.declared.fault.WordFault.{WordFault}

-- the word of the definition has the role
pub record HasRole (d : Definition) (word : ℕ) (role : Role) : Type 0 where
  pub gloss_at : Gloss
  pub word_is : slice_get (gloss.gloss d) word ≡ Some gloss_at
  pub has : IsAmong gloss_at.roles role

-- ---- 20

-- declared at an earlier place, or beforehand
abbrev pub IsEarlierName : View → Type 0
IsEarlierName (views.Earlier kind lifted meaning) = Unit {0}
IsEarlierName view = ⊥

-- one of these has the name
pub record HasName {X : Type 0} (name_of : X → List ℕ) (xs : List X) (name : List ℕ) : Type 0 where
  pub other : X
  pub among : IsAmong xs other
  pub same : name_of other ≡ name

-- The word declares a name that an earlier place declares: an earlier item, the same item before, or that is
-- declared beforehand.
pub record IsDuplicate (names : List Declared) (see : List ℕ → View) (word : ℕ) : Type 0 where
  pub front : List Declared
  pub here : Declared
  pub rear : List Declared
  pub parts : names ≡ front ++ here ∷ rear
  pub word_is : word ≡ here.word
  pub earlier : IsEarlierName (see here.name) ⊎ HasName (λ x. x.name) front here.name

-- ---- 21 to 24, 37

-- The word uses a name, with this fault.
pub record HasMentionFault (mentions : List Mention) (see : List ℕ → View) (es : List EnumeratorAt)
    (code : RuleCode) (word : ℕ) : Type 0 where
  pub mention : Mention
  pub among : IsAmong mentions mention
  pub word_is : word ≡ mention.word
  pub fault : mention_fault see es mention ≡ Some code

-- ---- 25

-- what the word is the value of, or the size
abbrev pub value_role : Role → Option Value
value_role (gloss.ConstantValue v) = Some v
value_role (gloss.EnumeratorValue v) = Some v
value_role (gloss.CaseValue v) = Some v
value_role (gloss.FixedSize v) = Some v
value_role (gloss.GreatestSize v) = Some v
value_role role = None

-- the number of a program, a version or a procedure
abbrev pub number_role : Role → Option (List ℕ)
number_role (gloss.ProgramNumber text) = Some text
number_role (gloss.VersionNumber text) = Some text
number_role (gloss.ProcedureNumber text) = Some text
number_role role = None

-- The word is a value, and a number outside the range of constants.
pub record IsNoConstant (d : Definition) (word : ℕ) : Type 0 where
  pub role : Role
  pub has_role : HasRole d word role
  pub text : List ℕ
  pub is_value : value_role role ≡ Some (tree.Number text)
  pub outside : in_range text ≡ false

-- The word is the value of an enumerator, and its number is outside 32 bits with a sign.
pub record IsNoEnumValue (d : Definition) (see : List ℕ → View) (word : ℕ) : Type 0 where
  pub given : Value
  pub is_value : HasRole d word (gloss.EnumeratorValue given)
  pub number : ℤ
  pub number_is : number_at see (enumerators d) word given ≡ Some number
  pub outside : is_enum_number number ≡ false

-- The word is the number of a program, a version or a procedure, and not from 0 to 2^32-1.
pub record IsNoNumber (d : Definition) (word : ℕ) : Type 0 where
  pub role : Role
  pub has_role : HasRole d word role
  pub text : List ℕ
  pub is_number : number_role role ≡ Some text
  pub outside : is_word_number (value text) ≡ false

-- The word is the name of an enumerator without a value, and its number is outside 32 bits with a sign: it is
-- 2147483648.
pub record IsPastLast (known : List Known) (word : ℕ) : Type 0 where
  pub here : Known
  pub among : IsAmong known here
  pub word_is : word ≡ here.enumerator.word
  pub no_value : here.enumerator.given ≡ None
  pub number : ℤ
  pub number_is : here.number ≡ Some number
  pub outside : is_enum_number number ≡ false

abbrev pub IsOutOfRange : Definition → (List ℕ → View) → ℕ → Type 0
IsOutOfRange d see word =
    IsNoConstant d word
    ⊎ (IsNoEnumValue d see word ⊎ (IsNoNumber d word ⊎ IsPastLast (knowns see (enumerators d)) word))

-- ---- 26, 28

abbrev pub size_role : Role → Option Value
size_role (gloss.FixedSize v) = Some v
size_role (gloss.GreatestSize v) = Some v
size_role role = None

-- The word is a size, and its number is not from 0 to 2^32-1.
pub record IsBadSize (d : Definition) (see : List ℕ → View) (word : ℕ) : Type 0 where
  pub role : Role
  pub has_role : HasRole d word role
  pub size : Value
  pub is_size : size_role role ≡ Some size
  pub number : ℤ
  pub number_is : number_at see (enumerators d) word size ≡ Some number
  pub outside : is_word_number number ≡ false

-- The word is the size of a fixed array, and its number is 0.
pub record IsEmptyArray (d : Definition) (see : List ℕ → View) (word : ℕ) : Type 0 where
  pub size : Value
  pub has_role : HasRole d word (gloss.FixedSize size)
  pub is_zero : number_at see (enumerators d) word size ≡ Some (pos 0)

-- ---- 27

-- `void` in a struct, a typedef or a `switch`, or in front of a second argument
abbrev pub is_misplaced : Role → Bool
is_misplaced (gloss.VoidDeclaration gloss.InTypedef) = true
is_misplaced (gloss.VoidDeclaration (gloss.Inside gloss.AsField around)) = true
is_misplaced (gloss.VoidDeclaration (gloss.Inside gloss.AsDiscriminant around)) = true
is_misplaced (gloss.VoidArgument others) = nat_lt 0 others
is_misplaced role = false

-- The word is a `void` where none may stand.
pub record IsVoidPlace (d : Definition) (word : ℕ) : Type 0 where
  pub role : Role
  pub has_role : HasRole d word role
  pub misplaced : is_misplaced role ≡ true

-- ---- 29

-- The word is the first of the declaration of a discriminant, which is not plain, or whose class is none.
pub record IsBadDiscriminant (d : Definition) (see : List ℕ → View) (word : ℕ) : Type 0 where
  pub discriminant : Declaration
  pub has_role : HasRole d word (gloss.Discriminant discriminant)
  pub no_class : declaration_class see (knowns see (enumerators d)) discriminant ≡ Some Other

-- ---- 31

-- one of these values has the number
pub record HasNumber {X : Type 0} (number_of : X → Option ℤ) (xs : List X) (number : ℤ) : Type 0 where
  pub other : X
  pub among : IsAmong xs other
  pub same : number_of other ≡ Some number

-- The word is the value of a case, and its number stands in an earlier case of the union.
pub record IsRepeatedCase (number_of : ℕ → Value → Option ℤ) (bodies : List BodyAt) (word : ℕ) : Type 0 where
  pub union : BodyAt
  pub is_body : IsAmong bodies union
  pub front : List ValueAt
  pub here : ValueAt
  pub rear : List ValueAt
  pub parts : cases_of union ≡ front ++ here ∷ rear
  pub word_is : word ≡ here.word
  pub number : ℤ
  pub number_is : number_of here.word here.value ≡ Some number
  pub earlier : HasNumber (λ v. number_of v.word v.value) front number

-- ---- 32

-- The word names a field, an arm, a version or a procedure as an earlier one of the same body, program or
-- version is named.
pub record IsRepeatedField (groups : List (List NameAt)) (word : ℕ) : Type 0 where
  pub group : List NameAt
  pub is_group : IsAmong groups group
  pub front : List NameAt
  pub here : NameAt
  pub rear : List NameAt
  pub parts : group ≡ front ++ here ∷ rear
  pub word_is : word ≡ here.word
  pub earlier : HasName (λ x. x.name) front here.name

-- ---- 33

-- The word is the number of a version or a procedure, which an earlier one of the same program or version
-- has.
pub record IsRepeatedNumber (groups : List Members) (word : ℕ) : Type 0 where
  pub group : Members
  pub is_group : IsAmong groups group
  pub front : List NumberAt
  pub here : NumberAt
  pub rear : List NumberAt
  pub parts : group.numbers ≡ front ++ here ∷ rear
  pub word_is : word ≡ here.word
  pub number : ℤ
  pub number_is : number_spelled here.text ≡ Some number
  pub earlier : HasNumber (λ x. number_spelled x.text) front number

-- ---- 34

-- The word is the own name of a type whose height, or that of a type lifted from it, is over 32.
pub record IsTooHigh (names : List Declared) (heights : List ℕ) (word : ℕ) : Type 0 where
  pub own : Declared
  pub among : IsAmong names own
  pub is_type : suits None own.kind ≡ true
  pub not_lifted : own.lifted ≡ false
  pub word_is : word ≡ own.word
  pub height : ℕ
  pub is_height : IsAmong heights height
  pub outside : most_height < height

-- ---- all but 30

-- The word of the definition breaks the rule; of the rule for cases see `IsFault`.
abbrev pub Breaks : Definition → (List ℕ → View) → ℕ → RuleCode → Type 0
Breaks d see word codes.Duplicate = IsDuplicate (declared d) see word
Breaks d see word codes.Unknown = HasMentionFault (mentioned d) see (enumerators d) codes.Unknown word
Breaks d see word codes.LateName = HasMentionFault (mentioned d) see (enumerators d) codes.LateName word
Breaks d see word codes.NotType = HasMentionFault (mentioned d) see (enumerators d) codes.NotType word
Breaks d see word codes.NotConst = HasMentionFault (mentioned d) see (enumerators d) codes.NotConst word
Breaks d see word codes.Range = IsOutOfRange d see word
Breaks d see word codes.BadSize = IsBadSize d see word
Breaks d see word codes.VoidPlace = IsVoidPlace d word
Breaks d see word codes.EmptyArray = IsEmptyArray d see word
Breaks d see word codes.BadDiscriminant = IsBadDiscriminant d see word
Breaks d see word codes.BadCase = ⊥
Breaks d see word codes.RepeatedCase = IsRepeatedCase (number_at see (enumerators d)) (bodies d) word
Breaks d see word codes.RepeatedField = IsRepeatedField (name_groups d) word
Breaks d see word codes.RepeatedNumber = IsRepeatedNumber (members d) word
Breaks d see word codes.TooHigh = IsTooHigh (declared d) (heights d see) word
Breaks d see word codes.InlineArgument = HasRole d word gloss.InlineArgument
Breaks d see word codes.UsesFaulty = HasMentionFault (mentioned d) see (enumerators d) codes.UsesFaulty word

-- ---- 30

-- the discriminant has no value of the number
abbrev pub IsOutside : Class → ℤ → Type 0
IsOutside Other z = ⊥
IsOutside Signed z = is_enum_number z ≡ false
IsOutside Unsigned z = is_word_number z ≡ false
IsOutside Boolean z = (z ≡ pos 0 → ⊥) × (z ≡ pos 1 → ⊥)
IsOutside (Enumeration numbers) z = IsAmong numbers z → ⊥

-- the union has this discriminant, whose declaration begins at the word
pub record IsSwitch (union : BodyAt) (at : ℕ) (discriminant : Declaration) : Type 0 where
  pub arms : tree.Arms
  pub other : tree.Default
  pub body_is : union.body ≡ tree.Union discriminant arms other
  pub at_is : at ≡ union.at + 2

-- No fault stands in the words of a declaration. A union inside the brackets of a `switch` is no
-- discriminant, which is a fault there, so the rule for cases adds none.
abbrev pub HasNoFault : Definition → (List ℕ → View) → ℕ → Declaration → Type 0
HasNoFault d see at declaration =
    (word : ℕ) (code : RuleCode) → at ≤ word → word < at + length (spell_declaration declaration)
    → Breaks d see word code → ⊥

-- The word is the value of a case, and its number is outside the discriminant's class; no fault stands in the
-- brackets of `switch`.
pub record IsBadCase (d : Definition) (see : List ℕ → View) (word : ℕ) : Type 0 where
  pub union : BodyAt
  pub is_body : IsAmong (bodies d) union
  pub at : ℕ
  pub discriminant : Declaration
  pub is_switch : IsSwitch union at discriminant
  pub case : ValueAt
  pub is_case : IsAmong (cases_of union) case
  pub word_is : word ≡ case.word
  pub number : ℤ
  pub number_is : number_at see (enumerators d) case.word case.value ≡ Some number
  pub class : Class
  pub class_is : declaration_class see (knowns see (enumerators d)) discriminant ≡ Some class
  pub outside : IsOutside class number
  pub no_fault : HasNoFault d see at discriminant

-- ---- all

-- The code stands at the word.
abbrev pub IsFault : Definition → (List ℕ → View) → ℕ → RuleCode → Type 0
IsFault d see word codes.BadCase = IsBadCase d see word
IsFault d see word code = Breaks d see word code

-- at an earlier word, or at the same with a code of a lower number
abbrev pub IsBefore : WordFault → WordFault → Type 0
IsBefore f g = (f.word < g.word) ⊎ ((f.word ≡ g.word) × (rule_number f.code < rule_number g.code))

-- each stands before the next
abbrev pub Ascends : List WordFault → Type 0
Ascends [] = Unit {0}
Ascends (f ∷ []) = Unit {0}
Ascends (f ∷ g ∷ rest) = IsBefore f g × Ascends (g ∷ rest)

-- all the faults of a definition, each once, by word, then by code
pub record AreFaults (d : Definition) (see : List ℕ → View) (faults : List WordFault) : Type 0 where
  pub ascend : Ascends faults
  pub are_faults : (f : WordFault) → IsAmong faults f → IsFault d see f.word f.code
  pub are_all : (word : ℕ) (code : RuleCode) → IsFault d see word code
      → IsAmong faults (record { word = word; code = code })

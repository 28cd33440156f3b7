-- What names mean in a text without a fault, before which nothing is known, by who declares them first and
-- what checking that item gives.
use Rattle.std.specs.Prelude.{◌≡◌, ◌<◌, ◌^◌, ℕ, ℤ, pos, Bool, true, List, [], ◌∷◌, ◌++◌, length, map}
use Rattle.std.specs.Prelude.{Option, Some, None}
use Rattle.std.specs.Prelude.{nat_eq, slice_get, option_and_then}
use Rattle.std.specs.List.{IsAmong}
use Rattle.std.specs.Map.{lookup}
use Rattle.x_lex.specs.declared.kind.Kind.{Kind}
use Rattle.x_trees.specs.Declarations.{name_of}
use Rattle.x_trees.specs.Mentions.{Mention, mentioned}
use Rattle.x_trees.specs.Tree as tree
use Rattle.x_trees.specs.Tree.{Arms, Body, Declaration, Definition, Enumerator, Procedure, Value, Version}
use Rattle.x_trees.specs.declared.names.mention.Use.TheVariants as uses
use Rattle.x_names.specs.Declarers.{IsFirstDeclarer}
use Rattle.x_names.specs.declared.names.Declarer.{Declarer}
use Rattle.x_numbers.specs.Numbers.{is_enum_number}
use Rattle.x_outline.specs.Bodies.{BodyAt, bodies, enumerators}
use Rattle.x_rules.specs.Mentioned.{suits}
use Rattle.x_rules.specs.Constants.{knowns, number_seen}
use Rattle.x_rules.specs.Results.{Outcome, result_at, view_by, no_names}
use Rattle.x_rules.specs.Rules.{IsSwitch}
use Rattle.x_rules.specs.Types.{declaration_class}
use Rattle.x_rules.specs.Views.{View, Class, Earlier, OfType, seen}
use Rattle.x_trees.specs.declared.names.declared_name.NameKind.{NameKind}
use Rattle.x_trees.specs.Seen.{names_of}
use Rattle.x_compile.specs.Compile.{IsCompilation, Item, faults_of}
use Rattle.x_compile.specs.Known.{nothing_known}
use Rattle.x_schema.specs.ProceduresOf.{IsProcedure, Numbered, numbers_by, procedures_of, word_spelled}
use Rattle.x_schema.specs.Choices.{Choice}
use Rattle.x_schema.specs.Schema.{Schema, form_at, name_at, procedure_at}
use Rattle.x_schema.specs.SchemaOf.{Known, IsArmOf, IsDeclared, case_word, numbers_of, place_in, signed_word}
use Rattle.x_schema.specs.SchemaOf.{enum_form, typedefs, with_word, word_by}
use Rattle.x_schema.specs.Sound.{is_legal}
use Rattle.x_schema.specs.declared.form.Arm.{Arm}
use Rattle.x_schema.specs.declared.form.Field.{Field}
use Rattle.x_schema.specs.declared.form.Form.{Form}
use Rattle.x_schema.specs.declared.form.Form.TheVariants as forms
use Rattle.x_schema.specs.declared.procedure.CompactProcedure.{CompactProcedure}
use Rattle.x_schema.specs.declared.procedure.ProcedureNumbers.{ProcedureNumbers}

-- none of the results has a fault
abbrev pub AreFaultless : List (Option Outcome) → Type 0
AreFaultless results = (item : ℕ) (o : Outcome) → slice_get results item ≡ Some (Some o) → o.faults ≡ []

-- the first declarer of the name declares it as a type
pub record IsTypeName (definitions : List (Option Definition)) (name : List ℕ) : Type 0 where
  pub at : Declarer
  pub first : IsFirstDeclarer definitions name at
  pub is_type : suits None at.kind ≡ true

-- the name means a type in the whole text: an item behind all others sees it so
pub record MeansType (definitions : List (Option Definition)) (results : List (Option Outcome))
    (name : List ℕ) : Type 0 where
  pub kind : NameKind
  pub lifted : Bool
  pub class : Class
  pub height : ℕ
  pub seen : view_by no_names definitions (result_at results) (length definitions) name
      ≡ Earlier kind lifted (OfType class height)

-- what is known of the whole text: the numbers of its constants, and all types of the schema
abbrev pub whole : List (Option Definition) → Schema → Known
whole definitions s = record { numbers = numbers_of definitions; types = s.types }

-- The form is as the item declares it that declares the name first: a typedef that stands for a type of the
-- item has the name, and the form is what it declares, where each name in it, by value or behind a link,
-- leads to the schema's own type of that name.
pub record IsAsDeclared (definitions : List (Option Definition)) (s : Schema) (name : List ℕ)
    (form : ℕ) : Type 0 where
  pub at : Declarer
  pub first : IsFirstDeclarer definitions name at
  pub declaration : Declaration
  pub is_typedef : IsAmong (typedefs (Some first.declares.definition)) declaration
  pub named : name_of declaration ≡ name
  pub declared : IsDeclared s (whole definitions s) declaration form

-- a name that the definition of an item uses as a type, by value or behind a link
pub record IsUsedAsType (definitions : List (Option Definition)) (name : List ℕ) : Type 0 where
  pub item : ℕ
  pub definition : Definition
  pub item_is : slice_get definitions item ≡ Some (Some definition)
  pub mention : Mention
  pub is_mentioned : IsAmong (mentioned definition) mention
  pub named : mention.name ≡ name
  pub is_type : mention.usage ≡ uses.Value → ⊥

-- what the item of a definition sees of each name
abbrev pub sees : List (Option Definition) → List (Option Outcome) → ℕ → Definition → List ℕ → View
sees definitions results item d =
    seen d (map (view_by no_names definitions (result_at results) item) (names_of d))

-- The number that a name means in the whole text: the one by which an item behind all others would use it,
-- if it is a constant that is declared in the text or beforehand.
abbrev pub number_meant : List (Option Definition) → List (Option Outcome) → List ℕ → Option ℤ
number_meant definitions results name =
    number_seen (view_by no_names definitions (result_at results) (length definitions) name) None

-- the words of enumerators behind others, each that of the number which the enumerator's name means, with the
-- first name of the number
abbrev pub words_meant : (List ℕ → Option ℤ) → List (ℕ × List ℕ) → List Enumerator → List (ℕ × List ℕ)
words_meant meant words [] = words
words_meant meant words (e ∷ es) =
    words_meant meant (with_word words (option_and_then signed_word (meant e.name)) e.name) es

-- The place has an enum of these words, each with its name; an enum of none is `void`.
pub record HasEnum (s : Schema) (place : ℕ) (words : List (ℕ × List ℕ)) : Type 0 where
  pub names : List (ℕ × ℕ)
  pub form : form_at s place ≡ enum_form names
  pub words_are : map (λ e. (e.0, name_at s e.1)) names ≡ words

-- ---- a text

-- These are the items of the text, before which nothing is known, and it has no fault.
pub record IsFaultless (text : List ℕ) (items : List Item) : Type 0 where
  pub tokens : List (Kind × ℕ)
  pub compiles : IsCompilation nothing_known text tokens items
  pub none : faults_of text items ≡ []

-- ---- numbers

-- there is a number, from 0 to 2^32-1
abbrev pub IsSizeNumber : Option ℤ → Type 0
IsSizeNumber number = (n : ℕ) × (n < 2 ^ 32) × (number ≡ Some (pos n))

-- there is one from 1 to 2^32-1
abbrev pub IsArrayNumber : Option ℤ → Type 0
IsArrayNumber number = (n : ℕ) × (0 < n) × (n < 2 ^ 32) × (number ≡ Some (pos n))

-- there is one from -2^31 to 2^31-1
abbrev pub IsEnumNumber : Option ℤ → Type 0
IsEnumNumber number = (z : ℤ) × (number ≡ Some z) × (is_enum_number z ≡ true)

-- ---- unions

-- the class by which the rules go for what the item declares
abbrev pub class_seen : List (Option Definition) → List (Option Outcome) → ℕ → Definition → Declaration
    → Option Class
class_seen definitions results item d declaration =
    declaration_class (sees definitions results item d)
    (knowns (sees definitions results item d) (enumerators d)) declaration

-- The item has the union, whose discriminant is declared so, and the schema has that at the place.
pub record IsUnionIn (definitions : List (Option Definition)) (s : Schema) (item : ℕ) (d : Definition)
    (union : BodyAt) (discriminant : Declaration) (place : ℕ) : Type 0 where
  pub item_is : slice_get definitions item ≡ Some (Some d)
  pub is_body : IsAmong (bodies d) union
  pub at : ℕ
  pub is_switch : IsSwitch union at discriminant
  pub declared : IsDeclared s (whole definitions s) discriminant place

-- a word stands for the number, and is one that a discriminant of the form may have
abbrev pub HasWord : Form → ℤ → Type 0
HasWord form z = (w : ℕ) × (word_by form z ≡ Some w) × (is_legal form w ≡ true)

-- the cases of arms, each with what is declared for it
abbrev pub cases_with : Arms → List (Value × Declaration)
cases_with tree.no_arm = []
cases_with (tree.arm values d rest) = map (λ v. (v, d)) values ++ cases_with rest

-- those of a body
abbrev pub cases_declared : Body → List (Value × Declaration)
cases_declared (tree.Union d arms other) = cases_with arms
cases_declared body = []

-- A union is at the place, and at the word of the case it has an arm, which is what is declared for it.
pub record HasCase (s : Schema) (known : Known) (place : ℕ) (case : Value) (declaration : Declaration)
    : Type 0 where
  pub discriminant : Field
  pub choice : Choice
  pub form_is : form_at s place ≡ forms.Union discriminant choice
  pub word : ℕ
  pub word_is : case_word known.numbers (form_at s discriminant.form) case ≡ Some word
  pub arm : Arm
  pub found : lookup (nat_eq word) choice.cases ≡ Some arm
  pub is_arm : IsArmOf s declaration arm
  pub declared : IsDeclared s known declaration (place_in arm)

-- ---- procedures

-- the procedure has these numbers, and none before it in the text has them
pub record IsFirstOfNumbers (definitions : List (Option Definition)) (p : Numbered)
    (numbers : ProcedureNumbers) : Type 0 where
  pub front : List Numbered
  pub rear : List Numbered
  pub parts : procedures_of definitions ≡ front ++ p ∷ rear
  pub numbers_are : numbers_by p ≡ Some numbers
  pub none_before : (q : Numbered) → IsAmong front q → numbers_by q ≡ Some numbers → ⊥

-- the schema has, for these numbers, what is declared of the procedure
pub record HasProcedure (s : Schema) (numbers : ProcedureNumbers) (p : Procedure) : Type 0 where
  pub kept : CompactProcedure
  pub found : procedure_at s numbers ≡ Some kept
  pub is_procedure : IsProcedure s p kept

-- what is told of one of the list is told of no other
abbrev pub NoneTwice : {X Y : Type 0} → (X → Y) → List X → Type 0
NoneTwice {X} told xs =
    (front rear : List X) (here : X) → xs ≡ front ++ here ∷ rear → (other : X) → IsAmong front other
    → told other ≡ told here → ⊥

-- the item of a program, with its versions and its number as it is spelled
pub record IsProgramAt (definitions : List (Option Definition)) (item : ℕ) (versions : List Version)
    (number : List ℕ) : Type 0 where
  pub name : List ℕ
  pub item_is : slice_get definitions item ≡ Some (Some (tree.Program name versions number))

-- that of a program of which no program before it in the text has the number
pub record IsFirstProgram (definitions : List (Option Definition)) (item : ℕ) (versions : List Version)
    (number : List ℕ) : Type 0 where
  pub is_program : IsProgramAt definitions item versions number
  pub none_before : (earlier : ℕ) (others : List Version) (text : List ℕ) → earlier < item
      → IsProgramAt definitions earlier others text → word_spelled text ≡ word_spelled number → ⊥

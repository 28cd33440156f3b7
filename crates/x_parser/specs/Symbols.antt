-- The grammar as symbols, each of which takes one word and leaves symbols for what may follow it.
use Rattle.std.specs.Prelude.{ℕ, zero, suc, List, [], ◌∷◌, ◌++◌, Option, Some, None, nat_eq, if◌then◌else◌}
use Rattle.x_trees.specs.Words.{Word, Fixed, Name, Number}
use Rattle.x_lex.specs.Marks.{place_of}
use Rattle.x_lex.specs.declared.mark.Mark.{Mark}
use Rattle.x_lex.specs.declared.mark.Mark.TheVariants as marks
use Rattle.x_parser.specs.declared.ending.Ending.{Ending}
use Rattle.x_parser.specs.declared.ending.Ending.TheVariants as endings
use Rattle.x_trees.specs.Limits.{most_inline}
use Rattle.x_trees.specs.declared.trees.declaration.Tag.{Tag}
use Rattle.x_trees.specs.declared.trees.declaration.Tag.TheVariants as tags

-- where a type stands, and so what may stand after it
pub data Context : Type 0 where
  InDeclaration : (ending : Ending) → Context
  InArguments : Context
  InResult : Context

-- n is how many inline bodies may still stand inside one another
pub data Symbol : Type 0 where
  -- a definition
  Item : Symbol
  -- single words
  Token : (mark : Mark) → Symbol
  AnyName : Symbol
  AnyNumber : Symbol
  AnyValue : Symbol
  -- `[value]`, `<>` or `<value>`; what stands after the `<`; either of them or nothing, and the ending
  AnyLength : Symbol
  AfterLess : Symbol
  AfterName : (ending : Ending) → Symbol
  -- a type and what stands after it; after `unsigned`; after the type
  Typed : (n : ℕ) (context : Context) → Symbol
  AfterUnsigned : (context : Context) → Symbol
  AfterType : (context : Context) → Symbol
  -- after `enum`, `struct` or `union`: a name or a body; a body
  AfterTag : (tag : Tag) (n : ℕ) → Symbol
  AnyBody : (tag : Tag) (n : ℕ) → Symbol
  -- enumerators and the `}`; after an enumerator's name; after an enumerator
  Enumerators : Symbol
  AfterEnumerator : Symbol
  MoreEnumerators : Symbol
  -- a declaration and its ending; declarations and the `}`, with one at least, or none
  Declared : (n : ℕ) (ending : Ending) → Symbol
  Declarations : (n : ℕ) → Symbol
  MoreDeclarations : (n : ℕ) → Symbol
  -- arms, the default arm and the `}`; after a case of an arm; more arms or none
  Arms : (n : ℕ) → Symbol
  AfterCase : (n : ℕ) → Symbol
  MoreArms : (n : ℕ) → Symbol
  -- the arguments and the `)`, of which the first may be `void`; arguments and the `)`
  Parameters : Symbol
  Arguments : Symbol
  -- a result and a name; procedures and the `}`, with one at least, or none
  Result : Symbol
  Procedures : Symbol
  MoreProcedures : Symbol
  -- versions and the `}`, with one at least, or none
  Versions : Symbol
  MoreVersions : Symbol

-- on with the symbols where there is a step, else a stop
abbrev pub go : {S : Type 0} {X : Type 0} → Option (List S) → (List S → X) → X → X
go None next stop = stop
go (Some symbols) next stop = next symbols

abbrev pub ending_mark : Ending → Mark
ending_mark endings.Semicolon = marks.Semicolon
ending_mark endings.Parenthesis = marks.CloseParenthesis

-- these symbols after those of a step
abbrev pub followed : List Symbol → Option (List Symbol) → Option (List Symbol)
followed after None = None
followed after (Some symbols) = Some (symbols ++ after)

abbrev pub step_item : Word → Option (List Symbol)
step_item (Fixed marks.Const) = Some (AnyName ∷ Token marks.Equals ∷ AnyValue ∷ Token marks.Semicolon ∷ [])
step_item (Fixed marks.Typedef) = Some (Declared most_inline endings.Semicolon ∷ [])
step_item (Fixed marks.Enum) = Some (AnyName ∷ AnyBody tags.Enum most_inline ∷ Token marks.Semicolon ∷ [])
step_item (Fixed marks.Struct) = Some (AnyName ∷ AnyBody tags.Struct most_inline ∷ Token marks.Semicolon ∷ [])
step_item (Fixed marks.Union) = Some (AnyName ∷ AnyBody tags.Union most_inline ∷ Token marks.Semicolon ∷ [])
step_item (Fixed marks.Program) =
    Some (AnyName ∷ Token marks.OpenBrace ∷ Versions ∷ Token marks.Equals ∷ AnyNumber ∷ Token marks.Semicolon
    ∷ [])
step_item w = None

abbrev pub step_token : Mark → Word → Option (List Symbol)
step_token mark (Fixed other) = if nat_eq (place_of mark) (place_of other) then Some [] else None
step_token mark w = None

abbrev pub step_name : Word → Option (List Symbol)
step_name (Name t) = Some []
step_name w = None

abbrev pub step_number : Word → Option (List Symbol)
step_number (Number t) = Some []
step_number w = None

abbrev pub step_value : Word → Option (List Symbol)
step_value (Name t) = Some []
step_value (Number t) = Some []
step_value w = None

abbrev pub step_length : Word → Option (List Symbol)
step_length (Fixed marks.OpenBracket) = Some (AnyValue ∷ Token marks.CloseBracket ∷ [])
step_length (Fixed marks.Less) = Some (AfterLess ∷ [])
step_length w = None

abbrev pub step_after_less : Word → Option (List Symbol)
step_after_less (Fixed marks.Greater) = Some []
step_after_less (Name t) = Some (Token marks.Greater ∷ [])
step_after_less (Number t) = Some (Token marks.Greater ∷ [])
step_after_less w = None

abbrev pub step_after_name : Ending → Word → Option (List Symbol)
step_after_name e (Fixed marks.OpenBracket) =
    Some (AnyValue ∷ Token marks.CloseBracket ∷ Token (ending_mark e) ∷ [])
step_after_name e (Fixed marks.Less) = Some (AfterLess ∷ Token (ending_mark e) ∷ [])
step_after_name e w = step_token (ending_mark e) w

abbrev pub step_typed : ℕ → Context → Word → Option (List Symbol)
step_typed n c (Fixed marks.Int) = Some (AfterType c ∷ [])
step_typed n c (Fixed marks.Long) = Some (AfterType c ∷ [])
step_typed n c (Fixed marks.Hyper) = Some (AfterType c ∷ [])
step_typed n c (Fixed marks.Float) = Some (AfterType c ∷ [])
step_typed n c (Fixed marks.Double) = Some (AfterType c ∷ [])
step_typed n c (Fixed marks.Quadruple) = Some (AfterType c ∷ [])
step_typed n c (Fixed marks.Bool) = Some (AfterType c ∷ [])
step_typed n c (Fixed marks.Unsigned) = Some (AfterUnsigned c ∷ [])
step_typed n c (Fixed marks.Enum) = Some (AfterTag tags.Enum n ∷ AfterType c ∷ [])
step_typed n c (Fixed marks.Struct) = Some (AfterTag tags.Struct n ∷ AfterType c ∷ [])
step_typed n c (Fixed marks.Union) = Some (AfterTag tags.Union n ∷ AfterType c ∷ [])
step_typed n c (Name t) = Some (AfterType c ∷ [])
step_typed n c w = None

-- the name of a declaration, or a star and the name
abbrev pub step_named : Ending → Word → Option (List Symbol)
step_named e (Fixed marks.Star) = Some (AnyName ∷ Token (ending_mark e) ∷ [])
step_named e (Name t) = Some (AfterName e ∷ [])
step_named e w = None

abbrev pub step_more_arguments : Word → Option (List Symbol)
step_more_arguments (Fixed marks.Comma) = Some (Arguments ∷ [])
step_more_arguments (Fixed marks.CloseParenthesis) = Some []
step_more_arguments w = None

abbrev pub step_after_type : Context → Word → Option (List Symbol)
step_after_type (InDeclaration e) = step_named e
step_after_type InArguments = step_more_arguments
step_after_type InResult = step_name

abbrev pub step_after_unsigned : Context → Word → Option (List Symbol)
step_after_unsigned c (Fixed marks.Int) = Some (AfterType c ∷ [])
step_after_unsigned c (Fixed marks.Long) = Some (AfterType c ∷ [])
step_after_unsigned c (Fixed marks.Hyper) = Some (AfterType c ∷ [])
step_after_unsigned c w = step_after_type c w

abbrev pub step_body : Tag → ℕ → Word → Option (List Symbol)
step_body tags.Enum n (Fixed marks.OpenBrace) = Some (Enumerators ∷ [])
step_body tags.Struct n (Fixed marks.OpenBrace) = Some (Declarations n ∷ [])
step_body tags.Union n (Fixed marks.Switch) =
    Some (Token marks.OpenParenthesis ∷ Declared n endings.Parenthesis ∷ Token marks.OpenBrace ∷ Arms n ∷ [])
step_body tag n w = None

abbrev pub step_after_tag : Tag → ℕ → Word → Option (List Symbol)
step_after_tag tag n (Name t) = Some []
step_after_tag tag zero w = None
step_after_tag tag (suc n) w = step_body tag n w

abbrev pub step_enumerators : Word → Option (List Symbol)
step_enumerators (Name t) = Some (AfterEnumerator ∷ [])
step_enumerators w = None

abbrev pub step_more_enumerators : Word → Option (List Symbol)
step_more_enumerators (Fixed marks.Comma) = Some (Enumerators ∷ [])
step_more_enumerators (Fixed marks.CloseBrace) = Some []
step_more_enumerators w = None

abbrev pub step_after_enumerator : Word → Option (List Symbol)
step_after_enumerator (Fixed marks.Equals) = Some (AnyValue ∷ MoreEnumerators ∷ [])
step_after_enumerator w = step_more_enumerators w

abbrev pub step_declared : ℕ → Ending → Word → Option (List Symbol)
step_declared n e (Fixed marks.Void) = Some (Token (ending_mark e) ∷ [])
step_declared n e (Fixed marks.Opaque) = Some (AnyName ∷ AnyLength ∷ Token (ending_mark e) ∷ [])
step_declared n e (Fixed marks.String) =
    Some (AnyName ∷ Token marks.Less ∷ AfterLess ∷ Token (ending_mark e) ∷ [])
step_declared n e w = step_typed n (InDeclaration e) w

abbrev pub step_declarations : ℕ → Word → Option (List Symbol)
step_declarations n w = followed (MoreDeclarations n ∷ []) (step_declared n endings.Semicolon w)

abbrev pub step_more_declarations : ℕ → Word → Option (List Symbol)
step_more_declarations n (Fixed marks.CloseBrace) = Some []
step_more_declarations n w = step_declarations n w

abbrev pub step_arms : ℕ → Word → Option (List Symbol)
step_arms n (Fixed marks.Case) = Some (AnyValue ∷ Token marks.Colon ∷ AfterCase n ∷ MoreArms n ∷ [])
step_arms n w = None

abbrev pub step_after_case : ℕ → Word → Option (List Symbol)
step_after_case n (Fixed marks.Case) = Some (AnyValue ∷ Token marks.Colon ∷ AfterCase n ∷ [])
step_after_case n w = step_declared n endings.Semicolon w

abbrev pub step_more_arms : ℕ → Word → Option (List Symbol)
step_more_arms n (Fixed marks.Default) =
    Some (Token marks.Colon ∷ Declared n endings.Semicolon ∷ Token marks.CloseBrace ∷ [])
step_more_arms n (Fixed marks.CloseBrace) = Some []
step_more_arms n w = step_arms n w

abbrev pub step_arguments : Word → Option (List Symbol)
step_arguments (Fixed marks.String) = Some (AfterType InArguments ∷ [])
step_arguments w = step_typed most_inline InArguments w

abbrev pub step_parameters : Word → Option (List Symbol)
step_parameters (Fixed marks.Void) = Some (AfterType InArguments ∷ [])
step_parameters w = step_arguments w

abbrev pub step_result : Word → Option (List Symbol)
step_result (Fixed marks.Void) = Some (AnyName ∷ [])
step_result (Fixed marks.String) = Some (AnyName ∷ [])
step_result w = step_typed most_inline InResult w

abbrev pub step_procedures : Word → Option (List Symbol)
step_procedures w =
    followed (Token marks.OpenParenthesis ∷ Parameters ∷ Token marks.Equals ∷ AnyNumber
    ∷ Token marks.Semicolon ∷ MoreProcedures ∷ []) (step_result w)

abbrev pub step_more_procedures : Word → Option (List Symbol)
step_more_procedures (Fixed marks.CloseBrace) = Some []
step_more_procedures w = step_procedures w

abbrev pub step_versions : Word → Option (List Symbol)
step_versions (Fixed marks.Version) =
    Some (AnyName ∷ Token marks.OpenBrace ∷ Procedures ∷ Token marks.Equals ∷ AnyNumber
    ∷ Token marks.Semicolon ∷ MoreVersions ∷ [])
step_versions w = None

abbrev pub step_more_versions : Word → Option (List Symbol)
step_more_versions (Fixed marks.CloseBrace) = Some []
step_more_versions w = step_versions w

-- the symbols after a word that the symbol takes, and nothing for one that it does not take
abbrev pub step : Symbol → Word → Option (List Symbol)
step Item = step_item
step (Token mark) = step_token mark
step AnyName = step_name
step AnyNumber = step_number
step AnyValue = step_value
step AnyLength = step_length
step AfterLess = step_after_less
step (AfterName e) = step_after_name e
step (Typed n c) = step_typed n c
step (AfterUnsigned c) = step_after_unsigned c
step (AfterType c) = step_after_type c
step (AfterTag tag n) = step_after_tag tag n
step (AnyBody tag n) = step_body tag n
step Enumerators = step_enumerators
step AfterEnumerator = step_after_enumerator
step MoreEnumerators = step_more_enumerators
step (Declared n e) = step_declared n e
step (Declarations n) = step_declarations n
step (MoreDeclarations n) = step_more_declarations n
step (Arms n) = step_arms n
step (AfterCase n) = step_after_case n
step (MoreArms n) = step_more_arms n
step Parameters = step_parameters
step Arguments = step_arguments
step Result = step_result
step Procedures = step_procedures
step MoreProcedures = step_more_procedures
step Versions = step_versions
step MoreVersions = step_more_versions

-- a number after `=`, and the `;`
abbrev pub of_number : List Symbol
of_number = Token marks.Equals ∷ AnyNumber ∷ Token marks.Semicolon ∷ []

-- arguments, with the parentheses around them
abbrev pub of_arguments : List Symbol
of_arguments = Token marks.OpenParenthesis ∷ Parameters ∷ []

-- a procedure, and procedures with the braces around them
abbrev pub of_procedure : List Symbol
of_procedure = Result ∷ Token marks.OpenParenthesis ∷ Parameters ∷ of_number

abbrev pub of_procedures : List Symbol
of_procedures = Token marks.OpenBrace ∷ Procedures ∷ []

-- a version, and versions with the braces around them
abbrev pub of_version : List Symbol
of_version = Token marks.Version ∷ AnyName ∷ Token marks.OpenBrace ∷ Procedures ∷ of_number

abbrev pub of_versions : List Symbol
of_versions = Token marks.OpenBrace ∷ Versions ∷ []

-- what follows the keyword of a constant, of a new type and of a program
abbrev pub of_constant : List Symbol
of_constant = AnyName ∷ Token marks.Equals ∷ AnyValue ∷ Token marks.Semicolon ∷ []

abbrev pub of_new_type : Tag → List Symbol
of_new_type tag = AnyName ∷ AnyBody tag most_inline ∷ Token marks.Semicolon ∷ []

abbrev pub of_program : List Symbol
of_program = AnyName ∷ Token marks.OpenBrace ∷ Versions ∷ of_number

-- What each symbol of the grammar stands for, and that its steps are right.
use Rattle.std.proofs.Common.{◌≡◌, ℕ, zero, suc, List, [], ◌∷◌, ◌++◌, ◌⊎◌, inl, inr, Option, Some, None, Bool}
use Rattle.std.proofs.Common.{true, false, nat_eq, refl, ap, sym, ◌∙◌, subst, append_assoc, eq-eqb}
use Rattle.std.specs.Prelude.{if◌then◌else◌}
use Rattle.std.proofs.lemmas.List.{append-nil}
use Rattle.x_trees.specs.Words.{Word, Fixed, Name, Number}
use Rattle.x_lex.specs.declared.mark.Mark.{Mark}
use Rattle.x_lex.specs.declared.mark.Mark.TheVariants as marks
use Rattle.x_parser.specs.declared.ending.Ending.{Ending}
use Rattle.x_parser.specs.declared.ending.Ending.TheVariants as endings
use Rattle.x_trees.specs.declared.trees.declaration.Basic.{Basic}
use Rattle.x_trees.specs.declared.trees.declaration.Basic.TheVariants as basics
use Rattle.x_trees.specs.declared.trees.declaration.Tag.{Tag}
use Rattle.x_trees.specs.declared.trees.declaration.Tag.TheVariants as tags
use Rattle.x_trees.specs.Tree as tree
use Rattle.x_trees.specs.Gloss.{spell_value, tag_mark}
use Rattle.x_trees.specs.Spell.{spell, spell_most, spell_length, spell_named, spell_basic, spell_given}
use Rattle.x_trees.specs.Spell.{spell_other_enumerators, spell_enumerators, spell_cases, spell_type}
use Rattle.x_trees.specs.Spell.{spell_body, spell_declaration, spell_declarations, spell_arms, spell_default}
use Rattle.x_trees.specs.Spell.{spell_argument, spell_passed, spell_others, spell_procedures, spell_versions}
use Rattle.x_trees.specs.Spell.{HasOne, HasDeclaration, TypeFits, BodyFits, DeclarationFits, DeclarationsFit}
use Rattle.x_trees.specs.Spell.{ArmsFit, DefaultFits, ArgumentFits, PassedFits, OthersFit, ProcedureFits}
use Rattle.x_trees.specs.Spell.{ProceduresFit, VersionFits, VersionsFit, KeepsLimits}
use Rattle.x_lex.specs.Marks.{place_of}
use Rattle.x_parser.specs.Symbols.{Context, InDeclaration, InArguments, InResult, Symbol, Item, Token}
use Rattle.x_parser.specs.Symbols.{AnyName, AnyNumber, AnyValue, AnyLength, AfterLess, AfterName, Typed}
use Rattle.x_parser.specs.Symbols.{AfterUnsigned, AfterType, AfterTag, AnyBody, Enumerators, AfterEnumerator}
use Rattle.x_parser.specs.Symbols.{MoreEnumerators, Declared, Declarations, MoreDeclarations, Arms, AfterCase}
use Rattle.x_parser.specs.Symbols.{MoreArms, Parameters, Arguments, Result, Procedures, MoreProcedures}
use Rattle.x_parser.specs.Symbols.{Versions, MoreVersions, ending_mark, followed, step, step_item, step_token}
use Rattle.x_parser.specs.Symbols.{step_name, step_number, step_value, step_length, step_after_less}
use Rattle.x_parser.specs.Symbols.{step_after_name, step_typed, step_named, step_more_arguments}
use Rattle.x_parser.specs.Symbols.{step_after_type, step_after_unsigned, step_body, step_after_tag}
use Rattle.x_parser.specs.Symbols.{step_enumerators, step_more_enumerators, step_after_enumerator}
use Rattle.x_parser.specs.Symbols.{step_declared, step_declarations, step_more_declarations, step_arms}
use Rattle.x_parser.specs.Symbols.{step_after_case, step_more_arms, step_arguments, step_parameters}
use Rattle.x_parser.specs.Symbols.{step_result, step_procedures, step_more_procedures, step_versions}
use Rattle.x_parser.specs.Symbols.{step_more_versions}
use Rattle.x_parser.proofs.Machine.{Vals, Kids, texts, kid_texts, join, front, back, texts_join, join_parts}
use Rattle.x_parser.proofs.Machine.{front_join, back_join}
use Rattle.x_parser.proofs.ReadLemmas.{one_place}

-- what may stand behind `unsigned`
pub data Width : Type 0 where
  NoWidth : Width
  IntWidth : Width
  LongWidth : Width
  HyperWidth : Width

abbrev pub unsigned_of : Width → Basic
unsigned_of NoWidth = basics.Unsigned
unsigned_of IntWidth = basics.UnsignedInt
unsigned_of LongWidth = basics.UnsignedLong
unsigned_of HyperWidth = basics.UnsignedHyper

abbrev pub spell_width : Width → List Word
spell_width NoWidth = []
spell_width IntWidth = Fixed marks.Int ∷ []
spell_width LongWidth = Fixed marks.Long ∷ []
spell_width HyperWidth = Fixed marks.Hyper ∷ []

abbrev pub GoodDeclaration : ℕ → Type 0
GoodDeclaration n = (d : tree.Declaration) × DeclarationFits d n

abbrev pub GoodDeclarations : ℕ → Type 0
GoodDeclarations n = (ds : tree.Declarations) × DeclarationsFit ds n

abbrev pub GoodType : ℕ → Type 0
GoodType n = (t : tree.DataType) × TypeFits t n

abbrev pub GoodArms : ℕ → Type 0
GoodArms n = ((arms : tree.Arms) × ArmsFit arms n) × ((other : tree.Default) × DefaultFits other n)

abbrev pub GoodOthers : Type 0
GoodOthers = (others : List tree.Argument) × OthersFit others

abbrev pub AfterCaseValue : ℕ → Type 0
AfterCaseValue n = List tree.Value × GoodDeclaration n

abbrev pub ArmsValue : ℕ → Type 0
ArmsValue n = tree.Value × (AfterCaseValue n × GoodArms n)

-- behind a type
abbrev pub AfterTypeValue : Context → Type 0
AfterTypeValue (InDeclaration e) = List ℕ × tree.Shape
AfterTypeValue InArguments = GoodOthers
AfterTypeValue InResult = List ℕ

abbrev pub text_after_type : (c : Context) → AfterTypeValue c → List Word
text_after_type (InDeclaration e) v = spell_named v.0 v.1 ++ Fixed (ending_mark e) ∷ []
text_after_type InArguments v = spell_others v.0 ++ Fixed marks.CloseParenthesis ∷ []
text_after_type InResult v = Name v ∷ []

abbrev pub EnumeratorsValue : Type 0
EnumeratorsValue = List ℕ × (Option tree.Value × List tree.Enumerator)

abbrev pub enumerators_of : EnumeratorsValue → List tree.Enumerator
enumerators_of v = record { name = v.0; value = v.1.0 } ∷ v.1.1

abbrev pub text_enumerators : List tree.Enumerator → List Word
text_enumerators es = spell_enumerators es ++ Fixed marks.CloseBrace ∷ []

abbrev pub text_other_enumerators : List tree.Enumerator → List Word
text_other_enumerators es = spell_other_enumerators es ++ Fixed marks.CloseBrace ∷ []

abbrev pub text_declarations : tree.Declarations → List Word
text_declarations ds = spell_declarations ds ++ Fixed marks.CloseBrace ∷ []

abbrev pub BodyValue : Tag → ℕ → Type 0
BodyValue tags.Enum n = EnumeratorsValue
BodyValue tags.Struct n = GoodDeclaration n × GoodDeclarations n
BodyValue tags.Union n = GoodDeclaration n × ArmsValue n

abbrev pub arms_of : {n : ℕ} → ArmsValue n → tree.Arms
arms_of v = tree.arm (v.0 ∷ v.1.0.0) v.1.0.1.0 v.1.1.0.0

abbrev pub body_of : (tag : Tag) (n : ℕ) → BodyValue tag n → (b : tree.Body) × BodyFits b n
body_of tags.Enum n v = (tree.Enum (enumerators_of v), tt)
body_of tags.Struct n v = (tree.Struct (tree.more v.0.0 v.1.0), (tt, (v.0.1, v.1.1)))
body_of tags.Union n v = (
  tree.Union v.0.0 (tree.arm (v.1.0 ∷ v.1.1.0.0) v.1.1.0.1.0 v.1.1.1.0.0) v.1.1.1.1.0,
  (v.0.1, (tt, ((tt, (v.1.1.0.1.1, v.1.1.1.0.1)), v.1.1.1.1.1))),
)

-- a name, or a body where one is allowed
abbrev pub TaggedValue : Tag → ℕ → Type 0
TaggedValue tag zero = List ℕ
TaggedValue tag (suc n) = List ℕ ⊎ BodyValue tag n

abbrev pub text_tagged : (tag : Tag) (n : ℕ) → TaggedValue tag n → List Word
text_tagged tag zero v = Name v ∷ []
text_tagged tag (suc n) (inl t) = Name t ∷ []
text_tagged tag (suc n) (inr v) = spell_body (body_of tag n v).0

abbrev pub tagged_type : (tag : Tag) (n : ℕ) → TaggedValue tag n → GoodType n
tagged_type tag zero v = (tree.Tagged tag v, tt)
tagged_type tag (suc n) (inl t) = (tree.Tagged tag t, tt)
tagged_type tag (suc n) (inr v) = (tree.Inline (body_of tag n v).0, (body_of tag n v).1)

abbrev pub Value : Symbol → Type 0
Value Item = (d : tree.Definition) × KeepsLimits d
Value (Token m) = Unit {0}
Value AnyName = List ℕ
Value AnyNumber = List ℕ
Value AnyValue = tree.Value
Value AnyLength = tree.Length
Value AfterLess = Option tree.Value
Value (AfterName e) = Option tree.Length
Value (Typed n c) = GoodType n × AfterTypeValue c
Value (AfterUnsigned c) = Width × AfterTypeValue c
Value (AfterType c) = AfterTypeValue c
Value (AfterTag tag n) = TaggedValue tag n
Value (AnyBody tag n) = BodyValue tag n
Value Enumerators = EnumeratorsValue
Value AfterEnumerator = Option tree.Value × List tree.Enumerator
Value MoreEnumerators = List tree.Enumerator
Value (Declared n e) = GoodDeclaration n
Value (Declarations n) = GoodDeclaration n × GoodDeclarations n
Value (MoreDeclarations n) = GoodDeclarations n
Value (Arms n) = ArmsValue n
Value (AfterCase n) = AfterCaseValue n
Value (MoreArms n) = GoodArms n
Value Parameters = ((first : Option tree.Argument) × PassedFits first) × GoodOthers
Value Arguments = ((first : tree.Argument) × ArgumentFits first) × GoodOthers
Value Result = ((result : Option tree.Argument) × PassedFits result) × List ℕ
Value Procedures = ((p : tree.Procedure) × ProcedureFits p) × ((ps : List tree.Procedure) × ProceduresFit ps)
Value MoreProcedures = (ps : List tree.Procedure) × ProceduresFit ps
Value Versions = ((v : tree.Version) × VersionFits v) × ((vs : List tree.Version) × VersionsFit vs)
Value MoreVersions = (vs : List tree.Version) × VersionsFit vs

-- behind a name: nothing or a length
abbrev pub shape_of : Option tree.Length → tree.Shape
shape_of None = tree.Plain
shape_of (Some length) = tree.Array length

abbrev pub spell_maybe_length : Option tree.Length → List Word
spell_maybe_length None = []
spell_maybe_length (Some length) = spell_length length

abbrev pub text : (s : Symbol) → Value s → List Word
text Item v = spell v.0
text (Token m) v = Fixed m ∷ []
text AnyName v = Name v ∷ []
text AnyNumber v = Number v ∷ []
text AnyValue v = spell_value v ∷ []
text AnyLength v = spell_length v
text AfterLess v = spell_most v ++ Fixed marks.Greater ∷ []
text (AfterName e) v = spell_maybe_length v ++ Fixed (ending_mark e) ∷ []
text (Typed n c) v = spell_type v.0.0 ++ text_after_type c v.1
text (AfterUnsigned c) v = spell_width v.0 ++ text_after_type c v.1
text (AfterType c) v = text_after_type c v
text (AfterTag tag n) v = text_tagged tag n v
text (AnyBody tag n) v = spell_body (body_of tag n v).0
text Enumerators v = text_enumerators (enumerators_of v)
text AfterEnumerator v = spell_given v.0 ++ text_other_enumerators v.1
text MoreEnumerators v = text_other_enumerators v
text (Declared n e) v = spell_declaration v.0 ++ Fixed (ending_mark e) ∷ []
text (Declarations n) v = text_declarations (tree.more v.0.0 v.1.0)
text (MoreDeclarations n) v = text_declarations v.0
text (Arms n) v = spell_arms (tree.arm (v.0 ∷ v.1.0.0) v.1.0.1.0 v.1.1.0.0) ++ spell_default v.1.1.1.0
text (AfterCase n) v = spell_cases v.0 ++ (spell_declaration v.1.0 ++ Fixed marks.Semicolon ∷ [])
text (MoreArms n) v = spell_arms v.0.0 ++ spell_default v.1.0
text Parameters v = (spell_passed v.0.0 ++ spell_others v.1.0) ++ Fixed marks.CloseParenthesis ∷ []
text Arguments v = (spell_argument v.0.0 ++ spell_others v.1.0) ++ Fixed marks.CloseParenthesis ∷ []
text Result v = spell_passed v.0.0 ++ Name v.1 ∷ []
text Procedures v = spell_procedures (v.0.0 ∷ v.1.0) ++ Fixed marks.CloseBrace ∷ []
text MoreProcedures v = spell_procedures v.0 ++ Fixed marks.CloseBrace ∷ []
text Versions v = spell_versions (v.0.0 ∷ v.1.0) ++ Fixed marks.CloseBrace ∷ []
text MoreVersions v = spell_versions v.0 ++ Fixed marks.CloseBrace ∷ []

-- ---- the values of the first symbols, and of those behind them

abbrev parts : (after : List Symbol) (o : Option (List Symbol)) → Kids Value (followed after o)
    → Kids Value o × Vals Value after
parts after None k = absurd k
parts after (Some rhs) k = (front Value rhs after k, back Value rhs after k)

abbrev put : (after : List Symbol) (o : Option (List Symbol)) → Kids Value o → Vals Value after
    → Kids Value (followed after o)
put after None k m = absurd k
put after (Some rhs) k m = join Value rhs after k m

parts_put : (after : List Symbol) (o : Option (List Symbol)) (k : Kids Value o) (m : Vals Value after)
    → parts after o (put after o k m) ≡ (k, m)
parts_put after None k m = absurd k
parts_put after (Some rhs) k m =
    ap (λ (x : Vals Value rhs). (x, back Value rhs after (join Value rhs after k m)))
    (front_join Value rhs after k m)
    ∙ ap (λ (y : Vals Value after). (k, y)) (back_join Value rhs after k m)

parts_text : (after : List Symbol) (o : Option (List Symbol)) (k : Kids Value (followed after o))
    → kid_texts Value text (followed after o) k ≡ kid_texts Value text o (parts after o k).0
    ++ texts Value text after (parts after o k).1
parts_text after None k = absurd k
parts_text after (Some rhs) k =
    ap (texts Value text (rhs ++ after)) (sym (join_parts Value rhs after k))
    ∙ texts_join Value text rhs after (front Value rhs after k) (back Value rhs after k)

-- ---- the value that a step makes

build_item : (w : Word) → Kids Value (step_item w) → Value Item
build_item (Fixed marks.Const) k = (tree.Const k.0 k.1.1.0, tt)
build_item (Fixed marks.Typedef) k = (tree.Typedef k.0.0, k.0.1)
build_item (Fixed marks.Enum) k = let b = body_of tags.Enum 32 k.1.0 in (tree.NewType k.0 b.0, b.1)
build_item (Fixed marks.Struct) k = let b = body_of tags.Struct 32 k.1.0 in (tree.NewType k.0 b.0, b.1)
build_item (Fixed marks.Union) k = let b = body_of tags.Union 32 k.1.0 in (tree.NewType k.0 b.0, b.1)
build_item (Fixed marks.Program) k =
    let v = k.1.1.0 in (tree.Program k.0 (v.0.0 ∷ v.1.0) k.1.1.1.1.0, (tt, (v.0.1, v.1.1)))
build_item w k = absurd k

build_name : (w : Word) → Kids Value (step_name w) → List ℕ
build_name (Name t) k = t
build_name w k = absurd k

build_number : (w : Word) → Kids Value (step_number w) → List ℕ
build_number (Number t) k = t
build_number w k = absurd k

build_value : (w : Word) → Kids Value (step_value w) → tree.Value
build_value (Name t) k = tree.Named t
build_value (Number t) k = tree.Number t
build_value w k = absurd k

build_length : (w : Word) → Kids Value (step_length w) → tree.Length
build_length (Fixed marks.OpenBracket) k = tree.Fixed k.0
build_length (Fixed marks.Less) k = tree.Variable k.0
build_length w k = absurd k

build_after_less : (w : Word) → Kids Value (step_after_less w) → Option tree.Value
build_after_less (Fixed marks.Greater) k = None
build_after_less (Name t) k = Some (tree.Named t)
build_after_less (Number t) k = Some (tree.Number t)
build_after_less w k = absurd k

build_after_name : (e : Ending) (w : Word) → Kids Value (step_after_name e w) → Option tree.Length
build_after_name e (Fixed marks.OpenBracket) k = Some (tree.Fixed k.0)
build_after_name e (Fixed marks.Less) k = Some (tree.Variable k.0)
build_after_name e w k = None

build_typed : (n : ℕ) (c : Context) (w : Word) → Kids Value (step_typed n c w) → Value (Typed n c)
build_typed n c (Fixed marks.Int) k = ((tree.Simple basics.Int, tt), k.0)
build_typed n c (Fixed marks.Long) k = ((tree.Simple basics.Long, tt), k.0)
build_typed n c (Fixed marks.Hyper) k = ((tree.Simple basics.Hyper, tt), k.0)
build_typed n c (Fixed marks.Float) k = ((tree.Simple basics.Float, tt), k.0)
build_typed n c (Fixed marks.Double) k = ((tree.Simple basics.Double, tt), k.0)
build_typed n c (Fixed marks.Quadruple) k = ((tree.Simple basics.Quadruple, tt), k.0)
build_typed n c (Fixed marks.Bool) k = ((tree.Simple basics.Bool, tt), k.0)
build_typed n c (Fixed marks.Unsigned) k = ((tree.Simple (unsigned_of k.0.0), tt), k.0.1)
build_typed n c (Fixed marks.Enum) k = (tagged_type tags.Enum n k.0, k.1.0)
build_typed n c (Fixed marks.Struct) k = (tagged_type tags.Struct n k.0, k.1.0)
build_typed n c (Fixed marks.Union) k = (tagged_type tags.Union n k.0, k.1.0)
build_typed n c (Name t) k = ((tree.Name t, tt), k.0)
build_typed n c w k = absurd k

build_named : (e : Ending) (w : Word) → Kids Value (step_named e w) → List ℕ × tree.Shape
build_named e (Fixed marks.Star) k = (k.0, tree.Optional)
build_named e (Name t) k = (t, shape_of k.0)
build_named e w k = absurd k

build_more_arguments : (w : Word) → Kids Value (step_more_arguments w) → GoodOthers
build_more_arguments (Fixed marks.Comma) k = (k.0.0.0 ∷ k.0.1.0, (k.0.0.1, k.0.1.1))
build_more_arguments (Fixed marks.CloseParenthesis) k = ([], tt)
build_more_arguments w k = absurd k

build_after_type : (c : Context) (w : Word) → Kids Value (step_after_type c w) → AfterTypeValue c
build_after_type (InDeclaration e) = build_named e
build_after_type InArguments = build_more_arguments
build_after_type InResult = build_name

build_after_unsigned : (c : Context) (w : Word) → Kids Value (step_after_unsigned c w)
    → Width × AfterTypeValue c
build_after_unsigned c (Fixed marks.Int) k = (IntWidth, k.0)
build_after_unsigned c (Fixed marks.Long) k = (LongWidth, k.0)
build_after_unsigned c (Fixed marks.Hyper) k = (HyperWidth, k.0)
build_after_unsigned c w k = (NoWidth, build_after_type c w k)

build_body : (tag : Tag) (n : ℕ) (w : Word) → Kids Value (step_body tag n w) → BodyValue tag n
build_body tags.Enum n (Fixed marks.OpenBrace) k = k.0
build_body tags.Struct n (Fixed marks.OpenBrace) k = k.0
build_body tags.Union n (Fixed marks.Switch) k = (k.1.0, k.1.1.1.0)
build_body tag n w k = absurd k

build_after_tag : (tag : Tag) (n : ℕ) (w : Word) → Kids Value (step_after_tag tag n w) → TaggedValue tag n
build_after_tag tag zero (Name t) k = t
build_after_tag tag (suc n) (Name t) k = inl t
build_after_tag tag zero w k = absurd k
build_after_tag tag (suc n) w k = inr (build_body tag n w k)

build_enumerators : (w : Word) → Kids Value (step_enumerators w) → EnumeratorsValue
build_enumerators (Name t) k = (t, k.0)
build_enumerators w k = absurd k

build_more_enumerators : (w : Word) → Kids Value (step_more_enumerators w) → List tree.Enumerator
build_more_enumerators (Fixed marks.Comma) k = enumerators_of k.0
build_more_enumerators (Fixed marks.CloseBrace) k = []
build_more_enumerators w k = absurd k

build_after_enumerator : (w : Word) → Kids Value (step_after_enumerator w)
    → Option tree.Value × List tree.Enumerator
build_after_enumerator (Fixed marks.Equals) k = (Some k.0, k.1.0)
build_after_enumerator w k = (None, build_more_enumerators w k)

build_declared : (n : ℕ) (e : Ending) (w : Word) → Kids Value (step_declared n e w) → GoodDeclaration n
build_declared n e (Fixed marks.Void) k = (tree.Void, tt)
build_declared n e (Fixed marks.Opaque) k = (tree.Opaque k.0 k.1.0, tt)
build_declared n e (Fixed marks.String) k = (tree.String k.0 k.1.1.0, tt)
build_declared n e w k = let v = build_typed n (InDeclaration e) w k in (tree.Of v.0.0 v.1.0 v.1.1, v.0.1)

build_declarations : (n : ℕ) (w : Word) → Kids Value (step_declarations n w)
    → GoodDeclaration n × GoodDeclarations n
build_declarations n w k =
    let p = parts (MoreDeclarations n ∷ []) (step_declared n endings.Semicolon w) k in
    (build_declared n endings.Semicolon w p.0, p.1.0)

build_more_declarations : (n : ℕ) (w : Word) → Kids Value (step_more_declarations n w) → GoodDeclarations n
build_more_declarations n (Fixed marks.CloseBrace) k = (tree.none, tt)
build_more_declarations n w k = let v = build_declarations n w k in (tree.more v.0.0 v.1.0, (v.0.1, v.1.1))

build_arms : (n : ℕ) (w : Word) → Kids Value (step_arms n w) → ArmsValue n
build_arms n (Fixed marks.Case) k = (k.0, (k.1.1.0, k.1.1.1.0))
build_arms n w k = absurd k

build_after_case : (n : ℕ) (w : Word) → Kids Value (step_after_case n w) → AfterCaseValue n
build_after_case n (Fixed marks.Case) k = (k.0 ∷ k.1.1.0.0, k.1.1.0.1)
build_after_case n w k = ([], build_declared n endings.Semicolon w k)

build_more_arms : (n : ℕ) (w : Word) → Kids Value (step_more_arms n w) → GoodArms n
build_more_arms n (Fixed marks.Default) k = ((tree.no_arm, tt), (tree.default k.1.0.0, k.1.0.1))
build_more_arms n (Fixed marks.CloseBrace) k = ((tree.no_arm, tt), (tree.no_default, tt))
build_more_arms n w k =
    let v = build_arms n w k in
    ((tree.arm (v.0 ∷ v.1.0.0) v.1.0.1.0 v.1.1.0.0, (tt, (v.1.0.1.1, v.1.1.0.1))), v.1.1.1)

build_arguments : (w : Word) → Kids Value (step_arguments w) → Value Arguments
build_arguments (Fixed marks.String) k = ((tree.Text, tt), k.0)
build_arguments w k = let v = build_typed 32 InArguments w k in ((tree.Typed v.0.0, v.0.1), v.1)

build_parameters : (w : Word) → Kids Value (step_parameters w) → Value Parameters
build_parameters (Fixed marks.Void) k = ((None, tt), k.0)
build_parameters w k = let v = build_arguments w k in ((Some v.0.0, v.0.1), v.1)

build_result : (w : Word) → Kids Value (step_result w) → Value Result
build_result (Fixed marks.Void) k = ((None, tt), k.0)
build_result (Fixed marks.String) k = ((Some tree.Text, tt), k.0)
build_result w k = let v = build_typed 32 InResult w k in ((Some (tree.Typed v.0.0), v.0.1), v.1)

abbrev after_result : List Symbol
after_result = Token marks.OpenParenthesis ∷ Parameters ∷ Token marks.Equals ∷ AnyNumber
    ∷ Token marks.Semicolon ∷ MoreProcedures ∷ []

abbrev procedures_of : Value Result → Vals Value after_result → Value Procedures
procedures_of r k = (
  (
    record { result = r.0.0; name = r.1; first = k.1.0.0.0; others = k.1.0.1.0; number = k.1.1.1.0 },
    (r.0.1, (k.1.0.0.1, k.1.0.1.1)),
  ),
  k.1.1.1.1.1.0,
)

build_procedures : (w : Word) → Kids Value (step_procedures w) → Value Procedures
build_procedures w k = let p = parts after_result (step_result w) k in procedures_of (build_result w p.0) p.1

build_more_procedures : (w : Word) → Kids Value (step_more_procedures w) → Value MoreProcedures
build_more_procedures (Fixed marks.CloseBrace) k = ([], tt)
build_more_procedures w k = let v = build_procedures w k in (v.0.0 ∷ v.1.0, (v.0.1, v.1.1))

build_versions : (w : Word) → Kids Value (step_versions w) → Value Versions
build_versions (Fixed marks.Version) k =
    let ps = k.1.1.0 in (
      (record { name = k.0; procedures = ps.0.0 ∷ ps.1.0; number = k.1.1.1.1.0 }, (tt, (ps.0.1, ps.1.1))),
      k.1.1.1.1.1.1.0,
    )
build_versions w k = absurd k

build_more_versions : (w : Word) → Kids Value (step_more_versions w) → Value MoreVersions
build_more_versions (Fixed marks.CloseBrace) k = ([], tt)
build_more_versions w k = let v = build_versions w k in (v.0.0 ∷ v.1.0, (v.0.1, v.1.1))

pub build : (s : Symbol) (w : Word) → Kids Value (step s w) → Value s
build Item = build_item
build (Token m) = λ w k. tt
build AnyName = build_name
build AnyNumber = build_number
build AnyValue = build_value
build AnyLength = build_length
build AfterLess = build_after_less
build (AfterName e) = build_after_name e
build (Typed n c) = build_typed n c
build (AfterUnsigned c) = build_after_unsigned c
build (AfterType c) = build_after_type c
build (AfterTag tag n) = build_after_tag tag n
build (AnyBody tag n) = build_body tag n
build Enumerators = build_enumerators
build AfterEnumerator = build_after_enumerator
build MoreEnumerators = build_more_enumerators
build (Declared n e) = build_declared n e
build (Declarations n) = build_declarations n
build (MoreDeclarations n) = build_more_declarations n
build (Arms n) = build_arms n
build (AfterCase n) = build_after_case n
build (MoreArms n) = build_more_arms n
build Parameters = build_parameters
build Arguments = build_arguments
build Result = build_result
build Procedures = build_procedures
build MoreProcedures = build_more_procedures
build Versions = build_versions
build MoreVersions = build_more_versions

-- ---- its text is the word and the texts of its parts

-- the text of a step's only part
only : (w : Word) (t : List Word) → w ∷ t ≡ w ∷ (t ++ [])
only w t = ap (λ x. w ∷ x) (sym (append-nil t))

-- words, and those behind them, one by one
two : (a b c : List Word) → (a ++ b) ++ c ≡ a ++ ((b ++ c) ++ [])
two a b c = append_assoc a b c ∙ ap (λ x. a ++ x) (sym (append-nil (b ++ c)))

built_item : (w : Word) (k : Kids Value (step_item w))
    → text Item (build_item w k) ≡ w ∷ kid_texts Value text (step_item w) k
unfolding build_item
built_item (Fixed marks.Const) k = refl
built_item (Fixed marks.Typedef) k =
    only (Fixed marks.Typedef) (spell_declaration k.0.0 ++ Fixed marks.Semicolon ∷ [])
built_item (Fixed marks.Enum) k = refl
built_item (Fixed marks.Struct) k = refl
built_item (Fixed marks.Union) k = refl
built_item (Fixed marks.Program) k =
    let v = k.1.1.0 in
    ap (λ t. Fixed marks.Program ∷ Name k.0 ∷ Fixed marks.OpenBrace ∷ t)
    (sym (append_assoc (spell_versions (v.0.0 ∷ v.1.0)) (Fixed marks.CloseBrace ∷ [])
    (Fixed marks.Equals ∷ Number k.1.1.1.1.0 ∷ Fixed marks.Semicolon ∷ [])))
built_item w k = absurd k

pub token_kids : (m x : Mark) (b : Bool) → b ≡ nat_eq (place_of m) (place_of x)
    → Kids Value (if b then Some [] else None) → m ≡ x
token_kids m x false e k = absurd k
token_kids m x true e k = one_place m x (sym e)

token_texts : (b : Bool) (k : Kids Value (if b then Some [] else None))
    → kid_texts Value text (if b then Some [] else None) k ≡ []
token_texts false k = absurd k
token_texts true k = refl

built_token : (m : Mark) (w : Word) (k : Kids Value (step_token m w))
    → Fixed m ∷ [] ≡ w ∷ kid_texts Value text (step_token m w) k
built_token m (Fixed x) k =
    ap (λ y. Fixed y ∷ []) (token_kids m x (nat_eq (place_of m) (place_of x)) refl k)
    ∙ ap (λ t. Fixed x ∷ t) (sym (token_texts (nat_eq (place_of m) (place_of x)) k))
built_token m w k = absurd k

built_name : (w : Word) (k : Kids Value (step_name w))
    → text AnyName (build_name w k) ≡ w ∷ kid_texts Value text (step_name w) k
unfolding build_name
built_name (Name t) k = refl
built_name w k = absurd k

built_number : (w : Word) (k : Kids Value (step_number w))
    → text AnyNumber (build_number w k) ≡ w ∷ kid_texts Value text (step_number w) k
unfolding build_number
built_number (Number t) k = refl
built_number w k = absurd k

built_value : (w : Word) (k : Kids Value (step_value w))
    → text AnyValue (build_value w k) ≡ w ∷ kid_texts Value text (step_value w) k
unfolding build_value
built_value (Name t) k = refl
built_value (Number t) k = refl
built_value w k = absurd k

built_length : (w : Word) (k : Kids Value (step_length w))
    → text AnyLength (build_length w k) ≡ w ∷ kid_texts Value text (step_length w) k
unfolding build_length
built_length (Fixed marks.OpenBracket) k = refl
built_length (Fixed marks.Less) k = only (Fixed marks.Less) (spell_most k.0 ++ Fixed marks.Greater ∷ [])
built_length w k = absurd k

built_after_less : (w : Word) (k : Kids Value (step_after_less w))
    → text AfterLess (build_after_less w k) ≡ w ∷ kid_texts Value text (step_after_less w) k
unfolding build_after_less
built_after_less (Fixed marks.Greater) k = refl
built_after_less (Name t) k = refl
built_after_less (Number t) k = refl
built_after_less w k = absurd k

built_after_name : (e : Ending) (w : Word) (k : Kids Value (step_after_name e w))
    → text (AfterName e) (build_after_name e w k) ≡ w ∷ kid_texts Value text (step_after_name e w) k
unfolding build_after_name
built_after_name e (Fixed marks.OpenBracket) k = refl
built_after_name e (Fixed marks.Less) k = refl
built_after_name e w k = built_token (ending_mark e) w k

tagged_text : (tag : Tag) (n : ℕ) (v : TaggedValue tag n)
    → spell_type (tagged_type tag n v).0 ≡ Fixed (tag_mark tag) ∷ text_tagged tag n v
tagged_text tag zero v = refl
tagged_text tag (suc n) (inl t) = refl
tagged_text tags.Enum (suc n) (inr v) = refl
tagged_text tags.Struct (suc n) (inr v) = refl
tagged_text tags.Union (suc n) (inr v) = refl

built_tagged : (tag : Tag) (n : ℕ) (c : Context) (v : TaggedValue tag n) (behind : AfterTypeValue c)
    → spell_type (tagged_type tag n v).0 ++ text_after_type c behind
    ≡ Fixed (tag_mark tag) ∷ (text_tagged tag n v ++ (text_after_type c behind ++ []))
built_tagged tag n c v behind =
    ap (λ x. x ++ text_after_type c behind) (tagged_text tag n v)
    ∙ ap (λ x. Fixed (tag_mark tag) ∷ (text_tagged tag n v ++ x))
    (sym (append-nil (text_after_type c behind)))

built_unsigned : (width : Width) (t : List Word)
    → spell_basic (unsigned_of width) ++ t ≡ Fixed marks.Unsigned ∷ ((spell_width width ++ t) ++ [])
built_unsigned NoWidth t = only (Fixed marks.Unsigned) t
built_unsigned IntWidth t = only (Fixed marks.Unsigned) (Fixed marks.Int ∷ t)
built_unsigned LongWidth t = only (Fixed marks.Unsigned) (Fixed marks.Long ∷ t)
built_unsigned HyperWidth t = only (Fixed marks.Unsigned) (Fixed marks.Hyper ∷ t)

built_typed : (n : ℕ) (c : Context) (w : Word) (k : Kids Value (step_typed n c w))
    → text (Typed n c) (build_typed n c w k) ≡ w ∷ kid_texts Value text (step_typed n c w) k
unfolding build_typed
built_typed n c (Fixed marks.Int) k = only (Fixed marks.Int) (text_after_type c k.0)
built_typed n c (Fixed marks.Long) k = only (Fixed marks.Long) (text_after_type c k.0)
built_typed n c (Fixed marks.Hyper) k = only (Fixed marks.Hyper) (text_after_type c k.0)
built_typed n c (Fixed marks.Float) k = only (Fixed marks.Float) (text_after_type c k.0)
built_typed n c (Fixed marks.Double) k = only (Fixed marks.Double) (text_after_type c k.0)
built_typed n c (Fixed marks.Quadruple) k = only (Fixed marks.Quadruple) (text_after_type c k.0)
built_typed n c (Fixed marks.Bool) k = only (Fixed marks.Bool) (text_after_type c k.0)
built_typed n c (Fixed marks.Unsigned) k = built_unsigned k.0.0 (text_after_type c k.0.1)
built_typed n c (Fixed marks.Enum) k = built_tagged tags.Enum n c k.0 k.1.0
built_typed n c (Fixed marks.Struct) k = built_tagged tags.Struct n c k.0 k.1.0
built_typed n c (Fixed marks.Union) k = built_tagged tags.Union n c k.0 k.1.0
built_typed n c (Name t) k = only (Name t) (text_after_type c k.0)
built_typed n c w k = absurd k

shape_text : (name : List ℕ) (e : Ending) (l : Option tree.Length)
    → spell_named name (shape_of l) ++ Fixed (ending_mark e) ∷ []
    ≡ Name name ∷ ((spell_maybe_length l ++ Fixed (ending_mark e) ∷ []) ++ [])
shape_text name e None = refl
shape_text name e (Some l) = only (Name name) (spell_length l ++ Fixed (ending_mark e) ∷ [])

built_named : (e : Ending) (w : Word) (k : Kids Value (step_named e w))
    → text_after_type (InDeclaration e) (build_named e w k) ≡ w ∷ kid_texts Value text (step_named e w) k
unfolding build_named
built_named e (Fixed marks.Star) k = refl
built_named e (Name t) k = shape_text t e k.0
built_named e w k = absurd k

built_more_arguments : (w : Word) (k : Kids Value (step_more_arguments w))
    → text_after_type InArguments (build_more_arguments w k)
    ≡ w ∷ kid_texts Value text (step_more_arguments w) k
unfolding build_more_arguments
built_more_arguments (Fixed marks.Comma) k = only (Fixed marks.Comma)
    ((spell_argument k.0.0.0 ++ spell_others k.0.1.0) ++ Fixed marks.CloseParenthesis ∷ [])
built_more_arguments (Fixed marks.CloseParenthesis) k = refl
built_more_arguments w k = absurd k

built_after_type : (c : Context) (w : Word) (k : Kids Value (step_after_type c w))
    → text_after_type c (build_after_type c w k) ≡ w ∷ kid_texts Value text (step_after_type c w) k
unfolding build_after_type
built_after_type (InDeclaration e) = built_named e
built_after_type InArguments = built_more_arguments
built_after_type InResult = built_name

built_after_unsigned : (c : Context) (w : Word) (k : Kids Value (step_after_unsigned c w))
    → text (AfterUnsigned c) (build_after_unsigned c w k)
    ≡ w ∷ kid_texts Value text (step_after_unsigned c w) k
unfolding build_after_unsigned
built_after_unsigned c (Fixed marks.Int) k = only (Fixed marks.Int) (text_after_type c k.0)
built_after_unsigned c (Fixed marks.Long) k = only (Fixed marks.Long) (text_after_type c k.0)
built_after_unsigned c (Fixed marks.Hyper) k = only (Fixed marks.Hyper) (text_after_type c k.0)
built_after_unsigned c w k = built_after_type c w k

built_body : (tag : Tag) (n : ℕ) (w : Word) (k : Kids Value (step_body tag n w))
    → text (AnyBody tag n) (build_body tag n w k) ≡ w ∷ kid_texts Value text (step_body tag n w) k
unfolding build_body
built_body tags.Enum n (Fixed marks.OpenBrace) k =
    only (Fixed marks.OpenBrace) (text_enumerators (enumerators_of k.0))
built_body tags.Struct n (Fixed marks.OpenBrace) k =
    only (Fixed marks.OpenBrace) (text_declarations (tree.more k.0.0.0 k.0.1.0))
built_body tags.Union n (Fixed marks.Switch) k =
    let a = k.1.1.1.0 in
    let t = spell_arms (tree.arm (a.0 ∷ a.1.0.0) a.1.0.1.0 a.1.1.0.0) ++ spell_default a.1.1.1.0 in
    ap (λ x. Fixed marks.Switch ∷ Fixed marks.OpenParenthesis ∷ x) (
    ap (λ x. spell_declaration k.1.0.0 ++ Fixed marks.CloseParenthesis ∷ Fixed marks.OpenBrace ∷ x)
    (sym (append-nil t))
    ∙ sym (append_assoc (spell_declaration k.1.0.0) (Fixed marks.CloseParenthesis ∷ [])
    (Fixed marks.OpenBrace ∷ (t ++ [])))
    )
built_body tag n w k = absurd k

built_after_tag : (tag : Tag) (n : ℕ) (w : Word) (k : Kids Value (step_after_tag tag n w))
    → text (AfterTag tag n) (build_after_tag tag n w k) ≡ w ∷ kid_texts Value text (step_after_tag tag n w) k
unfolding build_after_tag
built_after_tag tag zero (Name t) k = refl
built_after_tag tag (suc n) (Name t) k = refl
built_after_tag tag zero w k = absurd k
built_after_tag tag (suc n) w k = built_body tag n w k

enumerators_text : (given : Option tree.Value) (es : List tree.Enumerator)
    → (spell_given given ++ spell_other_enumerators es) ++ Fixed marks.CloseBrace ∷ []
    ≡ (spell_given given ++ text_other_enumerators es) ++ []
enumerators_text given es = append_assoc (spell_given given) (spell_other_enumerators es)
    (Fixed marks.CloseBrace ∷ []) ∙ sym (append-nil (spell_given given ++ text_other_enumerators es))

built_enumerators : (w : Word) (k : Kids Value (step_enumerators w))
    → text Enumerators (build_enumerators w k) ≡ w ∷ kid_texts Value text (step_enumerators w) k
unfolding build_enumerators
built_enumerators (Name t) k = ap (λ x. Name t ∷ x) (enumerators_text k.0.0 k.0.1)
built_enumerators w k = absurd k

built_more_enumerators : (w : Word) (k : Kids Value (step_more_enumerators w))
    → text MoreEnumerators (build_more_enumerators w k) ≡ w ∷ kid_texts Value text (step_more_enumerators w) k
unfolding build_more_enumerators
built_more_enumerators (Fixed marks.Comma) k =
    only (Fixed marks.Comma) (text_enumerators (enumerators_of k.0))
built_more_enumerators (Fixed marks.CloseBrace) k = refl
built_more_enumerators w k = absurd k

built_after_enumerator : (w : Word) (k : Kids Value (step_after_enumerator w))
    → text AfterEnumerator (build_after_enumerator w k) ≡ w ∷ kid_texts Value text (step_after_enumerator w) k
unfolding build_after_enumerator
built_after_enumerator (Fixed marks.Equals) k =
    ap (λ x. Fixed marks.Equals ∷ spell_value k.0 ∷ x) (sym (append-nil (text_other_enumerators k.1.0)))
built_after_enumerator w k = built_more_enumerators w k

built_declared : (n : ℕ) (e : Ending) (w : Word) (k : Kids Value (step_declared n e w))
    → text (Declared n e) (build_declared n e w k) ≡ w ∷ kid_texts Value text (step_declared n e w) k
unfolding build_declared
built_declared n e (Fixed marks.Void) k = refl
built_declared n e (Fixed marks.Opaque) k = refl
built_declared n e (Fixed marks.String) k =
    ap (λ x. Fixed marks.String ∷ Name k.0 ∷ Fixed marks.Less ∷ x) refl
built_declared n e w k =
    let v = build_typed n (InDeclaration e) w k in
    append_assoc (spell_type v.0.0) (spell_named v.1.0 v.1.1) (Fixed (ending_mark e) ∷ [])
    ∙ built_typed n (InDeclaration e) w k

-- a declaration, its semicolon and what is behind
declarations_text : (d : tree.Declaration) (ds : tree.Declarations) → text_declarations (tree.more d ds)
    ≡ (spell_declaration d ++ Fixed marks.Semicolon ∷ []) ++ (text_declarations ds ++ [])
declarations_text d ds =
    append_assoc (spell_declaration d) (Fixed marks.Semicolon ∷ spell_declarations ds)
    (Fixed marks.CloseBrace ∷ [])
    ∙ ap (λ x. spell_declaration d ++ Fixed marks.Semicolon ∷ x) (sym (append-nil (text_declarations ds)))
    ∙ sym (append_assoc (spell_declaration d) (Fixed marks.Semicolon ∷ []) (text_declarations ds ++ []))

built_declarations : (n : ℕ) (w : Word) (k : Kids Value (step_declarations n w))
    → text (Declarations n) (build_declarations n w k) ≡ w ∷ kid_texts Value text (step_declarations n w) k
unfolding build_declarations
built_declarations n w k =
    let o = step_declared n endings.Semicolon w in
    let p = parts (MoreDeclarations n ∷ []) o k in
    declarations_text (build_declared n endings.Semicolon w p.0).0 p.1.0.0
    ∙ ap (λ x. x ++ (text_declarations p.1.0.0 ++ [])) (built_declared n endings.Semicolon w p.0)
    ∙ ap (λ x. w ∷ x) (sym (parts_text (MoreDeclarations n ∷ []) o k))

built_more_declarations : (n : ℕ) (w : Word) (k : Kids Value (step_more_declarations n w))
    → text (MoreDeclarations n) (build_more_declarations n w k)
    ≡ w ∷ kid_texts Value text (step_more_declarations n w) k
unfolding build_more_declarations
built_more_declarations n (Fixed marks.CloseBrace) k = refl
built_more_declarations n w k = built_declarations n w k

-- an arm: the cases with the declaration, and what is behind
arm_text : (cases : List tree.Value) (d : tree.Declaration) (arms : tree.Arms) (other : tree.Default)
    → (spell_cases cases ++ (spell_declaration d ++ Fixed marks.Semicolon ∷ spell_arms arms))
    ++ spell_default other ≡ (spell_cases cases ++ (spell_declaration d ++ Fixed marks.Semicolon ∷ []))
    ++ ((spell_arms arms ++ spell_default other) ++ [])
arm_text cases d arms other = simp (append_assoc, append-nil)

built_arms : (n : ℕ) (w : Word) (k : Kids Value (step_arms n w))
    → text (Arms n) (build_arms n w k) ≡ w ∷ kid_texts Value text (step_arms n w) k
unfolding build_arms
built_arms n (Fixed marks.Case) k =
    let c = k.1.1.0 in let m = k.1.1.1.0 in
    ap (λ t. Fixed marks.Case ∷ spell_value k.0 ∷ Fixed marks.Colon ∷ t) (arm_text c.0 c.1.0 m.0.0 m.1.0)
built_arms n w k = absurd k

built_after_case : (n : ℕ) (w : Word) (k : Kids Value (step_after_case n w))
    → text (AfterCase n) (build_after_case n w k) ≡ w ∷ kid_texts Value text (step_after_case n w) k
unfolding build_after_case
built_after_case n (Fixed marks.Case) k =
    let c = k.1.1.0 in
    ap (λ t. Fixed marks.Case ∷ spell_value k.0 ∷ Fixed marks.Colon ∷ t)
    (sym (append-nil (spell_cases c.0 ++ (spell_declaration c.1.0 ++ Fixed marks.Semicolon ∷ []))))
built_after_case n w k = built_declared n endings.Semicolon w k

built_more_arms : (n : ℕ) (w : Word) (k : Kids Value (step_more_arms n w))
    → text (MoreArms n) (build_more_arms n w k) ≡ w ∷ kid_texts Value text (step_more_arms n w) k
unfolding build_more_arms
built_more_arms n (Fixed marks.Default) k =
    ap (λ x. Fixed marks.Default ∷ Fixed marks.Colon ∷ x)
    (sym (append_assoc (spell_declaration k.1.0.0) (Fixed marks.Semicolon ∷ [])
    (Fixed marks.CloseBrace ∷ [])))
built_more_arms n (Fixed marks.CloseBrace) k = refl
built_more_arms n w k = built_arms n w k

built_arguments : (w : Word) (k : Kids Value (step_arguments w))
    → text Arguments (build_arguments w k) ≡ w ∷ kid_texts Value text (step_arguments w) k
unfolding build_arguments
built_arguments (Fixed marks.String) k = only (Fixed marks.String) (text_after_type InArguments k.0)
built_arguments w k =
    let v = build_typed 32 InArguments w k in
    append_assoc (spell_type v.0.0) (spell_others v.1.0) (Fixed marks.CloseParenthesis ∷ [])
    ∙ built_typed 32 InArguments w k

built_parameters : (w : Word) (k : Kids Value (step_parameters w))
    → text Parameters (build_parameters w k) ≡ w ∷ kid_texts Value text (step_parameters w) k
unfolding build_parameters
built_parameters (Fixed marks.Void) k = only (Fixed marks.Void) (text_after_type InArguments k.0)
built_parameters w k = built_arguments w k

built_result : (w : Word) (k : Kids Value (step_result w))
    → text Result (build_result w k) ≡ w ∷ kid_texts Value text (step_result w) k
unfolding build_result
built_result (Fixed marks.Void) k = refl
built_result (Fixed marks.String) k = refl
built_result w k = built_typed 32 InResult w k

-- a procedure: the result and the name, and what is behind
procedures_text : (r : Value Result) (k : Vals Value after_result)
    → text Procedures (procedures_of r k) ≡ text Result r ++ texts Value text after_result k
procedures_text r k =
    let a = spell_passed r.0.0 in
    let b = spell_passed k.1.0.0.0 ++ spell_others k.1.0.1.0 in
    let c = Fixed marks.Equals ∷ Number k.1.1.1.0 ∷ Fixed marks.Semicolon ∷ [] in
    let d = spell_procedures k.1.1.1.1.1.0.0 in
    all a b c d r.1
  where
    all : (a b c d : List Word) (name : List ℕ)
        → ((a ++ Name name ∷ Fixed marks.OpenParenthesis ∷ (b ++ Fixed marks.CloseParenthesis ∷ c)) ++ d)
        ++ Fixed marks.CloseBrace ∷ [] ≡ (a ++ Name name ∷ []) ++ Fixed marks.OpenParenthesis
        ∷ ((b ++ Fixed marks.CloseParenthesis ∷ []) ++ (c ++ ((d ++ Fixed marks.CloseBrace ∷ []) ++ [])))
    all a b c d name = simp (append_assoc, append-nil)

built_procedures : (w : Word) (k : Kids Value (step_procedures w))
    → text Procedures (build_procedures w k) ≡ w ∷ kid_texts Value text (step_procedures w) k
unfolding build_procedures
built_procedures w k =
    let o = step_result w in
    let p = parts after_result o k in
    procedures_text (build_result w p.0) p.1
    ∙ ap (λ x. x ++ texts Value text after_result p.1) (built_result w p.0)
    ∙ ap (λ x. w ∷ x) (sym (parts_text after_result o k))

built_more_procedures : (w : Word) (k : Kids Value (step_more_procedures w))
    → text MoreProcedures (build_more_procedures w k) ≡ w ∷ kid_texts Value text (step_more_procedures w) k
unfolding build_more_procedures
built_more_procedures (Fixed marks.CloseBrace) k = refl
built_more_procedures w k = built_procedures w k

-- a version, and what is behind
versions_text : (name number : List ℕ) (b d : List Word)
    → ((Fixed marks.Version ∷ Name name ∷ Fixed marks.OpenBrace
    ∷ (b ++ Fixed marks.CloseBrace ∷ Fixed marks.Equals ∷ Number number ∷ Fixed marks.Semicolon ∷ [])) ++ d)
    ++ Fixed marks.CloseBrace ∷ []
    ≡ Fixed marks.Version ∷ Name name ∷ Fixed marks.OpenBrace
    ∷ ((b ++ Fixed marks.CloseBrace ∷ []) ++ Fixed marks.Equals ∷ Number number ∷ Fixed marks.Semicolon
    ∷ ((d ++ Fixed marks.CloseBrace ∷ []) ++ []))
versions_text name number b d = simp (append_assoc, append-nil)

built_versions : (w : Word) (k : Kids Value (step_versions w))
    → text Versions (build_versions w k) ≡ w ∷ kid_texts Value text (step_versions w) k
unfolding build_versions
built_versions (Fixed marks.Version) k =
    let ps = k.1.1.0 in
    versions_text k.0 k.1.1.1.1.0 (spell_procedures (ps.0.0 ∷ ps.1.0)) (spell_versions k.1.1.1.1.1.1.0.0)
built_versions w k = absurd k

built_more_versions : (w : Word) (k : Kids Value (step_more_versions w))
    → text MoreVersions (build_more_versions w k) ≡ w ∷ kid_texts Value text (step_more_versions w) k
unfolding build_more_versions
built_more_versions (Fixed marks.CloseBrace) k = refl
built_more_versions w k = built_versions w k

pub built : (s : Symbol) (w : Word) (k : Kids Value (step s w))
    → text s (build s w k) ≡ w ∷ kid_texts Value text (step s w) k
unfolding build
built Item = built_item
built (Token m) = built_token m
built AnyName = built_name
built AnyNumber = built_number
built AnyValue = built_value
built AnyLength = built_length
built AfterLess = built_after_less
built (AfterName e) = built_after_name e
built (Typed n c) = built_typed n c
built (AfterUnsigned c) = built_after_unsigned c
built (AfterType c) = built_after_type c
built (AfterTag tag n) = built_after_tag tag n
built (AnyBody tag n) = built_body tag n
built Enumerators = built_enumerators
built AfterEnumerator = built_after_enumerator
built MoreEnumerators = built_more_enumerators
built (Declared n e) = built_declared n e
built (Declarations n) = built_declarations n
built (MoreDeclarations n) = built_more_declarations n
built (Arms n) = built_arms n
built (AfterCase n) = built_after_case n
built (MoreArms n) = built_more_arms n
built Parameters = built_parameters
built Arguments = built_arguments
built Result = built_result
built Procedures = built_procedures
built MoreProcedures = built_more_procedures
built Versions = built_versions
built MoreVersions = built_more_versions

-- ---- each value is made by a step

-- the word that a value begins with, and the values of the symbols behind it
abbrev Split : (s : Symbol) → ((w : Word) → Kids Value (step s w) → Value s) → Value s → Type 0
Split s make v = (w : Word) × (k : Kids Value (step s w)) × (v ≡ make w k)

split_token : (m : Mark) → Kids Value (step_token m (Fixed m))
split_token m = subst (λ b. Kids Value (if b then Some [] else None))
    (sym (eq-eqb (place_of m) (place_of m) refl)) tt

split_arms : (n : ℕ) (v : ArmsValue n) → Split (Arms n) (build_arms n) v
unfolding build_arms
split_arms n v = (Fixed marks.Case, (v.0, (tt, (v.1.0, (v.1.1, tt)))), refl)

split_body : (tag : Tag) (n : ℕ) (v : BodyValue tag n) → Split (AnyBody tag n) (build_body tag n) v
unfolding build_body
split_body tags.Enum n v = (Fixed marks.OpenBrace, (v, tt), refl)
split_body tags.Struct n v = (Fixed marks.OpenBrace, (v, tt), refl)
split_body tags.Union n v = (Fixed marks.Switch, (tt, (v.0, (tt, (v.1, tt)))), refl)

-- a body that fits is the body of a value
abbrev BodyIs : (tag : Tag) (n : ℕ) (b : tree.Body) → BodyFits b n → Type 0
BodyIs tag n b p = (v : BodyValue tag n) × ((b, p) ≡ body_of tag n v)

enum_is : (n : ℕ) (es : List tree.Enumerator) (p : HasOne es) → BodyIs tags.Enum n (tree.Enum es) p
enum_is n [] p = absurd p
enum_is n (e ∷ es) p = ((e.name, (e.value, es)), refl)

struct_is : (n : ℕ) (ds : tree.Declarations) (p : HasDeclaration ds) (q : DeclarationsFit ds n)
    → BodyIs tags.Struct n (tree.Struct ds) (p, q)
struct_is n tree.none p q = absurd p
struct_is n (tree.more d ds) p q = (((d, q.0), (ds, q.1)), refl)

union_is : (n : ℕ) (d : tree.Declaration) (arms : tree.Arms) (other : tree.Default)
    (p : BodyFits (tree.Union d arms other) n) → BodyIs tags.Union n (tree.Union d arms other) p
union_is n d tree.no_arm other p = absurd p.1.0
union_is n d (tree.arm [] e rest) other p = absurd p.1.1.0.0
union_is n d (tree.arm (c ∷ cs) e rest) other p =
    (((d, p.0), (c, ((cs, (e, p.1.1.0.1.0)), ((rest, p.1.1.0.1.1), (other, p.1.1.1))))), refl)

split_item : (d : tree.Definition) (p : KeepsLimits d) → Split Item build_item (d, p)
unfolding build_item
split_item (tree.Const name value) p = (Fixed marks.Const, (name, (tt, (value, (tt, tt)))), refl)
split_item (tree.Typedef d) p = (Fixed marks.Typedef, ((d, p), tt), refl)
split_item (tree.NewType name (tree.Enum es)) p =
    let h = enum_is 32 es p in (
      Fixed marks.Enum,
      (name, (h.0, (tt, tt))),
      ap (λ (b : (b : tree.Body) × BodyFits b 32). let v : Value Item = (tree.NewType name b.0, b.1) in v)
          h.1,
    )
split_item (tree.NewType name (tree.Struct ds)) p =
    let h = struct_is 32 ds p.0 p.1 in (
      Fixed marks.Struct,
      (name, (h.0, (tt, tt))),
      ap (λ (b : (b : tree.Body) × BodyFits b 32). let v : Value Item = (tree.NewType name b.0, b.1) in v)
          h.1,
    )
split_item (tree.NewType name (tree.Union d arms other)) p =
    let h = union_is 32 d arms other p in (
      Fixed marks.Union,
      (name, (h.0, (tt, tt))),
      ap (λ (b : (b : tree.Body) × BodyFits b 32). let v : Value Item = (tree.NewType name b.0, b.1) in v)
          h.1,
    )
split_item (tree.Program name [] number) p = absurd p.0
split_item (tree.Program name (v ∷ vs) number) p =
    (Fixed marks.Program, (name, (tt, (((v, p.1.0), (vs, p.1.1)), (tt, (number, (tt, tt)))))), refl)

split_value : (v : tree.Value) → Split AnyValue build_value v
unfolding build_value
split_value (tree.Number t) = (Number t, tt, refl)
split_value (tree.Named t) = (Name t, tt, refl)

split_length : (v : tree.Length) → Split AnyLength build_length v
unfolding build_length
split_length (tree.Fixed v) = (Fixed marks.OpenBracket, (v, (tt, tt)), refl)
split_length (tree.Variable v) = (Fixed marks.Less, (v, tt), refl)

split_after_less : (v : Option tree.Value) → Split AfterLess build_after_less v
unfolding build_after_less
split_after_less None = (Fixed marks.Greater, tt, refl)
split_after_less (Some (tree.Number t)) = (Number t, (tt, tt), refl)
split_after_less (Some (tree.Named t)) = (Name t, (tt, tt), refl)

split_after_name : (e : Ending) (v : Option tree.Length) → Split (AfterName e) (build_after_name e) v
unfolding build_after_name
split_after_name endings.Semicolon None = (Fixed marks.Semicolon, tt, refl)
split_after_name endings.Parenthesis None = (Fixed marks.CloseParenthesis, tt, refl)
split_after_name e (Some (tree.Fixed v)) = (Fixed marks.OpenBracket, (v, (tt, (tt, tt))), refl)
split_after_name e (Some (tree.Variable v)) = (Fixed marks.Less, (v, (tt, tt)), refl)

split_after_tag : (tag : Tag) (n : ℕ) (v : TaggedValue tag n)
    → Split (AfterTag tag n) (build_after_tag tag n) v
unfolding build_after_tag
split_after_tag tag zero v = (Name v, tt, refl)
split_after_tag tag (suc n) (inl t) = (Name t, tt, refl)
split_after_tag tags.Enum (suc n) (inr v) = (Fixed marks.OpenBrace, (v, tt), unfold build_body in refl)
split_after_tag tags.Struct (suc n) (inr v) = (Fixed marks.OpenBrace, (v, tt), unfold build_body in refl)
split_after_tag tags.Union (suc n) (inr v) =
    (Fixed marks.Switch, (tt, (v.0, (tt, (v.1, tt)))), unfold build_body in refl)

-- a type behind a keyword is the type of a value
abbrev TaggedIs : (tag : Tag) (n : ℕ) (t : tree.DataType) → TypeFits t n → Type 0
TaggedIs tag n t p = (v : TaggedValue tag n) × ((t, p) ≡ tagged_type tag n v)

name_is : (tag : Tag) (n : ℕ) (name : List ℕ) → TaggedIs tag n (tree.Tagged tag name) tt
name_is tag zero name = (name, refl)
name_is tag (suc n) name = (inl name, refl)

inline_is : (tag : Tag) (n : ℕ) (b : tree.Body) (p : BodyFits b n) → BodyIs tag n b p
    → TaggedIs tag (suc n) (tree.Inline b) p
inline_is tag n b p h = (
  inr h.0,
  ap (λ (x : (b : tree.Body) × BodyFits b n). let v : GoodType (suc n) = (tree.Inline x.0, x.1) in v) h.1,
)

split_typed : (n : ℕ) (c : Context) (t : tree.DataType) (p : TypeFits t n) (behind : AfterTypeValue c)
    → Split (Typed n c) (build_typed n c) ((t, p), behind)
unfolding build_typed
split_typed n c (tree.Simple basics.Int) p behind = (Fixed marks.Int, (behind, tt), refl)
split_typed n c (tree.Simple basics.Long) p behind = (Fixed marks.Long, (behind, tt), refl)
split_typed n c (tree.Simple basics.Hyper) p behind = (Fixed marks.Hyper, (behind, tt), refl)
split_typed n c (tree.Simple basics.Float) p behind = (Fixed marks.Float, (behind, tt), refl)
split_typed n c (tree.Simple basics.Double) p behind = (Fixed marks.Double, (behind, tt), refl)
split_typed n c (tree.Simple basics.Quadruple) p behind = (Fixed marks.Quadruple, (behind, tt), refl)
split_typed n c (tree.Simple basics.Bool) p behind = (Fixed marks.Bool, (behind, tt), refl)
split_typed n c (tree.Simple basics.Unsigned) p behind = (Fixed marks.Unsigned, ((NoWidth, behind), tt), refl)
split_typed n c (tree.Simple basics.UnsignedInt) p behind =
    (Fixed marks.Unsigned, ((IntWidth, behind), tt), refl)
split_typed n c (tree.Simple basics.UnsignedLong) p behind =
    (Fixed marks.Unsigned, ((LongWidth, behind), tt), refl)
split_typed n c (tree.Simple basics.UnsignedHyper) p behind =
    (Fixed marks.Unsigned, ((HyperWidth, behind), tt), refl)
split_typed n c (tree.Name t) p behind = (Name t, (behind, tt), refl)
split_typed n c (tree.Tagged tags.Enum name) p behind =
    let h = name_is tags.Enum n name in (
      Fixed marks.Enum,
      (h.0, (behind, tt)),
      ap (λ (x : GoodType n). let v : Value (Typed n c) = (x, behind) in v) h.1,
    )
split_typed n c (tree.Tagged tags.Struct name) p behind =
    let h = name_is tags.Struct n name in (
      Fixed marks.Struct,
      (h.0, (behind, tt)),
      ap (λ (x : GoodType n). let v : Value (Typed n c) = (x, behind) in v) h.1,
    )
split_typed n c (tree.Tagged tags.Union name) p behind =
    let h = name_is tags.Union n name in (
      Fixed marks.Union,
      (h.0, (behind, tt)),
      ap (λ (x : GoodType n). let v : Value (Typed n c) = (x, behind) in v) h.1,
    )
split_typed zero c (tree.Inline b) p behind = absurd p
split_typed (suc n) c (tree.Inline (tree.Enum es)) p behind =
    let h = inline_is tags.Enum n (tree.Enum es) p (enum_is n es p) in (
      Fixed marks.Enum,
      (h.0, (behind, tt)),
      ap (λ (x : GoodType (suc n)). let v : Value (Typed (suc n) c) = (x, behind) in v) h.1,
    )
split_typed (suc n) c (tree.Inline (tree.Struct ds)) p behind =
    let h = inline_is tags.Struct n (tree.Struct ds) p (struct_is n ds p.0 p.1) in (
      Fixed marks.Struct,
      (h.0, (behind, tt)),
      ap (λ (x : GoodType (suc n)). let v : Value (Typed (suc n) c) = (x, behind) in v) h.1,
    )
split_typed (suc n) c (tree.Inline (tree.Union d arms other)) p behind =
    let h = inline_is tags.Union n (tree.Union d arms other) p (union_is n d arms other p) in (
      Fixed marks.Union,
      (h.0, (behind, tt)),
      ap (λ (x : GoodType (suc n)). let v : Value (Typed (suc n) c) = (x, behind) in v) h.1,
    )

split_named : (e : Ending) (name : List ℕ) (shape : tree.Shape)
    → (w : Word) × (k : Kids Value (step_named e w)) × ((name, shape) ≡ build_named e w k)
unfolding build_named
split_named e name tree.Plain = (Name name, (None, tt), refl)
split_named e name tree.Optional = (Fixed marks.Star, (name, (tt, tt)), refl)
split_named e name (tree.Array length) = (Name name, (Some length, tt), refl)

split_more_arguments : (others : List tree.Argument) (p : OthersFit others)
    → (w : Word) × (k : Kids Value (step_more_arguments w)) × ((others, p) ≡ build_more_arguments w k)
unfolding build_more_arguments
split_more_arguments [] p = (Fixed marks.CloseParenthesis, tt, refl)
split_more_arguments (a ∷ rest) p = (Fixed marks.Comma, (((a, p.0), (rest, p.1)), tt), refl)

split_after_type : (c : Context) (v : AfterTypeValue c) → Split (AfterType c) (build_after_type c) v
unfolding build_after_type
split_after_type (InDeclaration e) v = split_named e v.0 v.1
split_after_type InArguments v = split_more_arguments v.0 v.1
split_after_type InResult v = (Name v, tt, unfold build_name in refl)

turn_unsigned : (c : Context) (w : Word) (k : Kids Value (step_after_type c w)) (v : AfterTypeValue c)
    → v ≡ build_after_type c w k → Split (AfterUnsigned c) (build_after_unsigned c) (NoWidth, v)
unfolding build_after_unsigned
turn_unsigned (InDeclaration e) (Fixed marks.Int) k v h = absurd k
turn_unsigned (InDeclaration e) (Fixed marks.Long) k v h = absurd k
turn_unsigned (InDeclaration e) (Fixed marks.Hyper) k v h = absurd k
turn_unsigned InArguments (Fixed marks.Int) k v h = absurd k
turn_unsigned InArguments (Fixed marks.Long) k v h = absurd k
turn_unsigned InArguments (Fixed marks.Hyper) k v h = absurd k
turn_unsigned InResult (Fixed marks.Int) k v h = absurd k
turn_unsigned InResult (Fixed marks.Long) k v h = absurd k
turn_unsigned InResult (Fixed marks.Hyper) k v h = absurd k
turn_unsigned c w k v h =
    (w, k, ap (λ (x : AfterTypeValue c). let u : Value (AfterUnsigned c) = (NoWidth, x) in u) h)

split_after_unsigned : (c : Context) (width : Width) (v : AfterTypeValue c)
    → Split (AfterUnsigned c) (build_after_unsigned c) (width, v)
unfolding build_after_unsigned
split_after_unsigned c NoWidth v = let s = split_after_type c v in turn_unsigned c s.0 s.1 v s.2
split_after_unsigned c IntWidth v = (Fixed marks.Int, (v, tt), refl)
split_after_unsigned c LongWidth v = (Fixed marks.Long, (v, tt), refl)
split_after_unsigned c HyperWidth v = (Fixed marks.Hyper, (v, tt), refl)

split_more_enumerators : (es : List tree.Enumerator) → Split MoreEnumerators build_more_enumerators es
unfolding build_more_enumerators
split_more_enumerators [] = (Fixed marks.CloseBrace, tt, refl)
split_more_enumerators (e ∷ es) = (Fixed marks.Comma, ((e.name, (e.value, es)), tt), refl)

split_after_enumerator : (given : Option tree.Value) (es : List tree.Enumerator)
    → Split AfterEnumerator build_after_enumerator (given, es)
unfolding build_after_enumerator build_more_enumerators
split_after_enumerator (Some v) es = (Fixed marks.Equals, (v, (es, tt)), refl)
split_after_enumerator None [] = (Fixed marks.CloseBrace, tt, refl)
split_after_enumerator None (e ∷ es) = (Fixed marks.Comma, ((e.name, (e.value, es)), tt), refl)

turn_declared : (n : ℕ) (e : Ending) (w : Word) (k : Kids Value (step_typed n (InDeclaration e) w))
    (v : Value (Typed n (InDeclaration e))) → v ≡ build_typed n (InDeclaration e) w k
    → Split (Declared n e) (build_declared n e) (tree.Of v.0.0 v.1.0 v.1.1, v.0.1)
unfolding build_declared
turn_declared n e (Fixed marks.Void) k v h = absurd k
turn_declared n e (Fixed marks.Opaque) k v h = absurd k
turn_declared n e (Fixed marks.String) k v h = absurd k
turn_declared n e w k v h = (
  w,
  k,
  ap (λ (x : Value (Typed n (InDeclaration e))).
      let d : GoodDeclaration n = (tree.Of x.0.0 x.1.0 x.1.1, x.0.1) in d) h,
)

split_declared : (n : ℕ) (e : Ending) (d : tree.Declaration) (p : DeclarationFits d n)
    → Split (Declared n e) (build_declared n e) (d, p)
unfolding build_declared
split_declared n e tree.Void p = (Fixed marks.Void, (tt, tt), refl)
split_declared n e (tree.Opaque name length) p = (Fixed marks.Opaque, (name, (length, (tt, tt))), refl)
split_declared n e (tree.String name most) p = (Fixed marks.String, (name, (tt, (most, (tt, tt)))), refl)
split_declared n e (tree.Of type name shape) p =
    let s = split_typed n (InDeclaration e) type p (name, shape) in
    turn_declared n e s.0 s.1 ((type, p), (name, shape)) s.2

split_declarations : (n : ℕ) (d : GoodDeclaration n) (ds : GoodDeclarations n)
    → Split (Declarations n) (build_declarations n) (d, ds)
unfolding build_declarations
split_declarations n d ds =
    let s = split_declared n endings.Semicolon d.0 d.1 in
    let o = step_declared n endings.Semicolon s.0 in
    let after = MoreDeclarations n ∷ [] in
    let whole = λ (x : Kids Value o × Vals Value after).
    let v : Value (Declarations n) = (build_declared n endings.Semicolon s.0 x.0, x.1.0) in v in (
      s.0,
      put after o s.1 (ds, tt),
      ap (λ (e : GoodDeclaration n). let v : Value (Declarations n) = (e, ds) in v) s.2
          ∙ ap whole (sym (parts_put after o s.1 (ds, tt))),
    )

turn_more : (n : ℕ) (w : Word) (k : Kids Value (step_declarations n w)) (v : Value (Declarations n))
    → v ≡ build_declarations n w k
    → Split (MoreDeclarations n) (build_more_declarations n) (tree.more v.0.0 v.1.0, (v.0.1, v.1.1))
unfolding build_more_declarations
turn_more n (Fixed marks.CloseBrace) k v h = absurd k
turn_more n w k v h = (
  w,
  k,
  ap (λ (x : Value (Declarations n)). let m : GoodDeclarations n = (tree.more x.0.0 x.1.0, (x.0.1, x.1.1)) in
      m) h,
)

split_more_declarations : (n : ℕ) (ds : tree.Declarations) (p : DeclarationsFit ds n)
    → Split (MoreDeclarations n) (build_more_declarations n) (ds, p)
unfolding build_more_declarations
split_more_declarations n tree.none p = (Fixed marks.CloseBrace, tt, refl)
split_more_declarations n (tree.more d ds) p =
    let s = split_declarations n (d, p.0) (ds, p.1) in turn_more n s.0 s.1 ((d, p.0), (ds, p.1)) s.2

turn_case : (n : ℕ) (w : Word) (k : Kids Value (step_declared n endings.Semicolon w)) (v : GoodDeclaration n)
    → v ≡ build_declared n endings.Semicolon w k → Split (AfterCase n) (build_after_case n) ([], v)
unfolding build_after_case
turn_case n (Fixed marks.Case) k v h = absurd k
turn_case n w k v h = (w, k, ap (λ (d : GoodDeclaration n). let c : AfterCaseValue n = ([], d) in c) h)

split_after_case : (n : ℕ) (cases : List tree.Value) (d : GoodDeclaration n)
    → Split (AfterCase n) (build_after_case n) (cases, d)
unfolding build_after_case
split_after_case n [] d = let s = split_declared n endings.Semicolon d.0 d.1 in turn_case n s.0 s.1 d s.2
split_after_case n (c ∷ cs) d = (Fixed marks.Case, (c, (tt, ((cs, d), tt))), refl)

split_more_arms : (n : ℕ) (arms : tree.Arms) (p : ArmsFit arms n) (other : tree.Default)
    (q : DefaultFits other n) → Split (MoreArms n) (build_more_arms n) ((arms, p), (other, q))
unfolding build_more_arms build_arms
split_more_arms n tree.no_arm p tree.no_default q = (Fixed marks.CloseBrace, tt, refl)
split_more_arms n tree.no_arm p (tree.default d) q = (Fixed marks.Default, (tt, ((d, q), (tt, tt))), refl)
split_more_arms n (tree.arm [] d rest) p other q = absurd p.0
split_more_arms n (tree.arm (c ∷ cs) d rest) p other q =
    (Fixed marks.Case, (c, (tt, ((cs, (d, p.1.0)), (((rest, p.1.1), (other, q)), tt)))), refl)

turn_arguments : (w : Word) (k : Kids Value (step_typed 32 InArguments w)) (v : Value (Typed 32 InArguments))
    → v ≡ build_typed 32 InArguments w k → Split Arguments build_arguments ((tree.Typed v.0.0, v.0.1), v.1)
unfolding build_arguments
turn_arguments (Fixed marks.String) k v h = absurd k
turn_arguments w k v h = (
  w,
  k,
  ap (λ (x : Value (Typed 32 InArguments)). let a : Value Arguments = ((tree.Typed x.0.0, x.0.1), x.1) in a)
      h,
)

split_arguments : (a : tree.Argument) (p : ArgumentFits a) (others : GoodOthers)
    → Split Arguments build_arguments ((a, p), others)
unfolding build_arguments
split_arguments tree.Text p others = (Fixed marks.String, (others, tt), refl)
split_arguments (tree.Typed type) p others =
    let s = split_typed 32 InArguments type p others in turn_arguments s.0 s.1 ((type, p), others) s.2

turn_parameters : (w : Word) (k : Kids Value (step_arguments w)) (v : Value Arguments)
    → v ≡ build_arguments w k → Split Parameters build_parameters ((Some v.0.0, v.0.1), v.1)
unfolding build_parameters
turn_parameters (Fixed marks.Void) k v h = absurd k
turn_parameters w k v h =
    (w, k, ap (λ (x : Value Arguments). let a : Value Parameters = ((Some x.0.0, x.0.1), x.1) in a) h)

split_parameters : (a : Option tree.Argument) (p : PassedFits a) (others : GoodOthers)
    → Split Parameters build_parameters ((a, p), others)
unfolding build_parameters
split_parameters None p others = (Fixed marks.Void, (others, tt), refl)
split_parameters (Some a) p others =
    let s = split_arguments a p others in turn_parameters s.0 s.1 ((a, p), others) s.2

turn_result : (w : Word) (k : Kids Value (step_typed 32 InResult w)) (v : Value (Typed 32 InResult))
    → v ≡ build_typed 32 InResult w k → Split Result build_result ((Some (tree.Typed v.0.0), v.0.1), v.1)
unfolding build_result
turn_result (Fixed marks.Void) k v h = absurd k
turn_result (Fixed marks.String) k v h = absurd k
turn_result w k v h = (
  w,
  k,
  ap (λ (x : Value (Typed 32 InResult)). let a : Value Result = ((Some (tree.Typed x.0.0), x.0.1), x.1) in a)
      h,
)

split_result : (a : Option tree.Argument) (p : PassedFits a) (name : List ℕ)
    → Split Result build_result ((a, p), name)
unfolding build_result
split_result None p name = (Fixed marks.Void, (name, tt), refl)
split_result (Some tree.Text) p name = (Fixed marks.String, (name, tt), refl)
split_result (Some (tree.Typed type)) p name =
    let s = split_typed 32 InResult type p name in turn_result s.0 s.1 ((type, p), name) s.2

split_procedures : (p : tree.Procedure) (fits : ProcedureFits p) (ps : Value MoreProcedures)
    → Split Procedures build_procedures ((p, fits), ps)
unfolding build_procedures
split_procedures p fits ps =
    let s = split_result p.result fits.0 p.name in
    let o = step_result s.0 in
    let k : Vals Value after_result =
    (tt, (((p.first, fits.1.0), (p.others, fits.1.1)), (tt, (p.number, (tt, (ps, tt)))))) in
    let whole = λ (x : Kids Value o × Vals Value after_result).
    let v : Value Procedures = procedures_of (build_result s.0 x.0) x.1 in v in (
      s.0,
      put after_result o s.1 k,
      ap (λ (r : Value Result). let v : Value Procedures = procedures_of r k in v) s.2
          ∙ ap whole (sym (parts_put after_result o s.1 k)),
    )

turn_procedures : (w : Word) (k : Kids Value (step_procedures w)) (v : Value Procedures)
    → v ≡ build_procedures w k → Split MoreProcedures build_more_procedures (v.0.0 ∷ v.1.0, (v.0.1, v.1.1))
unfolding build_more_procedures
turn_procedures (Fixed marks.CloseBrace) k v h = absurd k
turn_procedures w k v h = (
  w,
  k,
  ap (λ (x : Value Procedures). let m : Value MoreProcedures = (x.0.0 ∷ x.1.0, (x.0.1, x.1.1)) in m) h,
)

split_more_procedures : (ps : List tree.Procedure) (fits : ProceduresFit ps)
    → Split MoreProcedures build_more_procedures (ps, fits)
unfolding build_more_procedures
split_more_procedures [] fits = (Fixed marks.CloseBrace, tt, refl)
split_more_procedures (p ∷ ps) fits =
    let s = split_procedures p fits.0 (ps, fits.1) in turn_procedures s.0 s.1 ((p, fits.0), (ps, fits.1)) s.2

split_versions : (v : tree.Version) (fits : VersionFits v) (vs : Value MoreVersions)
    → Split Versions build_versions ((v, fits), vs)
unfolding build_versions
split_versions v fits vs = by_procedures v.procedures fits.0 fits.1
  where
    by_procedures : (ps : List tree.Procedure) (one : HasOne ps) (all : ProceduresFit ps)
        → Split Versions build_versions
        ((record { name = v.name; procedures = ps; number = v.number }, (one, all)), vs)
    by_procedures [] one all = absurd one
    by_procedures (p ∷ ps) one all = (
      Fixed marks.Version,
      (v.name, (tt, (((p, all.0), (ps, all.1)), (tt, (v.number, (tt, (vs, tt))))))),
      refl,
    )

split_more_versions : (vs : List tree.Version) (fits : VersionsFit vs)
    → Split MoreVersions build_more_versions (vs, fits)
unfolding build_more_versions
split_more_versions [] fits = (Fixed marks.CloseBrace, tt, refl)
split_more_versions (v ∷ vs) fits =
    let s = split_versions v fits.0 (vs, fits.1) in turn_versions s.0 s.1 ((v, fits.0), (vs, fits.1)) s.2
  where
    turn_versions : (w : Word) (k : Kids Value (step_versions w)) (v : Value Versions)
        → v ≡ build_versions w k → Split MoreVersions build_more_versions (v.0.0 ∷ v.1.0, (v.0.1, v.1.1))
    turn_versions (Fixed marks.CloseBrace) k v h = absurd k
    turn_versions w k v h = (
      w,
      k,
      ap (λ (x : Value Versions). let m : Value MoreVersions = (x.0.0 ∷ x.1.0, (x.0.1, x.1.1)) in m) h,
    )

pub split : (s : Symbol) (v : Value s) → (w : Word) × (k : Kids Value (step s w)) × (v ≡ build s w k)
unfolding build
split Item v = split_item v.0 v.1
split (Token m) v = (Fixed m, split_token m, refl)
split AnyName v = (Name v, tt, unfold build_name in refl)
split AnyNumber v = (Number v, tt, unfold build_number in refl)
split AnyValue v = split_value v
split AnyLength v = split_length v
split AfterLess v = split_after_less v
split (AfterName e) v = split_after_name e v
split (Typed n c) v = split_typed n c v.0.0 v.0.1 v.1
split (AfterUnsigned c) v = split_after_unsigned c v.0 v.1
split (AfterType c) v = split_after_type c v
split (AfterTag tag n) v = split_after_tag tag n v
split (AnyBody tag n) v = split_body tag n v
split Enumerators v = (Name v.0, (v.1, tt), unfold build_enumerators in refl)
split AfterEnumerator v = split_after_enumerator v.0 v.1
split MoreEnumerators v = split_more_enumerators v
split (Declared n e) v = split_declared n e v.0 v.1
split (Declarations n) v = split_declarations n v.0 v.1
split (MoreDeclarations n) v = split_more_declarations n v.0 v.1
split (Arms n) v = split_arms n v
split (AfterCase n) v = split_after_case n v.0 v.1
split (MoreArms n) v = split_more_arms n v.0.0 v.0.1 v.1.0 v.1.1
split Parameters v = split_parameters v.0.0 v.0.1 v.1
split Arguments v = split_arguments v.0.0 v.0.1 v.1
split Result v = split_result v.0.0 v.0.1 v.1
split Procedures v = split_procedures v.0.0 v.0.1 v.1
split MoreProcedures v = split_more_procedures v.0 v.1
split Versions v = split_versions v.0.0 v.0.1 v.1
split MoreVersions v = split_more_versions v.0 v.1

-- ---- a value of each

least_behind : (c : Context) → AfterTypeValue c
least_behind (InDeclaration e) = ([], tree.Plain)
least_behind InArguments = ([], tt)
least_behind InResult = []

least_arms : (n : ℕ) → ArmsValue n
least_arms n = (tree.Number [], (([], (tree.Void, tt)), ((tree.no_arm, tt), (tree.no_default, tt))))

least_body : (tag : Tag) (n : ℕ) → BodyValue tag n
least_body tags.Enum n = ([], (None, []))
least_body tags.Struct n = ((tree.Void, tt), (tree.none, tt))
least_body tags.Union n = ((tree.Void, tt), least_arms n)

least_tagged : (tag : Tag) (n : ℕ) → TaggedValue tag n
least_tagged tag zero = []
least_tagged tag (suc n) = inl []

least_procedures : Value Procedures
least_procedures =
    ((record { result = None; name = []; first = None; others = []; number = [] }, (tt, (tt, tt))), ([], tt))

pub least : (s : Symbol) → Value s
least Item = (tree.Const [] (tree.Number []), tt)
least (Token m) = tt
least AnyName = []
least AnyNumber = []
least AnyValue = tree.Number []
least AnyLength = tree.Variable None
least AfterLess = None
least (AfterName e) = None
least (Typed n c) = ((tree.Name [], tt), least_behind c)
least (AfterUnsigned c) = (NoWidth, least_behind c)
least (AfterType c) = least_behind c
least (AfterTag tag n) = least_tagged tag n
least (AnyBody tag n) = least_body tag n
least Enumerators = ([], (None, []))
least AfterEnumerator = (None, [])
least MoreEnumerators = []
least (Declared n e) = (tree.Void, tt)
least (Declarations n) = ((tree.Void, tt), (tree.none, tt))
least (MoreDeclarations n) = (tree.none, tt)
least (Arms n) = least_arms n
least (AfterCase n) = ([], (tree.Void, tt))
least (MoreArms n) = ((tree.no_arm, tt), (tree.no_default, tt))
least Parameters = ((None, tt), ([], tt))
least Arguments = ((tree.Text, tt), ([], tt))
least Result = ((None, tt), [])
least Procedures = least_procedures
least MoreProcedures = ([], tt)
least Versions = (
  (
    record { name = []; procedures = least_procedures.0.0 ∷ []; number = [] },
    (tt, (least_procedures.0.1, tt)),
  ),
  ([], tt),
)
least MoreVersions = ([], tt)

-- The words that a definition is written as, and what no definition may go over.
use Rattle.std.specs.Prelude.{◌≡◌, ℕ, zero, suc, List, [], ◌∷◌, ◌++◌, false}
use Rattle.std.specs.Prelude.{Option, Some, None, ◌<◌, ◌^◌, length}
use Rattle.x_trees.specs.Tree as tree
use Rattle.x_trees.specs.Words.{Word}
use Rattle.x_trees.specs.Gloss as by
use Rattle.x_trees.specs.Limits.{most_inline}
use Rattle.x_trees.specs.declared.trees.declaration.Basic.{Basic}

-- the words of a definition
abbrev pub spell : tree.Definition → List Word
spell d = by.definition_by by.worded false d

-- Of a definition of 2^64 words nothing is promised: none fits into memory.
abbrev pub IsShort : tree.Definition → Type 0
IsShort d = length (spell d) < 2 ^ 64

-- The words of its parts, which private contracts cite.

abbrev pub spell_most : Option tree.Value → List Word
spell_most v = by.most_by by.worded false v

abbrev pub spell_length : tree.Length → List Word
spell_length l = by.length_by by.worded false l

abbrev pub spell_named : List ℕ → tree.Shape → List Word
spell_named name shape = by.named_by by.worded false [] name shape

abbrev pub spell_basic : Basic → List Word
spell_basic b = by.marks_by by.worded [] (by.basic_marks b)

abbrev pub spell_given : Option tree.Value → List Word
spell_given v = by.given_by by.worded false v

abbrev pub spell_enumerator : tree.Enumerator → List Word
spell_enumerator e = by.enumerator_by by.worded false e

abbrev pub spell_other_enumerators : List tree.Enumerator → List Word
spell_other_enumerators es = by.other_enumerators_by by.worded false es

abbrev pub spell_enumerators : List tree.Enumerator → List Word
spell_enumerators es = by.enumerators_by by.worded false es

abbrev pub spell_cases : List tree.Value → List Word
spell_cases vs = by.cases_by by.worded false vs

abbrev pub spell_type : tree.DataType → List Word
spell_type type = by.type_by by.worded [] None None type

abbrev pub spell_body : tree.Body → List Word
spell_body body = by.body_by by.worded None body

abbrev pub spell_declaration : tree.Declaration → List Word
spell_declaration d = by.declaration_by by.worded None d

abbrev pub spell_declarations : tree.Declarations → List Word
spell_declarations ds = by.declarations_by by.worded None ds

abbrev pub spell_arms : tree.Arms → List Word
spell_arms arms = by.arms_by by.worded None arms

abbrev pub spell_default : tree.Default → List Word
spell_default other = by.default_by by.worded None other

abbrev pub spell_argument : tree.Argument → List Word
spell_argument a = by.argument_by by.worded false a

abbrev pub spell_passed : Option tree.Argument → List Word
spell_passed a = by.passed_by by.worded false [] a

abbrev pub spell_others : List tree.Argument → List Word
spell_others rest = by.others_by by.worded false rest

abbrev pub spell_procedure : tree.Procedure → List Word
spell_procedure p = by.procedure_by by.worded false p

abbrev pub spell_procedures : List tree.Procedure → List Word
spell_procedures ps = by.procedures_by by.worded false ps

abbrev pub spell_version : tree.Version → List Word
spell_version v = by.version_by by.worded false v

abbrev pub spell_versions : List tree.Version → List Word
spell_versions vs = by.versions_by by.worded false vs

-- the list has an element
abbrev pub HasOne : {A : Type 0} → List A → Type 0
HasOne [] = ⊥
HasOne (x ∷ xs) = Unit {0}

abbrev pub HasDeclaration : tree.Declarations → Type 0
HasDeclaration tree.none = ⊥
HasDeclaration (tree.more d ds) = Unit {0}

abbrev pub HasArm : tree.Arms → Type 0
HasArm tree.no_arm = ⊥
HasArm (tree.arm cases d rest) = Unit {0}

-- at most n inline bodies inside one another, and no body or list of cases is empty
abbrev mutual
  pub TypeFits : tree.DataType → ℕ → Type 0
  TypeFits (tree.Simple b) n = Unit {0}
  TypeFits (tree.Name t) n = Unit {0}
  TypeFits (tree.Tagged tag t) n = Unit {0}
  TypeFits (tree.Inline body) zero = ⊥
  TypeFits (tree.Inline body) (suc n) = BodyFits body n

  -- at most n inside this body, which is not counted
  pub BodyFits : tree.Body → ℕ → Type 0
  BodyFits (tree.Enum es) n = HasOne es
  BodyFits (tree.Struct ds) n = HasDeclaration ds × DeclarationsFit ds n
  BodyFits (tree.Union d arms other) n =
      DeclarationFits d n × (HasArm arms × (ArmsFit arms n × DefaultFits other n))

  pub DeclarationFits : tree.Declaration → ℕ → Type 0
  DeclarationFits tree.Void n = Unit {0}
  DeclarationFits (tree.Of type name shape) n = TypeFits type n
  DeclarationFits (tree.Opaque name length) n = Unit {0}
  DeclarationFits (tree.String name most) n = Unit {0}

  pub DeclarationsFit : tree.Declarations → ℕ → Type 0
  DeclarationsFit tree.none n = Unit {0}
  DeclarationsFit (tree.more d ds) n = DeclarationFits d n × DeclarationsFit ds n

  pub ArmsFit : tree.Arms → ℕ → Type 0
  ArmsFit tree.no_arm n = Unit {0}
  ArmsFit (tree.arm cases d rest) n = HasOne cases × (DeclarationFits d n × ArmsFit rest n)

  pub DefaultFits : tree.Default → ℕ → Type 0
  DefaultFits tree.no_default n = Unit {0}
  DefaultFits (tree.default d) n = DeclarationFits d n

abbrev pub ArgumentFits : tree.Argument → Type 0
ArgumentFits tree.Text = Unit {0}
ArgumentFits (tree.Typed type) = TypeFits type most_inline

abbrev pub PassedFits : Option tree.Argument → Type 0
PassedFits None = Unit {0}
PassedFits (Some a) = ArgumentFits a

abbrev pub OthersFit : List tree.Argument → Type 0
OthersFit [] = Unit {0}
OthersFit (a ∷ rest) = ArgumentFits a × OthersFit rest

abbrev pub ProcedureFits : tree.Procedure → Type 0
ProcedureFits p = PassedFits p.result × (PassedFits p.first × OthersFit p.others)

abbrev pub ProceduresFit : List tree.Procedure → Type 0
ProceduresFit [] = Unit {0}
ProceduresFit (p ∷ ps) = ProcedureFits p × ProceduresFit ps

abbrev pub VersionFits : tree.Version → Type 0
VersionFits v = HasOne v.procedures × ProceduresFit v.procedures

abbrev pub VersionsFit : List tree.Version → Type 0
VersionsFit [] = Unit {0}
VersionsFit (v ∷ vs) = VersionFits v × VersionsFit vs

-- at most most_inline inline bodies inside one another, and no body and no list of cases is empty
abbrev pub KeepsLimits : tree.Definition → Type 0
KeepsLimits (tree.Const name value) = Unit {0}
KeepsLimits (tree.Typedef d) = DeclarationFits d most_inline
KeepsLimits (tree.NewType name body) = BodyFits body most_inline
KeepsLimits (tree.Program name versions number) = HasOne versions × VersionsFit versions

-- some definition's spelling begins with these words
abbrev pub Begins : List Word → Type 0
Begins words = (d : tree.Definition) × KeepsLimits d × (more : List Word) × (spell d ≡ words ++ more)

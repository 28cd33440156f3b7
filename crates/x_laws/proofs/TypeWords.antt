-- The words of a definition declare as types what its typedefs name.
use Rattle.std.proofs.Common.{length, ◌≡◌, ℕ, Bool, true, false, ◌&&◌, ◌||◌, List, [], ◌∷◌, ◌++◌, map, Option}
use Rattle.std.proofs.Common.{None, Some, refl, sym, ap, ◌∙◌}
use Rattle.std.specs.Str.{bytes_eq}
use Rattle.x_lex.specs.declared.mark.Mark.{Mark}
use Rattle.x_trees.specs.Tree as tree
use Rattle.x_trees.specs.Declarations.{name_of}
use Rattle.x_trees.specs.Words.{Fixed}
use Rattle.x_lex.specs.declared.mark.Mark.TheVariants.{Semicolon}
use Rattle.x_trees.proofs.GlossLemmas.{AreBare, bare_body}
use Rattle.x_trees.specs.declared.names.declared_name.NameKind.TheVariants as kinds
use Rattle.x_trees.specs.Gloss.{Position, AsField, AsDiscriminant, AsArm, Site, InTypedef, Inside, Role}
use Rattle.x_trees.specs.Gloss.{Declares, EnumeratorValue, CaseValue, FixedSize, GreatestSize, ConstantValue}
use Rattle.x_trees.specs.Gloss.{VoidResult, VoidArgument, Gloss, glossed, gloss, value_roles, leading_roles}
use Rattle.x_trees.specs.Gloss.{lifted_name, lifted_roles, basic_marks, use_by, marks_by, most_by, length_by}
use Rattle.x_trees.specs.Gloss.{named_by, given_by, enumerator_by, other_enumerators_by, enumerators_by}
use Rattle.x_trees.specs.Gloss.{cases_by, type_by, body_by, body_kind, declaration_by, declarations_by}
use Rattle.x_trees.specs.Gloss.{arms_by, default_by, argument_by, passed_by, others_by, procedure_by}
use Rattle.x_trees.specs.Gloss.{procedures_by, version_by, versions_by}
use Rattle.x_rules.specs.Mentioned.{suits}
use Rattle.x_schema.specs.SchemaOf.{as_typedef, typedefs, typedefs_inside, typedefs_of, typedefs_of_type}
use Rattle.x_schema.specs.SchemaOf.{typedefs_of_fields, typedefs_of_arms, typedefs_of_default}

-- ---- what is said of words and of typedefs

abbrev pub role_types : List ℕ → Role → Bool
role_types n (Declares name kind lifted) = suits None kind && bytes_eq n name
role_types n role = false

abbrev pub roles_type : List ℕ → List Role → Bool
roles_type n [] = false
roles_type n (r ∷ rs) = role_types n r || roles_type n rs

-- one of the words declares the name as a type
abbrev pub words_type : List ℕ → List Gloss → Bool
words_type n [] = false
words_type n (g ∷ gs) = roles_type n g.roles || words_type n gs

-- one of the typedefs has the name
abbrev pub is_defined : List ℕ → List tree.Declaration → Bool
is_defined n [] = false
is_defined n (d ∷ ds) = bytes_eq n (name_of d) || is_defined n ds

or_assoc : (a b c : Bool) → a || (b || c) ≡ (a || b) || c
or_assoc true b c = refl
or_assoc false b c = refl

pub or_false : (a : Bool) → a || false ≡ a
or_false true = refl
or_false false = refl

-- a typedef's own name stands in front of the lifted one among its words, and behind it among its typedefs
or_behind : (a b c : Bool) → a || (b || c) ≡ (a || c) || (b || false)
or_behind true b c = refl
or_behind false true true = refl
or_behind false true false = refl
or_behind false false true = refl
or_behind false false false = refl

pub words_append : (n : List ℕ) (a b : List Gloss) → words_type n (a ++ b) ≡ words_type n a || words_type n b
words_append n [] b = refl
words_append n (g ∷ gs) b = ap (λ x. roles_type n g.roles || x) (words_append n gs b)
    ∙ or_assoc (roles_type n g.roles) (words_type n gs) (words_type n b)

defined_append : (n : List ℕ) (a b : List tree.Declaration)
    → is_defined n (a ++ b) ≡ is_defined n a || is_defined n b
defined_append n [] b = refl
defined_append n (d ∷ ds) b = ap (λ x. bytes_eq n (name_of d) || x) (defined_append n ds b)
    ∙ or_assoc (bytes_eq n (name_of d)) (is_defined n ds) (is_defined n b)

-- ---- words that declare no type

quiet_value : (n : List ℕ) (role : Role) (v : tree.Value) → role_types n role ≡ false
    → roles_type n (value_roles role v) ≡ false
quiet_value n role (tree.Number t) e = ap (λ b. b || false) e
quiet_value n role (tree.Named t) e = ap (λ b. b || false) e

quiet_most : (n : List ℕ) (most : Option tree.Value) → words_type n (most_by glossed true most) ≡ false
quiet_most n None = refl
quiet_most n (Some v) = ap (λ b. b || false) (quiet_value n (GreatestSize v) v refl)

pub quiet_length : (n : List ℕ) (length : tree.Length) → words_type n (length_by glossed true length) ≡ false
quiet_length n (tree.Fixed v) = ap (λ b. b || false) (quiet_value n (FixedSize v) v refl)
quiet_length n (tree.Variable None) = refl
quiet_length n (tree.Variable (Some v)) = ap (λ b. b || false) (quiet_value n (GreatestSize v) v refl)

pub name_words : (n : List ℕ) (roles : List Role) (name : List ℕ) (shape : tree.Shape)
    → words_type n (named_by glossed true roles name shape) ≡ roles_type n roles
name_words n roles name tree.Plain = or_false (roles_type n roles)
name_words n roles name tree.Optional = or_false (roles_type n roles)
name_words n roles name (tree.Array length) = ap (λ b. roles_type n roles || b) (quiet_length n length)
    ∙ or_false (roles_type n roles)

quiet_given : (n : List ℕ) (value : Option tree.Value) → words_type n (given_by glossed true value) ≡ false
quiet_given n None = refl
quiet_given n (Some v) = ap (λ b. b || false) (quiet_value n (EnumeratorValue v) v refl)

quiet_enumerator : (n : List ℕ) (e : tree.Enumerator) → words_type n (enumerator_by glossed true e) ≡ false
quiet_enumerator n e = quiet_given n e.value

quiet_others : (n : List ℕ) (es : List tree.Enumerator)
    → words_type n (other_enumerators_by glossed true es) ≡ false
quiet_others n [] = refl
quiet_others n (e ∷ es) =
    let one = quiet_enumerator n e in
    let rest = quiet_others n es in
    words_append n (enumerator_by glossed true e) (other_enumerators_by glossed true es)
    ∙ (λ i. one i || rest i)

pub quiet_enumerators : (n : List ℕ) (es : List tree.Enumerator)
    → words_type n (enumerators_by glossed true es) ≡ false
quiet_enumerators n [] = refl
quiet_enumerators n (e ∷ es) =
    let one = quiet_enumerator n e in
    let rest = quiet_others n es in
    words_append n (enumerator_by glossed true e) (other_enumerators_by glossed true es)
    ∙ (λ i. one i || rest i)

pub quiet_cases : (n : List ℕ) (vs : List tree.Value) → words_type n (cases_by glossed true vs) ≡ false
quiet_cases n [] = refl
quiet_cases n (v ∷ vs) = let one = quiet_value n
    (CaseValue v) v refl in let rest = quiet_cases n vs in λ i. one i || rest i

pub quiet_leading : (n : List ℕ) (place : Site) (d : tree.Declaration)
    → roles_type n (leading_roles (Some place) d) ≡ false
quiet_leading n InTypedef d = refl
quiet_leading n (Inside AsField around) d = refl
quiet_leading n (Inside AsDiscriminant around) d = refl
quiet_leading n (Inside AsArm around) d = refl

abbrev marks_bare : List Mark → List Gloss
marks_bare ms = map (λ m. glossed (Fixed m) []) ms

quiet_bare : (n : List ℕ) (ms : List Mark) → words_type n (marks_bare ms) ≡ false
quiet_bare n [] = refl
quiet_bare n (m ∷ ms) = quiet_bare n ms

pub quiet_marks : (n : List ℕ) (first : List Role) (ms : List Mark) → roles_type n first ≡ false
    → words_type n (marks_by glossed first ms) ≡ false
quiet_marks n first [] e = refl
quiet_marks n first (m ∷ ms) e = let rest = quiet_bare n ms in λ i. e i || rest i

-- ---- types

kind_suits : (body : tree.Body) → suits None (body_kind body) ≡ true
kind_suits (tree.Enum es) = refl
kind_suits (tree.Struct ds) = refl
kind_suits (tree.Union d arms other) = refl

lifted_words : (n lifted : List ℕ) (body : tree.Body)
    → roles_type n (lifted_roles (Some lifted) (tree.Inline body)) ≡ is_defined n
    (as_typedef lifted body ∷ [])
lifted_words n lifted body = ap (λ b. (b && bytes_eq n lifted) || false) (kind_suits body)

abbrev type_words : List Role → tree.Shape → List ℕ → tree.DataType → List Gloss
type_words first shape lifted type = type_by glossed first (Some (use_by shape)) (Some lifted) type

inline_told : (n : List ℕ) (first : List Role) (lifted : List ℕ) (shape : tree.Shape) (body : tree.Body)
    → roles_type n first ≡ false
    → words_type n (body_by glossed (Some lifted) body) ≡ is_defined n (typedefs_inside lifted body)
    → words_type n (type_words first shape lifted (tree.Inline body)) || roles_type n
    (lifted_roles (Some lifted) (tree.Inline body))
    ≡ is_defined n (typedefs_of_type lifted (tree.Inline body))
inline_told n first lifted shape body e told =
    let own = lifted_words n lifted body in
    (λ i. (e i || told i) || own i) ∙ sym (defined_append n (typedefs_inside lifted body)
    (as_typedef lifted body ∷ []))

mutual
  body_told : (n around : List ℕ) (body : tree.Body)
      → words_type n (body_by glossed (Some around) body) ≡ is_defined n (typedefs_inside around body)
  body_told n around (tree.Enum es) =
      words_append n (enumerators_by glossed true es) _ ∙ ap (λ b. b || false) (quiet_enumerators n es)
  body_told n around (tree.Struct ds) =
      words_append n (declarations_by glossed (Some around) ds) _
      ∙ or_false (words_type n (declarations_by glossed (Some around) ds)) ∙ fields_told n around ds
  body_told n around (tree.Union d as' other) =
      let first = declaration_told n AsDiscriminant around d in
      let rest = words_append n (arms_by glossed (Some around) as') (default_by glossed (Some around) other)
      ∙ (let a = arms_told n around as' in let o = default_told n around other in λ i. a i || o i)
      ∙ sym (defined_append n (typedefs_of_arms around as') (typedefs_of_default around other)) in
      words_append n (declaration_by glossed (Some (Inside AsDiscriminant around)) d) _
      ∙ (λ i. first i || rest i)
      ∙ sym (defined_append n (typedefs_of around d)
      (typedefs_of_arms around as' ++ typedefs_of_default around other))

  type_told : (n : List ℕ) (first : List Role) (shape : tree.Shape) (lifted : List ℕ) (type : tree.DataType)
      → roles_type n first ≡ false
      → words_type n (type_words first shape lifted type) || roles_type n
      (lifted_roles (Some lifted) type) ≡ is_defined n (typedefs_of_type lifted type)
  type_told n first shape lifted (tree.Simple b) e = ap (λ x. x || false)
      (quiet_marks n first (basic_marks b) e)
  type_told n first shape lifted (tree.Name t) e = ap (λ x. (x || false) || false) e
  type_told n first shape lifted (tree.Tagged tag t) e = ap (λ x. (x || false) || false) e
  type_told n first shape lifted (tree.Inline body) e = inline_told n first lifted shape body e
      (body_told n lifted body)

  declaration_told : (n : List ℕ) (position : Position) (around : List ℕ) (d : tree.Declaration)
      → words_type n (declaration_by glossed (Some (Inside position around)) d) ≡ is_defined n
      (typedefs_of around d)
  declaration_told n position around tree.Void = ap (λ b. b || false)
      (quiet_leading n (Inside position around) tree.Void)
  declaration_told n position around (tree.Of type name shape) =
      let first = leading_roles (Some (Inside position around)) (tree.Of type name shape) in
      let words = words_type n (type_words first shape (lifted_name around name) type) in
      words_append n (type_words first shape (lifted_name around name) type) _
      ∙ ap (λ b. words || b) (name_words n _ name shape)
      ∙ type_told n first shape (lifted_name around name) type
      (quiet_leading n (Inside position around) (tree.Of type name shape))
  declaration_told n position around (tree.Opaque name length) =
      let first = quiet_leading n (Inside position around) (tree.Opaque name length) in
      let rest = quiet_length n length in
      λ i. first i || rest i
  declaration_told n position around (tree.String name most) =
      let first = quiet_leading n (Inside position around) (tree.String name most) in
      let rest = quiet_length n (tree.Variable most) in
      λ i. first i || rest i

  fields_told : (n around : List ℕ) (ds : tree.Declarations)
      → words_type n (declarations_by glossed (Some around) ds) ≡ is_defined n (typedefs_of_fields around ds)
  fields_told n around tree.none = refl
  fields_told n around (tree.more d ds) =
      let first = declaration_told n AsField around d in
      let rest = fields_told n around ds in
      words_append n (declaration_by glossed (Some (Inside AsField around)) d) _ ∙ (λ i. first i || rest i)
      ∙ sym (defined_append n (typedefs_of around d) (typedefs_of_fields around ds))

  arms_told : (n around : List ℕ) (as' : tree.Arms)
      → words_type n (arms_by glossed (Some around) as') ≡ is_defined n (typedefs_of_arms around as')
  arms_told n around tree.no_arm = refl
  arms_told n around (tree.arm values d rest) =
      let cases = quiet_cases n values in
      let first = declaration_told n AsArm around d in
      let others = arms_told n around rest in
      let behind = words_append n (declaration_by glossed (Some (Inside AsArm around)) d) _
      ∙ (λ i. first i || others i) in
      words_append n (cases_by glossed true values) _ ∙ (λ i. cases i || behind i)
      ∙ sym (defined_append n (typedefs_of around d) (typedefs_of_arms around rest))

  default_told : (n around : List ℕ) (other : tree.Default)
      → words_type n (default_by glossed (Some around) other) ≡ is_defined n
      (typedefs_of_default around other)
  default_told n around tree.no_default = refl
  default_told n around (tree.default d) =
      words_append n (declaration_by glossed (Some (Inside AsArm around)) d) _
      ∙ or_false (words_type n (declaration_by glossed (Some (Inside AsArm around)) d))
      ∙ declaration_told n AsArm around d

-- ---- definitions

bare_words : (n : List ℕ) (gs : List Gloss) → AreBare gs → words_type n gs ≡ false
bare_words n [] h = refl
bare_words n (g ∷ gs) h = let first : roles_type n g.roles ≡ false = ap
    (roles_type n) h.0 in let rest = bare_words n gs h.1 in λ i. first i || rest i

quiet_argument : (n : List ℕ) (a : tree.Argument) → words_type n (argument_by glossed true a) ≡ false
quiet_argument n tree.Text = refl
quiet_argument n (tree.Typed (tree.Simple b)) = quiet_marks n [] (basic_marks b) refl
quiet_argument n (tree.Typed (tree.Name t)) = refl
quiet_argument n (tree.Typed (tree.Tagged tag t)) = refl
quiet_argument n (tree.Typed (tree.Inline body)) = bare_words n (body_by glossed None body) (bare_body body)

quiet_passed : (n : List ℕ) (void : List Role) (a : Option tree.Argument) → roles_type n void ≡ false
    → words_type n (passed_by glossed true void a) ≡ false
quiet_passed n void None e = ap (λ b. b || false) e
quiet_passed n void (Some a) e = quiet_argument n a

quiet_arguments : (n : List ℕ) (as' : List tree.Argument) → words_type n (others_by glossed true as') ≡ false
quiet_arguments n [] = refl
quiet_arguments n (a ∷ rest) =
    let one = quiet_argument n a in
    let others = quiet_arguments n rest in
    words_append n (argument_by glossed true a) (others_by glossed true rest) ∙ (λ i. one i || others i)

pub quiet_both : (n : List ℕ) (xs ys : List Gloss) → words_type n xs ≡ false → words_type n ys ≡ false
    → words_type n (xs ++ ys) ≡ false
quiet_both n xs ys e k = words_append n xs ys ∙ (λ i. e i || k i)

quiet_procedure : (n : List ℕ) (p : tree.Procedure) → words_type n (procedure_by glossed true p) ≡ false
quiet_procedure n p =
    quiet_both n (passed_by glossed true (VoidResult ∷ []) p.result) _
    (quiet_passed n (VoidResult ∷ []) p.result refl)
    (quiet_both n (passed_by glossed true (VoidArgument (length p.others) ∷ []) p.first
    ++ others_by glossed true p.others) _
    (quiet_both n (passed_by glossed true (VoidArgument (length p.others) ∷ []) p.first)
    (others_by glossed true p.others)
    (quiet_passed n (VoidArgument (length p.others) ∷ []) p.first refl) (quiet_arguments n p.others)) refl)

quiet_procedures : (n : List ℕ) (ps : List tree.Procedure)
    → words_type n (procedures_by glossed true ps) ≡ false
quiet_procedures n [] = refl
quiet_procedures n (p ∷ ps) = quiet_both n (procedure_by glossed true p) (procedures_by glossed true ps)
    (quiet_procedure n p) (quiet_procedures n ps)

quiet_version : (n : List ℕ) (v : tree.Version) → words_type n (version_by glossed true v) ≡ false
quiet_version n v = quiet_both n (procedures_by glossed true v.procedures) _
    (quiet_procedures n v.procedures) refl

pub quiet_versions : (n : List ℕ) (vs : List tree.Version)
    → words_type n (versions_by glossed true vs) ≡ false
quiet_versions n [] = refl
quiet_versions n (v ∷ vs) = quiet_both n (version_by glossed true v) (versions_by glossed true vs)
    (quiet_version n v) (quiet_versions n vs)

or_last : (a b : Bool) → a || b ≡ b || (a || false)
or_last true true = refl
or_last true false = refl
or_last false true = refl
or_last false false = refl

body_defined : (n name : List ℕ) (body : tree.Body)
    → words_type n (gloss (tree.NewType name body)) ≡ is_defined n (typedefs (Some (tree.NewType name body)))
body_defined n name body =
    let own : (suits None (body_kind body) && bytes_eq n name) || false ≡ bytes_eq n name = ap
    (λ b. (b && bytes_eq n name) || false) (kind_suits body) ∙ or_false (bytes_eq n name) in
    let rest : words_type n (body_by glossed (Some name) body
    ++ glossed (Fixed Semicolon) [] ∷ []) ≡ is_defined n (typedefs_inside name body) =
    words_append n (body_by glossed (Some name) body) (glossed (Fixed Semicolon) [] ∷ [])
    ∙ or_false (words_type n (body_by glossed (Some name) body)) ∙ body_told n name body in
    (λ i. own i || rest i) ∙ or_last (bytes_eq n name) (is_defined n (typedefs_inside name body))
    ∙ sym (defined_append n (typedefs_inside name body) (as_typedef name body ∷ []))

-- of a typedef that declares a name, with the semicolon behind it
typedef_told : (n : List ℕ) (d : tree.Declaration)
    → words_type n (declaration_by glossed (Some InTypedef) d) ≡ is_defined n
    (typedefs (Some (tree.Typedef d)))
typedef_told n tree.Void = refl
typedef_told n (tree.Of type name shape) =
    let first = type_words [] shape (lifted_name name name) type in
    let lifted = roles_type n (lifted_roles (Some (lifted_name name name)) type) in
    words_append n first _
    ∙ ap (λ b. words_type n first || b) (name_words n
    (Declares name kinds.Typedef false ∷ lifted_roles (Some (lifted_name name name)) type) name shape)
    ∙ or_behind (words_type n first) (bytes_eq n name) lifted
    ∙ ap (λ b. b || (bytes_eq n name || false)) (type_told n [] shape (lifted_name name name) type refl)
    ∙ sym (defined_append n (typedefs_of name (tree.Of type name shape)) (tree.Of type name shape ∷ []))
typedef_told n (tree.Opaque name length) = ap (λ b. (bytes_eq n name || false) || b) (quiet_length n length)
    ∙ or_false (bytes_eq n name || false)
typedef_told n (tree.String name most) = ap (λ b. (bytes_eq n name || false) || b)
    (quiet_length n (tree.Variable most)) ∙ or_false (bytes_eq n name || false)

pub definition_told : (n : List ℕ) (d : tree.Definition)
    → words_type n (gloss d) ≡ is_defined n (typedefs (Some d))
definition_told n (tree.Const name value) = ap (λ b. b || false)
    (quiet_value n (ConstantValue value) value refl)
definition_told n (tree.Typedef d) =
    words_append n (declaration_by glossed (Some InTypedef) d) (glossed (Fixed Semicolon) [] ∷ [])
    ∙ or_false (words_type n (declaration_by glossed (Some InTypedef) d)) ∙ typedef_told n d
definition_told n (tree.NewType name body) = body_defined n name body
definition_told n (tree.Program name versions number) = quiet_both n (versions_by glossed true versions) _
    (quiet_versions n versions) refl

-- No word of a definition declares a name as a typedef but that of a typedef.
use Rattle.std.proofs.Common.{◌≡◌, ◌⊎◌, inl, inr, ℕ, ◌+◌, Bool, true, false, ◌||◌, List, [], ◌∷◌, ◌++◌, map}
use Rattle.std.proofs.Common.{length, Option, None, Some, refl, sym, ap, ◌∙◌}
use Rattle.std.specs.List.{IsAmong}
use Rattle.x_lex.specs.declared.mark.Mark.{Mark}
use Rattle.x_lex.specs.declared.mark.Mark.TheVariants.{Semicolon}
use Rattle.x_trees.specs.Tree as tree
use Rattle.x_trees.specs.Words.{Fixed}
use Rattle.x_trees.specs.Gloss.{Position, AsField, AsDiscriminant, AsArm, Site, InTypedef, Inside, Role}
use Rattle.x_trees.specs.Gloss.{Declares, ConstantValue, EnumeratorValue, CaseValue, FixedSize, GreatestSize}
use Rattle.x_trees.specs.Gloss.{VoidResult, VoidArgument, Gloss, glossed, gloss, value_roles, leading_roles}
use Rattle.x_trees.specs.Gloss.{lifted_name, lifted_roles, basic_marks, body_kind, use_by, marks_by, most_by}
use Rattle.x_trees.specs.Gloss.{length_by, named_by, given_by, enumerator_by, other_enumerators_by}
use Rattle.x_trees.specs.Gloss.{enumerators_by, cases_by, type_by, body_by, declaration_by, declarations_by}
use Rattle.x_trees.specs.Gloss.{arms_by, default_by, argument_by, passed_by, others_by, procedure_by}
use Rattle.x_trees.specs.Gloss.{procedures_by, version_by, versions_by, told_of}
use Rattle.x_trees.specs.Names.{Declared, declared, declared_at}
use Rattle.x_trees.specs.declared.names.declared_name.NameKind.{NameKind}
use Rattle.x_trees.specs.declared.names.declared_name.NameKind.TheVariants as kinds
use Rattle.x_trees.specs.declared.names.mention.Use.{Use}
use Rattle.x_trees.proofs.GlossLemmas.{AreBare, bare_body}
use Rattle.x_trees.proofs.AmongLemmas.{among_cases, among_none, among_parts}

abbrev is_typedef : NameKind → Bool
is_typedef kinds.Typedef = true
is_typedef kind = false

abbrev role_is : Role → Bool
role_is (Declares name kind lifted) = is_typedef kind
role_is role = false

abbrev roles_are : List Role → Bool
roles_are [] = false
roles_are (r ∷ rs) = role_is r || roles_are rs

-- one of the words declares a typedef
abbrev words_are : List Gloss → Bool
words_are [] = false
words_are (g ∷ gs) = roles_are g.roles || words_are gs

or_assoc : (a b c : Bool) → a || (b || c) ≡ (a || b) || c
or_assoc true b c = refl
or_assoc false b c = refl

append : (a b : List Gloss) → words_are (a ++ b) ≡ words_are a || words_are b
append [] b = refl
append (g ∷ gs) b = ap (λ x. roles_are g.roles || x) (append gs b)
    ∙ or_assoc (roles_are g.roles) (words_are gs) (words_are b)

both : (xs ys : List Gloss) → words_are xs ≡ false → words_are ys ≡ false → words_are (xs ++ ys) ≡ false
both xs ys e k = append xs ys ∙ (λ i. e i || k i)

next : (roles : List Role) (gs : Bool) → roles_are roles ≡ false → gs ≡ false → roles_are roles || gs ≡ false
next roles gs e k = λ i. e i || k i

value : (role : Role) (v : tree.Value) → role_is role ≡ false → roles_are (value_roles role v) ≡ false
value role (tree.Number t) e = ap (λ b. b || false) e
value role (tree.Named t) e = ap (λ b. b || false) e

most : (v : Option tree.Value) → words_are (most_by glossed true v) ≡ false
most None = refl
most (Some v) = ap (λ b. b || false) (value (GreatestSize v) v refl)

size : (l : tree.Length) → words_are (length_by glossed true l) ≡ false
size (tree.Fixed v) = ap (λ b. b || false) (value (FixedSize v) v refl)
size (tree.Variable None) = refl
size (tree.Variable (Some v)) = ap (λ b. b || false) (value (GreatestSize v) v refl)

named : (roles : List Role) (name : List ℕ) (shape : tree.Shape) → roles_are roles ≡ false
    → words_are (named_by glossed true roles name shape) ≡ false
named roles name tree.Plain e = ap (λ b. b || false) e
named roles name tree.Optional e = ap (λ b. b || false) e
named roles name (tree.Array l) e = next roles _ e (size l)

given : (v : Option tree.Value) → words_are (given_by glossed true v) ≡ false
given None = refl
given (Some v) = ap (λ b. b || false) (value (EnumeratorValue v) v refl)

other_enumerators : (es : List tree.Enumerator) → words_are (other_enumerators_by glossed true es) ≡ false
other_enumerators [] = refl
other_enumerators (e ∷ es) = both (enumerator_by glossed true e) (other_enumerators_by glossed true es)
    (given e.value) (other_enumerators es)

enumerators : (es : List tree.Enumerator) → words_are (enumerators_by glossed true es) ≡ false
enumerators [] = refl
enumerators (e ∷ es) = both (enumerator_by glossed true e) (other_enumerators_by glossed true es)
    (given e.value) (other_enumerators es)

cases : (vs : List tree.Value) → words_are (cases_by glossed true vs) ≡ false
cases [] = refl
cases (v ∷ vs) = next (value_roles (CaseValue v) v) _ (value (CaseValue v) v refl) (cases vs)

bare_marks : (ms : List Mark) → words_are (map (λ m. glossed (Fixed m) []) ms) ≡ false
bare_marks [] = refl
bare_marks (m ∷ ms) = bare_marks ms

marks : (first : List Role) (ms : List Mark) → roles_are first ≡ false
    → words_are (marks_by glossed first ms) ≡ false
marks first [] e = refl
marks first (m ∷ ms) e = next first _ e (bare_marks ms)

leading : (place : Site) (d : tree.Declaration) → roles_are (leading_roles (Some place) d) ≡ false
leading InTypedef d = refl
leading (Inside AsField around) d = refl
leading (Inside AsDiscriminant around) d = refl
leading (Inside AsArm around) d = refl

body_no_typedef : (body : tree.Body) → is_typedef (body_kind body) ≡ false
body_no_typedef (tree.Enum es) = refl
body_no_typedef (tree.Struct ds) = refl
body_no_typedef (tree.Union d arms other) = refl

lifted_quiet : (lifted : List ℕ) (type : tree.DataType) → roles_are (lifted_roles (Some lifted) type) ≡ false
lifted_quiet lifted (tree.Simple b) = refl
lifted_quiet lifted (tree.Name t) = refl
lifted_quiet lifted (tree.Tagged tag t) = refl
lifted_quiet lifted (tree.Inline body) = ap (λ b. b || false) (body_no_typedef body)

abbrev words_inside : Position → List ℕ → tree.Declaration → List Gloss
words_inside position around d = declaration_by glossed (Some (Inside position around)) d

mutual
  body : (around : List ℕ) (b : tree.Body) → words_are (body_by glossed (Some around) b) ≡ false
  body around (tree.Enum es) = both (enumerators_by glossed true es) _ (enumerators es) refl
  body around (tree.Struct ds) = both (declarations_by glossed (Some around) ds) _ (fields around ds) refl
  body around (tree.Union d as' other) =
      both (words_inside AsDiscriminant around d) _ (declaration AsDiscriminant around d)
      (both (arms_by glossed (Some around) as') (default_by glossed (Some around) other) (arms around as')
      (default around other))

  type : (first : List Role) (u : Use) (lifted : List ℕ) (t : tree.DataType) → roles_are first ≡ false
      → words_are (type_by glossed first (Some u) (Some lifted) t) ≡ false
  type first u lifted (tree.Simple b) e = marks first (basic_marks b) e
  type first u lifted (tree.Name t) e = ap (λ b. b || false) e
  type first u lifted (tree.Tagged tag t) e = ap (λ b. b || false) e
  type first u lifted (tree.Inline b) e = next first _ e (body lifted b)

  declaration : (position : Position) (around : List ℕ) (d : tree.Declaration)
      → words_are (words_inside position around d) ≡ false
  declaration position around tree.Void = ap (λ b. b || false) (leading (Inside position around) tree.Void)
  declaration position around (tree.Of t name shape) =
      both (type_by glossed (leading_roles (Some (Inside position around)) (tree.Of t name shape))
      (Some (use_by shape)) (Some (lifted_name around name)) t) _
      (type (leading_roles (Some (Inside position around)) (tree.Of t name shape)) (use_by shape)
      (lifted_name around name) t (leading (Inside position around) (tree.Of t name shape)))
      (named _ name shape (lifted_quiet (lifted_name around name) t))
  declaration position around (tree.Opaque name l) = next
      (leading_roles (Some (Inside position around)) (tree.Opaque name l)) _
      (leading (Inside position around) (tree.Opaque name l)) (size l)
  declaration position around (tree.String name v) =
      next (leading_roles (Some (Inside position around)) (tree.String name v)) _
      (leading (Inside position around) (tree.String name v)) (size (tree.Variable v))

  fields : (around : List ℕ) (ds : tree.Declarations)
      → words_are (declarations_by glossed (Some around) ds) ≡ false
  fields around tree.none = refl
  fields around (tree.more d ds) = both (words_inside AsField around d) _ (declaration AsField around d)
      (fields around ds)

  arms : (around : List ℕ) (as' : tree.Arms) → words_are (arms_by glossed (Some around) as') ≡ false
  arms around tree.no_arm = refl
  arms around (tree.arm values d rest) = both (cases_by glossed true values) _ (cases values)
      (both (words_inside AsArm around d) _ (declaration AsArm around d) (arms around rest))

  default : (around : List ℕ) (other : tree.Default)
      → words_are (default_by glossed (Some around) other) ≡ false
  default around tree.no_default = refl
  default around (tree.default d) = both (words_inside AsArm around d) _ (declaration AsArm around d) refl

bare : (gs : List Gloss) → AreBare gs → words_are gs ≡ false
bare [] h = refl
bare (g ∷ gs) h = next g.roles (words_are gs) (ap roles_are h.0) (bare gs h.1)

argument : (a : tree.Argument) → words_are (argument_by glossed true a) ≡ false
argument tree.Text = refl
argument (tree.Typed (tree.Simple b)) = marks [] (basic_marks b) refl
argument (tree.Typed (tree.Name t)) = refl
argument (tree.Typed (tree.Tagged tag t)) = refl
argument (tree.Typed (tree.Inline b)) = bare (body_by glossed None b) (bare_body b)

passed : (void : List Role) (a : Option tree.Argument) → roles_are void ≡ false
    → words_are (passed_by glossed true void a) ≡ false
passed void None e = ap (λ b. b || false) e
passed void (Some a) e = argument a

others : (as' : List tree.Argument) → words_are (others_by glossed true as') ≡ false
others [] = refl
others (a ∷ rest) = both (argument_by glossed true a) (others_by glossed true rest) (argument a) (others rest)

procedure : (p : tree.Procedure) → words_are (procedure_by glossed true p) ≡ false
procedure p =
    both (passed_by glossed true (VoidResult ∷ []) p.result) _ (passed (VoidResult ∷ []) p.result refl)
    (both (passed_by glossed true (VoidArgument (length p.others) ∷ []) p.first
    ++ others_by glossed true p.others) _
    (both (passed_by glossed true (VoidArgument (length p.others) ∷ []) p.first)
    (others_by glossed true p.others) (passed (VoidArgument (length p.others) ∷ []) p.first refl)
    (others p.others)) refl)

procedures : (ps : List tree.Procedure) → words_are (procedures_by glossed true ps) ≡ false
procedures [] = refl
procedures (p ∷ ps) = both (procedure_by glossed true p) (procedures_by glossed true ps) (procedure p)
    (procedures ps)

version : (v : tree.Version) → words_are (version_by glossed true v) ≡ false
version v = both (procedures_by glossed true v.procedures) _ (procedures v.procedures) refl

versions : (vs : List tree.Version) → words_are (versions_by glossed true vs) ≡ false
versions [] = refl
versions (v ∷ vs) = both (version_by glossed true v) (versions_by glossed true vs) (version v) (versions vs)

const_quiet : (name : List ℕ) (v : tree.Value) → words_are (gloss (tree.Const name v)) ≡ false
const_quiet name v = ap (λ b. b || false) (value (ConstantValue v) v refl)

new_quiet : (name : List ℕ) (b : tree.Body) → words_are (gloss (tree.NewType name b)) ≡ false
new_quiet name b = next (Declares name (body_kind b) false ∷ []) _ (ap (λ x. x || false) (body_no_typedef b))
    (both (body_by glossed (Some name) b) (glossed (Fixed Semicolon) [] ∷ []) (body name b) refl)

program_quiet : (name : List ℕ) (vs : List tree.Version) (number : List ℕ)
    → words_are (gloss (tree.Program name vs number)) ≡ false
program_quiet name vs number = both (versions_by glossed true vs) _ (versions vs) refl

-- ---- a name that is declared as a typedef

or_true : (a : Bool) → a || true ≡ true
or_true true = refl
or_true false = refl

roles_declare : (at : ℕ) (roles : List Role) (x : Declared) → IsAmong (declared_at at roles) x
    → is_typedef x.kind ≡ true → roles_are roles ≡ true
roles_declare at [] x h e = absurd (among_none x h)
roles_declare at (Declares name kind lifted ∷ roles) x h e =
    by (among_cases (record { name = name; word = at; kind = kind; lifted = lifted }) x
    (declared_at at roles) h) (λ k. roles_declare at roles x k e)
  where
    by : (x ≡ record { name = name; word = at; kind = kind; lifted = lifted })
        ⊎ IsAmong (declared_at at roles) x → (IsAmong (declared_at at roles) x → roles_are roles ≡ true)
        → is_typedef kind || roles_are roles ≡ true
    by (inl same) more = ap (λ b. b || roles_are roles) (sym (ap (λ y. is_typedef y.kind) same) ∙ e)
    by (inr k) more = ap (λ b. is_typedef kind || b) (more k) ∙ or_true (is_typedef kind)
roles_declare at (role ∷ roles) x h e = roles_declare at roles x h e

words_declare : (at : ℕ) (gs : List Gloss) (x : Declared) → IsAmong (told_of declared_at at gs) x
    → is_typedef x.kind ≡ true → words_are gs ≡ true
words_declare at [] x h e = absurd (among_none x h)
words_declare at (g ∷ gs) x h e = by (among_parts (declared_at at g.roles)
    (told_of declared_at (at + 1) gs) x h) (λ k. words_declare (at + 1) gs x k e)
  where
    by : IsAmong (declared_at at g.roles) x ⊎ IsAmong (told_of declared_at (at + 1) gs) x
        → (IsAmong (told_of declared_at (at + 1) gs) x → words_are gs ≡ true)
        → roles_are g.roles || words_are gs ≡ true
    by (inl k) more = ap (λ b. b || words_are gs) (roles_declare at g.roles x k e)
    by (inr k) more = ap (λ b. roles_are g.roles || b) (more k) ∙ or_true (roles_are g.roles)

-- the definition is a typedef
pub data IsTypedef (d : tree.Definition) : Type 0 where
  typedef : (declaration : tree.Declaration) → d ≡ tree.Typedef declaration → IsTypedef d

pub typedef_of : (d : tree.Definition) (x : Declared) → IsAmong (declared d) x → x.kind ≡ kinds.Typedef
    → IsTypedef d
typedef_of (tree.Const name v) x h e = let is = words_declare 0 (gloss (tree.Const name v)) x h
    (ap is_typedef e) in let quiet = const_quiet name v in absurd cc
typedef_of (tree.Typedef d) x h e = typedef d refl
typedef_of (tree.NewType name b) x h e = let is = words_declare 0 (gloss (tree.NewType name b)) x h
    (ap is_typedef e) in let quiet = new_quiet name b in absurd cc
typedef_of (tree.Program name vs number) x h e = let is = words_declare 0
    (gloss (tree.Program name vs number)) x h
    (ap is_typedef e) in let quiet = program_quiet name vs number in absurd cc

-- The words of a gloss are the spelling, and nothing is told of words without roles.
use Rattle.std.proofs.Common.{◌≡◌, ℕ, ◌+◌, Bool, true, false, List, [], ◌∷◌, ◌++◌, map, length, Option, Some}
use Rattle.std.proofs.Common.{None, is_some, refl, ap, sym, ◌∙◌}
use Rattle.std.proofs.lemmas.List.{map-append, length-map}
use Rattle.x_trees.specs.Tree as tree
use Rattle.x_trees.specs.Words.{Word, Fixed}
use Rattle.x_lex.specs.declared.mark.Mark.{Mark}
use Rattle.x_trees.specs.declared.names.mention.Use.{Use}
use Rattle.x_trees.specs.Gloss.{Role, Gloss, Site, InTypedef, AsField, AsDiscriminant, AsArm, glossed, worded}
use Rattle.x_trees.specs.Gloss.{basic_marks, leading_roles, usage_at, name_inside, name_roles, lifted_roles}
use Rattle.x_trees.specs.Gloss.{site_in, roles_where, argument_roles, VoidResult, VoidArgument, marks_by}
use Rattle.x_trees.specs.Gloss.{most_by, length_by, named_by, given_by, enumerator_by, other_enumerators_by}
use Rattle.x_trees.specs.Gloss.{enumerators_by, cases_by, type_by, body_by, declaration_by, declarations_by}
use Rattle.x_trees.specs.Gloss.{arms_by, default_by, argument_by, passed_by, others_by, procedure_by}
use Rattle.x_trees.specs.Gloss.{procedures_by, version_by, versions_by, gloss, told_of}
use Rattle.x_trees.specs.Spell.{spell, spell_most, spell_length, spell_named, spell_given, spell_enumerator}
use Rattle.x_trees.specs.Spell.{spell_other_enumerators, spell_enumerators, spell_cases, spell_type}
use Rattle.x_trees.specs.Spell.{spell_body, spell_declaration, spell_declarations, spell_arms, spell_default}
use Rattle.x_trees.specs.Spell.{spell_argument, spell_passed, spell_others, spell_procedure, spell_procedures}
use Rattle.x_trees.specs.Spell.{spell_version, spell_versions}

-- ---- the words

abbrev pub words : List Gloss → List Word
words gs = map (λ g. g.word) gs

both : {us vs : List Word} (xs ys : List Gloss) → words xs ≡ us → words ys ≡ vs → words (xs ++ ys) ≡ us ++ vs
both {us} {vs} xs ys x y = map-append (λ g. g.word) xs ys ∙ ap (λ l. l ++ words ys) x ∙ ap (λ l. us ++ l) y

next : {w : Word} {us vs : List Word} → us ≡ vs → w ∷ us ≡ w ∷ vs
next {w} same = ap (λ l. w ∷ l) same

words_rest : (ms : List Mark) → words (map (λ m. glossed (Fixed m) []) ms) ≡ map (λ m. worded (Fixed m) []) ms
words_rest [] = refl
words_rest (m ∷ ms) = next (words_rest ms)

words_marks : (first : List Role) (ms : List Mark) → words (marks_by glossed first ms) ≡ marks_by worded [] ms
words_marks first [] = refl
words_marks first (m ∷ ms) = next (words_rest ms)

words_most : (told : Bool) (v : Option tree.Value) → words (most_by glossed told v) ≡ spell_most v
words_most told None = refl
words_most told (Some v) = refl

words_length : (told : Bool) (l : tree.Length) → words (length_by glossed told l) ≡ spell_length l
words_length told (tree.Fixed v) = refl
words_length told (tree.Variable v) = next (both (most_by glossed told v) _ (words_most told v) refl)

pub words_named : (told : Bool) (roles : List Role) (name : List ℕ) (shape : tree.Shape)
    → words (named_by glossed told roles name shape) ≡ spell_named name shape
words_named told roles name tree.Plain = refl
words_named told roles name tree.Optional = refl
words_named told roles name (tree.Array l) = next (words_length told l)

words_given : (told : Bool) (v : Option tree.Value) → words (given_by glossed told v) ≡ spell_given v
words_given told None = refl
words_given told (Some v) = refl

pub words_enumerator : (told : Bool) (e : tree.Enumerator)
    → words (enumerator_by glossed told e) ≡ spell_enumerator e
words_enumerator told e = next (words_given told e.value)

words_other_enumerators : (told : Bool) (es : List tree.Enumerator)
    → words (other_enumerators_by glossed told es) ≡ spell_other_enumerators es
words_other_enumerators told [] = refl
words_other_enumerators told (e ∷ es) =
    next (both (enumerator_by glossed told e) _ (words_enumerator told e) (words_other_enumerators told es))

words_enumerators : (told : Bool) (es : List tree.Enumerator)
    → words (enumerators_by glossed told es) ≡ spell_enumerators es
words_enumerators told [] = refl
words_enumerators told (e ∷ es) = both (enumerator_by glossed told e) _ (words_enumerator told e)
    (words_other_enumerators told es)

pub words_cases : (told : Bool) (vs : List tree.Value) → words (cases_by glossed told vs) ≡ spell_cases vs
words_cases told [] = refl
words_cases told (v ∷ vs) = next (next (next (words_cases told vs)))

mutual
  pub words_type : (first : List Role) (usage : Option Use) (inside : Option (List ℕ)) (t : tree.DataType)
      → words (type_by glossed first usage inside t) ≡ spell_type t
  words_type first usage inside (tree.Simple b) = words_marks first (basic_marks b)
  words_type first usage inside (tree.Name t) = refl
  words_type first usage inside (tree.Tagged tag t) = refl
  words_type first usage inside (tree.Inline body) = next (words_body inside body)

  pub words_body : (around : Option (List ℕ)) (b : tree.Body)
      → words (body_by glossed around b) ≡ spell_body b
  words_body around (tree.Enum es) =
      next (both (enumerators_by glossed (is_some around) es) _ (words_enumerators (is_some around) es) refl)
  words_body around (tree.Struct ds) =
      next (both (declarations_by glossed around ds) _ (words_declarations around ds) refl)
  words_body around (tree.Union d arms other) =
      next (next (both (declaration_by glossed (site_in AsDiscriminant around) d) _
      (words_declaration (site_in AsDiscriminant around) d)
      (next (next (both (arms_by glossed around arms) _ (words_arms around arms)
      (words_default around other))))))

  pub words_declaration : (site : Option Site) (d : tree.Declaration)
      → words (declaration_by glossed site d) ≡ spell_declaration d
  words_declaration site tree.Void = refl
  words_declaration site (tree.Of type name shape) =
      both (type_by glossed (leading_roles site (tree.Of type name shape)) (usage_at site shape)
      (name_inside site name) type) _
      (words_type (leading_roles site (tree.Of type name shape)) (usage_at site shape)
      (name_inside site name) type)
      (words_named (is_some site) (name_roles site name ++ lifted_roles (name_inside site name) type) name
      shape)
  words_declaration site (tree.Opaque name l) = next (next (words_length (is_some site) l))
  words_declaration site (tree.String name most) =
      next (next (words_length (is_some site) (tree.Variable most)))

  words_declarations : (around : Option (List ℕ)) (ds : tree.Declarations)
      → words (declarations_by glossed around ds) ≡ spell_declarations ds
  words_declarations around tree.none = refl
  words_declarations around (tree.more d ds) =
      both (declaration_by glossed (site_in AsField around) d) _
      (words_declaration (site_in AsField around) d) (next (words_declarations around ds))

  words_arms : (around : Option (List ℕ)) (arms : tree.Arms)
      → words (arms_by glossed around arms) ≡ spell_arms arms
  words_arms around tree.no_arm = refl
  words_arms around (tree.arm cases d rest) =
      both (cases_by glossed (is_some around) cases) _ (words_cases (is_some around) cases)
      (both (declaration_by glossed (site_in AsArm around) d) _ (words_declaration (site_in AsArm around) d)
      (next (words_arms around rest)))

  words_default : (around : Option (List ℕ)) (other : tree.Default)
      → words (default_by glossed around other) ≡ spell_default other
  words_default around tree.no_default = refl
  words_default around (tree.default d) =
      next (next (both (declaration_by glossed (site_in AsArm around) d) _
      (words_declaration (site_in AsArm around) d) refl))

words_argument : (told : Bool) (a : tree.Argument) → words (argument_by glossed told a) ≡ spell_argument a
words_argument told tree.Text = refl
words_argument told (tree.Typed type) = words_type (argument_roles told type) _ None type

words_passed : (told : Bool) (void : List Role) (p : Option tree.Argument)
    → words (passed_by glossed told void p) ≡ spell_passed p
words_passed told void None = refl
words_passed told void (Some a) = words_argument told a

words_others : (told : Bool) (others : List tree.Argument)
    → words (others_by glossed told others) ≡ spell_others others
words_others told [] = refl
words_others told (a ∷ rest) =
    next (both (argument_by glossed told a) _ (words_argument told a) (words_others told rest))

words_procedure : (told : Bool) (p : tree.Procedure) → words (procedure_by glossed told p) ≡ spell_procedure p
words_procedure told p =
    both (passed_by glossed told (roles_where told (VoidResult ∷ [])) p.result) _
    (words_passed told _ p.result)
    (next (next (both (passed_by glossed told first p.first ++ others_by glossed told p.others) _
    (both (passed_by glossed told first p.first) _ (words_passed told first p.first)
    (words_others told p.others)) refl)))
  where
    first : List Role
    first = roles_where told (VoidArgument (length p.others) ∷ [])

words_procedures : (told : Bool) (ps : List tree.Procedure)
    → words (procedures_by glossed told ps) ≡ spell_procedures ps
words_procedures told [] = refl
words_procedures told (p ∷ ps) = both (procedure_by glossed told p) _ (words_procedure told p)
    (words_procedures told ps)

words_version : (told : Bool) (v : tree.Version) → words (version_by glossed told v) ≡ spell_version v
words_version told v =
    next
    (next (next (both (procedures_by glossed told v.procedures) _ (words_procedures told v.procedures) refl)))

words_versions : (told : Bool) (vs : List tree.Version)
    → words (versions_by glossed told vs) ≡ spell_versions vs
words_versions told [] = refl
words_versions told (v ∷ vs) = both (version_by glossed told v) _ (words_version told v)
    (words_versions told vs)

pub words_gloss : (d : tree.Definition) → words (gloss d) ≡ spell d
words_gloss (tree.Const name value) = refl
words_gloss (tree.Typedef d) =
    next (both (declaration_by glossed (Some InTypedef) d) _ (words_declaration (Some InTypedef) d) refl)
words_gloss (tree.NewType name body) =
    next (next (both (body_by glossed (Some name) body) _ (words_body (Some name) body) refl))
words_gloss (tree.Program name versions number) =
    next (next (next (both (versions_by glossed true versions) _ (words_versions true versions) refl)))

-- as many words
pub long_as : (gs : List Gloss) {ws : List Word} → words gs ≡ ws → length gs ≡ length ws
long_as gs same = sym (length-map gs (λ g. g.word)) ∙ ap length same

-- ---- words without roles

abbrev pub AreBare : List Gloss → Type 0
AreBare [] = Unit {0}
AreBare (g ∷ gs) = (g.roles ≡ []) × AreBare gs

pub told_of_bare : {A : Type 0} (tell : ℕ → List Role → List A) (k : ℕ) (gs : List Gloss)
    → ((j : ℕ) → tell j [] ≡ []) → AreBare gs → told_of tell k gs ≡ []
told_of_bare tell k [] none bare = refl
told_of_bare tell k (g ∷ gs) none bare =
    ap (λ roles. tell k roles ++ told_of tell (k + 1) gs) bare.0
    ∙ ap (λ l. l ++ told_of tell (k + 1) gs) (none k)
    ∙ told_of_bare tell (k + 1) gs none bare.1

with_bare : (xs ys : List Gloss) → AreBare xs → AreBare ys → AreBare (xs ++ ys)
with_bare [] ys x y = y
with_bare (g ∷ gs) ys x y = (x.0, with_bare gs ys x.1 y)

bare_rest : (ms : List Mark) → AreBare (map (λ m. glossed (Fixed m) []) ms)
bare_rest [] = tt
bare_rest (m ∷ ms) = (refl, bare_rest ms)

pub bare_marks : (ms : List Mark) → AreBare (marks_by glossed [] ms)
bare_marks [] = tt
bare_marks (m ∷ ms) = (refl, bare_rest ms)

bare_most : (v : Option tree.Value) → AreBare (most_by glossed false v)
bare_most None = tt
bare_most (Some v) = (refl, tt)

bare_length : (l : tree.Length) → AreBare (length_by glossed false l)
bare_length (tree.Fixed v) = (refl, (refl, (refl, tt)))
bare_length (tree.Variable v) = (refl, with_bare (most_by glossed false v) _ (bare_most v) (refl, tt))

bare_named : (name : List ℕ) (shape : tree.Shape) → AreBare (named_by glossed false [] name shape)
bare_named name tree.Plain = (refl, tt)
bare_named name tree.Optional = (refl, (refl, tt))
bare_named name (tree.Array l) = (refl, bare_length l)

bare_given : (v : Option tree.Value) → AreBare (given_by glossed false v)
bare_given None = tt
bare_given (Some v) = (refl, (refl, tt))

bare_others : (es : List tree.Enumerator) → AreBare (other_enumerators_by glossed false es)
bare_others [] = tt
bare_others (e ∷ es) =
    (refl, with_bare (enumerator_by glossed false e) _ (refl, bare_given e.value) (bare_others es))

bare_enumerators : (es : List tree.Enumerator) → AreBare (enumerators_by glossed false es)
bare_enumerators [] = tt
bare_enumerators (e ∷ es) = with_bare (enumerator_by glossed false e) _ (refl, bare_given e.value)
    (bare_others es)

bare_cases : (vs : List tree.Value) → AreBare (cases_by glossed false vs)
bare_cases [] = tt
bare_cases (v ∷ vs) = (refl, (refl, (refl, bare_cases vs)))

mutual
  bare_type : (t : tree.DataType) → AreBare (type_by glossed [] None None t)
  bare_type (tree.Simple b) = bare_marks (basic_marks b)
  bare_type (tree.Name t) = (refl, tt)
  bare_type (tree.Tagged tag t) = (refl, (refl, tt))
  bare_type (tree.Inline body) = (refl, bare_body body)

  pub bare_body : (b : tree.Body) → AreBare (body_by glossed None b)
  bare_body (tree.Enum es) =
      (refl, with_bare (enumerators_by glossed false es) _ (bare_enumerators es) (refl, tt))
  bare_body (tree.Struct ds) =
      (refl, with_bare (declarations_by glossed None ds) _ (bare_declarations ds) (refl, tt))
  bare_body (tree.Union d arms other) = (
    refl,
    (
      refl,
      with_bare (declaration_by glossed None d) _ (bare_declaration d)
          (refl, (refl, with_bare (arms_by glossed None arms) _ (bare_arms arms) (bare_default other))),
    ),
  )

  bare_declaration : (d : tree.Declaration) → AreBare (declaration_by glossed None d)
  bare_declaration tree.Void = (refl, tt)
  bare_declaration (tree.Of type name shape) =
      with_bare (type_by glossed [] None None type) _ (bare_type type) (bare_named name shape)
  bare_declaration (tree.Opaque name l) = (refl, (refl, bare_length l))
  bare_declaration (tree.String name most) = (refl, (refl, bare_length (tree.Variable most)))

  bare_declarations : (ds : tree.Declarations) → AreBare (declarations_by glossed None ds)
  bare_declarations tree.none = tt
  bare_declarations (tree.more d ds) =
      with_bare (declaration_by glossed None d) _ (bare_declaration d) (refl, bare_declarations ds)

  bare_arms : (arms : tree.Arms) → AreBare (arms_by glossed None arms)
  bare_arms tree.no_arm = tt
  bare_arms (tree.arm cases d rest) =
      with_bare (cases_by glossed false cases) _ (bare_cases cases)
      (with_bare (declaration_by glossed None d) _ (bare_declaration d) (refl, bare_arms rest))

  bare_default : (other : tree.Default) → AreBare (default_by glossed None other)
  bare_default tree.no_default = (refl, tt)
  bare_default (tree.default d) =
      (refl, (refl, with_bare (declaration_by glossed None d) _ (bare_declaration d) (refl, (refl, tt))))

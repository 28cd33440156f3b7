-- A word that is a value by a name uses that name as a value.
use Rattle.std.proofs.Common.{◌≡◌, ℕ, zero, suc, ◌+◌, true, List, [], ◌∷◌, ◌++◌, length, map, Option, None}
use Rattle.std.proofs.Common.{Some, refl, sym, ap, subst, ◌∙◌, arith, ◌⊎◌, inl, inr}
use Rattle.std.specs.Prelude.{slice_get}
use Rattle.std.specs.List.{IsAmong}
use Rattle.std.proofs.lemmas.Option.{same_Some}
use Rattle.x_lex.specs.declared.mark.Mark.{Mark}
use Rattle.x_trees.specs.Tree as tree
use Rattle.x_trees.specs.Words.{Fixed}
use Rattle.x_trees.specs.Gloss.{Position, AsField, AsDiscriminant, AsArm, Site, InTypedef, Inside, Role}
use Rattle.x_trees.specs.Gloss.{Mentions, ConstantValue, EnumeratorValue, CaseValue, FixedSize, GreatestSize}
use Rattle.x_trees.specs.Gloss.{VoidResult, VoidArgument, Gloss, glossed, gloss, value_roles, leading_roles}
use Rattle.x_trees.specs.Gloss.{lifted_name, lifted_roles, basic_marks, use_by, marks_by, most_by, length_by}
use Rattle.x_trees.specs.Gloss.{named_by, given_by, enumerator_by, other_enumerators_by, enumerators_by}
use Rattle.x_trees.specs.Gloss.{cases_by, type_by, body_by, declaration_by, declarations_by, arms_by}
use Rattle.x_trees.specs.Gloss.{default_by, argument_by, passed_by, others_by, procedure_by, procedures_by}
use Rattle.x_trees.specs.Gloss.{version_by, versions_by, told_of}
use Rattle.x_trees.specs.Mentions.{Mention, mentioned, mentioned_at}
use Rattle.x_trees.specs.declared.trees.declaration.Tag.{Tag}
use Rattle.x_trees.specs.declared.names.mention.Use.{Use}
use Rattle.x_trees.specs.declared.names.mention.Use.TheVariants as uses
use Rattle.x_trees.proofs.GlossLemmas.{AreBare, bare_body}
use Rattle.x_trees.proofs.AmongLemmas.{among_cases, among_first, among_none, among_rear}
use Rattle.x_rules.specs.Rules.{HasRole, value_role}

-- ---- words

-- none of the roles is that of a value
abbrev AreQuiet : List Role → Type 0
AreQuiet [] = Unit {0}
AreQuiet (r ∷ rs) = (value_role r ≡ None) × AreQuiet rs

-- the roles are those of a value, or none is
data IsPaired (roles : List Role) : Type 0 where
  quiet : AreQuiet roles → IsPaired roles
  valued : (r : Role) (v : tree.Value) → roles ≡ value_roles r v → value_role r ≡ Some v → IsPaired roles

abbrev AllPaired : List Gloss → Type 0
AllPaired [] = Unit {0}
AllPaired (g ∷ gs) = IsPaired g.roles × AllPaired gs

both : (xs ys : List Gloss) → AllPaired xs → AllPaired ys → AllPaired (xs ++ ys)
both [] ys h k = k
both (g ∷ gs) ys h k = (h.0, both gs ys h.1 k)

none : IsPaired []
none = quiet tt

bare : (gs : List Gloss) → AreBare gs → AllPaired gs
bare [] h = tt
bare (g ∷ gs) h = (subst IsPaired (sym h.0) none, bare gs h.1)

most : (v : Option tree.Value) → AllPaired (most_by glossed true v)
most None = tt
most (Some v) = (valued (GreatestSize v) v refl refl, tt)

size : (l : tree.Length) → AllPaired (length_by glossed true l)
size (tree.Fixed v) = (none, (valued (FixedSize v) v refl refl, (none, tt)))
size (tree.Variable v) = (none, both (most_by glossed true v) _ (most v) (none, tt))

named : (roles : List Role) (name : List ℕ) (shape : tree.Shape) → AreQuiet roles
    → AllPaired (named_by glossed true roles name shape)
named roles name tree.Plain h = (quiet h, tt)
named roles name tree.Optional h = (none, (quiet h, tt))
named roles name (tree.Array l) h = (quiet h, size l)

given : (v : Option tree.Value) → AllPaired (given_by glossed true v)
given None = tt
given (Some v) = (none, (valued (EnumeratorValue v) v refl refl, tt))

enumerator : (e : tree.Enumerator) → AllPaired (enumerator_by glossed true e)
enumerator e = (quiet (refl, (refl, tt)), given e.value)

other_enumerators : (es : List tree.Enumerator) → AllPaired (other_enumerators_by glossed true es)
other_enumerators [] = tt
other_enumerators (e ∷ es) = (
  none,
  both (enumerator_by glossed true e) _ (enumerator e)
      (other_enumerators es),
)

enumerators : (es : List tree.Enumerator) → AllPaired (enumerators_by glossed true es)
enumerators [] = tt
enumerators (e ∷ es) = both (enumerator_by glossed true e) _ (enumerator e) (other_enumerators es)

cases : (vs : List tree.Value) → AllPaired (cases_by glossed true vs)
cases [] = tt
cases (v ∷ vs) = (none, (valued (CaseValue v) v refl refl, (none, cases vs)))

other_marks : (ms : List Mark) → AllPaired (map (λ m. glossed (Fixed m) []) ms)
other_marks [] = tt
other_marks (m ∷ ms) = (none, other_marks ms)

marks : (first : List Role) (ms : List Mark) → AreQuiet first → AllPaired (marks_by glossed first ms)
marks first [] h = tt
marks first (m ∷ ms) h = (quiet h, other_marks ms)

leading : (place : Site) (d : tree.Declaration) → AreQuiet (leading_roles (Some place) d)
leading InTypedef d = tt
leading (Inside AsField around) d = tt
leading (Inside AsDiscriminant around) d = (refl, tt)
leading (Inside AsArm around) d = tt

lifted_quiet : (lifted : List ℕ) (type : tree.DataType) → AreQuiet (lifted_roles (Some lifted) type)
lifted_quiet lifted (tree.Simple b) = tt
lifted_quiet lifted (tree.Name t) = tt
lifted_quiet lifted (tree.Tagged tag t) = tt
lifted_quiet lifted (tree.Inline body) = (refl, tt)

abbrev words_inside : Position → List ℕ → tree.Declaration → List Gloss
words_inside position around d = declaration_by glossed (Some (Inside position around)) d

mutual
  body_paired : (around : List ℕ) (body : tree.Body) → AllPaired (body_by glossed (Some around) body)
  body_paired around (tree.Enum es) = (
    none,
    both (enumerators_by glossed true es) _ (enumerators es)
        (none, tt),
  )
  body_paired around (tree.Struct ds) = (
    none,
    both (declarations_by glossed (Some around) ds) _
        (fields_paired around ds) (none, tt),
  )
  body_paired around (tree.Union d as' other) = (
    none,
    (
      none,
      both (words_inside AsDiscriminant around d) _ (declaration_paired AsDiscriminant around d) (
        none,
        (
          none,
          both (arms_by glossed (Some around) as') (default_by glossed (Some around) other)
              (arms_paired around as') (default_paired around other),
        ),
      ),
    ),
  )

  type_paired : (first : List Role) (u : Use) (lifted : List ℕ) (type : tree.DataType) → AreQuiet first
      → AllPaired (type_by glossed first (Some u) (Some lifted) type)
  type_paired first u lifted (tree.Simple b) h = marks first (basic_marks b) h
  type_paired first u lifted (tree.Name t) h = (quiet (refl, h), tt)
  type_paired first u lifted (tree.Tagged tag t) h = (quiet h, (quiet (refl, tt), tt))
  type_paired first u lifted (tree.Inline body) h = (quiet h, body_paired lifted body)

  declaration_paired : (position : Position) (around : List ℕ) (d : tree.Declaration)
      → AllPaired (words_inside position around d)
  declaration_paired position around tree.Void = (
    quiet
        (refl, leading (Inside position around) tree.Void),
    tt,
  )
  declaration_paired position around (tree.Of type name shape) =
      both (type_by glossed (leading_roles (Some (Inside position around)) (tree.Of type name shape))
      (Some (use_by shape)) (Some (lifted_name around name)) type) _
      (type_paired (leading_roles (Some (Inside position around)) (tree.Of type name shape)) (use_by shape)
      (lifted_name around name) type (leading (Inside position around) (tree.Of type name shape)))
      (named _ name shape (refl, lifted_quiet (lifted_name around name) type))
  declaration_paired position around (tree.Opaque name l) =
      (quiet (leading (Inside position around) (tree.Opaque name l)), (quiet (refl, tt), size l))
  declaration_paired position around (tree.String name v) = (
    quiet (leading (Inside position around) (tree.String name v)),
    (quiet (refl, tt), size (tree.Variable v)),
  )

  fields_paired : (around : List ℕ) (ds : tree.Declarations)
      → AllPaired (declarations_by glossed (Some around) ds)
  fields_paired around tree.none = tt
  fields_paired around (tree.more d ds) = both (words_inside AsField around d) _
      (declaration_paired AsField around d) (none, fields_paired around ds)

  arms_paired : (around : List ℕ) (as' : tree.Arms) → AllPaired (arms_by glossed (Some around) as')
  arms_paired around tree.no_arm = tt
  arms_paired around (tree.arm values d rest) =
      both (cases_by glossed true values) _ (cases values)
      (both (words_inside AsArm around d) _ (declaration_paired AsArm around d)
      (none, arms_paired around rest))

  default_paired : (around : List ℕ) (other : tree.Default)
      → AllPaired (default_by glossed (Some around) other)
  default_paired around tree.no_default = (none, tt)
  default_paired around (tree.default d) = (
    none,
    (none, both (words_inside AsArm around d) _ (declaration_paired AsArm around d) (none, (none, tt))),
  )

typedef_paired : (d : tree.Declaration) → AllPaired (declaration_by glossed (Some InTypedef) d)
typedef_paired tree.Void = (quiet (refl, tt), tt)
typedef_paired (tree.Of type name shape) =
    both (type_by glossed [] (Some (use_by shape)) (Some (lifted_name name name)) type) _
    (type_paired [] (use_by shape) (lifted_name name name) type tt)
    (named _ name shape (refl, lifted_quiet (lifted_name name name) type))
typedef_paired (tree.Opaque name l) = (none, (quiet (refl, tt), size l))
typedef_paired (tree.String name v) = (none, (quiet (refl, tt), size (tree.Variable v)))

argument : (a : tree.Argument) → AllPaired (argument_by glossed true a)
argument tree.Text = (none, tt)
argument (tree.Typed (tree.Simple b)) = marks [] (basic_marks b) tt
argument (tree.Typed (tree.Name t)) = (quiet (refl, tt), tt)
argument (tree.Typed (tree.Tagged tag t)) = (none, (quiet (refl, tt), tt))
argument (tree.Typed (tree.Inline body)) = (
  quiet (refl, tt),
  bare (body_by glossed None body)
      (bare_body body),
)

passed : (void : List Role) (a : Option tree.Argument) → AreQuiet void
    → AllPaired (passed_by glossed true void a)
passed void None h = (quiet h, tt)
passed void (Some a) h = argument a

others : (as' : List tree.Argument) → AllPaired (others_by glossed true as')
others [] = tt
others (a ∷ rest) = (none, both (argument_by glossed true a) _ (argument a) (others rest))

procedure : (p : tree.Procedure) → AllPaired (procedure_by glossed true p)
procedure p =
    both (passed_by glossed true (VoidResult ∷ []) p.result) _
    (passed (VoidResult ∷ []) p.result (refl, tt)) (
      quiet (refl, tt),
      (
        none,
        both (passed_by glossed true (VoidArgument (length p.others) ∷ []) p.first
            ++ others_by glossed true p.others) _
            (both (passed_by glossed true (VoidArgument (length p.others) ∷ []) p.first) _
            (passed (VoidArgument (length p.others) ∷ []) p.first (refl, tt)) (others p.others))
            (none, (none, (quiet (refl, tt), (none, tt)))),
      ),
    )

procedures : (ps : List tree.Procedure) → AllPaired (procedures_by glossed true ps)
procedures [] = tt
procedures (p ∷ ps) = both (procedure_by glossed true p) _ (procedure p) (procedures ps)

version : (v : tree.Version) → AllPaired (version_by glossed true v)
version v = (
  none,
  (
    quiet (refl, tt),
    (
      none,
      both (procedures_by glossed true v.procedures) _
          (procedures v.procedures) (none, (none, (quiet (refl, tt), (none, tt)))),
    ),
  ),
)

versions : (vs : List tree.Version) → AllPaired (versions_by glossed true vs)
versions [] = tt
versions (v ∷ vs) = both (version_by glossed true v) _ (version v) (versions vs)

all_paired : (d : tree.Definition) → AllPaired (gloss d)
all_paired (tree.Const name value) = (
  none,
  (
    quiet (refl, tt),
    (none, (valued (ConstantValue value) value refl refl, (none, tt))),
  ),
)
all_paired (tree.Typedef d) = (
  none,
  both (declaration_by glossed (Some InTypedef) d) _ (typedef_paired d)
      (none, tt),
)
all_paired (tree.NewType name body) = (
  none,
  (
    quiet (refl, tt),
    both (body_by glossed (Some name) body) _
        (body_paired name body) (none, tt),
  ),
)
all_paired (tree.Program name vs number) = (
  none,
  (
    quiet (refl, tt),
    (
      none,
      both (versions_by glossed true vs) _ (versions vs)
          (none, (none, (quiet (refl, tt), (none, tt)))),
    ),
  ),
)

-- ---- the mention of a value

paired_at : (gs : List Gloss) (word : ℕ) (g : Gloss) → AllPaired gs → slice_get gs word ≡ Some g
    → IsPaired g.roles
paired_at [] word g h e = absurd cc
paired_at (x ∷ gs) zero g h e = subst (λ y. IsPaired y.roles) (same_Some x g e) h.0
paired_at (x ∷ gs) (suc word) g h e = paired_at gs word g h.1 e

quiet_among : (roles : List Role) (r : Role) → AreQuiet roles → IsAmong roles r → value_role r ≡ None
quiet_among [] r h among = absurd (among_none r among)
quiet_among (x ∷ xs) r h among = by (among_cases x r xs among) (λ k. quiet_among xs r h.1 k)
  where
    by : (r ≡ x) ⊎ IsAmong xs r → (IsAmong xs r → value_role r ≡ None) → value_role r ≡ None
    by (inl e) more = ap value_role e ∙ h.0
    by (inr k) more = more k

-- the word is a value by the name, and nothing beside
record IsNamedValue (g : Gloss) (n : List ℕ) : Type 0 where
  rest : List Role
  roles : g.roles ≡ Mentions n uses.Value None ∷ rest

named_value : (g : Gloss) (role : Role) (n : List ℕ) → IsPaired g.roles → IsAmong g.roles role
    → value_role role ≡ Some (tree.Named n) → IsNamedValue g n
named_value g role n (quiet h) among e = let no_value = quiet_among g.roles role h among in absurd cc
named_value g role n (valued r (tree.Number t) is v) among e = by
    (among_cases r role [] (subst (λ rs. IsAmong rs role) is among))
  where
    by : (role ≡ r) ⊎ IsAmong [] role → IsNamedValue g n
    by (inl same) = let number : value_role role ≡ Some (tree.Number t) = ap value_role same ∙ v in absurd cc
    by (inr k) = absurd (among_none role k)
named_value g role n (valued r (tree.Named t) is v) among e = by
    (among_cases (Mentions t uses.Value None) role (r ∷ []) (subst (λ rs. IsAmong rs role) is among))
  where
    named_by_it : role ≡ r → IsNamedValue g n
    named_by_it same =
        let value : tree.Named t ≡ tree.Named n = same_Some (tree.Named t) (tree.Named n)
        (sym (ap value_role same ∙ v) ∙ e) in
        let name : t ≡ n = cc in
        record { rest = r ∷ []; roles = is ∙ ap (λ m. Mentions m uses.Value None ∷ r ∷ []) name }

    last : (role ≡ r) ⊎ IsAmong [] role → IsNamedValue g n
    last (inl same) = named_by_it same
    last (inr k) = absurd (among_none role k)

    by : (role ≡ Mentions t uses.Value None) ⊎ IsAmong (r ∷ []) role → IsNamedValue g n
    by (inl same) = let no_value : value_role role ≡ None = ap value_role same in absurd cc
    by (inr k) = last (among_cases r role [] k)

abbrev mention : List ℕ → ℕ → Use → Option Tag → Mention
mention n word usage tag = record { name = n; word = word; usage = usage; tag = tag }

pub word_mentions : (at index : ℕ) (gs : List Gloss) (g : Gloss) (n : List ℕ) (usage : Use)
    (tag : Option Tag) (rest : List Role) → slice_get gs index ≡ Some g
    → g.roles ≡ Mentions n usage tag ∷ rest
    → IsAmong (told_of mentioned_at at gs) (mention n (at + index) usage tag)
word_mentions at index [] g n usage tag rest h e = absurd cc
word_mentions at zero (x ∷ gs) g n usage tag rest h e =
    let roles : x.roles ≡ Mentions n usage tag ∷ rest = ap (λ y. y.roles) (same_Some x g h) ∙ e in
    let zero_more : at ≡ at + 0 = omega arith in
    subst (λ w. IsAmong (told_of mentioned_at at (x ∷ gs)) (mention n w usage tag)) zero_more
    (subst (λ rs. IsAmong (mentioned_at at rs ++ told_of mentioned_at (at + 1) gs) (mention n at usage tag))
    (sym roles)
    (among_first (mention n at usage tag) (mentioned_at at rest ++ told_of mentioned_at (at + 1) gs)))
word_mentions at (suc index) (x ∷ gs) g n usage tag rest h e =
    let more = word_mentions (at + 1) index gs g n usage tag rest h e in
    let word : at + 1 + index ≡ at + suc index = omega arith in
    among_rear (mentioned_at at x.roles) (told_of mentioned_at (at + 1) gs)
    (mention n (at + suc index) usage tag)
    (subst (λ w. IsAmong (told_of mentioned_at (at + 1) gs) (mention n w usage tag)) word more)

-- a word that is a value by a name mentions it as a value
pub value_mentioned : (d : tree.Definition) (word : ℕ) (role : Role) (n : List ℕ) → HasRole d word role
    → value_role role ≡ Some (tree.Named n)
    → IsAmong (mentioned d) (record { name = n; word = word; usage = uses.Value; tag = None })
value_mentioned d word role n h e =
    let paired = paired_at (gloss d) word h.gloss_at (all_paired d) h.word_is in
    let value = named_value h.gloss_at role n paired h.has e in
    let at : 0 + word ≡ word = omega arith in
    subst (λ w. IsAmong (mentioned d) (mention n w uses.Value None)) at
    (word_mentions 0 word (gloss d) h.gloss_at n uses.Value None value.rest h.word_is value.roles)

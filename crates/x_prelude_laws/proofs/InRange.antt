-- The faults of a definition stand at its words.
use Rattle.std.proofs.Common.{◌≡◌, ◌⊎◌, inl, inr, ℕ, ◌+◌, ◌<◌, ◌≤◌, Bool, true, false, List, [], ◌∷◌, ◌++◌}
use Rattle.std.proofs.Common.{length, Option, None, arith, sym, subst}
use Rattle.std.specs.Prelude.{ℤ}
use Rattle.std.specs.List.{IsAmong}
use Rattle.std.proofs.lemmas.List.{length-append}
use Rattle.x_lex.specs.declared.mark.Mark.TheVariants as marks
use Rattle.x_trees.specs.Gloss as gloss
use Rattle.x_trees.specs.Gloss.{Gloss, Role, told_of}
use Rattle.x_trees.specs.Mentions.{mentioned}
use Rattle.x_trees.specs.Names.{Declared, declared, declared_at}
use Rattle.x_trees.specs.Spell.{spell, spell_arms, spell_body, spell_cases, spell_declaration}
use Rattle.x_trees.specs.Spell.{spell_declarations, spell_default, spell_enumerator, spell_enumerators}
use Rattle.x_trees.specs.Spell.{spell_named, spell_other_enumerators, spell_others, spell_passed}
use Rattle.x_trees.specs.Spell.{spell_procedure, spell_procedures, spell_type, spell_version, spell_versions}
use Rattle.x_trees.specs.Tree as tree
use Rattle.x_trees.specs.Tree.{Definition}
use Rattle.x_trees.specs.Words.{Fixed, Name, Number}
use Rattle.x_trees.proofs.AmongLemmas.{among_cases, among_first, among_none, among_rear}
use Rattle.x_trees.proofs.GlossLemmas.{long_as, words_gloss}
use Rattle.x_outline.specs.Bodies.{BodyAt, EnumeratorAt, Members, NameAt, NumberAt, ValueAt, arm_cases_from}
use Rattle.x_outline.specs.Bodies.{arm_names_from, arms_at, behind_version, bodies, bodies_inside}
use Rattle.x_outline.specs.Bodies.{bodies_of_arms, bodies_of_declaration, bodies_of_default, bodies_of_fields}
use Rattle.x_outline.specs.Bodies.{bodies_of_type, cases_from, cases_of, default_at, default_name}
use Rattle.x_outline.specs.Bodies.{enumerators, enumerators_from, enumerators_in, enumerators_of, field_at}
use Rattle.x_outline.specs.Bodies.{field_groups, fields_from, fields_of, member_names, members, name_groups}
use Rattle.x_outline.specs.Bodies.{procedures_from, procedure_lists, star, versions_from}
use Rattle.x_rules.specs.Constants.{Known, known_with, knowns, enumerator_number}
use Rattle.x_rules.specs.Rules.{HasMentionFault, HasRole, IsFault, IsOutOfRange}
use Rattle.x_rules.specs.Views.{View}
use Rattle.x_rules.specs.declared.fault.RuleCode.{RuleCode}
use Rattle.x_rules.specs.declared.fault.RuleCode.TheVariants as rules
use Rattle.x_prelude_laws.proofs.Exact.{named_at}
use Rattle.x_prelude_laws.proofs.Firsts.{below}

-- ---- numbers under another

abbrev Under : {X : Type 0} → (X → ℕ) → ℕ → List X → Type 0
Under f n [] = Unit {0}
Under f n (x ∷ xs) = (f x < n) × Under f n xs

under_both : {X : Type 0} (f : X → ℕ) (n : ℕ) (xs ys : List X) → Under f n xs → Under f n ys
    → Under f n (xs ++ ys)
under_both f n [] ys h k = k
under_both f n (x ∷ xs) ys h k = (h.0, under_both f n xs ys h.1 k)

under_more : {X : Type 0} (f : X → ℕ) (n m : ℕ) (xs : List X) → n ≤ m → Under f n xs → Under f m xs
under_more f n m [] le h = tt
under_more f n m (x ∷ xs) le h = let lt = h.0 in (omega (arith, le, lt), under_more f n m xs le h.1)

under_among : {X : Type 0} (f : X → ℕ) (n : ℕ) (xs : List X) (x : X) → Under f n xs → IsAmong xs x → f x < n
under_among f n [] x h k = absurd (among_none x k)
under_among {X} f n (y ∷ xs) x h k = by (among_cases y x xs k) (λ j. under_among f n xs x h.1 j)
  where
    by : (x ≡ y) ⊎ IsAmong xs x → (IsAmong xs x → f x < n) → f x < n
    by (inl same) next = subst (λ z. f z < n) (sym same) h.0
    by (inr j) next = next j

-- ---- how long the parts are

long_of : (type : tree.DataType) (name : List ℕ) (shape : tree.Shape)
    → length (spell_declaration (tree.Of type name shape)) ≡ length (spell_type type)
    + length (spell_named name shape)
long_of type name shape = length-append (spell_type type) (spell_named name shape)

star_under : (name : List ℕ) (shape : tree.Shape) → star shape < length (spell_named name shape)
star_under name tree.Plain = omega arith
star_under name tree.Optional = omega arith
star_under name (tree.Array l) = omega arith

long_enum : (es : List tree.Enumerator)
    → length (spell_body (tree.Enum es)) ≡ length (spell_enumerators es) + 2
long_enum es =
    let e = length-append (spell_enumerators es) (Fixed marks.CloseBrace ∷ []) in omega (arith, e)

long_struct : (ds : tree.Declarations)
    → length (spell_body (tree.Struct ds)) ≡ length (spell_declarations ds) + 2
long_struct ds =
    let e = length-append (spell_declarations ds) (Fixed marks.CloseBrace ∷ []) in omega (arith, e)

long_union : (d : tree.Declaration) (arms : tree.Arms) (other : tree.Default)
    → length (spell_body (tree.Union d arms other))
    ≡ 2 + length (spell_declaration d) + 2 + length (spell_arms arms) + length (spell_default other)
long_union d arms other =
    let all = length-append (spell_declaration d) (Fixed marks.CloseParenthesis ∷ Fixed marks.OpenBrace
    ∷ (spell_arms arms ++ spell_default other)) in
    let rear = length-append (spell_arms arms) (spell_default other) in
    omega (arith, all, rear)

long_more : (d : tree.Declaration) (ds : tree.Declarations)
    → length (spell_declarations (tree.more d ds))
    ≡ length (spell_declaration d) + 1 + length (spell_declarations ds)
long_more d ds =
    let e = length-append (spell_declaration d) (Fixed marks.Semicolon ∷ spell_declarations ds) in
    omega (arith, e)

long_arm : (cases : List tree.Value) (d : tree.Declaration) (rest : tree.Arms)
    → length (spell_arms (tree.arm cases d rest))
    ≡ length (spell_cases cases) + length (spell_declaration d) + 1 + length (spell_arms rest)
long_arm cases d rest =
    let all = length-append (spell_cases cases)
    (spell_declaration d ++ Fixed marks.Semicolon ∷ spell_arms rest) in
    let rear = length-append (spell_declaration d) (Fixed marks.Semicolon ∷ spell_arms rest) in
    omega (arith, all, rear)

long_default : (d : tree.Declaration)
    → length (spell_default (tree.default d)) ≡ 2 + length (spell_declaration d) + 2
long_default d =
    let e = length-append (spell_declaration d) (Fixed marks.Semicolon ∷ Fixed marks.CloseBrace ∷ []) in
    omega (arith, e)

long_other : (e : tree.Enumerator) (es : List tree.Enumerator)
    → length (spell_other_enumerators (e ∷ es))
    ≡ 1 + length (spell_enumerator e) + length (spell_other_enumerators es)
long_other e es =
    let all = length-append (spell_enumerator e) (spell_other_enumerators es) in omega (arith, all)

-- ---- bodies

-- the place behind a body
abbrev stop_of : BodyAt → ℕ
stop_of b = b.at + length (spell_body b.body)

mutual
  inside_under : (at : ℕ) (body : tree.Body)
      → Under stop_of (at + length (spell_body body)) (bodies_inside at body)
  inside_under at (tree.Enum es) = tt
  inside_under at (tree.Struct ds) =
      under_more stop_of (at + 1 + length (spell_declarations ds)) (at + length (spell_body (tree.Struct ds)))
      (bodies_of_fields (at + 1) ds) (omega (arith, long_struct ds)) (fields_bodies (at + 1) ds)
  inside_under at (tree.Union d arms other) =
      let n = at + length (spell_body (tree.Union d arms other)) in
      under_both stop_of n (bodies_of_declaration (at + 2) d)
      (bodies_of_arms (arms_at at d) arms ++ bodies_of_default (default_at at d arms) other)
      (under_more stop_of (at + 2 + length (spell_declaration d)) n (bodies_of_declaration (at + 2) d)
      (omega (arith, long_union d arms other)) (declaration_bodies (at + 2) d))
      (under_both stop_of n (bodies_of_arms (arms_at at d) arms)
      (bodies_of_default (default_at at d arms) other)
      (under_more stop_of (arms_at at d + length (spell_arms arms)) n (bodies_of_arms (arms_at at d) arms)
      (omega (arith, long_union d arms other)) (arms_bodies (arms_at at d) arms))
      (under_more stop_of (default_at at d arms + length (spell_default other)) n
      (bodies_of_default (default_at at d arms) other)
      (omega (arith, long_union d arms other)) (default_bodies (default_at at d arms) other)))

  type_bodies : (before at : ℕ) (type : tree.DataType)
      → Under stop_of (at + length (spell_type type) + 1) (bodies_of_type before at type)
  type_bodies before at (tree.Simple b) = tt
  type_bodies before at (tree.Name t) = tt
  type_bodies before at (tree.Tagged tag t) = tt
  type_bodies before at (tree.Inline body) =
      let n = at + length (spell_type (tree.Inline body)) + 1 in
      under_both stop_of n (bodies_inside (at + 1) body)
      (record { named = at + 1 + length (spell_body body) + before; at = at + 1; body = body } ∷ [])
      (under_more stop_of (at + 1 + length (spell_body body)) n (bodies_inside (at + 1) body)
      (omega arith) (inside_under (at + 1) body))
      (omega arith, tt)

  declaration_bodies : (at : ℕ) (d : tree.Declaration)
      → Under stop_of (at + length (spell_declaration d)) (bodies_of_declaration at d)
  declaration_bodies at tree.Void = tt
  declaration_bodies at (tree.Of type name shape) =
      let star_lt = star_under name shape in
      under_more stop_of (at + length (spell_type type) + 1)
      (at + length (spell_declaration (tree.Of type name shape))) (bodies_of_type (star shape) at type)
      (omega (arith, long_of type name shape, star_lt)) (type_bodies (star shape) at type)
  declaration_bodies at (tree.Opaque name size) = tt
  declaration_bodies at (tree.String name most) = tt

  fields_bodies : (at : ℕ) (ds : tree.Declarations)
      → Under stop_of (at + length (spell_declarations ds)) (bodies_of_fields at ds)
  fields_bodies at tree.none = tt
  fields_bodies at (tree.more d ds) =
      let n = at + length (spell_declarations (tree.more d ds)) in
      let next = at + length (spell_declaration d) + 1 in
      under_both stop_of n (bodies_of_declaration at d) (bodies_of_fields next ds)
      (under_more stop_of (at + length (spell_declaration d)) n (bodies_of_declaration at d)
      (omega (arith, long_more d ds)) (declaration_bodies at d))
      (under_more stop_of (next + length (spell_declarations ds)) n (bodies_of_fields next ds)
      (omega (arith, long_more d ds)) (fields_bodies next ds))

  arms_bodies : (at : ℕ) (arms : tree.Arms)
      → Under stop_of (at + length (spell_arms arms)) (bodies_of_arms at arms)
  arms_bodies at tree.no_arm = tt
  arms_bodies at (tree.arm cases d rest) =
      let n = at + length (spell_arms (tree.arm cases d rest)) in
      let here = at + length (spell_cases cases) in
      let next = at + length (spell_cases cases) + length (spell_declaration d) + 1 in
      under_both stop_of n (bodies_of_declaration here d) (bodies_of_arms next rest)
      (under_more stop_of (here + length (spell_declaration d)) n (bodies_of_declaration here d)
      (omega (arith, long_arm cases d rest)) (declaration_bodies here d))
      (under_more stop_of (next + length (spell_arms rest)) n (bodies_of_arms next rest)
      (omega (arith, long_arm cases d rest)) (arms_bodies next rest))

  default_bodies : (at : ℕ) (other : tree.Default)
      → Under stop_of (at + length (spell_default other)) (bodies_of_default at other)
  default_bodies at tree.no_default = tt
  default_bodies at (tree.default d) =
      under_more stop_of (at + 2 + length (spell_declaration d))
      (at + length (spell_default (tree.default d)))
      (bodies_of_declaration (at + 2) d) (omega (arith, long_default d)) (declaration_bodies (at + 2) d)

bodies_under : (d : Definition) → Under stop_of (length (spell d)) (bodies d)
bodies_under (tree.Const name value) = tt
bodies_under (tree.Typedef d) =
    let long = length-append (spell_declaration d) (Fixed marks.Semicolon ∷ []) in
    under_more stop_of (1 + length (spell_declaration d)) (length (spell (tree.Typedef d)))
    (bodies_of_declaration 1 d) (omega (arith, long)) (declaration_bodies 1 d)
bodies_under (tree.NewType name body) =
    let long = length-append (spell_body body) (Fixed marks.Semicolon ∷ []) in (
      omega (arith, long),
      under_more stop_of (2 + length (spell_body body)) (length (spell (tree.NewType name body)))
          (bodies_inside 2 body) (omega (arith, long)) (inside_under 2 body),
    )
bodies_under (tree.Program name versions number) = tt

-- ---- enumerators

abbrev enumerator_word : EnumeratorAt → ℕ
enumerator_word e = e.word

others_under : (at : ℕ) (es : List tree.Enumerator)
    → Under enumerator_word (at + length (spell_other_enumerators es)) (enumerators_from false (at + 1) es)
others_under at [] = tt
others_under at (e ∷ es) =
    let next = at + 1 + length (spell_enumerator e) in (
      omega (arith, long_other e es),
      under_more enumerator_word (next + length (spell_other_enumerators es))
          (at + length (spell_other_enumerators (e ∷ es))) (enumerators_from false (next + 1) es)
          (omega (arith, long_other e es)) (others_under next es),
    )

enumerators_under : (is_first : Bool) (at : ℕ) (es : List tree.Enumerator)
    → Under enumerator_word (at + length (spell_enumerators es)) (enumerators_from is_first at es)
enumerators_under is_first at [] = tt
enumerators_under is_first at (e ∷ es) =
    let next = at + length (spell_enumerator e) in
    let long = length-append (spell_enumerator e) (spell_other_enumerators es) in (
      omega (arith, long),
      under_more enumerator_word (next + length (spell_other_enumerators es))
          (at + length (spell_enumerators (e ∷ es))) (enumerators_from false (next + 1) es)
          (omega (arith, long)) (others_under next es),
    )

body_enumerators : (named at n : ℕ) (body : tree.Body) → at + length (spell_body body) < n
    → Under enumerator_word n (enumerators_of (record { named = named; at = at; body = body }))
body_enumerators named at n (tree.Enum es) lt =
    under_more enumerator_word (at + 1 + length (spell_enumerators es)) n (enumerators_from true (at + 1) es)
    (omega (arith, lt, long_enum es)) (enumerators_under true (at + 1) es)
body_enumerators named at n (tree.Struct ds) lt = tt
body_enumerators named at n (tree.Union d arms other) lt = tt

all_enumerators : (n : ℕ) (bs : List BodyAt) → Under stop_of n bs
    → Under enumerator_word n (enumerators_in bs)
all_enumerators n [] h = tt
all_enumerators n (b ∷ bs) h =
    under_both enumerator_word n (enumerators_of b) (enumerators_in bs)
    (body_enumerators b.named b.at n b.body h.0) (all_enumerators n bs h.1)

-- with their numbers they are the same
abbrev known_word : Known → ℕ
known_word k = k.enumerator.word

known_under : (see : List ℕ → View) (n : ℕ) (known : List Known) (before : Option ℤ)
    (es : List EnumeratorAt) → Under known_word n known → Under enumerator_word n es
    → Under known_word n (known_with see known before es)
known_under see n known before [] h k = h
known_under see n known before (e ∷ es) h k =
    known_under see n (known ++ record { enumerator = e; number = enumerator_number see known before e } ∷ [])
    (enumerator_number see known before e) es
    (under_both known_word n known
    (record { enumerator = e; number = enumerator_number see known before e } ∷ [])
    h (k.0, tt)) k.1

-- ---- fields and cases

abbrev name_at : NameAt → ℕ
name_at x = x.word

abbrev value_at : ValueAt → ℕ
value_at x = x.word

field_under : (at : ℕ) (d : tree.Declaration)
    → Under name_at (at + length (spell_declaration d)) (field_at at d)
field_under at tree.Void = tt
field_under at (tree.Of type name shape) =
    let lt = star_under name shape in (omega (arith, long_of type name shape, lt), tt)
field_under at (tree.Opaque name size) = (omega arith, tt)
field_under at (tree.String name most) = (omega arith, tt)

fields_under : (at : ℕ) (ds : tree.Declarations)
    → Under name_at (at + length (spell_declarations ds)) (fields_from at ds)
fields_under at tree.none = tt
fields_under at (tree.more d ds) =
    let n = at + length (spell_declarations (tree.more d ds)) in
    let next = at + length (spell_declaration d) + 1 in
    under_both name_at n (field_at at d) (fields_from next ds)
    (under_more name_at (at + length (spell_declaration d)) n (field_at at d)
    (omega (arith, long_more d ds)) (field_under at d))
    (under_more name_at (next + length (spell_declarations ds)) n (fields_from next ds)
    (omega (arith, long_more d ds)) (fields_under next ds))

arm_names_under : (at : ℕ) (arms : tree.Arms)
    → Under name_at (at + length (spell_arms arms)) (arm_names_from at arms)
arm_names_under at tree.no_arm = tt
arm_names_under at (tree.arm cases d rest) =
    let n = at + length (spell_arms (tree.arm cases d rest)) in
    let here = at + length (spell_cases cases) in
    let next = at + length (spell_cases cases) + length (spell_declaration d) + 1 in
    under_both name_at n (field_at here d) (arm_names_from next rest)
    (under_more name_at (here + length (spell_declaration d)) n (field_at here d)
    (omega (arith, long_arm cases d rest)) (field_under here d))
    (under_more name_at (next + length (spell_arms rest)) n (arm_names_from next rest)
    (omega (arith, long_arm cases d rest)) (arm_names_under next rest))

default_under : (at : ℕ) (other : tree.Default)
    → Under name_at (at + length (spell_default other)) (default_name at other)
default_under at tree.no_default = tt
default_under at (tree.default d) =
    under_more name_at (at + 2 + length (spell_declaration d)) (at + length (spell_default (tree.default d)))
    (field_at (at + 2) d) (omega (arith, long_default d)) (field_under (at + 2) d)

body_fields : (named at n : ℕ) (body : tree.Body) → at + length (spell_body body) < n
    → Under name_at n (fields_of (record { named = named; at = at; body = body }))
body_fields named at n (tree.Enum es) lt = tt
body_fields named at n (tree.Struct ds) lt =
    under_more name_at (at + 1 + length (spell_declarations ds)) n (fields_from (at + 1) ds)
    (omega (arith, lt, long_struct ds)) (fields_under (at + 1) ds)
body_fields named at n (tree.Union d arms other) lt =
    under_both name_at n (field_at (at + 2) d)
    (arm_names_from (arms_at at d) arms ++ default_name (default_at at d arms) other)
    (under_more name_at (at + 2 + length (spell_declaration d)) n (field_at (at + 2) d)
    (omega (arith, lt, long_union d arms other)) (field_under (at + 2) d))
    (under_both name_at n (arm_names_from (arms_at at d) arms) (default_name (default_at at d arms) other)
    (under_more name_at (arms_at at d + length (spell_arms arms)) n (arm_names_from (arms_at at d) arms)
    (omega (arith, lt, long_union d arms other)) (arm_names_under (arms_at at d) arms))
    (under_more name_at (default_at at d arms + length (spell_default other)) n
    (default_name (default_at at d arms) other)
    (omega (arith, lt, long_union d arms other)) (default_under (default_at at d arms) other)))

cases_under : (at : ℕ) (vs : List tree.Value)
    → Under value_at (at + length (spell_cases vs)) (cases_from at vs)
cases_under at [] = tt
cases_under at (v ∷ vs) = (
  omega arith,
  under_more value_at (at + 3 + length (spell_cases vs)) (at + length (spell_cases (v ∷ vs)))
      (cases_from (at + 3) vs) (omega arith) (cases_under (at + 3) vs),
)

arm_cases_under : (at : ℕ) (arms : tree.Arms)
    → Under value_at (at + length (spell_arms arms)) (arm_cases_from at arms)
arm_cases_under at tree.no_arm = tt
arm_cases_under at (tree.arm cases d rest) =
    let n = at + length (spell_arms (tree.arm cases d rest)) in
    let next = at + length (spell_cases cases) + length (spell_declaration d) + 1 in
    under_both value_at n (cases_from at cases) (arm_cases_from next rest)
    (under_more value_at (at + length (spell_cases cases)) n (cases_from at cases)
    (omega (arith, long_arm cases d rest)) (cases_under at cases))
    (under_more value_at (next + length (spell_arms rest)) n (arm_cases_from next rest)
    (omega (arith, long_arm cases d rest)) (arm_cases_under next rest))

body_cases : (named at n : ℕ) (body : tree.Body) → at + length (spell_body body) < n
    → Under value_at n (cases_of (record { named = named; at = at; body = body }))
body_cases named at n (tree.Enum es) lt = tt
body_cases named at n (tree.Struct ds) lt = tt
body_cases named at n (tree.Union d arms other) lt =
    under_more value_at (arms_at at d + length (spell_arms arms)) n (arm_cases_from (arms_at at d) arms)
    (omega (arith, lt, long_union d arms other)) (arm_cases_under (arms_at at d) arms)

abbrev AllUnder : ℕ → List (List NameAt) → Type 0
AllUnder n [] = Unit {0}
AllUnder n (g ∷ gs) = Under name_at n g × AllUnder n gs

all_fields : (n : ℕ) (bs : List BodyAt) → Under stop_of n bs → AllUnder n (field_groups bs)
all_fields n [] h = tt
all_fields n (b ∷ bs) h = (body_fields b.named b.at n b.body h.0, all_fields n bs h.1)

all_both : (n : ℕ) (gs hs : List (List NameAt)) → AllUnder n gs → AllUnder n hs → AllUnder n (gs ++ hs)
all_both n [] hs h k = k
all_both n (g ∷ gs) hs h k = (h.0, all_both n gs hs h.1 k)

all_among : (n : ℕ) (gs : List (List NameAt)) (g : List NameAt) → AllUnder n gs → IsAmong gs g
    → Under name_at n g
all_among n [] g h k = absurd (among_none g k)
all_among n (x ∷ gs) g h k = by (among_cases x g gs k) (λ j. all_among n gs g h.1 j)
  where
    by : (g ≡ x) ⊎ IsAmong gs g → (IsAmong gs g → Under name_at n g) → Under name_at n g
    by (inl same) next = subst (Under name_at n) (sym same) h.0
    by (inr j) next = next j

-- ---- versions and procedures

abbrev number_word : NumberAt → ℕ
number_word x = x.word

abbrev MembersUnder : ℕ → Members → Type 0
MembersUnder n ms = Under name_at n ms.names × Under number_word n ms.numbers

members_more : (n m : ℕ) (ms : Members) → n ≤ m → MembersUnder n ms → MembersUnder m ms
members_more n m ms le h =
    (under_more name_at n m ms.names le h.0, under_more number_word n m ms.numbers le h.1)

long_procedure : (p : tree.Procedure) → length (spell_procedure p)
    ≡ length (spell_passed p.result) + 2
    + (length (spell_passed p.first) + length (spell_others p.others)) + 4
long_procedure p =
    let rear = Fixed marks.CloseParenthesis ∷ Fixed marks.Equals ∷ Number p.number
    ∷ Fixed marks.Semicolon ∷ [] in
    let front = length-append (spell_passed p.first) (spell_others p.others) in
    let arguments = length-append (spell_passed p.first ++ spell_others p.others) rear in
    let all = length-append (spell_passed p.result) (Name p.name ∷ Fixed marks.OpenParenthesis
    ∷ ((spell_passed p.first ++ spell_others p.others) ++ rear)) in
    omega (arith, front, arguments, all)

procedures_under : (at : ℕ) (ps : List tree.Procedure)
    → MembersUnder (at + length (spell_procedures ps)) (procedures_from at ps)
procedures_under at [] = (tt, tt)
procedures_under at (p ∷ ps) =
    let all = length-append (spell_procedure p) (spell_procedures ps) in
    let next = at + length (spell_procedure p) in
    let rest = members_more (next + length (spell_procedures ps)) (at + length (spell_procedures (p ∷ ps)))
    (procedures_from next ps) (omega (arith, all)) (procedures_under next ps) in
    ((omega (arith, all, long_procedure p), rest.0), (omega (arith, all, long_procedure p), rest.1))

long_version : (v : tree.Version)
    → length (spell_version v) ≡ 3 + length (spell_procedures v.procedures) + 4
long_version v =
    let e = length-append (spell_procedures v.procedures) (Fixed marks.CloseBrace ∷ Fixed marks.Equals
    ∷ Number v.number ∷ Fixed marks.Semicolon ∷ []) in omega (arith, e)

versions_under : (at : ℕ) (vs : List tree.Version)
    → MembersUnder (at + length (spell_versions vs)) (versions_from at vs)
versions_under at [] = (tt, tt)
versions_under at (v ∷ vs) =
    let all = length-append (spell_version v) (spell_versions vs) in
    let next = behind_version at v in
    let rest = members_more (next + length (spell_versions vs)) (at + length (spell_versions (v ∷ vs)))
    (versions_from next vs) (omega (arith, all, long_version v)) (versions_under next vs) in
    ((omega (arith, all, long_version v), rest.0), (omega (arith, all, long_version v), rest.1))

abbrev AllMembers : ℕ → List Members → Type 0
AllMembers n [] = Unit {0}
AllMembers n (m ∷ ms) = MembersUnder n m × AllMembers n ms

members_all : (n m : ℕ) (ms : List Members) → n ≤ m → AllMembers n ms → AllMembers m ms
members_all n m [] le h = tt
members_all n m (x ∷ ms) le h = (members_more n m x le h.0, members_all n m ms le h.1)

all_procedures : (at : ℕ) (vs : List tree.Version)
    → AllMembers (at + length (spell_versions vs)) (procedure_lists at vs)
all_procedures at [] = tt
all_procedures at (v ∷ vs) =
    let all = length-append (spell_version v) (spell_versions vs) in
    let next = behind_version at v in
    let n = at + length (spell_versions (v ∷ vs)) in (
      members_more (at + 3 + length (spell_procedures v.procedures)) n
          (procedures_from (at + 3) v.procedures) (omega (arith, all, long_version v))
          (procedures_under (at + 3) v.procedures),
      members_all (next + length (spell_versions vs)) n (procedure_lists next vs)
          (omega (arith, all, long_version v)) (all_procedures next vs),
    )

members_push : (n : ℕ) (ms : List Members) (m : Members) → AllMembers n ms → MembersUnder n m
    → AllMembers n (ms ++ m ∷ [])
members_push n [] m h k = (k, tt)
members_push n (x ∷ ms) m h k = (h.0, members_push n ms m h.1 k)

members_under : (d : Definition) → AllMembers (length (spell d)) (members d)
members_under (tree.Program name versions number) =
    let long = length-append (spell_versions versions) (Fixed marks.CloseBrace ∷ Fixed marks.Equals
    ∷ Number number ∷ Fixed marks.Semicolon ∷ []) in
    let n = length (spell (tree.Program name versions number)) in
    members_push n (procedure_lists 3 versions) (versions_from 3 versions)
    (members_all (3 + length (spell_versions versions)) n (procedure_lists 3 versions) (omega (arith, long))
    (all_procedures 3 versions))
    (members_more (3 + length (spell_versions versions)) n (versions_from 3 versions) (omega (arith, long))
    (versions_under 3 versions))
members_under (tree.Const name value) = tt
members_under (tree.Typedef d) = tt
members_under (tree.NewType name body) = tt

names_under : (n : ℕ) (ms : List Members) → AllMembers n ms → AllUnder n (member_names ms)
names_under n [] h = tt
names_under n (m ∷ ms) h = (h.0.0, names_under n ms h.1)

numbers_among : (n : ℕ) (ms : List Members) (m : Members) → AllMembers n ms → IsAmong ms m
    → Under number_word n m.numbers
numbers_among n [] m h k = absurd (among_none m k)
numbers_among n (x ∷ ms) m h k = by (among_cases x m ms k) (λ j. numbers_among n ms m h.1 j)
  where
    by : (m ≡ x) ⊎ IsAmong ms m → (IsAmong ms m → Under number_word n m.numbers)
        → Under number_word n m.numbers
    by (inl same) next = subst (λ (y : Members). Under number_word n y.numbers) (sym same) h.0.1
    by (inr j) next = next j

-- ---- words with roles

long_gloss : (d : Definition) → length (gloss.gloss d) ≡ length (spell d)
long_gloss d = long_as (gloss.gloss d) (words_gloss d)

role_under : (d : Definition) (word : ℕ) (role : Role) → HasRole d word role → word < length (spell d)
role_under d word role h =
    let lt = below (gloss.gloss d) word h.gloss_at h.word_is in
    let same = long_gloss d in omega (arith, lt, same)

mention_under : (d : Definition) (see : List ℕ → View) (word : ℕ) (code : RuleCode)
    → HasMentionFault (mentioned d) see (enumerators d) code word → word < length (spell d)
mention_under d see word code h =
    let lt = below (spell d) h.mention.word (Name h.mention.name) (named_at d h.mention h.among) in
    let same = h.word_is in omega (arith, lt, same)

abbrev declared_word : Declared → ℕ
declared_word x = x.word

roles_under : (n at : ℕ) (roles : List Role) → at < n → Under declared_word n (declared_at at roles)
roles_under n at [] lt = tt
roles_under n at (gloss.Declares name kind lifted ∷ roles) lt = (lt, roles_under n at roles lt)
roles_under n at (role ∷ roles) lt = roles_under n at roles lt

told_under : (n at : ℕ) (gs : List Gloss) → at + length gs ≤ n
    → Under declared_word n (told_of declared_at at gs)
told_under n at [] le = tt
told_under n at (g ∷ gs) le =
    under_both declared_word n (declared_at at g.roles) (told_of declared_at (at + 1) gs)
    (roles_under n at g.roles (omega (arith, le))) (told_under n (at + 1) gs (omega (arith, le)))

declared_under : (d : Definition) → Under declared_word (length (spell d)) (declared d)
declared_under d =
    let same = long_gloss d in told_under (length (spell d)) 0 (gloss.gloss d) (omega (arith, same))

-- ---- all faults

case_under : (d : Definition) (b : BodyAt) (v : ValueAt) → IsAmong (bodies d) b → IsAmong (cases_of b) v
    → v.word < length (spell d)
case_under d b v h k =
    under_among value_at (length (spell d)) (cases_of b) v
    (body_cases b.named b.at (length (spell d)) b.body
    (under_among stop_of (length (spell d)) (bodies d) b (bodies_under d) h)) k

at_word : (n word other : ℕ) → word ≡ other → other < n → word < n
at_word n word other same lt = omega (arith, same, lt)

parted : {X : Type 0} (all front : List X) (x : X) (rear : List X) → all ≡ front ++ x ∷ rear → IsAmong all x
parted all front x rear e =
    subst (λ l. IsAmong l x) (sym e) (among_rear front (x ∷ rear) x (among_first x rear))

out_of_range : (d : Definition) (see : List ℕ → View) (word : ℕ) → IsOutOfRange d see word
    → word < length (spell d)
out_of_range d see word (inl h) = role_under d word h.role h.has_role
out_of_range d see word (inr (inl h)) = role_under d word (gloss.EnumeratorValue h.given) h.is_value
out_of_range d see word (inr (inr (inl h))) = role_under d word h.role h.has_role
out_of_range d see word (inr (inr (inr h))) =
    at_word (length (spell d)) word h.here.enumerator.word h.word_is
    (under_among known_word (length (spell d)) (knowns see (enumerators d)) h.here
    (known_under see (length (spell d)) [] None (enumerators d) tt
    (all_enumerators (length (spell d)) (bodies d) (bodies_under d))) h.among)

pub fault_under : (d : Definition) (see : List ℕ → View) (word : ℕ) (code : RuleCode)
    → IsFault d see word code → word < length (spell d)
fault_under d see word rules.Duplicate h =
    at_word (length (spell d)) word h.here.word h.word_is
    (under_among declared_word (length (spell d)) (declared d) h.here (declared_under d)
    (parted (declared d) h.front h.here h.rear h.parts))
fault_under d see word rules.Unknown h = mention_under d see word rules.Unknown h
fault_under d see word rules.LateName h = mention_under d see word rules.LateName h
fault_under d see word rules.NotType h = mention_under d see word rules.NotType h
fault_under d see word rules.NotConst h = mention_under d see word rules.NotConst h
fault_under d see word rules.Range h = out_of_range d see word h
fault_under d see word rules.BadSize h = role_under d word h.role h.has_role
fault_under d see word rules.VoidPlace h = role_under d word h.role h.has_role
fault_under d see word rules.EmptyArray h = role_under d word (gloss.FixedSize h.size) h.has_role
fault_under d see word rules.BadDiscriminant h =
    role_under d word (gloss.Discriminant h.discriminant) h.has_role
fault_under d see word rules.BadCase h =
    at_word (length (spell d)) word h.case.word h.word_is (case_under d h.union h.case h.is_body h.is_case)
fault_under d see word rules.RepeatedCase h =
    at_word (length (spell d)) word h.here.word h.word_is (case_under d h.union h.here h.is_body
    (parted (cases_of h.union) h.front h.here h.rear h.parts))
fault_under d see word rules.RepeatedField h =
    at_word (length (spell d)) word h.here.word h.word_is
    (under_among name_at (length (spell d)) h.group h.here
    (all_among (length (spell d)) (name_groups d) h.group
    (all_both (length (spell d)) (field_groups (bodies d)) (member_names (members d))
    (all_fields (length (spell d)) (bodies d) (bodies_under d))
    (names_under (length (spell d)) (members d) (members_under d))) h.is_group)
    (parted h.group h.front h.here h.rear h.parts))
fault_under d see word rules.RepeatedNumber h =
    at_word (length (spell d)) word h.here.word h.word_is
    (under_among number_word (length (spell d)) h.group.numbers h.here
    (numbers_among (length (spell d)) (members d) h.group (members_under d) h.is_group)
    (parted h.group.numbers h.front h.here h.rear h.parts))
fault_under d see word rules.TooHigh h =
    at_word (length (spell d)) word h.own.word h.word_is
    (under_among declared_word (length (spell d)) (declared d) h.own (declared_under d) h.among)
fault_under d see word rules.InlineArgument h = role_under d word gloss.InlineArgument h
fault_under d see word rules.UsesFaulty h = mention_under d see word rules.UsesFaulty h

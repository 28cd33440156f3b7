-- What enums and unions make of a schema in the making.
use Rattle.std.proofs.Common.{◌≡◌, ℕ, ◌-◌, ◌<◌, ◌^◌, arith, nat_lt, nat_eq, Bool, true, false, cond, IsTrue}
use Rattle.std.proofs.Common.{is_some, length, get_or, ℤ, pos, negsuc, List, [], ◌∷◌, ◌++◌, Option, None}
use Rattle.std.proofs.Common.{Some, option_and_then, refl, sym, ap, subst, ◌∙◌, append_assoc, append-nil}
use Rattle.std.proofs.lemmas.Bool.Decides.{nat_tests}
use Rattle.std.specs.Map.{lookup}
use Rattle.x_trees.specs.Tree as tree
use Rattle.x_schema.specs.Choices.{Choice, or_default}
use Rattle.x_numbers.specs.Numbers.{next_number}
use Rattle.x_schema.specs.Schema.{Schema, form_at, name_at}
use Rattle.x_schema.specs.SchemaOf.{Known, Numbers, AreArms, IsBody, IsDefault, IsEnum, number_in, case_word}
use Rattle.x_schema.specs.SchemaOf.{if_legal, word_by, signed_word, unsigned_word, enum_form, number_given}
use Rattle.x_schema.specs.SchemaOf.{typedefs_inside, typedefs_of, typedefs_of_arms, typedefs_of_default}
use Rattle.x_schema.specs.SchemaOf.{union_form, with_cases, with_word, words_from}
use Rattle.x_schema.specs.SchemaMaking.{Completes, IsGood, Puts, PutsAll, PutsPlace, AddsName, AddsForm}
use Rattle.x_schema.specs.SchemaMaking.{AreSoundCases, AreSoundWords, words_named}
use Rattle.x_schema.specs.Sound.{IsSoundForm, IsSoundField, IsSoundArm, IsSoundDefault, is_legal}
use Rattle.x_schema.specs.declared.form.Arm.{Arm}
use Rattle.x_schema.specs.declared.form.Field.{Field}
use Rattle.x_schema.specs.declared.form.Form.{Form}
use Rattle.x_schema.specs.declared.form.Form.TheVariants as forms
use Rattle.x_schema.specs.declared.maker.Maker.{Maker}
use Rattle.x_schema.proofs.MakerSteps.{and_then, front_get, put_as, puts_none, puts_name}
use Rattle.x_schema.proofs.MakerForms.{IsArm, IsFieldOf, place_within, with_form}

same_nat : (n : ℕ) → nat_eq n n ≡ true
same_nat n = grind (arith, nat_tests)

-- ---- words of cases

-- a word that a discriminant of the form may have
abbrev IsCaseWord : Form → Option ℕ → Type 0
IsCaseWord form None = Unit {0}
IsCaseWord form (Some w) = (w < 2 ^ 32) × IsTrue (is_legal form w)

abbrev IsWord : Option ℕ → Type 0
IsWord None = Unit {0}
IsWord (Some w) = w < 2 ^ 32

unsigned_fits : (z : ℤ) → IsWord (unsigned_word z)
unsigned_fits (pos n) = by (nat_lt n (2 ^ 32)) refl
  where
    by : (b : Bool) → nat_lt n (2 ^ 32) ≡ b → IsWord (cond b (Some n) None)
    by true e = grind (arith, nat_tests)
    by false e = tt
unsigned_fits (negsuc n) = tt

pub signed_fits : (z : ℤ) → IsWord (signed_word z)
signed_fits (pos n) = by (nat_lt n (2 ^ 31)) refl
  where
    by : (b : Bool) → nat_lt n (2 ^ 31) ≡ b → IsWord (cond b (Some n) None)
    by true e = let lt : n < 2 ^ 31 = grind (arith, nat_tests) in omega (arith, lt)
    by false e = tt
signed_fits (negsuc n) = by (nat_lt n (2 ^ 31)) refl
  where
    by : (b : Bool) → nat_lt n (2 ^ 31) ≡ b → IsWord (cond b (Some ((2 ^ 32 - 1) - n)) None)
    by true e = omega arith
    by false e = tt

word_fits : (form : Form) (z : ℤ) → IsWord (word_by form z)
word_fits forms.Void z = signed_fits z
word_fits forms.Int z = signed_fits z
word_fits forms.UnsignedInt z = unsigned_fits z
word_fits forms.Hyper z = signed_fits z
word_fits forms.UnsignedHyper z = signed_fits z
word_fits forms.Float z = signed_fits z
word_fits forms.Double z = signed_fits z
word_fits forms.Quadruple z = signed_fits z
word_fits forms.Bool z = signed_fits z
word_fits (forms.Enum names) z = signed_fits z
word_fits (forms.FixedOpaque n) z = signed_fits z
word_fits (forms.Opaque n) z = signed_fits z
word_fits (forms.String n) z = signed_fits z
word_fits (forms.FixedArray of n) z = signed_fits z
word_fits (forms.Array of n) z = signed_fits z
word_fits (forms.Optional of) z = signed_fits z
word_fits (forms.Struct fields) z = signed_fits z
word_fits (forms.Union field arms) z = signed_fits z

legal_fits : (form : Form) (o : Option ℕ) → IsWord o → IsCaseWord form (option_and_then (if_legal form) o)
legal_fits form None h = tt
legal_fits form (Some w) h = by (is_legal form w) refl
  where
    by : (b : Bool) → is_legal form w ≡ b → IsCaseWord form (cond b (Some w) None)
    by true e = (h, e)
    by false e = tt

case_fits : (numbers : Numbers) (form : Form) (o : Option ℤ)
    → IsCaseWord form (option_and_then (if_legal form) (option_and_then (word_by form) o))
case_fits numbers form None = tt
case_fits numbers form (Some z) = legal_fits form (word_by form z) (word_fits form z)

cases_behind : (n i : ℕ) (form : Form) (es : List (ℕ × Arm)) (w : ℕ) (arm : Arm) → AreSoundCases n i form es
    → w < 2 ^ 32 → IsTrue (is_legal form w) → IsSoundArm n i arm
    → AreSoundCases n i form (es ++ (w, arm) ∷ [])
cases_behind n i form [] w arm h fits legal one = (fits, legal, one, tt)
cases_behind n i form (e ∷ es) w arm (f, l, a, rest) fits legal one =
    (f, l, a, cases_behind n i form es w arm rest fits legal one)

cases_with : (n i : ℕ) (form : Form) (es : List (ℕ × Arm)) (o : Option ℕ) (arm : Arm)
    → AreSoundCases n i form es → IsCaseWord form o → IsSoundArm n i arm
    → AreSoundCases n i form (with_word es o arm)
cases_with n i form es None arm h word one = h
cases_with n i form es (Some w) arm h word one = by (is_some (lookup (nat_eq w) es))
  where
    by : (b : Bool) → AreSoundCases n i form (cond b es (es ++ (w, arm) ∷ []))
    by true = h
    by false = cases_behind n i form es w arm h word.0 word.1 one

sound_cases : (n i : ℕ) (numbers : Numbers) (form : Form) (es : List (ℕ × Arm)) (vs : List tree.Value)
    (arm : Arm) → AreSoundCases n i form es → IsSoundArm n i arm
    → AreSoundCases n i form (with_cases numbers form es vs arm)
sound_cases n i numbers form es [] arm h one = h
sound_cases n i numbers form es (v ∷ vs) arm h one =
    sound_cases n i numbers form (with_word es (case_word numbers form v) arm) vs arm
    (cases_with n i form es (case_word numbers form v) arm h
    (case_fits numbers form (number_in numbers v)) one) one

-- ---- arms

-- the arms in front of the rest, of the form at a place
pub record ArmsSoFar (known : Known) (old now : Maker) (around : List ℕ) (place : ℕ) (cases : List (ℕ × Arm))
    (rest all : tree.Arms) : Type 0 where
  pub typedefs : List tree.Declaration
  pub are : typedefs ++ typedefs_of_arms around rest ≡ typedefs_of_arms around all
  pub put : Puts known old now typedefs
      (λ n i s. ((end : List (ℕ × Arm)) → AreArms s known (form_at s place) rest cases end
      → AreArms s known (form_at s place) all [] end)
      × AreSoundCases n i (form_at s place) cases)

pub arms_start : (known : Known) (m : Maker) (around : List ℕ) (place : ℕ) (all : tree.Arms)
    → IsGood known.types m → ArmsSoFar known m m around place [] all all
arms_start known m around place all g = record {
  typedefs = [];
  are = refl;
  put = puts_none known m
      (λ n i s. ((end : List (ℕ × Arm)) → AreArms s known (form_at s place) all [] end
      → AreArms s known (form_at s place) all [] end) × Unit {0}) g
      (λ n i s b. ((λ end h. h), tt));
}

pub arms_more : (known : Known) (a b c : Maker) (around : List ℕ) (place : ℕ) (cases more : List (ℕ × Arm))
    (values : List tree.Value) (d : tree.Declaration) (arm : Arm) (rest all : tree.Arms)
    → place < length a.forms.items → ArmsSoFar known a b around place cases (tree.arm values d rest) all
    → PutsAll known b c (typedefs_of around d) (IsArm known d arm)
    → (place < length c.forms.items
    → more ≡ with_cases known.numbers (get_or c.forms.items place forms.Void) cases values arm)
    → ArmsSoFar known a c around place more rest all
arms_more known a b c around place cases more values d arm rest all lt f p is = record {
  typedefs = f.typedefs ++ typedefs_of around d;
  are = append_assoc f.typedefs (typedefs_of around d) (typedefs_of_arms around rest) ∙ f.are;
  put = put_as known a c (f.typedefs ++ typedefs_of around d)
      (λ n i s.
      (((end : List (ℕ × Arm)) → AreArms s known (form_at s place) (tree.arm values d rest) cases end
      → AreArms s known (form_at s place) all [] end)
      × AreSoundCases n i (form_at s place) cases) × IsArm known d arm n i s)
      (λ n i s. ((end : List (ℕ × Arm)) → AreArms s known (form_at s place) rest more end
      → AreArms s known (form_at s place) all [] end) × AreSoundCases n i (form_at s place) more)
      both
      (λ n i s h x. let now = there s h.completes in (
        (λ end k. x.0.0 end
            (arm, x.1.0, x.1.1, subst (λ es. AreArms s known (form_at s place) rest es end) now k)),
        subst (AreSoundCases n i (form_at s place)) (sym now)
            (sound_cases n i known.numbers (form_at s place) cases values arm x.0.1 x.1.2),
      ));
}
  where
    second : Puts known b c (typedefs_of around d) (IsArm known d arm)
    second = p f.put.good

    both : Puts known a c (f.typedefs ++ typedefs_of around d)
        (λ n i s.
        (((end : List (ℕ × Arm)) → AreArms s known (form_at s place) (tree.arm values d rest) cases end
        → AreArms s known (form_at s place) all [] end)
        × AreSoundCases n i (form_at s place) cases) × IsArm known d arm n i s)
    both = and_then known a b c f.typedefs (typedefs_of around d) (f.typedefs ++ typedefs_of around d)
        (λ n i s. ((end : List (ℕ × Arm)) → AreArms s known (form_at s place) (tree.arm values d rest) cases
        end → AreArms s known (form_at s place) all [] end)
        × AreSoundCases n i (form_at s place) cases)
        (IsArm known d arm)
        (λ n i s.
        (((end : List (ℕ × Arm)) → AreArms s known (form_at s place) (tree.arm values d rest) cases end
        → AreArms s known (form_at s place) all [] end)
        × AreSoundCases n i (form_at s place) cases) × IsArm known d arm n i s)
        refl f.put second (λ n i s x y. (x, y))

    within : place < length c.forms.items
    within = let one = both.longer in omega (arith, lt, one)

    there : (s : Schema) → Completes c s → more ≡ with_cases known.numbers (form_at s place) cases values arm
    there s h = is within ∙ ap (λ form. with_cases known.numbers form cases values arm)
        (sym (front_get c.forms.items s.forms place forms.Void h.forms within))

pub arms_end : (known : Known) (a b : Maker) (around : List ℕ) (place : ℕ) (cases : List (ℕ × Arm))
    (all : tree.Arms) → ArmsSoFar known a b around place cases tree.no_arm all
    → Puts known a b (typedefs_of_arms around all)
    (λ n i s. AreArms s known (form_at s place) all [] cases × AreSoundCases n i (form_at s place) cases)
arms_end known a b around place cases all f =
    subst (λ N. Puts known a b N (λ n i s. AreArms s known (form_at s place) all [] cases
    × AreSoundCases n i (form_at s place) cases)) (sym (append-nil f.typedefs) ∙ f.are)
    (put_as known a b f.typedefs
    (λ n i s. ((end : List (ℕ × Arm)) → AreArms s known (form_at s place) tree.no_arm cases end
    → AreArms s known (form_at s place) all [] end) × AreSoundCases n i (form_at s place) cases)
    (λ n i s. AreArms s known (form_at s place) all [] cases × AreSoundCases n i (form_at s place) cases)
    f.put
    (λ n i s h x. (x.0 cases refl, x.1)))

-- ---- a default

pub default_some : (known : Known) (a b : Maker) (N : List tree.Declaration) (d : tree.Declaration)
    (arm : Arm) → PutsAll known a b N (IsArm known d arm)
    → PutsAll known a b N (λ n i s. IsDefault s known (tree.default d) (Some arm)
    × IsSoundDefault n i (Some arm))
default_some known a b N d arm p g =
    put_as known a b N (IsArm known d arm)
    (λ n i s. IsDefault s known (tree.default d) (Some arm) × IsSoundDefault n i (Some arm)) (p g)
    (λ n i s h x. ((arm, refl, x.0, x.1), x.2))

pub default_none : (known : Known) (m : Maker)
    → PutsAll known m m [] (λ n i s. IsDefault s known tree.no_default None × IsSoundDefault n i None)
default_none known m g = puts_none known m
    (λ n i s. IsDefault s known tree.no_default None × IsSoundDefault n i None) g (λ n i s b. (refl, tt))

-- ---- a union

arm_found : (n i : ℕ) (form : Form) (es : List (ℕ × Arm)) (default : Option Arm) (w : ℕ) (arm : Arm)
    → AreSoundCases n i form es → IsSoundDefault n i default
    → or_default (lookup (nat_eq w) es) default ≡ Some arm → IsSoundArm n i arm
arm_found n i form [] None w arm h other is = absurd (cc)
arm_found n i form [] (Some a) w arm h other is = let same : a ≡ arm = cc in subst (IsSoundArm n i) same other
arm_found n i form (e ∷ es) default w arm (f, l, a, rest) other is =
    by (nat_eq w e.0) is (arm_found n i form es default w arm rest other)
  where
    by : (b : Bool) → or_default (cond b (Some e.1) (lookup (nat_eq w) es)) default ≡ Some arm
        → (or_default (lookup (nat_eq w) es) default ≡ Some arm → IsSoundArm n i arm) → IsSoundArm n i arm
    by true is next = let same : e.1 ≡ arm = cc in subst (IsSoundArm n i) same a
    by false is next = next is

union_sound : (s : Schema) (i : ℕ) (field : Field) (choice : Choice) → IsSoundField (length s.names) i field
    → AreSoundCases (length s.names) i (form_at s field.form) choice.cases
    → IsSoundDefault (length s.names) i choice.default → IsSoundForm s i (union_form field choice)
union_sound s i field choice f c d = by choice.cases c refl
  where
    by : (es : List (ℕ × Arm)) → AreSoundCases (length s.names) i (form_at s field.form) es
        → choice.cases ≡ es
        → IsSoundForm s i (union_form field (record { cases = es; default = choice.default }))
    by [] h is = tt
    by (e ∷ es) (fits, legal, a, rest) is = record {
      discriminates = f;
      word = e.0;
      fits = fits;
      legal = legal;
      chosen = subst
          (λ b. IsTrue (is_some (or_default (cond b (Some e.1) (lookup (nat_eq e.0) es)) choice.default)))
          (sym (same_nat e.0)) refl;
      arms = λ w arm found. arm_found (length s.names) i (form_at s field.form) (e ∷ es) choice.default w arm
          (fits, legal, a, rest) d found;
      other = d;
    }

abbrev IsChosen : Known → tree.Arms → Field → List (ℕ × Arm) → ℕ → ℕ → Schema → Type 0
IsChosen known arms field cases n i s = AreArms s known (form_at s field.form) arms [] cases
    × AreSoundCases n i (form_at s field.form) cases

abbrev IsOther : Known → tree.Default → Option Arm → ℕ → ℕ → Schema → Type 0
IsOther known other default n i s = IsDefault s known other default × IsSoundDefault n i default

abbrev IsUnion : Known → tree.Declaration → tree.Arms → tree.Default → Field → List (ℕ × Arm) → Option Arm → ℕ
    → ℕ → Schema → Type 0
IsUnion known declaration arms other field cases default n i s =
    IsFieldOf known declaration field n i s
    × (IsChosen known arms field cases n i s × IsOther known other default n i s)

pub union_put : (known : Known) (a b c d e : Maker) (around : List ℕ) (declaration : tree.Declaration)
    (arms : tree.Arms) (other : tree.Default) (field : Field) (cases : List (ℕ × Arm))
    (default : Option Arm) (place : ℕ)
    → PutsAll known a b (typedefs_of around declaration) (IsFieldOf known declaration field)
    → (field.form < length b.forms.items
    → PutsAll known b c (typedefs_of_arms around arms)
    (λ n i s. AreArms s known (form_at s field.form) arms [] cases
    × AreSoundCases n i (form_at s field.form) cases))
    → PutsAll known c d (typedefs_of_default around other)
    (λ n i s. IsDefault s known other default × IsSoundDefault n i default)
    → AddsForm d e (union_form field (record { cases = cases; default = default })) place
    → PutsPlace known a e (typedefs_inside around (tree.Union declaration arms other)) place
    (λ s at. IsBody s known (tree.Union declaration arms other) at)
union_put known a b c d e around declaration arms other field cases default place p q r add =
    with_form known a d e (typedefs_inside around (tree.Union declaration arms other))
    (IsUnion known declaration arms other field cases default)
    (λ s at. IsBody s known (tree.Union declaration arms other) at)
    (union_form field choice) place together add
    (λ s x. union_sound s place field choice x.0.2 x.1.0.1 x.1.1.1)
    (λ n i s x is. (field, choice, is, x.0.0, x.0.1, x.1.0.0, x.1.1.0))
  where
    choice : Choice
    choice = record { cases = cases; default = default }

    together : PutsAll known a d (typedefs_inside around (tree.Union declaration arms other))
        (IsUnion known declaration arms other field cases default)
    together g =
        let first = p g in
        let within = place_within known a b (typedefs_of around declaration)
        (IsFieldOf known declaration field) field.form first (λ n i s x. x.2.form) in
        let second = q within first.good in
        let third = r second.good in
        let last = and_then known b c d (typedefs_of_arms around arms) (typedefs_of_default around other)
        (typedefs_of_arms around arms ++ typedefs_of_default around other)
        (IsChosen known arms field cases) (IsOther known other default)
        (λ n i s. IsChosen known arms field cases n i s × IsOther known other default n i s) refl second third
        (λ n i s x y. (x, y)) in
        and_then known a b d (typedefs_of around declaration)
        (typedefs_of_arms around arms ++ typedefs_of_default around other)
        (typedefs_of around declaration ++ (typedefs_of_arms around arms ++ typedefs_of_default around other))
        (IsFieldOf known declaration field)
        (λ n i s. IsChosen known arms field cases n i s × IsOther known other default n i s)
        (IsUnion known declaration arms other field cases default) refl first last (λ n i s x y. (x, y))

-- ---- an enum

words_behind : (n : ℕ) (es : List (ℕ × ℕ)) (w name : ℕ) → AreSoundWords n es → w < 2 ^ 32 → name < n
    → AreSoundWords n (es ++ (w, name) ∷ [])
words_behind n [] w name h fits lt = (fits, lt, tt)
words_behind n (e ∷ es) w name (f, l, rest) fits lt = (f, l, words_behind n es w name rest fits lt)

found_named : (s : Schema) (es : List (ℕ × ℕ)) (w : ℕ)
    → is_some (lookup (nat_eq w) (words_named s es)) ≡ is_some (lookup (nat_eq w) es)
found_named s [] w = refl
found_named s (e ∷ es) w = by (nat_eq w e.0) (found_named s es w)
  where
    by : (b : Bool) → is_some (lookup (nat_eq w) (words_named s es)) ≡ is_some (lookup (nat_eq w) es)
        → is_some (cond b (Some (name_at s e.1)) (lookup (nat_eq w) (words_named s es)))
        ≡ is_some (cond b (Some e.1) (lookup (nat_eq w) es))
    by true h = refl
    by false h = h

named_behind : (s : Schema) (es : List (ℕ × ℕ)) (w name : ℕ)
    → words_named s (es ++ (w, name) ∷ []) ≡ words_named s es ++ (w, name_at s name) ∷ []
named_behind s [] w name = refl
named_behind s (e ∷ es) w name = ap (λ l. (e.0, name_at s e.1) ∷ l) (named_behind s es w name)

-- the enumerator changes nothing
pub enumerator_kept : (known : Known) (m : Maker) (es : List (ℕ × ℕ)) (o : Option ℕ) (name : List ℕ)
    → ((s : Schema) → words_named s es ≡ with_word (words_named s es) o name)
    → PutsAll known m m [] (λ n i s. (words_named s es ≡ with_word (words_named s es) o name)
    × (AreSoundWords n es → AreSoundWords n es))
enumerator_kept known m es o name is g =
    puts_none known m (λ n i s. (words_named s es ≡ with_word (words_named s es) o name)
    × (AreSoundWords n es → AreSoundWords n es)) g (λ n i s b. (is s, λ h. h))

pub word_there : (s : Schema) (es : List (ℕ × ℕ)) (w : ℕ) (name : List ℕ)
    → is_some (lookup (nat_eq w) es) ≡ true → words_named s es ≡ with_word (words_named s es) (Some w) name
word_there s es w name h =
    sym (ap (λ b. cond b (words_named s es) (words_named s es ++ (w, name) ∷ [])) (found_named s es w ∙ h))

pub enumerator_new : (known : Known) (a b : Maker) (es more : List (ℕ × ℕ)) (w index : ℕ) (name : List ℕ)
    → AddsName a b name index → is_some (lookup (nat_eq w) es) ≡ false
    → w < 2 ^ 32 → more ≡ es ++ (w, index) ∷ []
    → PutsAll known a b [] (λ n i s. (words_named s more ≡ with_word (words_named s es) (Some w) name)
    × (AreSoundWords n es → AreSoundWords n more))
enumerator_new known a b es more w index name add none fits is g =
    put_as known a b [] (λ n i s. (name_at s index ≡ name) × (index < n))
    (λ n i s. (words_named s more ≡ with_word (words_named s es) (Some w) name)
    × (AreSoundWords n es → AreSoundWords n more))
    (puts_name known a b name index add g)
    (λ n i s h x. (
      ap (words_named s) is ∙ named_behind s es w index ∙ ap (λ l. words_named s es ++ (w, l) ∷ []) x.0
          ∙ sym (ap (λ b. cond b (words_named s es) (words_named s es ++ (w, name) ∷ []))
          (found_named s es w ∙ none)),
      λ k. subst (AreSoundWords n) (sym is) (words_behind n es w index k fits x.1),
    ))

-- the enumerators in front of the rest
abbrev pub EnumSoFar : Known → Maker → Maker → Numbers → Option ℤ → List (ℕ × ℕ) → List tree.Enumerator
    → List tree.Enumerator → Type 0
EnumSoFar known old now numbers next names rest all =
    Puts known old now []
    (λ n i s. (words_from numbers next (words_named s names) rest ≡ words_from numbers (Some (pos 0)) [] all)
    × AreSoundWords n names)

pub enum_start : (known : Known) (m : Maker) (numbers : Numbers) (all : List tree.Enumerator)
    → IsGood known.types m → EnumSoFar known m m numbers (Some (pos 0)) [] all all
enum_start known m numbers all g =
    puts_none known m
    (λ n i s. (words_from numbers (Some (pos 0)) (words_named s []) all
    ≡ words_from numbers (Some (pos 0)) [] all) × AreSoundWords n []) g (λ n i s b. (refl, tt))

pub enum_more : (known : Known) (a b c : Maker) (numbers : Numbers) (next number after : Option ℤ)
    (word : Option ℕ) (names more : List (ℕ × ℕ)) (e : tree.Enumerator) (rest all : List tree.Enumerator)
    → EnumSoFar known a b numbers next names (e ∷ rest) all → number ≡ number_given numbers next e.value
    → word ≡ option_and_then signed_word number → after ≡ next_number number
    → PutsAll known b c [] (λ n i s. (words_named s more ≡ with_word (words_named s names) word e.name)
    × (AreSoundWords n names → AreSoundWords n more))
    → EnumSoFar known a c numbers after more rest all
enum_more known a b c numbers next number after word names more e rest all p number_is word_is after_is q =
    and_then known a b c [] [] []
    (λ n i s. (words_from numbers next (words_named s names) (e ∷ rest)
    ≡ words_from numbers (Some (pos 0)) [] all) × AreSoundWords n names)
    (λ n i s. (words_named s more ≡ with_word (words_named s names) word e.name)
    × (AreSoundWords n names → AreSoundWords n more))
    (λ n i s. (words_from numbers after (words_named s more) rest ≡ words_from numbers (Some (pos 0)) [] all)
    × AreSoundWords n more)
    refl p (q p.good)
    (λ n i s x y. (
      ap (λ l. words_from numbers after l rest)
          (y.0 ∙ ap (λ o. with_word (words_named s names) o e.name)
          (word_is ∙ ap (option_and_then signed_word) number_is))
          ∙ ap (λ o. words_from numbers o
          (with_word (words_named s names) (option_and_then signed_word (number_given numbers next e.value))
          e.name) rest) (after_is ∙ ap next_number number_is) ∙ x.0,
      y.1 x.1,
    ))

pub enum_end : (known : Known) (a b : Maker) (numbers : Numbers) (next : Option ℤ) (names : List (ℕ × ℕ))
    (all : List tree.Enumerator)
    → EnumSoFar known a b numbers next names [] all
    → Puts known a b [] (λ n i s. (words_named s names ≡ words_from numbers (Some (pos 0)) [] all)
    × AreSoundWords n names)
enum_end known a b numbers next names all p = p

name_found : (n : ℕ) (es : List (ℕ × ℕ)) (w name : ℕ) → AreSoundWords n es
    → lookup (nat_eq w) es ≡ Some name → name < n
name_found n [] w name h is = absurd (cc)
name_found n (e ∷ es) w name (f, l, rest) is = by (nat_eq w e.0) is (name_found n es w name rest)
  where
    by : (b : Bool) → cond b (Some e.1) (lookup (nat_eq w) es) ≡ Some name
        → (lookup (nat_eq w) es ≡ Some name → name < n) → name < n
    by true is next = let same : e.1 ≡ name = cc in subst (λ k. k < n) same l
    by false is next = next is

enum_sound : (s : Schema) (i : ℕ) (es : List (ℕ × ℕ)) → AreSoundWords (length s.names) es
    → IsSoundForm s i (enum_form es)
enum_sound s i [] h = tt
enum_sound s i (e ∷ es) (f, l, rest) = record {
  word = e.0;
  fits = f;
  some = subst (λ b. IsTrue (is_some (cond b (Some e.1) (lookup (nat_eq e.0) es)))) (sym (same_nat e.0)) refl;
  named = λ w name is. name_found (length s.names) (e ∷ es) w name (f, l, rest) is;
}

pub enum_put : (known : Known) (a b c : Maker) (es : List tree.Enumerator) (names : List (ℕ × ℕ)) (place : ℕ)
    → PutsAll known a b [] (λ n i s. (words_named s names ≡ words_from known.numbers (Some (pos 0)) [] es)
    × AreSoundWords n names)
    → AddsForm b c (enum_form names) place
    → PutsPlace known a c [] place (λ s at. IsEnum s known.numbers es at)
enum_put known a b c es names place p add =
    with_form known a b c [] (λ n i s. (words_named s names ≡ words_from known.numbers (Some (pos 0)) [] es)
    × AreSoundWords n names) (λ s at. IsEnum s known.numbers es at)
    (enum_form names) place p add (λ s x. enum_sound s place names x.1)
    (λ n i s x e. record { names = names; form = e; first = x.0 })

-- The word of a mention is its name, and no word has two mentions.
use Rattle.std.proofs.Common.{◌≡◌, ◌⊎◌, inl, inr, ℕ, ◌+◌, Bool, true, false, List, [], ◌∷◌, ◌++◌, map, length}
use Rattle.std.proofs.Common.{Option, Some, None, is_some, refl, sym, ap, subst, ◌∙◌}
use Rattle.std.specs.List.{IsAmong}
use Rattle.x_lex.specs.declared.mark.Mark.{Mark}
use Rattle.x_trees.specs.Tree as tree
use Rattle.x_trees.specs.Words.{Fixed, Name}
use Rattle.x_trees.specs.Gloss as gloss
use Rattle.x_trees.specs.Gloss.{Gloss, Mentions, Role, Site, glossed, told_of}
use Rattle.x_trees.specs.Mentions.{Mention, mentioned, mentioned_at}
use Rattle.x_trees.specs.Spell.{spell}
use Rattle.x_trees.specs.declared.names.mention.Use.{Use}
use Rattle.x_trees.proofs.AmongLemmas.{among_cases, among_more, among_none, among_parts, among_same}
use Rattle.x_trees.proofs.GlossLemmas.{words, words_gloss}

-- the names of which these are mentions
abbrev pub names_in : List Role → List (List ℕ)
names_in [] = []
names_in (Mentions name usage tag ∷ roles) = name ∷ names_in roles
names_in (role ∷ roles) = names_in roles

-- the word is no mention, or one of the name that it is
abbrev pub IsNamed : Gloss → Type 0
IsNamed g = (names_in g.roles ≡ []) ⊎ ((name : List ℕ) × (g.word ≡ Name name)
    × (names_in g.roles ≡ name ∷ []))

abbrev pub AreNamed : List Gloss → Type 0
AreNamed [] = Unit {0}
AreNamed (g ∷ gs) = IsNamed g × AreNamed gs

both : (xs ys : List Gloss) → AreNamed xs → AreNamed ys → AreNamed (xs ++ ys)
both [] ys h k = k
both (x ∷ xs) ys h k = (h.0, both xs ys h.1 k)

-- ---- the words of each part

named_rest : (ms : List Mark) → AreNamed (map (λ m. glossed (Fixed m) []) ms)
named_rest [] = tt
named_rest (m ∷ ms) = (inl refl, named_rest ms)

named_marks : (first : List Role) (ms : List Mark) → names_in first ≡ []
    → AreNamed (gloss.marks_by glossed first ms)
named_marks first [] none = tt
named_marks first (m ∷ ms) none = (inl none, named_rest ms)

-- a value in a role that is no mention
named_value : (role : Role) (v : tree.Value) → names_in (role ∷ []) ≡ []
    → IsNamed (glossed (gloss.spell_value v) (gloss.value_roles role v))
named_value role (tree.Number t) none = inl none
named_value role (tree.Named t) none = inr (t, refl, ap (λ l. t ∷ l) none)

named_told : (told : Bool) (role : Role) (v : tree.Value) → names_in (role ∷ []) ≡ []
    → IsNamed (glossed (gloss.spell_value v) (gloss.roles_where told (gloss.value_roles role v)))
named_told true role v none = named_value role v none
named_told false role v none = inl refl

named_most : (told : Bool) (v : Option tree.Value) → AreNamed (gloss.most_by glossed told v)
named_most told None = tt
named_most told (Some v) = (named_told told (gloss.GreatestSize v) v refl, tt)

named_length : (told : Bool) (l : tree.Length) → AreNamed (gloss.length_by glossed told l)
named_length told (tree.Fixed v) = (inl refl, (named_told told (gloss.FixedSize v) v refl, (inl refl, tt)))
named_length told (tree.Variable v) =
    (inl refl, both (gloss.most_by glossed told v) _ (named_most told v) (inl refl, tt))

named_named : (told : Bool) (roles : List Role) (name : List ℕ) (shape : tree.Shape) → names_in roles ≡ []
    → AreNamed (gloss.named_by glossed told roles name shape)
named_named told roles name tree.Plain none = (inl none, tt)
named_named told roles name tree.Optional none = (inl refl, (inl none, tt))
named_named told roles name (tree.Array l) none = (inl none, named_length told l)

named_given : (told : Bool) (v : Option tree.Value) → AreNamed (gloss.given_by glossed told v)
named_given told None = tt
named_given told (Some v) = (inl refl, (named_told told (gloss.EnumeratorValue v) v refl, tt))

named_enumerator : (told : Bool) (e : tree.Enumerator) → AreNamed (gloss.enumerator_by glossed told e)
named_enumerator true e = (inl refl, named_given true e.value)
named_enumerator false e = (inl refl, named_given false e.value)

named_others : (told : Bool) (es : List tree.Enumerator) → AreNamed
    (gloss.other_enumerators_by glossed told es)
named_others told [] = tt
named_others told (e ∷ es) =
    (inl refl, both (gloss.enumerator_by glossed told e) _ (named_enumerator told e) (named_others told es))

named_enumerators : (told : Bool) (es : List tree.Enumerator)
    → AreNamed (gloss.enumerators_by glossed told es)
named_enumerators told [] = tt
named_enumerators told (e ∷ es) = both (gloss.enumerator_by glossed told e) _ (named_enumerator told e)
    (named_others told es)

named_cases : (told : Bool) (vs : List tree.Value) → AreNamed (gloss.cases_by glossed told vs)
named_cases told [] = tt
named_cases told (v ∷ vs) =
    (inl refl, (named_told told (gloss.CaseValue v) v refl, (inl refl, named_cases told vs)))

leading_none : (site : Option Site) (d : tree.Declaration) → names_in (gloss.leading_roles site d) ≡ []
leading_none None d = refl
leading_none (Some gloss.InTypedef) d = refl
leading_none (Some (gloss.Inside gloss.AsField around)) d = refl
leading_none (Some (gloss.Inside gloss.AsDiscriminant around)) d = refl
leading_none (Some (gloss.Inside gloss.AsArm around)) d = refl

void_none : (site : Option Site) → names_in (gloss.void_roles site) ≡ []
void_none None = refl
void_none (Some site) = leading_none (Some site) tree.Void

name_none : (site : Option Site) (name : List ℕ) → names_in (gloss.name_roles site name) ≡ []
name_none None name = refl
name_none (Some gloss.InTypedef) name = refl
name_none (Some (gloss.Inside position around)) name = refl

lifted_none : (lifted : Option (List ℕ)) (type : tree.DataType)
    → names_in (gloss.lifted_roles lifted type) ≡ []
lifted_none None type = refl
lifted_none (Some lifted) (tree.Simple b) = refl
lifted_none (Some lifted) (tree.Name t) = refl
lifted_none (Some lifted) (tree.Tagged tag t) = refl
lifted_none (Some lifted) (tree.Inline body) = refl

declared_none : (site : Option Site) (name : List ℕ) (lifted : Option (List ℕ)) (type : tree.DataType)
    → names_in (gloss.name_roles site name ++ gloss.lifted_roles lifted type) ≡ []
declared_none None name lifted type = lifted_none lifted type
declared_none (Some gloss.InTypedef) name lifted type = lifted_none lifted type
declared_none (Some (gloss.Inside position around)) name lifted type = lifted_none lifted type

argument_none : (told : Bool) (type : tree.DataType) → names_in (gloss.argument_roles told type) ≡ []
argument_none false type = refl
argument_none true (tree.Simple b) = refl
argument_none true (tree.Name t) = refl
argument_none true (tree.Tagged tag t) = refl
argument_none true (tree.Inline body) = refl

mutual
  named_type : (first : List Role) (usage : Option Use) (inside : Option (List ℕ)) (t : tree.DataType)
      → names_in first ≡ [] → AreNamed (gloss.type_by glossed first usage inside t)
  named_type first usage inside (tree.Simple b) none = named_marks first (gloss.basic_marks b) none
  named_type first None inside (tree.Name t) none = (inl none, tt)
  named_type first (Some usage) inside (tree.Name t) none = (inr (t, refl, ap (λ l. t ∷ l) none), tt)
  named_type first None inside (tree.Tagged tag t) none = (inl none, (inl refl, tt))
  named_type first (Some usage) inside (tree.Tagged tag t) none = (inl none, (inr (t, refl, refl), tt))
  named_type first usage inside (tree.Inline body) none = (inl none, named_body inside body)

  named_body : (around : Option (List ℕ)) (b : tree.Body) → AreNamed (gloss.body_by glossed around b)
  named_body around (tree.Enum es) = (
    inl refl,
    both (gloss.enumerators_by glossed (is_some around) es) _
        (named_enumerators (is_some around) es) (inl refl, tt),
  )
  named_body around (tree.Struct ds) = (
    inl refl,
    both (gloss.declarations_by glossed around ds) _ (named_declarations around ds)
        (inl refl, tt),
  )
  named_body around (tree.Union d arms other) = (
    inl refl,
    (
      inl refl,
      both (gloss.declaration_by glossed (gloss.site_in gloss.AsDiscriminant around) d) _
          (named_declaration (gloss.site_in gloss.AsDiscriminant around) d) (
            inl refl,
            (
              inl refl,
              both (gloss.arms_by glossed around arms) _ (named_arms around arms)
                  (named_default around other),
            ),
          ),
    ),
  )

  named_declaration : (site : Option Site) (d : tree.Declaration)
      → AreNamed (gloss.declaration_by glossed site d)
  named_declaration site tree.Void = (inl (void_none site), tt)
  named_declaration site (tree.Of type name shape) =
      both (gloss.type_by glossed (gloss.leading_roles site (tree.Of type name shape))
      (gloss.usage_at site shape) (gloss.name_inside site name) type) _
      (named_type (gloss.leading_roles site (tree.Of type name shape)) (gloss.usage_at site shape)
      (gloss.name_inside site name) type (leading_none site (tree.Of type name shape)))
      (named_named (is_some site) (gloss.name_roles site name ++ gloss.lifted_roles
      (gloss.name_inside site name) type) name shape
      (declared_none site name (gloss.name_inside site name) type))
  named_declaration site (tree.Opaque name l) = (
    inl (leading_none site (tree.Opaque name l)),
    (
      inl (name_none site name),
      named_length (is_some site) l,
    ),
  )
  named_declaration site (tree.String name most) = (
    inl (leading_none site (tree.String name most)),
    (
      inl (name_none site name),
      named_length (is_some site) (tree.Variable most),
    ),
  )

  named_declarations : (around : Option (List ℕ)) (ds : tree.Declarations)
      → AreNamed (gloss.declarations_by glossed around ds)
  named_declarations around tree.none = tt
  named_declarations around (tree.more d ds) =
      both (gloss.declaration_by glossed (gloss.site_in gloss.AsField around) d) _
      (named_declaration (gloss.site_in gloss.AsField around) d) (inl refl, named_declarations around ds)

  named_arms : (around : Option (List ℕ)) (arms : tree.Arms) → AreNamed (gloss.arms_by glossed around arms)
  named_arms around tree.no_arm = tt
  named_arms around (tree.arm cases d rest) =
      both (gloss.cases_by glossed (is_some around) cases) _ (named_cases (is_some around) cases)
      (both (gloss.declaration_by glossed (gloss.site_in gloss.AsArm around) d) _
      (named_declaration (gloss.site_in gloss.AsArm around) d) (inl refl, named_arms around rest))

  named_default : (around : Option (List ℕ)) (other : tree.Default)
      → AreNamed (gloss.default_by glossed around other)
  named_default around tree.no_default = (inl refl, tt)
  named_default around (tree.default d) = (
    inl refl,
    (
      inl refl,
      both (gloss.declaration_by glossed (gloss.site_in gloss.AsArm around) d) _
          (named_declaration (gloss.site_in gloss.AsArm around) d) (inl refl, (inl refl, tt)),
    ),
  )

named_argument : (told : Bool) (a : tree.Argument) → AreNamed (gloss.argument_by glossed told a)
named_argument told tree.Text = (inl refl, tt)
named_argument told (tree.Typed type) = named_type (gloss.argument_roles told type) _ None type
    (argument_none told type)

named_passed : (told : Bool) (void : List Role) (p : Option tree.Argument) → names_in void ≡ []
    → AreNamed (gloss.passed_by glossed told void p)
named_passed told void None none = (inl none, tt)
named_passed told void (Some a) none = named_argument told a

named_arguments : (told : Bool) (others : List tree.Argument) → AreNamed (gloss.others_by glossed told others)
named_arguments told [] = tt
named_arguments told (a ∷ rest) =
    (inl refl, both (gloss.argument_by glossed told a) _ (named_argument told a) (named_arguments told rest))

told_none : (told : Bool) (role : Role) → names_in (role ∷ []) ≡ []
    → names_in (gloss.roles_where told (role ∷ [])) ≡ []
told_none true role none = none
told_none false role none = refl

named_procedure : (told : Bool) (p : tree.Procedure) → AreNamed (gloss.procedure_by glossed told p)
named_procedure told p =
    both (gloss.passed_by glossed told (gloss.roles_where told (gloss.VoidResult ∷ [])) p.result) _
    (named_passed told (gloss.roles_where told (gloss.VoidResult ∷ [])) p.result
    (told_none told gloss.VoidResult refl)) (
      inl (told_none told (gloss.ProcedureName p.name) refl),
      (
        inl refl,
        both (gloss.passed_by glossed told first p.first ++ gloss.others_by glossed told p.others) _
            (both (gloss.passed_by glossed told first p.first) _
            (named_passed told first p.first (told_none told (gloss.VoidArgument (length p.others)) refl))
            (named_arguments told p.others)) (
              inl refl,
              (
                inl refl,
                (
                  inl (told_none told (gloss.ProcedureNumber p.number) refl),
                  (inl refl, tt),
                ),
              ),
            ),
      ),
    )
  where
    first : List Role
    first = gloss.roles_where told (gloss.VoidArgument (length p.others) ∷ [])

named_procedures : (told : Bool) (ps : List tree.Procedure) → AreNamed (gloss.procedures_by glossed told ps)
named_procedures told [] = tt
named_procedures told (p ∷ ps) = both (gloss.procedure_by glossed told p) _ (named_procedure told p)
    (named_procedures told ps)

named_version : (told : Bool) (v : tree.Version) → AreNamed (gloss.version_by glossed told v)
named_version told v = (
  inl refl,
  (
    inl (told_none told (gloss.VersionName v.name) refl),
    (
      inl refl,
      both (gloss.procedures_by glossed told v.procedures) _ (named_procedures told v.procedures)
          (inl refl, (inl refl, (inl (told_none told (gloss.VersionNumber v.number) refl), (inl refl, tt)))),
    ),
  ),
)

named_versions : (told : Bool) (vs : List tree.Version) → AreNamed (gloss.versions_by glossed told vs)
named_versions told [] = tt
named_versions told (v ∷ vs) = both (gloss.version_by glossed told v) _ (named_version told v)
    (named_versions told vs)

pub named_gloss : (d : tree.Definition) → AreNamed (gloss.gloss d)
named_gloss (tree.Const name value) =
    (inl refl, (inl refl, (inl refl, (named_value (gloss.ConstantValue value) value refl, (inl refl, tt)))))
named_gloss (tree.Typedef d) = (
  inl refl,
  both (gloss.declaration_by glossed (Some gloss.InTypedef) d) _
      (named_declaration (Some gloss.InTypedef) d) (inl refl, tt),
)
named_gloss (tree.NewType name body) = (
  inl refl,
  (
    inl refl,
    both (gloss.body_by glossed (Some name) body) _ (named_body (Some name) body)
        (inl refl, tt),
  ),
)
named_gloss (tree.Program name versions number) = (
  inl refl,
  (
    inl refl,
    (
      inl refl,
      both (gloss.versions_by glossed true versions) _ (named_versions true versions)
          (inl refl, (inl refl, (inl refl, (inl refl, tt)))),
    ),
  ),
)

-- ---- mentions

pub names_told : (k : ℕ) (roles : List Role) → map (λ (m : Mention). m.name)
    (mentioned_at k roles) ≡ names_in roles
names_told k [] = refl
names_told k (Mentions name usage tag ∷ roles) = ap (λ l. name ∷ l) (names_told k roles)
names_told k (role ∷ roles) = names_told k roles

pub among_map : {X Y : Type 0} (f : X → Y) (xs : List X) (x : X) → IsAmong xs x → IsAmong (map f xs) (f x)
among_map f [] x h = absurd (among_none x h)
among_map f (y ∷ xs) x h = by (among_cases y x xs h) (λ k. among_map f xs x k)
  where
    by : (x ≡ y) ⊎ IsAmong xs x → (IsAmong xs x → IsAmong (map f xs) (f x)) → IsAmong (map f (y ∷ xs)) (f x)
    by (inl e) next = among_same (f y) (f x) (map f xs) (ap f (sym e))
    by (inr k) next = among_more (f y) (f x) (map f xs) (next k)

-- the word of one gloss
own_word : (k : ℕ) (g : Gloss) (gs : List Gloss) (m : Mention) → IsNamed g
    → IsAmong (mentioned_at k g.roles) m
    → IsAmong (words (g ∷ gs)) (Name m.name)
own_word k g gs m named h = by named
  where
    among : IsAmong (names_in g.roles) m.name
    among = subst (λ l. IsAmong l m.name) (names_told k g.roles)
        (among_map (λ (x : Mention). x.name) (mentioned_at k g.roles) m h)

    one : (name : List ℕ) → (m.name ≡ name) ⊎ IsAmong [] m.name → m.name ≡ name
    one name (inl e) = e
    one name (inr j) = absurd (among_none m.name j)

    by : IsNamed g → IsAmong (words (g ∷ gs)) (Name m.name)
    by (inl none) = absurd (among_none m.name (subst (λ l. IsAmong l m.name) none among))
    by (inr (name, word, only)) =
        let same = one name (among_cases name m.name [] (subst (λ l. IsAmong l m.name) only among)) in
        among_same g.word (Name m.name) (words gs) (word ∙ ap Name (sym same))

told_word : (k : ℕ) (gs : List Gloss) (m : Mention) → AreNamed gs → IsAmong (told_of mentioned_at k gs) m
    → IsAmong (words gs) (Name m.name)
told_word k [] m named h = absurd (among_none m h)
told_word k (g ∷ gs) m named h =
    by (among_parts (mentioned_at k g.roles) (told_of mentioned_at (k + 1) gs) m h)
    (λ j. told_word (k + 1) gs m named.1 j)
  where
    by : IsAmong (mentioned_at k g.roles) m ⊎ IsAmong (told_of mentioned_at (k + 1) gs) m
        → (IsAmong (told_of mentioned_at (k + 1) gs) m → IsAmong (words gs) (Name m.name))
        → IsAmong (words (g ∷ gs)) (Name m.name)
    by (inl j) next = own_word k g gs m named.0 j
    by (inr j) next = among_more g.word (Name m.name) (words gs) (next j)

-- a name that a definition mentions is one of its words
pub mention_word : (d : tree.Definition) (m : Mention) → IsAmong (mentioned d) m
    → IsAmong (spell d) (Name m.name)
mention_word d m h =
    subst (λ ws. IsAmong ws (Name m.name)) (words_gloss d) (told_word 0 (gloss.gloss d) m (named_gloss d) h)

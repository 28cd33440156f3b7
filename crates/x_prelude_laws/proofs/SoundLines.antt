-- Lines of which the definition breaks no rule, unless its names are declared before.
use Rattle.std.proofs.Common.{◌≡◌, ◌⊎◌, inl, inr, ℕ, ◌^◌, ◌<◌, List, [], ◌∷◌, Option, Some, None, arith, refl}
use Rattle.std.proofs.Common.{sym, ap, subst, ◌∙◌}
use Rattle.std.specs.Prelude.{codes}
use Rattle.std.specs.List.{IsAmong}
use Rattle.x_trees.specs.Names.{Declared, declared}
use Rattle.x_trees.specs.Tree.{Definition}
use Rattle.x_trees.specs.declared.names.mention.Use.{Use}
use Rattle.x_trees.specs.declared.names.mention.Use.TheVariants as uses
use Rattle.x_trees.specs.declared.trees.declaration.Basic.{Basic}
use Rattle.x_trees.specs.declared.trees.declaration.Basic.TheVariants as basics
use Rattle.x_trees.specs.declared.trees.declaration.Tag.{Tag}
use Rattle.x_trees.specs.declared.trees.declaration.Tag.TheVariants as tags
use Rattle.x_trees.proofs.AmongLemmas.{among_cases, among_none}
use Rattle.x_prelude.specs.Prelude.{constant_number, foreign_text}
use Rattle.x_prelude_laws.proofs.Lines.{IsName, Line, LineOf, const_line, enum_line, int_line, netobj_line}
use Rattle.x_prelude_laws.proofs.Lines.{struct_line, union_line}
use Rattle.x_prelude_laws.proofs.Shapes.{const_of, enum_of, longer_name, netobj_of, struct_of, typedef_of}
use Rattle.x_prelude_laws.proofs.Shapes.{union_of}
use Rattle.x_prelude_laws.proofs.Sound.{IsSound, const_sound, enum_sound, netobj_sound, struct_sound}
use Rattle.x_prelude_laws.proofs.Sound.{typedef_sound, union_sound}

number_some : (n : ℕ) → 0 < constant_number n
number_some n = omega arith

small : (n : ℕ) → n < 4194304 → constant_number n < 2 ^ 31
small n lt = omega (arith, lt)

wide : (n : ℕ) → n < 4194304 → constant_number n < 2 ^ 64
wide n lt = omega (arith, lt)

-- it declares the name, or that with `__` behind it
abbrev pub IsOwn : List ℕ → Declared → Type 0
IsOwn name x = (x.name ≡ name) ⊎ (x.name ≡ longer_name name)

pub record SoundLine (text name : List ℕ) : Type 0 where
  pub line : Line text name
  pub sound : IsSound line.definition
  pub names : (x : Declared) → IsAmong (declared line.definition) x → IsOwn name x

one_name : (name : List ℕ) (y x : Declared) → y.name ≡ name → IsAmong (y ∷ []) x → IsOwn name x
one_name name y x e h = by (among_cases y x [] h)
  where
    by : (x ≡ y) ⊎ IsAmong [] x → IsOwn name x
    by (inl same) = inl (ap (λ z. z.name) same ∙ e)
    by (inr k) = absurd (among_none x k)

two_names : (name : List ℕ) (y z x : Declared) → y.name ≡ name → z.name ≡ longer_name name
    → IsAmong (y ∷ z ∷ []) x
    → IsOwn name x
two_names name y z x e f h = by (among_cases y x (z ∷ []) h)
  where
    last : (x ≡ z) ⊎ IsAmong [] x → IsOwn name x
    last (inl same) = inr (ap (λ w. w.name) same ∙ f)
    last (inr k) = absurd (among_none x k)

    by : (x ≡ y) ⊎ IsAmong (z ∷ []) x → IsOwn name x
    by (inl same) = inl (ap (λ w. w.name) same ∙ e)
    by (inr k) = last (among_cases z x [] k)

sound_line : (text name : List ℕ) (d : Definition) → LineOf text name d → IsSound d
    → ((x : Declared) → IsAmong (declared d) x → IsOwn name x) → SoundLine text name
sound_line text name d l sound names = record {
  line = l.line;
  sound = subst IsSound (sym l.is) sound;
  names = subst (λ e. (x : Declared) → IsAmong (declared e) x → IsOwn name x) (sym l.is) names;
}

pub typedef_line : (b : Basic) (text name : List ℕ) → LineOf text name (typedef_of b name)
    → SoundLine text name
typedef_line b text name l =
    sound_line text name (typedef_of b name) l (typedef_sound b name) (names b)
  where
    names : (b : Basic) (x : Declared) → IsAmong (declared (typedef_of b name)) x → IsOwn name x
    names basics.Int x k = one_name name _ x refl k
    names b x k = one_name name _ x refl k

pub opaque_line : SoundLine (codes "typedef opaque netobj<1024>;\n") (codes "netobj")
opaque_line =
    sound_line _ (codes "netobj") netobj_of netobj_line netobj_sound
    (λ x k. one_name (codes "netobj") _ x refl k)

-- the definition of a name with a number below 2^22
pub foreign_sound : (number : ℕ) (name : List ℕ) (usage : Use) (tag : Option Tag) → IsName name
    → number < 4194304 → SoundLine (foreign_text number name usage tag) name
foreign_sound number name usage (Some tags.Struct) h few =
    sound_line _ name (struct_of name) (struct_line name h) (struct_sound name)
    (λ x k. one_name name _ x refl k)
foreign_sound number name usage (Some tags.Union) h few =
    sound_line _ name (union_of name) (union_line name h) (union_sound name) (λ x k. one_name name _ x refl k)
foreign_sound number name usage (Some tags.Enum) h few =
    let n = constant_number number in
    sound_line _ name (enum_of name n) (enum_line name n h (number_some number) (wide number few))
    (enum_sound name n (number_some number) (small number few)) (λ x k. two_names name _ _ x refl refl k)
foreign_sound number name uses.Value None h few =
    let n = constant_number number in
    sound_line _ name (const_of name n) (const_line name n h (number_some number) (wide number few))
    (const_sound name n (number_some number) (wide number few)) (λ x k. one_name name _ x refl k)
foreign_sound number name uses.ByValue None h few = typedef_line basics.Int _ name (int_line name h)
foreign_sound number name uses.Link None h few = typedef_line basics.Int _ name (int_line name h)

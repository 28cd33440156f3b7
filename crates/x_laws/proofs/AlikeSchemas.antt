-- Two schemas of the same definitions have alike types of the same names.
use Rattle.std.proofs.Common.{◌≡◌, ℕ, ℤ, Bool, true, false, is_some, cond, List, [], ◌∷◌, ◌++◌, Option, None}
use Rattle.std.proofs.Common.{Some, refl, sym, ap, subst, ◌∙◌}
use Rattle.std.specs.Prelude.{nat_eq, option_and_then, if◌then◌else◌}
use Rattle.std.specs.Map.{lookup}
use Rattle.std.specs.Option.{option_map_or}
use Rattle.std.specs.Str.{bytes_eq}
use Rattle.x_trees.specs.Tree as tree
use Rattle.x_trees.specs.declared.trees.declaration.Basic.{Basic}
use Rattle.x_trees.specs.declared.trees.declaration.Basic.TheVariants as basics
use Rattle.x_trees.specs.declared.names.mention.Use.TheVariants as uses
use Rattle.x_schema.specs.Schema.{Schema, form_at, name_at, target_at}
use Rattle.x_schema.specs.SchemaOf.{Types, Numbers, IsDeclared, IsType, IsBody, AreFields, AreArms, IsDefault}
use Rattle.x_schema.specs.SchemaOf.{IsArmOf, AreNamed, AreTypesOf, basic_form, opaque_form, enum_form}
use Rattle.x_schema.specs.SchemaOf.{union_form, limit_in, size_in, place_in, place_named, if_legal, word_by}
use Rattle.x_schema.specs.SchemaOf.{case_word, number_in, with_first, with_word, with_cases, with_types}
use Rattle.x_schema.specs.SchemaOf.{typedefs}
use Rattle.x_schema.specs.declared.form.Arm.{Arm}
use Rattle.x_schema.specs.declared.form.Arm.TheVariants as arms
use Rattle.x_schema.specs.declared.form.Field.{Field}
use Rattle.x_schema.specs.declared.form.Form.{Form}
use Rattle.x_schema.specs.declared.form.Form.TheVariants as forms
use Rattle.x_schema.specs.declared.schema.NamedType.{NamedType}
use Rattle.x_laws.proofs.Alike.{AlikeForm, same, enums, repeated, counted, linked, structs, unions}
use Rattle.x_laws.proofs.Alike.{AlikeTarget, direct, by_name, AlikeFields, no_field, one_field, AlikeArm}
use Rattle.x_laws.proofs.Alike.{void_arm, field_arm, AlikeArms, no_arm, one_arm, AlikeCases, no_case}
use Rattle.x_laws.proofs.Alike.{one_case, Alike, AreAlike, IsLeaf, placed, moved, names_told, same_legal}

-- ---- forms

leaf_basic : (b : Basic) → IsLeaf (basic_form b)
leaf_basic basics.Int = tt
leaf_basic basics.UnsignedInt = tt
leaf_basic basics.Long = tt
leaf_basic basics.UnsignedLong = tt
leaf_basic basics.Hyper = tt
leaf_basic basics.UnsignedHyper = tt
leaf_basic basics.Unsigned = tt
leaf_basic basics.Float = tt
leaf_basic basics.Double = tt
leaf_basic basics.Quadruple = tt
leaf_basic basics.Bool = tt

leaf_opaque : (numbers : Numbers) (length : tree.Length) → IsLeaf (opaque_form numbers length)
leaf_opaque numbers (tree.Fixed v) = tt
leaf_opaque numbers (tree.Variable most) = tt

pub leaf_placed : (s t : Schema) (p q : ℕ) (f : Form) → IsLeaf f → form_at s p ≡ f → form_at t q ≡ f
    → Alike s t p q
leaf_placed s t p q f leaf e k = placed s t p q f f e k (same f leaf)

pub basic_placed : (s t : Schema) (p q : ℕ) (b : Basic) → form_at s p ≡ basic_form b
    → form_at t q ≡ basic_form b → Alike s t p q
basic_placed s t p q b e k = leaf_placed s t p q (basic_form b) (leaf_basic b) e k

enum_alike : (s t : Schema) (a b : List (ℕ × ℕ)) → names_told s a ≡ names_told t b
    → AlikeForm s t (enum_form a) (enum_form b)
enum_alike s t [] [] e = same forms.Void tt
enum_alike s t [] (y ∷ ys) e = absurd cc
enum_alike s t (x ∷ xs) [] e = absurd cc
enum_alike s t (x ∷ xs) (y ∷ ys) e = enums (x ∷ xs) (y ∷ ys) e

union_alike : (s t : Schema) (d e : Field) (cs ks : List (ℕ × Arm)) (x y : Option Arm)
    → name_at s d.name ≡ name_at t e.name
    → Alike s t d.form e.form → AlikeCases s t cs ks → AlikeArms s t x y
    → AlikeForm s t (union_form d (record { cases = cs; default = x }))
    (union_form e (record { cases = ks; default = y }))
union_alike s t d e cs ks x y n h no_case o = same forms.Void tt
union_alike s t d e cs ks x y n h (one_case w a b cs' ks' i rest) o =
    unions d e (record { cases = (w, a) ∷ cs'; default = x })
    (record { cases = (w, b) ∷ ks'; default = y }) n h (one_case w a b cs' ks' i rest) o

-- ---- words of cases

same_word_by : (s t : Schema) (f g : Form) (z : ℤ) → AlikeForm s t f g → word_by f z ≡ word_by g z
same_word_by s t f g z (same x leaf) = refl
same_word_by s t f g z (enums a b e) = refl
same_word_by s t f g z (repeated i j n h) = refl
same_word_by s t f g z (counted i j n h) = refl
same_word_by s t f g z (linked i j h) = refl
same_word_by s t f g z (structs a b h) = refl
same_word_by s t f g z (unions d e c k n h cs o) = refl

same_case_word : (s t : Schema) (numbers : Numbers) (f g : Form) (v : tree.Value) → AlikeForm s t f g
    → case_word numbers f v ≡ case_word numbers g v
same_case_word s t numbers f g v h =
    let word : word_by f ≡ word_by g = λ i z. same_word_by s t f g z h i in
    let legal : if_legal f ≡ if_legal g = λ i w. if same_legal s t f g w h i then Some w else None in
    λ i. option_and_then (legal i) (option_and_then (word i) (number_in numbers v))

-- ---- cases behind others

same_found : (s t : Schema) (w : ℕ) (cs ks : List (ℕ × Arm)) → AlikeCases s t cs ks
    → is_some (lookup (nat_eq w) cs) ≡ is_some (lookup (nat_eq w) ks)
same_found s t w cs ks no_case = refl
same_found s t w cs ks (one_case v a b cs' ks' h rest) = by (nat_eq w v) (same_found s t w cs' ks' rest)
  where
    by : (x : Bool) → is_some (lookup (nat_eq w) cs') ≡ is_some (lookup (nat_eq w) ks')
        → is_some (cond x (Some a) (lookup (nat_eq w) cs')) ≡ is_some
        (cond x (Some b) (lookup (nat_eq w) ks'))
    by true k = refl
    by false k = k

case_behind : (s t : Schema) (w : ℕ) (a b : Arm) (cs ks : List (ℕ × Arm)) → AlikeCases s t cs ks
    → AlikeArm s t a b
    → AlikeCases s t (cs ++ (w, a) ∷ []) (ks ++ (w, b) ∷ [])
case_behind s t w a b cs ks no_case h = one_case w a b [] [] h no_case
case_behind s t w a b cs ks (one_case v x y cs' ks' i rest) h = one_case v x y (cs' ++ (w, a) ∷ [])
    (ks' ++ (w, b) ∷ []) i (case_behind s t w a b cs' ks' rest h)

first_alike : (s t : Schema) (w : ℕ) (a b : Arm) (cs ks : List (ℕ × Arm)) → AlikeCases s t cs ks
    → AlikeArm s t a b
    → AlikeCases s t (with_first nat_eq cs w a) (with_first nat_eq ks w b)
first_alike s t w a b cs ks h k = by (is_some (lookup (nat_eq w) cs)) (is_some (lookup (nat_eq w) ks))
    (same_found s t w cs ks h)
  where
    by : (x y : Bool) → x ≡ y → AlikeCases s t (if x then cs else cs ++ (w, a) ∷ [])
        (if y then ks else ks ++ (w, b) ∷ [])
    by true true e = h
    by true false e = absurd cc
    by false true e = absurd cc
    by false false e = case_behind s t w a b cs ks h k

word_alike : (s t : Schema) (w : Option ℕ) (a b : Arm) (cs ks : List (ℕ × Arm)) → AlikeCases s t cs ks
    → AlikeArm s t a b
    → AlikeCases s t (with_word cs w a) (with_word ks w b)
word_alike s t None a b cs ks h k = h
word_alike s t (Some w) a b cs ks h k = first_alike s t w a b cs ks h k

cases_alike : (s t : Schema) (numbers : Numbers) (f g : Form) (vs : List tree.Value) (a b : Arm)
    (cs ks : List (ℕ × Arm)) → AlikeForm s t f g
    → AlikeCases s t cs ks → AlikeArm s t a b → AlikeCases s t (with_cases numbers f cs vs a)
    (with_cases numbers g ks vs b)
cases_alike s t numbers f g [] a b cs ks i h k = h
cases_alike s t numbers f g (v ∷ vs) a b cs ks i h k =
    let one : AlikeCases s t (with_word cs (case_word numbers f v) a)
    (with_word ks (case_word numbers g v) b) =
    subst (λ w. AlikeCases s t (with_word cs (case_word numbers f v) a) (with_word ks w b))
    (same_case_word s t numbers f g v i)
    (word_alike s t (case_word numbers f v) a b cs ks h k) in
    cases_alike s t numbers f g vs a b (with_word cs (case_word numbers f v) a)
    (with_word ks (case_word numbers g v) b) i one k

-- ---- declarations

arm_of : (s t : Schema) (d : tree.Declaration) (a b : Arm) → IsArmOf s d a → IsArmOf t d b
    → Alike s t (place_in a) (place_in b) → AlikeArm s t a b
arm_of s t tree.Void a b h k x = subst (λ y. AlikeArm s t y b) (sym h)
    (subst (λ y. AlikeArm s t arms.Void y) (sym k) void_arm)
arm_of s t (tree.Of type name shape) arms.Void b h k x = absurd h
arm_of s t (tree.Of type name shape) (arms.Of f) arms.Void h k x = absurd k
arm_of s t (tree.Of type name shape) (arms.Of f) (arms.Of g) h k x = field_arm f g (h ∙ sym k) x
arm_of s t (tree.Opaque name length) arms.Void b h k x = absurd h
arm_of s t (tree.Opaque name length) (arms.Of f) arms.Void h k x = absurd k
arm_of s t (tree.Opaque name length) (arms.Of f) (arms.Of g) h k x = field_arm f g (h ∙ sym k) x
arm_of s t (tree.String name most) arms.Void b h k x = absurd h
arm_of s t (tree.String name most) (arms.Of f) arms.Void h k x = absurd k
arm_of s t (tree.String name most) (arms.Of f) (arms.Of g) h k x = field_arm f g (h ∙ sym k) x

-- the types that are known of the one are alike those that are known of the other
abbrev pub AreKnownAlike : (s t : Schema) → Types → Types → Type 0
AreKnownAlike s t A B = AreAlike s t (place_named A) (place_named B)

mutual
  pub declared_alike : (s t : Schema) (n : Numbers) (A B : Types) (d : tree.Declaration) (p q : ℕ)
      → AreKnownAlike s t A B
      → IsDeclared s (record { numbers = n; types = A }) d p
      → IsDeclared t (record { numbers = n; types = B }) d q → Alike s t p q
  declared_alike s t n A B tree.Void p q w h k = leaf_placed s t p q forms.Void tt h k
  declared_alike s t n A B (tree.Of type name tree.Plain) p q w h k = moved s t p q h.0 k.0 h.1 k.1
      (held_alike s t n A B type h.0 k.0 w h.2 k.2)
  declared_alike s t n A B (tree.Of type name tree.Optional) p q w h k =
      placed s t p q (forms.Optional h.0) (forms.Optional k.0) h.1 k.1
      (linked h.0 k.0 (linked_alike s t n A B type h.0 k.0 w h.2 k.2))
  declared_alike s t n A B (tree.Of type name (tree.Array (tree.Fixed size))) p q w h k =
      placed s t p q (forms.FixedArray h.0 (size_in n size)) (forms.FixedArray k.0 (size_in n size)) h.1 k.1
      (repeated h.0 k.0 (size_in n size) (held_alike s t n A B type h.0 k.0 w h.2 k.2))
  declared_alike s t n A B (tree.Of type name (tree.Array (tree.Variable most))) p q w h k =
      placed s t p q (forms.Array h.0 (limit_in n most)) (forms.Array k.0 (limit_in n most)) h.1 k.1
      (counted h.0 k.0 (limit_in n most) (linked_alike s t n A B type h.0 k.0 w h.2 k.2))
  declared_alike s t n A B (tree.Opaque name length) p q w h k = leaf_placed s t p q (opaque_form n length)
      (leaf_opaque n length) h k
  declared_alike s t n A B (tree.String name most) p q w h k = leaf_placed s t p q
      (forms.String (limit_in n most)) tt h k

  pub held_alike : (s t : Schema) (n : Numbers) (A B : Types) (type : tree.DataType) (p q : ℕ)
      → AreKnownAlike s t A B
      → IsType s (record { numbers = n; types = A }) type uses.ByValue p
      → IsType t (record { numbers = n; types = B }) type uses.ByValue q → Alike s t p q
  held_alike s t n A B (tree.Simple b) p q w h k = basic_placed s t p q b h k
  held_alike s t n A B (tree.Name name) p q w h k = moved s t p q (place_named A name)
      (place_named B name) h k (w name)
  held_alike s t n A B (tree.Tagged tag name) p q w h k = moved s t p q (place_named A name)
      (place_named B name) h k (w name)
  held_alike s t n A B (tree.Inline body) p q w h k = body_alike s t n A B body p q w h k

  pub linked_alike : (s t : Schema) (n : Numbers) (A B : Types) (type : tree.DataType) (i j : ℕ)
      → AreKnownAlike s t A B
      → IsType s (record { numbers = n; types = A }) type uses.Link i
      → IsType t (record { numbers = n; types = B }) type uses.Link j
      → AlikeTarget s t (target_at s i) (target_at t j)
  linked_alike s t n A B (tree.Simple b) i j w h k = direct (target_at s i) (target_at t j)
      (basic_placed s t (target_at s i) (target_at t j) b h k)
  linked_alike s t n A B (tree.Name name) i j w h k = by_name name (target_at s i) (target_at t j) h k
  linked_alike s t n A B (tree.Tagged tag name) i j w h k = by_name name (target_at s i) (target_at t j) h k
  linked_alike s t n A B (tree.Inline body) i j w h k = direct (target_at s i) (target_at t j)
      (body_alike s t n A B body (target_at s i) (target_at t j) w h k)

  pub body_alike : (s t : Schema) (n : Numbers) (A B : Types) (body : tree.Body) (p q : ℕ)
      → AreKnownAlike s t A B
      → IsBody s (record { numbers = n; types = A }) body p
      → IsBody t (record { numbers = n; types = B }) body q → Alike s t p q
  body_alike s t n A B (tree.Enum es) p q w h k =
      placed s t p q (enum_form h.names) (enum_form k.names) h.form k.form
      (enum_alike s t h.names k.names (h.first ∙ sym k.first))
  body_alike s t n A B (tree.Struct ds) p q w h k =
      placed s t p q (forms.Struct h.0) (forms.Struct k.0) h.1 k.1
      (structs h.0 k.0 (fields_alike s t n A B ds h.0.items k.0.items w h.2 k.2))
  body_alike s t n A B (tree.Union d as' other) p q w h k =
      let on = declared_alike s t n A B d h.0.form k.0.form w h.4 k.4 in
      placed s t p q (union_form h.0 h.1) (union_form k.0 k.1) h.2 k.2
      (union_alike s t h.0 k.0 h.1.cases k.1.cases h.1.default k.1.default (h.3 ∙ sym k.3) on
      (arms_alike s t n A B as' (form_at s h.0.form)
      (form_at t k.0.form) [] [] h.1.cases k.1.cases w on no_case h.5 k.5)
      (default_alike s t n A B other h.1.default k.1.default w h.6 k.6))

  pub fields_alike : (s t : Schema) (n : Numbers) (A B : Types) (ds : tree.Declarations) (fs gs : List Field)
      → AreKnownAlike s t A B
      → AreFields s (record { numbers = n; types = A }) ds fs
      → AreFields t (record { numbers = n; types = B }) ds gs → AlikeFields s t fs gs
  fields_alike s t n A B tree.none fs gs w h k = subst (λ l. AlikeFields s t l gs) (sym h)
      (subst (λ l. AlikeFields s t [] l) (sym k) no_field)
  fields_alike s t n A B (tree.more d ds) fs gs w h k =
      let one = one_field h.0 k.0 h.1 k.1 (h.3 ∙ sym k.3)
      (declared_alike s t n A B d h.0.form k.0.form w h.4 k.4)
      (fields_alike s t n A B ds h.1 k.1 w h.5 k.5) in
      subst (λ l. AlikeFields s t l gs) (sym h.2) (subst (λ l. AlikeFields s t (h.0 ∷ h.1) l) (sym k.2) one)

  pub arms_alike : (s t : Schema) (n : Numbers) (A B : Types) (as' : tree.Arms) (f g : Form)
      (before before' cs ks : List (ℕ × Arm)) → AreKnownAlike s t A B
      → AlikeForm s t f g → AlikeCases s t before before'
      → AreArms s (record { numbers = n; types = A }) f as' before cs
      → AreArms t (record { numbers = n; types = B }) g as' before' ks → AlikeCases s t cs ks
  arms_alike s t n A B tree.no_arm f g before before' cs ks w on b h k =
      subst (λ l. AlikeCases s t l ks) (sym h) (subst (λ l. AlikeCases s t before l) (sym k) b)
  arms_alike s t n A B (tree.arm values d rest) f g before before' cs ks w on b h k =
      let one = arm_of s t d h.0 k.0 h.1 k.1 (declared_alike s t n A B d (place_in h.0)
      (place_in k.0) w h.2 k.2) in
      arms_alike s t n A B rest f g (with_cases n f before values h.0)
      (with_cases n g before' values k.0) cs ks w on
      (cases_alike s t n f g values h.0 k.0 before before' on b one) h.3 k.3

  pub default_alike : (s t : Schema) (n : Numbers) (A B : Types) (other : tree.Default) (x y : Option Arm)
      → AreKnownAlike s t A B
      → IsDefault s (record { numbers = n; types = A }) other x
      → IsDefault t (record { numbers = n; types = B }) other y → AlikeArms s t x y
  default_alike s t n A B tree.no_default x y w h k = subst (λ o. AlikeArms s t o y) (sym h)
      (subst (λ o. AlikeArms s t None o) (sym k) no_arm)
  default_alike s t n A B (tree.default d) x y w h k =
      let one = one_arm h.0 k.0 (arm_of s t d h.0 k.0 h.2 k.2
      (declared_alike s t n A B d (place_in h.0) (place_in k.0) w h.3 k.3)) in
      subst (λ o. AlikeArms s t o y) (sym h.1) (subst (λ o. AlikeArms s t (Some h.0) o) (sym k.1) one)

-- ---- tables of types

pub record AlikeNamed (s t : Schema) (a b : NamedType) : Type 0 where
  pub name : name_at s a.name ≡ name_at t b.name
  pub form : Alike s t a.form b.form

abbrev pub AllNamedAlike : (s t : Schema) → List NamedType → List NamedType → Type 0
AllNamedAlike s t [] [] = Unit {0}
AllNamedAlike s t [] (b ∷ bs) = ⊥
AllNamedAlike s t (a ∷ as') [] = ⊥
AllNamedAlike s t (a ∷ as') (b ∷ bs) = AlikeNamed s t a b × AllNamedAlike s t as' bs

abbrev pub AlikeTables : (s t : Schema) → Types → Types → Type 0
AlikeTables s t [] [] = Unit {0}
AlikeTables s t [] (y ∷ ys) = ⊥
AlikeTables s t (x ∷ xs) [] = ⊥
AlikeTables s t (x ∷ xs) (y ∷ ys) = (x.0 ≡ y.0) × AlikeNamed s t x.1 y.1 × AlikeTables s t xs ys

abbrev pub AlikeFound : (s t : Schema) → Option NamedType → Option NamedType → Type 0
AlikeFound s t None None = Unit {0}
AlikeFound s t None (Some b) = ⊥
AlikeFound s t (Some a) None = ⊥
AlikeFound s t (Some a) (Some b) = AlikeNamed s t a b

pub found_alike : (s t : Schema) (name : List ℕ) (A B : Types) → AlikeTables s t A B
    → AlikeFound s t (lookup (bytes_eq name) A) (lookup (bytes_eq name) B)
found_alike s t name [] [] h = tt
found_alike s t name [] (y ∷ ys) h = absurd h
found_alike s t name (x ∷ xs) [] h = absurd h
found_alike s t name (x ∷ xs) (y ∷ ys) h = by (bytes_eq name x.0) (bytes_eq name y.0)
    (ap (bytes_eq name) h.0) (found_alike s t name xs ys h.2)
  where
    by : (a b : Bool) → a ≡ b → AlikeFound s t (lookup (bytes_eq name) xs) (lookup (bytes_eq name) ys)
        → AlikeFound s t (cond a (Some x.1) (lookup (bytes_eq name) xs))
        (cond b (Some y.1) (lookup (bytes_eq name) ys))
    by true true e rest = h.1
    by true false e rest = absurd cc
    by false true e rest = absurd cc
    by false false e rest = rest

place_alike : (s t : Schema) (x y : Option NamedType) → Alike s t 0 0 → AlikeFound s t x y
    → Alike s t (option_map_or (λ a. a.form) x 0) (option_map_or (λ a. a.form) y 0)
place_alike s t None None void h = void
place_alike s t None (Some b) void h = absurd h
place_alike s t (Some a) None void h = absurd h
place_alike s t (Some a) (Some b) void h = h.form

pub known_alike : (s t : Schema) (A B : Types) → Alike s t 0 0 → AlikeTables s t A B → AreKnownAlike s t A B
known_alike s t A B void h name = place_alike s t (lookup (bytes_eq name) A) (lookup (bytes_eq name) B) void
    (found_alike s t name A B h)

same_there : (s t : Schema) (x y : Option NamedType) → AlikeFound s t x y → is_some x ≡ is_some y
same_there s t None None h = refl
same_there s t None (Some b) h = absurd h
same_there s t (Some a) None h = absurd h
same_there s t (Some a) (Some b) h = refl

table_behind : (s t : Schema) (A B : Types) (a b : NamedType) → AlikeTables s t A B → AlikeNamed s t a b
    → AlikeTables s t (A ++ (name_at s a.name, a) ∷ []) (B ++ (name_at t b.name, b) ∷ [])
table_behind s t [] [] a b h k = (k.name, k, tt)
table_behind s t [] (y ∷ ys) a b h k = absurd h
table_behind s t (x ∷ xs) [] a b h k = absurd h
table_behind s t (x ∷ xs) (y ∷ ys) a b h k = (h.0, h.1, table_behind s t xs ys a b h.2 k)

table_first : (s t : Schema) (A B : Types) (a b : NamedType) → AlikeTables s t A B → AlikeNamed s t a b
    → AlikeTables s t (with_first bytes_eq A (name_at s a.name) a)
    (with_first bytes_eq B (name_at t b.name) b)
table_first s t A B a b h k =
    let there = same_there s t (lookup (bytes_eq (name_at s a.name)) A)
    (lookup (bytes_eq (name_at s a.name)) B) (found_alike s t (name_at s a.name) A B h) in
    let here = ap (λ n. is_some (lookup (bytes_eq n) B)) k.name in
    by (is_some (lookup (bytes_eq (name_at s a.name)) A)) (is_some (lookup (bytes_eq (name_at t b.name)) B))
    (there ∙ here)
  where
    by : (x y : Bool) → x ≡ y → AlikeTables s t (if x then A else A ++ (name_at s a.name, a) ∷ [])
        (if y then B else B ++ (name_at t b.name, b) ∷ [])
    by true true e = h
    by true false e = absurd cc
    by false true e = absurd cc
    by false false e = table_behind s t A B a b h k

tables_more : (s t : Schema) (A B : Types) (xs ys : List NamedType) → AlikeTables s t A B
    → AllNamedAlike s t xs ys → AlikeTables s t (with_types s A xs) (with_types t B ys)
tables_more s t A B [] [] h k = h
tables_more s t A B [] (y ∷ ys) h k = absurd k
tables_more s t A B (x ∷ xs) [] h k = absurd k
tables_more s t A B (x ∷ xs) (y ∷ ys) h k =
    tables_more s t (with_first bytes_eq A (name_at s x.name) x)
    (with_first bytes_eq B (name_at t y.name) y) xs ys (table_first s t A B x y h k.0) k.1

named_alike : (s t : Schema) (n : Numbers) (A B : Types) (ds : List tree.Declaration)
    (xs ys : List NamedType) → AreKnownAlike s t A B
    → AreNamed s (record { numbers = n; types = A }) ds xs
    → AreNamed t (record { numbers = n; types = B }) ds ys → AllNamedAlike s t xs ys
named_alike s t n A B [] xs ys w h k = subst (λ l. AllNamedAlike s t l ys) (sym h)
    (subst (λ l. AllNamedAlike s t [] l) (sym k) tt)
named_alike s t n A B (d ∷ ds) xs ys w h k =
    let one : AlikeNamed s t h.0 k.0 = record {
      name = h.3
          ∙ sym k.3;
      form = declared_alike s t n A B d h.0.form k.0.form w h.4 k.4;
    } in
    let rest = named_alike s t n A B ds h.1 k.1 w h.5 k.5 in
    subst (λ l. AllNamedAlike s t l ys) (sym h.2)
    (subst (λ l. AllNamedAlike s t (h.0 ∷ h.1) l) (sym k.2) (one, rest))

pub types_alike : (s t : Schema) (n : Numbers) (A B : Types) (ds : List (Option tree.Definition))
    → Alike s t 0 0 → AlikeTables s t A B
    → AreTypesOf s n A ds → AreTypesOf t n B ds → AlikeTables s t s.types t.types
types_alike s t n A B [] void a h k = subst (λ l. AlikeTables s t l t.types) (sym h)
    (subst (λ l. AlikeTables s t A l) (sym k) a)
types_alike s t n A B (d ∷ ds) void a h k =
    let found = named_alike s t n A B (typedefs d) h.0 k.0 (known_alike s t A B void a) h.1 k.1 in
    types_alike s t n (with_types s A h.0) (with_types t B k.0) ds void
    (tables_more s t A B h.0 k.0 a found) h.2 k.2

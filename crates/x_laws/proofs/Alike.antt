-- Forms of two schemas by which values are read and shown in the same way.
use Rattle.std.proofs.Common.{◌≡◌, ℕ, Bool, true, false, is_some, cond, List, [], ◌∷◌, map, Option, None}
use Rattle.std.proofs.Common.{Some, refl, sym, ap, subst, ◌∙◌}
use Rattle.std.specs.Prelude.{nat_eq, option_map}
use Rattle.std.specs.Map.{lookup}
use Rattle.std.specs.Global.{Global}
use Rattle.std.specs.declared.vec.Vec.{Vec}
use Rattle.x_schema.specs.Choices.{Choice, arm_for, name_for, or_default}
use Rattle.x_schema.specs.Schema.{Schema, form_at, name_at, target_at}
use Rattle.x_schema.specs.SchemaOf.{place_named}
use Rattle.x_schema.specs.Sound.{is_legal}
use Rattle.x_schema.specs.declared.form.Arm.{Arm}
use Rattle.x_schema.specs.declared.form.Arm.TheVariants as arms
use Rattle.x_schema.specs.declared.form.Field.{Field}
use Rattle.x_schema.specs.declared.form.Form.{Form}
use Rattle.x_schema.specs.declared.form.Form.TheVariants as forms

-- the names of an enum's numbers, themselves
abbrev pub names_told : Schema → List (ℕ × ℕ) → List (ℕ × List ℕ)
names_told s names = map (λ e. (e.0, name_at s e.1)) names

-- a form without parts
abbrev pub IsLeaf : Form → Type 0
IsLeaf forms.Void = Unit {0}
IsLeaf forms.Int = Unit {0}
IsLeaf forms.UnsignedInt = Unit {0}
IsLeaf forms.Hyper = Unit {0}
IsLeaf forms.UnsignedHyper = Unit {0}
IsLeaf forms.Float = Unit {0}
IsLeaf forms.Double = Unit {0}
IsLeaf forms.Quadruple = Unit {0}
IsLeaf forms.Bool = Unit {0}
IsLeaf (forms.FixedOpaque n) = Unit {0}
IsLeaf (forms.Opaque most) = Unit {0}
IsLeaf (forms.String most) = Unit {0}
IsLeaf _ = ⊥

mutual
  pub data AlikeForm (s t : Schema) : Form → Form → Type 0 where
    same : (f : Form) → IsLeaf f → AlikeForm s t f f
    enums : (a b : List (ℕ × ℕ)) → names_told s a ≡ names_told t b
        → AlikeForm s t (forms.Enum a) (forms.Enum b)
    repeated : (i j n : ℕ) → AlikeForm s t (form_at s i) (form_at t j)
        → AlikeForm s t (forms.FixedArray i n) (forms.FixedArray j n)
    counted : (i j n : ℕ) → AlikeTarget s t (target_at s i) (target_at t j)
        → AlikeForm s t (forms.Array i n) (forms.Array j n)
    linked : (i j : ℕ) → AlikeTarget s t (target_at s i) (target_at t j)
        → AlikeForm s t (forms.Optional i) (forms.Optional j)
    structs : (a b : Vec Field Global) → AlikeFields s t a.items b.items
        → AlikeForm s t (forms.Struct a) (forms.Struct b)
    unions : (d e : Field) (c k : Choice) → name_at s d.name ≡ name_at t e.name
        → AlikeForm s t (form_at s d.form) (form_at t e.form)
        → AlikeCases s t c.cases k.cases → AlikeArms s t c.default k.default
        → AlikeForm s t (forms.Union d c) (forms.Union e k)

  -- what links lead to: forms alike, or the types of one name
  pub data AlikeTarget (s t : Schema) : ℕ → ℕ → Type 0 where
    direct : (p q : ℕ) → AlikeForm s t (form_at s p) (form_at t q) → AlikeTarget s t p q
    by_name : (name : List ℕ) (p q : ℕ) → p ≡ place_named s.types name → q ≡ place_named t.types name
        → AlikeTarget s t p q

  pub data AlikeFields (s t : Schema) : List Field → List Field → Type 0 where
    no_field : AlikeFields s t [] []
    one_field : (f g : Field) (fs gs : List Field) → name_at s f.name ≡ name_at t g.name
        → AlikeForm s t (form_at s f.form) (form_at t g.form)
        → AlikeFields s t fs gs → AlikeFields s t (f ∷ fs) (g ∷ gs)

  pub data AlikeArm (s t : Schema) : Arm → Arm → Type 0 where
    void_arm : AlikeArm s t arms.Void arms.Void
    field_arm : (f g : Field) → name_at s f.name ≡ name_at t g.name
        → AlikeForm s t (form_at s f.form) (form_at t g.form) → AlikeArm s t (arms.Of f) (arms.Of g)

  pub data AlikeArms (s t : Schema) : Option Arm → Option Arm → Type 0 where
    no_arm : AlikeArms s t None None
    one_arm : (a b : Arm) → AlikeArm s t a b → AlikeArms s t (Some a) (Some b)

  pub data AlikeCases (s t : Schema) : List (ℕ × Arm) → List (ℕ × Arm) → Type 0 where
    no_case : AlikeCases s t [] []
    one_case : (w : ℕ) (a b : Arm) (cs ks : List (ℕ × Arm)) → AlikeArm s t a b → AlikeCases s t cs ks
        → AlikeCases s t ((w, a) ∷ cs) ((w, b) ∷ ks)

-- the forms at two places are alike
abbrev pub Alike : Schema → Schema → ℕ → ℕ → Type 0
Alike s t p q = AlikeForm s t (form_at s p) (form_at t q)

pub placed : (s t : Schema) (p q : ℕ) (f g : Form) → form_at s p ≡ f → form_at t q ≡ g → AlikeForm s t f g
    → Alike s t p q
placed s t p q f g e k h = subst (λ x. AlikeForm s t x (form_at t q)) (sym e)
    (subst (λ y. AlikeForm s t f y) (sym k) h)

pub moved : (s t : Schema) (p q a b : ℕ) → p ≡ a → q ≡ b → Alike s t a b → Alike s t p q
moved s t p q a b e k h = subst (λ x. Alike s t x q) (sym e) (subst (λ y. Alike s t a y) (sym k) h)

-- types of two tables that have the same names are alike
abbrev pub AreAlike : (s t : Schema) → (List ℕ → ℕ) → (List ℕ → ℕ) → Type 0
AreAlike s t place place' = (name : List ℕ) → Alike s t (place name) (place' name)

-- ---- names of numbers

found_told : (s : Schema) (w : ℕ) (names : List (ℕ × ℕ))
    → option_map (name_at s) (name_for names w) ≡ lookup (nat_eq w) (names_told s names)
found_told s w [] = refl
found_told s w (e ∷ es) = by (nat_eq w e.0) (found_told s w es)
  where
    by : (b : Bool) → option_map (name_at s) (name_for es w) ≡ lookup (nat_eq w) (names_told s es)
        → option_map (name_at s) (cond b (Some e.1) (name_for es w)) ≡ cond b (Some (name_at s e.1))
        (lookup (nat_eq w) (names_told s es))
    by true k = refl
    by false k = k

-- a number has the same name in enums that are alike
pub same_name : (s t : Schema) (a b : List (ℕ × ℕ)) (w : ℕ) → names_told s a ≡ names_told t b
    → option_map (name_at s) (name_for a w) ≡ option_map (name_at t) (name_for b w)
same_name s t a b w e = found_told s w a ∙ ap (lookup (nat_eq w)) e ∙ sym (found_told t w b)

mapped_some : {A B : Type 0} (f : A → B) (o : Option A) → is_some (option_map f o) ≡ is_some o
mapped_some f None = refl
mapped_some f (Some x) = refl

pub same_named : (s t : Schema) (a b : List (ℕ × ℕ)) (w : ℕ) → names_told s a ≡ names_told t b
    → is_some (name_for a w) ≡ is_some (name_for b w)
same_named s t a b w e = sym (mapped_some (name_at s) (name_for a w)) ∙ ap is_some (same_name s t a b w e)
    ∙ mapped_some (name_at t) (name_for b w)

-- a number is one of a discriminant's in both or in neither
pub same_legal : (s t : Schema) (f g : Form) (w : ℕ) → AlikeForm s t f g → is_legal f w ≡ is_legal g w
same_legal s t f g w (same x leaf) = refl
same_legal s t f g w (enums a b e) = same_named s t a b w e
same_legal s t f g w (repeated i j n h) = refl
same_legal s t f g w (counted i j n h) = refl
same_legal s t f g w (linked i j h) = refl
same_legal s t f g w (structs a b h) = refl
same_legal s t f g w (unions d e c k n h cs o) = refl

-- ---- what a number chooses

pub chosen_by : (s t : Schema) (w : ℕ) (cs ks : List (ℕ × Arm)) → AlikeCases s t cs ks
    → AlikeArms s t (lookup (nat_eq w) cs) (lookup (nat_eq w) ks)
chosen_by s t w cs ks no_case = no_arm
chosen_by s t w cs ks (one_case v a b cs' ks' h rest) = by (nat_eq w v) (chosen_by s t w cs' ks' rest)
  where
    by : (x : Bool) → AlikeArms s t (lookup (nat_eq w) cs') (lookup (nat_eq w) ks')
        → AlikeArms s t (cond x (Some a) (lookup (nat_eq w) cs')) (cond x (Some b) (lookup (nat_eq w) ks'))
    by true k = one_arm a b h
    by false k = k

or_default_alike : (s t : Schema) (a b d e : Option Arm) → AlikeArms s t a b → AlikeArms s t d e
    → AlikeArms s t (or_default a d) (or_default b e)
or_default_alike s t a b d e no_arm k = k
or_default_alike s t a b d e (one_arm x y h) k = one_arm x y h

pub chosen_alike : (s t : Schema) (w : ℕ) (c k : Choice) → AlikeCases s t c.cases k.cases
    → AlikeArms s t c.default k.default → AlikeArms s t (arm_for c w) (arm_for k w)
chosen_alike s t w c k cs d = or_default_alike s t (lookup (nat_eq w) c.cases)
    (lookup (nat_eq w) k.cases) c.default k.default (chosen_by s t w c.cases k.cases cs) d

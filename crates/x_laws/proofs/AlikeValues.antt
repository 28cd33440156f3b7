-- By alike forms the same values are read, shown and refused.
use Rattle.std.proofs.Common.{◌≡◌, ℕ, zero, suc, Bool, true, false, List, [], ◌∷◌, ◌++◌, length, Option, None}
use Rattle.std.proofs.Common.{Some, refl, sym, ap, subst, ◌∙◌}
use Rattle.std.specs.Prelude.{nat_eq, option_map, if◌then◌else◌}
use Rattle.std.specs.Int.{cast_signed, from_be_bytes, w32}
use Rattle.x_schema.specs.Choices.{Choice, arm_for, name_for}
use Rattle.x_schema.specs.Schema.{Schema, form_at, name_at, target_at}
use Rattle.x_schema.specs.SchemaOf.{place_named}
use Rattle.x_schema.specs.declared.form.Arm.{Arm}
use Rattle.x_schema.specs.declared.form.Field.{Field}
use Rattle.x_schema.specs.declared.form.Form.{Form}
use Rattle.x_schema.specs.declared.form.Form.TheVariants as forms
use Rattle.x_value.specs.declared.fault.ReadCode.TheVariants as codes
use Rattle.x_value.specs.Values.{Value, Values, body, group, headed, end, more}
use Rattle.x_value.specs.Layouts.{Layout, Fixed, Fields, Elements, Flag, Named, Sized, Counted, Optional}
use Rattle.x_value.specs.Layouts.{Chosen, Spot, Job, job, layout_of, layout_at, field_job, field_jobs}
use Rattle.x_value.specs.Layouts.{element_jobs, arm_jobs, members, behind, head_fault, illegal_code}
use Rattle.x_value.specs.Layouts.{arm_fault, enumerator_name, enumerator, discriminant_leaf, body_nodes}
use Rattle.x_value.specs.Layouts.{group_nodes, head_nodes}
use Rattle.x_value.specs.Readings.{IsLeafBody, IsGroup, IsHeaded, Fits, Suits, UnitRole, fault_of, body_roles}
use Rattle.x_value.specs.Readings.{roles, roles_each, nodes, nodes_each}
use Rattle.x_value.specs.Shown.{Leaf, Name, Star, Enumerator, Union, node}
use Rattle.x_laws.proofs.Alike.{AlikeForm, same, enums, repeated, counted, linked, structs, unions}
use Rattle.x_laws.proofs.Alike.{AlikeTarget, direct, by_name, AlikeFields, no_field, one_field, AlikeArm}
use Rattle.x_laws.proofs.Alike.{void_arm, field_arm, AlikeArms, no_arm, one_arm, AlikeCases, Alike, AreAlike}
use Rattle.x_laws.proofs.Alike.{IsLeaf, moved, names_told, same_name, same_named, same_legal, chosen_alike}

-- the types of every name are alike
abbrev pub AreTypesAlike : Schema → Schema → Type 0
AreTypesAlike s t = AreAlike s t (place_named s.types) (place_named t.types)

pub data AlikeLayout (s t : Schema) : Layout → Layout → Type 0 where
  bodies : (leaf : List ℕ → Leaf) (n : ℕ) → AlikeLayout s t (Fixed leaf n) (Fixed leaf n)
  flags : AlikeLayout s t Flag Flag
  named : (a b : List (ℕ × ℕ)) → names_told s a ≡ names_told t b → AlikeLayout s t (Named a) (Named b)
  sized : (leaf : List ℕ → Leaf) (most : ℕ) → AlikeLayout s t (Sized leaf most) (Sized leaf most)
  fields : (fs gs : List Field) → AlikeFields s t fs gs → AlikeLayout s t (Fields fs) (Fields gs)
  elements : (i j n : ℕ) → Alike s t i j → AlikeLayout s t (Elements i n) (Elements j n)
  counts : (i j most : ℕ) → Alike s t i j → AlikeLayout s t (Counted i most) (Counted j most)
  options : (i j : ℕ) → Alike s t i j → AlikeLayout s t (Optional i) (Optional j)
  choices : (d e : Field) (c k : Choice) → name_at s d.name ≡ name_at t e.name → Alike s t d.form e.form
      → AlikeCases s t c.cases k.cases → AlikeArms s t c.default k.default
      → AlikeLayout s t (Chosen d c) (Chosen e k)

leaf_layout : (s t : Schema) (f : Form) → IsLeaf f → AlikeLayout s t (layout_of s f) (layout_of t f)
leaf_layout s t forms.Void h = bodies _ _
leaf_layout s t forms.Int h = bodies _ _
leaf_layout s t forms.UnsignedInt h = bodies _ _
leaf_layout s t forms.Hyper h = bodies _ _
leaf_layout s t forms.UnsignedHyper h = bodies _ _
leaf_layout s t forms.Float h = bodies _ _
leaf_layout s t forms.Double h = bodies _ _
leaf_layout s t forms.Quadruple h = bodies _ _
leaf_layout s t forms.Bool h = flags
leaf_layout s t (forms.FixedOpaque n) h = bodies _ _
leaf_layout s t (forms.Opaque most) h = sized _ _
leaf_layout s t (forms.String most) h = sized _ _
leaf_layout s t _ h = absurd h

target_alike : (s t : Schema) (p q : ℕ) → AreTypesAlike s t → AlikeTarget s t p q → Alike s t p q
target_alike s t p q all (direct i j h) = h
target_alike s t p q all (by_name name i j e k) = moved s t p q (place_named s.types name)
    (place_named t.types name) e k (all name)

pub layout_alike : (s t : Schema) (f g : Form) → AreTypesAlike s t → AlikeForm s t f g
    → AlikeLayout s t (layout_of s f) (layout_of t g)
layout_alike s t f g all (same x leaf) = leaf_layout s t x leaf
layout_alike s t f g all (enums a b e) = named a b e
layout_alike s t f g all (repeated i j n h) = elements i j n h
layout_alike s t f g all (counted i j n h) = counts (target_at s i) (target_at t j) n
    (target_alike s t (target_at s i) (target_at t j) all h)
layout_alike s t f g all (linked i j h) = options (target_at s i) (target_at t j)
    (target_alike s t (target_at s i) (target_at t j) all h)
layout_alike s t f g all (structs a b h) = fields a.items b.items h
layout_alike s t f g all (unions d e c k n h cs o) = choices d e c k n h cs o

-- ---- what stands in values

abbrev pub AlikeJob : (s t : Schema) → Job → Job → Type 0
AlikeJob s t j k = AlikeLayout s t j.layout k.layout × (j.spot ≡ k.spot)

abbrev pub AlikeJobs : (s t : Schema) → List Job → List Job → Type 0
AlikeJobs s t [] [] = Unit {0}
AlikeJobs s t [] (k ∷ ks) = ⊥
AlikeJobs s t (j ∷ js) [] = ⊥
AlikeJobs s t (j ∷ js) (k ∷ ks) = AlikeJob s t j k × AlikeJobs s t js ks

field_alike : (s t : Schema) (level links : ℕ) (f g : Field) → AreTypesAlike s t
    → name_at s f.name ≡ name_at t g.name → Alike s t f.form g.form
    → AlikeJob s t (field_job s level links f) (field_job t level links g)
field_alike s t level links f g all e h = (
  layout_alike s t (form_at s f.form)
      (form_at t g.form) all h,
  λ i. record { label = Name (e i); level = level; links = links },
)

fields_alike : (s t : Schema) (level links : ℕ) (fs gs : List Field) → AreTypesAlike s t
    → AlikeFields s t fs gs
    → AlikeJobs s t (field_jobs s level links fs) (field_jobs t level links gs)
fields_alike s t level links fs gs all no_field = tt
fields_alike s t level links fs gs all (one_field f g fs' gs' e h rest) =
    (field_alike s t level links f g all e h, fields_alike s t level links fs' gs' all rest)

elements_alike : (s t : Schema) (i j level links at n : ℕ) → AreTypesAlike s t → Alike s t i j
    → AlikeJobs s t (element_jobs s i level links at n) (element_jobs t j level links at n)
elements_alike s t i j level links at zero all h = tt
elements_alike s t i j level links at (suc n) all h = (
  (layout_alike s t (form_at s i) (form_at t j) all h, refl),
  elements_alike s t i j level links
      (suc at) n all h,
)

arm_alike : (s t : Schema) (level links : ℕ) (a b : Option Arm) → AreTypesAlike s t → AlikeArms s t a b
    → AlikeJobs s t (arm_jobs s level links a) (arm_jobs t level links b)
arm_alike s t level links a b all no_arm = tt
arm_alike s t level links a b all (one_arm x y h) = by x y h
  where
    by : (x y : Arm) → AlikeArm s t x y → AlikeJobs s t (arm_jobs s level links (Some x))
        (arm_jobs t level links (Some y))
    by x y void_arm = tt
    by x y (field_arm f g e h) = (field_alike s t level links f g all e h, tt)

members_alike : (s t : Schema) (l m : Layout) (p : Spot) → AreTypesAlike s t → AlikeLayout s t l m
    → AlikeJobs s t (members s l p) (members t m p)
members_alike s t l m p all (bodies leaf n) = tt
members_alike s t l m p all flags = tt
members_alike s t l m p all (named a b e) = tt
members_alike s t l m p all (sized leaf most) = tt
members_alike s t l m p all (fields fs gs h) = fields_alike s t (suc p.level) p.links fs gs all h
members_alike s t l m p all (elements i j n h) = elements_alike s t i j (suc p.level) p.links 0 n all h
members_alike s t l m p all (counts i j most h) = tt
members_alike s t l m p all (options i j h) = tt
members_alike s t l m p all (choices d e c k n h cs o) = tt

behind_link : (s t : Schema) (i j level links w : ℕ) → AreTypesAlike s t → Alike s t i j
    → AlikeJobs s t (behind s (Optional i) (record { label = Star; level = level; links = links }) w)
    (behind t (Optional j) (record { label = Star; level = level; links = links }) w)
behind_link s t i j level links w all h = by (nat_eq w 0)
  where
    by : (b : Bool) → AlikeJobs s t (if b then [] else
        (job (layout_at s i) Star (suc level) (suc links) ∷ []))
        (if b then [] else (job (layout_at t j) Star (suc level) (suc links) ∷ []))
    by true = tt
    by false = ((layout_alike s t (form_at s i) (form_at t j) all h, refl), tt)

behind_alike : (s t : Schema) (l m : Layout) (p : Spot) (w : ℕ) → AreTypesAlike s t → AlikeLayout s t l m
    → AlikeJobs s t (behind s l p w) (behind t m p w)
behind_alike s t l m p w all (bodies leaf n) = tt
behind_alike s t l m p w all flags = tt
behind_alike s t l m p w all (named a b e) = tt
behind_alike s t l m p w all (sized leaf most) = ((bodies leaf w, refl), tt)
behind_alike s t l m p w all (fields fs gs h) = tt
behind_alike s t l m p w all (elements i j n h) = tt
behind_alike s t l m p w all (counts i j most h) = elements_alike s t i j (suc p.level)
    (suc p.links) 0 w all h
behind_alike s t l m p w all (options i j h) = behind_link s t i j p.level p.links w all h
behind_alike s t l m p w all (choices d e c k n h cs o) = arm_alike s t (suc p.level) p.links (arm_for c w)
    (arm_for k w) all (chosen_alike s t w c k cs o)

-- ---- first words

same_illegal : (s t : Schema) (f g : Form) → AlikeForm s t f g → illegal_code f ≡ illegal_code g
same_illegal s t f g (same x leaf) = refl
same_illegal s t f g (enums a b e) = refl
same_illegal s t f g (repeated i j n h) = refl
same_illegal s t f g (counted i j n h) = refl
same_illegal s t f g (linked i j h) = refl
same_illegal s t f g (structs a b h) = refl
same_illegal s t f g (unions d e c k n h cs o) = refl

same_arm_fault : (s t : Schema) (a b : Option Arm) → AlikeArms s t a b → arm_fault a ≡ arm_fault b
same_arm_fault s t a b no_arm = refl
same_arm_fault s t a b (one_arm x y h) = refl

same_choice : (s t : Schema) (d e : Field) (c k : Choice) (w : ℕ) → Alike s t d.form e.form
    → AlikeCases s t c.cases k.cases
    → AlikeArms s t c.default k.default → (links : ℕ)
    → head_fault s (Chosen d c) links w ≡ head_fault t (Chosen e k) links w
same_choice s t d e c k w h cs o links =
    let legal = same_legal s t (form_at s d.form) (form_at t e.form) w h in
    let arm = same_arm_fault s t (arm_for c w) (arm_for k w) (chosen_alike s t w c k cs o) in
    let code = same_illegal s t (form_at s d.form) (form_at t e.form) h in
    λ i. if legal i then arm i else Some (code i)

pub same_head_fault : (s t : Schema) (l m : Layout) (links w : ℕ) → AlikeLayout s t l m
    → head_fault s l links w ≡ head_fault t m links w
same_head_fault s t l m links w (bodies leaf n) = refl
same_head_fault s t l m links w flags = refl
same_head_fault s t l m links w
    (named a b e) = let x = same_named s t a b w e in λ i. if x i then None else Some codes.BadEnum
same_head_fault s t l m links w (sized leaf most) = refl
same_head_fault s t l m links w (fields fs gs h) = refl
same_head_fault s t l m links w (elements i j n h) = refl
same_head_fault s t l m links w (counts i j most h) = refl
same_head_fault s t l m links w (options i j h) = refl
same_head_fault s t l m links w (choices d e c k n h cs o) = same_choice s t d e c k w h cs o links

-- ---- nodes

name_or : Option (List ℕ) → List ℕ
name_or None = []
name_or (Some name) = name

enumerator_by : (s : Schema) (o : Option ℕ) → enumerator_name s o ≡ name_or (option_map (name_at s) o)
unfolding name_or
enumerator_by s None = refl
enumerator_by s (Some n) = refl

same_enumerator : (s t : Schema) (a b : List (ℕ × ℕ)) (w : ℕ) → names_told s a ≡ names_told t b
    → enumerator s a w ≡ enumerator t b w
same_enumerator s t a b w e =
    let name : enumerator_name s (name_for a w) ≡ enumerator_name t (name_for b w) =
    enumerator_by s (name_for a w) ∙ ap name_or (same_name s t a b w e)
    ∙ sym (enumerator_by t (name_for b w)) in
    ap (λ n. Enumerator n (cast_signed w32 w)) name

same_discriminant : (s t : Schema) (f g : Form) (w : ℕ) → AlikeForm s t f g
    → discriminant_leaf s f w ≡ discriminant_leaf t g w
same_discriminant s t f g w (same x leaf) = by x leaf
  where
    by : (x : Form) → IsLeaf x → discriminant_leaf s x w ≡ discriminant_leaf t x w
    by forms.Void h = refl
    by forms.Int h = refl
    by forms.UnsignedInt h = refl
    by forms.Hyper h = refl
    by forms.UnsignedHyper h = refl
    by forms.Float h = refl
    by forms.Double h = refl
    by forms.Quadruple h = refl
    by forms.Bool h = refl
    by (forms.FixedOpaque n) h = refl
    by (forms.Opaque most) h = refl
    by (forms.String most) h = refl
    by _ h = absurd h
same_discriminant s t f g w (enums a b e) = same_enumerator s t a b w e
same_discriminant s t f g w (repeated i j n h) = refl
same_discriminant s t f g w (counted i j n h) = refl
same_discriminant s t f g w (linked i j h) = refl
same_discriminant s t f g w (structs a b h) = refl
same_discriminant s t f g w (unions d e c k n h cs o) = refl

same_body_nodes : (s t : Schema) (l m : Layout) (p : Spot) (bs : List ℕ) → AlikeLayout s t l m
    → body_nodes l p bs ≡ body_nodes m p bs
same_body_nodes s t l m p bs (bodies leaf n) = refl
same_body_nodes s t l m p bs flags = refl
same_body_nodes s t l m p bs (named a b e) = refl
same_body_nodes s t l m p bs (sized leaf most) = refl
same_body_nodes s t l m p bs (fields fs gs h) = refl
same_body_nodes s t l m p bs (elements i j n h) = refl
same_body_nodes s t l m p bs (counts i j most h) = refl
same_body_nodes s t l m p bs (options i j h) = refl
same_body_nodes s t l m p bs (choices d e c k n h cs o) = refl

same_group_nodes : (s t : Schema) (l m : Layout) (p : Spot) → AlikeLayout s t l m
    → group_nodes l p ≡ group_nodes m p
same_group_nodes s t l m p (bodies leaf n) = refl
same_group_nodes s t l m p flags = refl
same_group_nodes s t l m p (named a b e) = refl
same_group_nodes s t l m p (sized leaf most) = refl
same_group_nodes s t l m p (fields fs gs h) = refl
same_group_nodes s t l m p (elements i j n h) = refl
same_group_nodes s t l m p (counts i j most h) = refl
same_group_nodes s t l m p (options i j h) = refl
same_group_nodes s t l m p (choices d e c k n h cs o) = refl

same_head_nodes : (s t : Schema) (l m : Layout) (p : Spot) (w : ℕ) → AlikeLayout s t l m
    → head_nodes s l p w ≡ head_nodes t m p w
same_head_nodes s t l m p w (bodies leaf n) = refl
same_head_nodes s t l m p w flags = refl
same_head_nodes s t l m p w (named a b e) = ap (λ x. node p.level p.label x ∷ [])
    (same_enumerator s t a b w e)
same_head_nodes s t l m p w (sized leaf most) = refl
same_head_nodes s t l m p w (fields fs gs h) = refl
same_head_nodes s t l m p w (elements i j n h) = refl
same_head_nodes s t l m p w (counts i j most h) = refl
same_head_nodes s t l m p w (options i j h) = refl
same_head_nodes s t l m p w (choices d e c k n h cs o) =
    let leaf = same_discriminant s t (form_at s d.form) (form_at t e.form) w h in
    λ i. node p.level p.label Union ∷ node (suc p.level) (Name (n i)) (leaf i) ∷ []

-- ---- values

body_moves : (s t : Schema) (l m : Layout) (bs : List ℕ) → AlikeLayout s t l m → IsLeafBody l bs
    → IsLeafBody m bs
body_moves s t l m bs (bodies leaf n) h = h
body_moves s t l m bs flags h = absurd h
body_moves s t l m bs (named a b e) h = absurd h
body_moves s t l m bs (sized leaf most) h = absurd h
body_moves s t l m bs (fields fs gs x) h = absurd h
body_moves s t l m bs (elements i j n x) h = absurd h
body_moves s t l m bs (counts i j most x) h = absurd h
body_moves s t l m bs (options i j x) h = absurd h
body_moves s t l m bs (choices d e c k n x cs o) h = absurd h

group_moves : (s t : Schema) (l m : Layout) → AlikeLayout s t l m → IsGroup l → IsGroup m
group_moves s t l m (bodies leaf n) h = absurd h
group_moves s t l m flags h = absurd h
group_moves s t l m (named a b e) h = absurd h
group_moves s t l m (sized leaf most) h = absurd h
group_moves s t l m (fields fs gs x) h = tt
group_moves s t l m (elements i j n x) h = tt
group_moves s t l m (counts i j most x) h = absurd h
group_moves s t l m (options i j x) h = absurd h
group_moves s t l m (choices d e c k n x cs o) h = absurd h

headed_moves : (s t : Schema) (l m : Layout) → AlikeLayout s t l m → IsHeaded l → IsHeaded m
headed_moves s t l m (bodies leaf n) h = absurd h
headed_moves s t l m flags h = tt
headed_moves s t l m (named a b e) h = tt
headed_moves s t l m (sized leaf most) h = tt
headed_moves s t l m (fields fs gs x) h = absurd h
headed_moves s t l m (elements i j n x) h = absurd h
headed_moves s t l m (counts i j most x) h = tt
headed_moves s t l m (options i j x) h = tt
headed_moves s t l m (choices d e c k n x cs o) h = tt

mutual
  pub fits_alike : (s t : Schema) (l m : Layout) (p : Spot) (v : Value) → AreTypesAlike s t
      → AlikeLayout s t l m → Fits s l p v → Fits t m p v
  fits_alike s t l m p (body bs) all h f = body_moves s t l m bs h f
  fits_alike s t l m p (group vs) all h f = (
    group_moves s t l m h f.0,
    suits_alike s t (members s l p)
        (members t m p) vs all (members_alike s t l m p all h) f.1,
  )
  fits_alike s t l m p (headed w vs) all h f = (
    headed_moves s t l m h f.0,
    f.1,
    sym (same_head_fault s t l m p.links w h) ∙ f.2,
    suits_alike s t (behind s l p w) (behind t m p w) vs all (behind_alike s t l m p w all h) f.3,
  )

  pub suits_alike : (s t : Schema) (js ks : List Job) (vs : Values) → AreTypesAlike s t → AlikeJobs s t js ks
      → Suits s js vs → Suits t ks vs
  suits_alike s t [] [] end all h f = tt
  suits_alike s t [] [] (more v vs) all h f = absurd f
  suits_alike s t [] (k ∷ ks) vs all h f = absurd h
  suits_alike s t (j ∷ js) [] vs all h f = absurd h
  suits_alike s t (j ∷ js) (k ∷ ks) end all h f = absurd f
  suits_alike s t (j ∷ js) (k ∷ ks) (more v vs) all h f = (
    subst (λ p. Fits t k.layout p v) h.0.1
        (fits_alike s t j.layout k.layout j.spot v all h.0.0 f.0),
    suits_alike s t js ks vs all h.1 f.1,
  )

mutual
  pub same_nodes : (s t : Schema) (l m : Layout) (p : Spot) (v : Value) → AreTypesAlike s t
      → AlikeLayout s t l m → nodes s l p v ≡ nodes t m p v
  same_nodes s t l m p (body bs) all h = same_body_nodes s t l m p bs h
  same_nodes s t l m p (group vs) all h =
      let first = same_group_nodes s t l m p h in
      let rest = same_nodes_each s t (members s l p) (members t m p) vs all (members_alike s t l m p all h) in
      λ i. first i ++ rest i
  same_nodes s t l m p (headed w vs) all h =
      let first = same_head_nodes s t l m p w h in
      let rest = same_nodes_each s t (behind s l p w) (behind t m p w) vs all
      (behind_alike s t l m p w all h) in
      λ i. first i ++ rest i

  pub same_nodes_each : (s t : Schema) (js ks : List Job) (vs : Values) → AreTypesAlike s t
      → AlikeJobs s t js ks → nodes_each s js vs ≡ nodes_each t ks vs
  same_nodes_each s t [] [] vs all h = refl
  same_nodes_each s t [] (k ∷ ks) vs all h = absurd h
  same_nodes_each s t (j ∷ js) [] vs all h = absurd h
  same_nodes_each s t (j ∷ js) (k ∷ ks) end all h = refl
  same_nodes_each s t (j ∷ js) (k ∷ ks) (more v vs) all h =
      let first = same_nodes s t j.layout k.layout j.spot v all h.0.0
      ∙ ap (λ p. nodes t k.layout p v) h.0.1 in
      let rest = same_nodes_each s t js ks vs all h.1 in
      λ i. first i ++ rest i

-- ---- units

-- units are refused for the same reasons, one by one
abbrev pub AlikeRoles : (s t : Schema) → List UnitRole → List UnitRole → Type 0
AlikeRoles s t [] [] = Unit {0}
AlikeRoles s t [] (y ∷ ys) = ⊥
AlikeRoles s t (x ∷ xs) [] = ⊥
AlikeRoles s t (x ∷ xs) (y ∷ ys) = ((unit : List ℕ) → fault_of s x unit ≡ fault_of t y unit)
    × AlikeRoles s t xs ys

roles_behind : (s t : Schema) (a b c d : List UnitRole) → AlikeRoles s t a b → AlikeRoles s t c d
    → AlikeRoles s t (a ++ c) (b ++ d)
roles_behind s t [] [] c d h k = k
roles_behind s t [] (y ∷ ys) c d h k = absurd h
roles_behind s t (x ∷ xs) [] c d h k = absurd h
roles_behind s t (x ∷ xs) (y ∷ ys) c d h k = (h.0, roles_behind s t xs ys c d h.1 k)

body_alike : (s t : Schema) (n : ℕ) → AlikeRoles s t (body_roles n) (body_roles n)
body_alike s t zero = tt
body_alike s t (suc zero) = ((λ unit. refl), tt)
body_alike s t (suc (suc zero)) = ((λ unit. refl), tt)
body_alike s t (suc (suc (suc zero))) = ((λ unit. refl), tt)
body_alike s t (suc (suc (suc (suc n)))) = ((λ unit. refl), body_alike s t n)

mutual
  pub roles_alike : (s t : Schema) (l m : Layout) (p q : Spot) (v : Value) → AreTypesAlike s t
      → AlikeLayout s t l m → p ≡ q → AlikeRoles s t (roles s l p v) (roles t m q v)
  roles_alike s t l m p q (body bs) all h e = body_alike s t (length bs)
  roles_alike s t l m p q (group vs) all h e =
      roles_each_alike s t (members s l p) (members t m q) vs all
      (subst (λ r. AlikeJobs s t (members s l p) (members t m r)) e (members_alike s t l m p all h))
  roles_alike s t l m p q (headed w vs) all h e = (
    (λ unit. same_head_fault s t l m p.links (from_be_bytes w32 unit) h
        ∙ ap (λ r. head_fault t m r.links (from_be_bytes w32 unit)) e),
    roles_each_alike s t (behind s l p w) (behind t m q w) vs all
        (subst (λ r. AlikeJobs s t (behind s l p w) (behind t m r w)) e (behind_alike s t l m p w all h)),
  )

  pub roles_each_alike : (s t : Schema) (js ks : List Job) (vs : Values) → AreTypesAlike s t
      → AlikeJobs s t js ks → AlikeRoles s t (roles_each s js vs) (roles_each t ks vs)
  roles_each_alike s t [] [] vs all h = tt
  roles_each_alike s t [] (k ∷ ks) vs all h = absurd h
  roles_each_alike s t (j ∷ js) [] vs all h = absurd h
  roles_each_alike s t (j ∷ js) (k ∷ ks) end all h = tt
  roles_each_alike s t (j ∷ js) (k ∷ ks) (more v vs) all h =
      roles_behind s t (roles s j.layout j.spot v) (roles t k.layout k.spot v) (roles_each s js vs)
      (roles_each t ks vs)
      (roles_alike s t j.layout k.layout j.spot k.spot v all h.0.0 h.0.1)
      (roles_each_alike s t js ks vs all h.1)

-- where the roles of the one have a role behind so many, the other's have one too, with the same faults
pub same_at : (s t : Schema) (xs ys before after : List UnitRole) (role : UnitRole) → AlikeRoles s t xs ys
    → xs ≡ before ++ (role ∷ after)
    → (front : List UnitRole) × (other : UnitRole) × (rear : List UnitRole) × (ys ≡ front ++ (other ∷ rear))
    × (length before ≡ length front)
    × ((unit : List ℕ) → fault_of s role unit ≡ fault_of t other unit)
same_at s t [] ys [] after role h e = absurd cc
same_at s t [] ys (b ∷ bs) after role h e = absurd cc
same_at s t (x ∷ xs) [] before after role h e = absurd h
same_at s t (x ∷ xs) (y ∷ ys) [] after role h e =
    let first : x ≡ role = cc in
    ([], y, ys, refl, refl, λ unit. sym (ap (λ r. fault_of s r unit) first) ∙ h.0 unit)
same_at s t (x ∷ xs) (y ∷ ys) (b ∷ bs) after role h e =
    let others : xs ≡ bs ++ (role ∷ after) = cc in
    let k = same_at s t xs ys bs after role h.1 others in
    let long : length bs ≡ length k.0 = k.4 in
    let parts : ys ≡ k.0 ++ (k.1 ∷ k.2) = k.3 in
    (y ∷ k.0, k.1, k.2, ap (λ l. y ∷ l) parts, ap suc long, k.5)

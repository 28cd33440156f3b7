-- How the values of each form are laid out (RFC 4506, section 4): what stands in them by value, why a word
-- may not stand there, and what is shown of them.
use Rattle.std.specs.Prelude.{ℕ, zero, suc, is_some, nat_eq, nat_lt, if◌then◌else◌, List, [], ◌∷◌, Option}
use Rattle.std.specs.Prelude.{Some, None}
use Rattle.std.specs.Int.{cast_signed, from_be_bytes, w32, w64}
use Rattle.x_schema.specs.declared.form.Arm.{Arm}
use Rattle.x_schema.specs.declared.form.Arm.TheVariants as arms
use Rattle.x_schema.specs.declared.form.Field.{Field}
use Rattle.x_schema.specs.declared.form.Form.{Form}
use Rattle.x_schema.specs.declared.form.Form.TheVariants as forms
use Rattle.x_schema.specs.Choices.{Choice, arm_for, name_for}
use Rattle.x_schema.specs.Schema.{Schema, form_at, name_at, target_at}
use Rattle.x_schema.specs.Sound.{is_legal}
use Rattle.x_value.specs.declared.fault.ReadCode.{ReadCode}
use Rattle.x_value.specs.declared.fault.ReadCode.TheVariants as codes
use Rattle.x_value.specs.Shown.{Label, Name, Index, Star, Leaf, Signed, Unsigned, Truth, Enumerator, Hex}
use Rattle.x_value.specs.Shown.{Text, Array, Null, Link, Struct, Union, Void, Node, node}

-- the most links that may be open at once
unfoldable pub most_links : ℕ
most_links = 65536

pub data Layout : Type 0 where
  -- so many bytes, shown as this leaf (sections 4.1, 4.2, 4.5 to 4.9, 4.16)
  Fixed : (List ℕ → Leaf) → ℕ → Layout
  -- values with names (section 4.14)
  Fields : List Field → Layout
  -- so many values of a form (section 4.12)
  Elements : ℕ → ℕ → Layout
  -- 0 or 1 (section 4.4)
  Flag : Layout
  -- a number that has a name (section 4.3)
  Named : List (ℕ × ℕ) → Layout
  -- a length, and so many bytes, at most a number of them (sections 4.10 and 4.11)
  Sized : (List ℕ → Leaf) → ℕ → Layout
  -- a count, and so many values of a form, at most a number of them (section 4.13)
  Counted : ℕ → ℕ → Layout
  -- nothing or a value of a form (section 4.19)
  Optional : ℕ → Layout
  -- a discriminant, and what it chooses (section 4.15)
  Chosen : Field → Choice → Layout

-- ---- forms

abbrev pub int_leaf : List ℕ → Leaf
int_leaf bs = Signed (cast_signed w32 (from_be_bytes w32 bs))

abbrev pub unsigned_int_leaf : List ℕ → Leaf
unsigned_int_leaf bs = Unsigned (from_be_bytes w32 bs)

abbrev pub hyper_leaf : List ℕ → Leaf
hyper_leaf bs = Signed (cast_signed w64 (from_be_bytes w64 bs))

abbrev pub unsigned_hyper_leaf : List ℕ → Leaf
unsigned_hyper_leaf bs = Unsigned (from_be_bytes w64 bs)

abbrev pub nothing : List ℕ → Leaf
nothing bs = Void

abbrev pub layout_of : Schema → Form → Layout
layout_of s forms.Void = Fixed nothing 0
layout_of s forms.Int = Fixed int_leaf 4
layout_of s forms.UnsignedInt = Fixed unsigned_int_leaf 4
layout_of s forms.Hyper = Fixed hyper_leaf 8
layout_of s forms.UnsignedHyper = Fixed unsigned_hyper_leaf 8
layout_of s forms.Float = Fixed Hex 4
layout_of s forms.Double = Fixed Hex 8
layout_of s forms.Quadruple = Fixed Hex 16
layout_of s forms.Bool = Flag
layout_of s (forms.Enum names) = Named names
layout_of s (forms.FixedOpaque n) = Fixed Hex n
layout_of s (forms.Opaque most) = Sized Hex most
layout_of s (forms.String most) = Sized Text most
layout_of s (forms.FixedArray of n) = Elements of n
layout_of s (forms.Array link most) = Counted (target_at s link) most
layout_of s (forms.Optional link) = Optional (target_at s link)
layout_of s (forms.Struct fields) = Fields fields.items
layout_of s (forms.Union discriminant choice) = Chosen discriminant choice

-- the size of a body that begins with no length, where values of the form are such bodies
abbrev pub fixed_size : Form → Option ℕ
fixed_size forms.Void = Some 0
fixed_size forms.Int = Some 4
fixed_size forms.UnsignedInt = Some 4
fixed_size forms.Hyper = Some 8
fixed_size forms.UnsignedHyper = Some 8
fixed_size forms.Float = Some 4
fixed_size forms.Double = Some 8
fixed_size forms.Quadruple = Some 16
fixed_size (forms.FixedOpaque n) = Some n
fixed_size _ = None

-- how many bytes a number of the form has
abbrev pub number_size : Form → ℕ
number_size forms.Int = 4
number_size forms.UnsignedInt = 4
number_size forms.Hyper = 8
number_size forms.UnsignedHyper = 8
number_size _ = 0

-- what a body of the form is shown as
abbrev pub body_leaf : Form → List ℕ → Leaf
body_leaf forms.Void bs = Void
body_leaf forms.Int bs = int_leaf bs
body_leaf forms.UnsignedInt bs = unsigned_int_leaf bs
body_leaf forms.Hyper bs = hyper_leaf bs
body_leaf forms.UnsignedHyper bs = unsigned_hyper_leaf bs
body_leaf (forms.String most) bs = Text bs
body_leaf _ bs = Hex bs

abbrev pub layout_at : Schema → ℕ → Layout
layout_at s id = layout_of s (form_at s id)

-- ---- what stands in a value

-- where a value stands: how many links are open around it, and how its first node is shown
pub record Spot : Type 0 where
  pub label : Label
  pub level : ℕ
  pub links : ℕ

-- a value that is to be read
pub record Job : Type 0 where
  pub layout : Layout
  pub spot : Spot

abbrev pub placed : Layout → Spot → Job
placed layout p = record { layout = layout; spot = p }

abbrev pub job : Layout → Label → ℕ → ℕ → Job
job layout label level links = placed layout (record { label = label; level = level; links = links })

abbrev pub field_job : Schema → ℕ → ℕ → Field → Job
field_job s level links f = job (layout_at s f.form) (Name (name_at s f.name)) level links

abbrev pub field_jobs : Schema → ℕ → ℕ → List Field → List Job
field_jobs s level links [] = []
field_jobs s level links (f ∷ fs) = field_job s level links f ∷ field_jobs s level links fs

-- so many elements, the first of which has this place in its array
abbrev pub element_jobs : Schema → ℕ → ℕ → ℕ → ℕ → ℕ → List Job
element_jobs s of level links at zero = []
element_jobs s of level links at (suc n) =
    job (layout_at s of) (Index at) level links ∷ element_jobs s of level links (suc at) n

abbrev pub arm_jobs : Schema → ℕ → ℕ → Option Arm → List Job
arm_jobs s level links (Some (arms.Of f)) = field_job s level links f ∷ []
arm_jobs s level links (Some arms.Void) = []
arm_jobs s level links None = []

-- what stands in a value that begins with no word of its own
abbrev pub members : Schema → Layout → Spot → List Job
members s (Fields fs) p = field_jobs s (suc p.level) p.links fs
members s (Elements of n) p = element_jobs s of (suc p.level) p.links 0 n
members s _ p = []

-- what stands behind the word that a value begins with: what a link leads to, and each element that a word
-- counts, has one more link open around it
abbrev pub behind : Schema → Layout → Spot → ℕ → List Job
behind s (Sized leaf most) p w = placed (Fixed leaf w) p ∷ []
behind s (Counted of most) p w = element_jobs s of (suc p.level) (suc p.links) 0 w
behind s (Optional of) p w =
    if nat_eq w 0 then [] else (job (layout_at s of) Star (suc p.level) (suc p.links) ∷ [])
behind s (Chosen discriminant choice) p w = arm_jobs s (suc p.level) p.links (arm_for choice w)
behind s _ p w = []

-- ---- why a word may not be the first of a value

abbrev pub open_fault : ℕ → Option ReadCode
open_fault links = if nat_lt links most_links then None else Some codes.TooDeep

abbrev pub illegal_code : Form → ReadCode
illegal_code forms.Bool = codes.BadBool
illegal_code _ = codes.BadEnum

abbrev pub arm_fault : Option Arm → Option ReadCode
arm_fault (Some arm) = None
arm_fault None = Some codes.NoArm

abbrev pub head_fault : Schema → Layout → ℕ → ℕ → Option ReadCode
head_fault s Flag links w = if nat_lt w 2 then None else Some codes.BadBool
head_fault s (Named names) links w = if is_some (name_for names w) then None else Some codes.BadEnum
head_fault s (Sized leaf most) links w = if nat_lt most w then Some codes.TooMany else None
head_fault s (Counted of most) links w =
    if nat_lt most w then Some codes.TooMany else (if nat_eq w 0 then None else open_fault links)
head_fault s (Optional of) links w =
    if nat_lt w 2 then (if nat_eq w 0 then None else open_fault links) else Some codes.BadBool
head_fault s (Chosen discriminant choice) links w =
    if is_legal (form_at s discriminant.form) w then arm_fault (arm_for choice w)
    else Some (illegal_code (form_at s discriminant.form))
head_fault s _ links w = None

-- ---- what is shown

abbrev pub enumerator_name : Schema → Option ℕ → List ℕ
enumerator_name s (Some name) = name_at s name
enumerator_name s None = []

abbrev pub enumerator : Schema → List (ℕ × ℕ) → ℕ → Leaf
enumerator s names w = Enumerator (enumerator_name s (name_for names w)) (cast_signed w32 w)

-- a discriminant
abbrev pub discriminant_leaf : Schema → Form → ℕ → Leaf
discriminant_leaf s forms.Bool w = Truth (nat_eq w 1)
discriminant_leaf s (forms.Enum names) w = enumerator s names w
discriminant_leaf s forms.UnsignedInt w = Unsigned w
discriminant_leaf s _ w = Signed (cast_signed w32 w)

abbrev pub link_leaf : ℕ → Leaf
link_leaf w = if nat_eq w 0 then Null else Link

abbrev pub at_spot : Spot → Leaf → Node
at_spot p leaf = node p.level p.label leaf

abbrev pub body_nodes : Layout → Spot → List ℕ → List Node
body_nodes (Fixed leaf n) p bs = at_spot p (leaf bs) ∷ []
body_nodes _ p bs = []

abbrev pub group_nodes : Layout → Spot → List Node
group_nodes (Fields fs) p = at_spot p Struct ∷ []
group_nodes (Elements of n) p = at_spot p (Array n) ∷ []
group_nodes _ p = []

-- of a length nothing is shown: its bytes are
abbrev pub head_nodes : Schema → Layout → Spot → ℕ → List Node
head_nodes s Flag p w = at_spot p (Truth (nat_eq w 1)) ∷ []
head_nodes s (Named names) p w = at_spot p (enumerator s names w) ∷ []
head_nodes s (Counted of most) p w = at_spot p (Array w) ∷ []
head_nodes s (Optional of) p w = at_spot p (link_leaf w) ∷ []
head_nodes s (Chosen d choice) p w =
    at_spot p Union
    ∷ node (suc p.level) (Name (name_at s d.name)) (discriminant_leaf s (form_at s d.form) w) ∷ []
head_nodes s _ p w = []

-- Which values are of a type, what each unit of their bytes is, and what is shown of them.
use Rattle.std.specs.Prelude.{◌≡◌, ℕ, zero, suc, ◌^◌, ◌<◌, List, [], ◌∷◌, ◌++◌, length}
use Rattle.std.specs.Prelude.{drop, if◌then◌else◌, Option, Some, None}
use Rattle.std.specs.Int.{from_be_bytes, w32}
use Rattle.x_schema.specs.Schema.{Schema}
use Rattle.x_units.specs.Units.{are_zeros}
use Rattle.x_value.specs.declared.fault.ReadCode.{ReadCode}
use Rattle.x_value.specs.declared.fault.ReadCode.TheVariants as codes
use Rattle.x_value.specs.Shown.{Node}
use Rattle.x_value.specs.Values.{Value, Values, body, group, headed, end, more}
use Rattle.x_value.specs.Layouts.{Layout, Fixed, Fields, Elements, Spot, Job, members, behind, head_fault}
use Rattle.x_value.specs.Layouts.{body_nodes, group_nodes, head_nodes}

abbrev pub IsByteList : List ℕ → Type 0
IsByteList [] = Unit {0}
IsByteList (b ∷ bs) = (b < 256) × IsByteList bs

abbrev pub IsLeafBody : Layout → List ℕ → Type 0
IsLeafBody (Fixed leaf n) bs = (length bs ≡ n) × IsByteList bs
IsLeafBody _ bs = ⊥

-- values of it stand behind one another
abbrev pub IsGroup : Layout → Type 0
IsGroup (Fields fs) = Unit {0}
IsGroup (Elements of n) = Unit {0}
IsGroup _ = ⊥

-- a value of it begins with a word
abbrev pub IsHeaded : Layout → Type 0
IsHeaded (Fixed leaf n) = ⊥
IsHeaded (Fields fs) = ⊥
IsHeaded (Elements of n) = ⊥
IsHeaded _ = Unit {0}

abbrev mutual
  -- the value is of the layout, with so many links open around it
  pub Fits : Schema → Layout → Spot → Value → Type 0
  Fits s layout p (body bs) = IsLeafBody layout bs
  Fits s layout p (group vs) = IsGroup layout × Suits s (members s layout p) vs
  Fits s layout p (headed w vs) =
      IsHeaded layout × (w < 2 ^ 32) × (head_fault s layout p.links w ≡ None) ×
      Suits s (behind s layout p w) vs

  -- the values are of these types, one for each
  pub Suits : Schema → List Job → Values → Type 0
  Suits s [] end = Unit {0}
  Suits s (j ∷ js) (more v vs) = Fits s j.layout j.spot v × Suits s js vs
  Suits s [] (more v vs) = ⊥
  Suits s (j ∷ js) end = ⊥

-- ---- what each unit of four bytes is

pub data UnitRole : Type 0 where
  Free : UnitRole
  -- so many bytes of a body, and zeros
  Padded : ℕ → UnitRole
  -- the first word of a value with so many links open around it
  Head : Layout → ℕ → UnitRole

-- why the unit may not stand there, if it may not
abbrev pub fault_of : Schema → UnitRole → List ℕ → Option ReadCode
fault_of s Free unit = None
fault_of s (Padded k) unit = if are_zeros (drop k unit) then None else Some codes.BadPad
fault_of s (Head layout links) unit = head_fault s layout links (from_be_bytes w32 unit)

-- the units of a body of n bytes
abbrev pub body_roles : ℕ → List UnitRole
body_roles zero = []
body_roles (suc zero) = Padded 1 ∷ []
body_roles (suc (suc zero)) = Padded 2 ∷ []
body_roles (suc (suc (suc zero))) = Padded 3 ∷ []
body_roles (suc (suc (suc (suc n)))) = Free ∷ body_roles n

abbrev mutual
  pub roles : Schema → Layout → Spot → Value → List UnitRole
  roles s layout p (body bs) = body_roles (length bs)
  roles s layout p (group vs) = roles_each s (members s layout p) vs
  roles s layout p (headed w vs) = Head layout p.links ∷ roles_each s (behind s layout p w) vs

  pub roles_each : Schema → List Job → Values → List UnitRole
  roles_each s (j ∷ js) (more v vs) = roles s j.layout j.spot v ++ roles_each s js vs
  roles_each s _ _ = []

-- ---- nodes

abbrev mutual
  pub nodes : Schema → Layout → Spot → Value → List Node
  nodes s layout p (body bs) = body_nodes layout p bs
  nodes s layout p (group vs) = group_nodes layout p ++ nodes_each s (members s layout p) vs
  nodes s layout p (headed w vs) = head_nodes s layout p w ++ nodes_each s (behind s layout p w) vs

  pub nodes_each : Schema → List Job → Values → List Node
  nodes_each s (j ∷ js) (more v vs) = nodes s j.layout j.spot v ++ nodes_each s js vs
  nodes_each s _ _ = []

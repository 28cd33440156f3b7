-- Where in a message the nodes of its value stand.
use Rattle.std.specs.Prelude.{◌≡◌, ℕ, ◌+◌, List, [], ◌∷◌, ◌++◌, length, map, take, drop, Option, Some, None}
use Rattle.x_schema.specs.Schema.{Schema}
use Rattle.x_schema.specs.declared.schema.TypeId.{TypeId}
use Rattle.x_value.specs.Dumps.{root_job, IsOf}
use Rattle.x_value.specs.Layouts.{Layout, Spot, Job, members, behind, body_nodes, group_nodes, head_nodes}
use Rattle.x_value.specs.Shown.{Leaf, Hex, Text, Node}
use Rattle.x_value.specs.Values.{Value, Values, body, group, headed, more, enc}

-- a node, and how many bytes of the message stand before what it shows
pub record PlacedNode : Type 0 where
  pub place : ℕ
  pub node : Node

abbrev pub at_place : ℕ → Node → PlacedNode
at_place place n = record { place = place; node = n }

abbrev mutual
  -- The nodes of a value that begins at a place. What its first word announces stands behind the four bytes
  -- of that: so a body behind its length.
  pub placed_nodes : Schema → Layout → Spot → Value → ℕ → List PlacedNode
  placed_nodes s layout p (body bs) at = map (at_place at) (body_nodes layout p bs)
  placed_nodes s layout p (group vs) at =
      map (at_place at) (group_nodes layout p) ++ placed_each s (members s layout p) vs at
  placed_nodes s layout p (headed w vs) at =
      map (at_place at) (head_nodes s layout p w) ++ placed_each s (behind s layout p w) vs (at + 4)

  -- those of values one behind another, of which the first begins at a place
  pub placed_each : Schema → List Job → Values → ℕ → List PlacedNode
  placed_each s (j ∷ js) (more v vs) at =
      placed_nodes s j.layout j.spot v at ++ placed_each s js vs (at + length (enc v))
  placed_each s _ _ at = []

-- the bytes are the encoding of a value of the type, and these are its nodes at their places
abbrev pub IsShownAt : Schema → TypeId → List ℕ → List PlacedNode → Type 0
IsShownAt s id bytes placed =
    (v : Value) × IsOf s id v × (bytes ≡ enc v) ×
    (placed ≡ placed_nodes s (root_job s id).layout (root_job s id).spot v 0)

-- the bytes that a leaf shows as they are: those of an opaque, of a string, of a floating-point number
abbrev pub body_shown : Leaf → Option (List ℕ)
body_shown (Hex bytes) = Some bytes
body_shown (Text bytes) = Some bytes
body_shown _ = None

-- what the node shows as it is are so many bytes of the message from the node's place on
abbrev pub ShowsSlice : List ℕ → PlacedNode → Type 0
ShowsSlice message n =
    (bytes : List ℕ) → body_shown n.node.leaf ≡ Some bytes
    → bytes ≡ take (length bytes) (drop n.place message)

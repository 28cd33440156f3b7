-- Nodes as they are kept: names by their places in the schema, bodies by their places in the message.
use Rattle.std.specs.Prelude.{ℕ, ◌<◌, List, [], ◌∷◌, map, take, drop}
use Rattle.x_schema.specs.Schema.{Schema, name_at}
use Rattle.x_value.specs.declared.nodes.compact_node.CompactLabel.{CompactLabel}
use Rattle.x_value.specs.declared.nodes.compact_node.CompactLabel.TheVariants as labels
use Rattle.x_value.specs.declared.nodes.compact_node.CompactLeaf.{CompactLeaf}
use Rattle.x_value.specs.declared.nodes.compact_node.CompactLeaf.TheVariants as leaves
use Rattle.x_value.specs.declared.nodes.compact_node.CompactNode.{CompactNode}
use Rattle.x_value.specs.Shown.{Label, Name, Index, Star, Arguments, Results, Leaf, Signed, Unsigned, Truth}
use Rattle.x_value.specs.Shown.{Enumerator, Hex, Text, Array, Null, Link, Struct, Union, Void, Node, node}

-- so many bytes of the message from a place on
abbrev pub body_at : List ℕ → ℕ → ℕ → List ℕ
body_at message at length = take length (drop at message)

abbrev pub label_of : Schema → CompactLabel → Label
label_of s (labels.Name name) = Name (name_at s name)
label_of s (labels.Index at) = Index at
label_of s labels.Star = Star
label_of s labels.Arguments = Arguments
label_of s labels.Results = Results

abbrev pub leaf_of : Schema → List ℕ → CompactLeaf → Leaf
leaf_of s message (leaves.Signed n) = Signed n
leaf_of s message (leaves.Unsigned n) = Unsigned n
leaf_of s message (leaves.Truth b) = Truth b
leaf_of s message (leaves.Enumerator name n) = Enumerator (name_at s name) n
leaf_of s message (leaves.Hex length at) = Hex (body_at message at length)
leaf_of s message (leaves.Text length at) = Text (body_at message at length)
leaf_of s message (leaves.Array n) = Array n
leaf_of s message leaves.Null = Null
leaf_of s message leaves.Link = Link
leaf_of s message leaves.Struct = Struct
leaf_of s message leaves.Union = Union
leaf_of s message leaves.Void = Void

abbrev pub node_of : Schema → List ℕ → CompactNode → Node
node_of s message e = node e.level (label_of s e.label) (leaf_of s message e.leaf)

abbrev pub nodes_of : Schema → List ℕ → List CompactNode → List Node
nodes_of s message entries = map (node_of s message) entries

-- ---- names that the schema has, of so many

abbrev pub IsCalled : ℕ → CompactLabel → Type 0
IsCalled n (labels.Name name) = name < n
IsCalled n _ = Unit {0}

abbrev pub IsKeptLeaf : ℕ → CompactLeaf → Type 0
IsKeptLeaf n (leaves.Enumerator name number) = name < n
IsKeptLeaf n _ = Unit {0}

abbrev pub AreNamed : ℕ → List CompactNode → Type 0
AreNamed n [] = Unit {0}
AreNamed n (e ∷ es) = IsCalled n e.label × IsKeptLeaf n e.leaf × AreNamed n es

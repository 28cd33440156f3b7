-- A node of the program as what it shows.
use Rattle.x_value.specs.declared.nodes.Label.{Label as RustLabel}
use Rattle.x_value.specs.declared.nodes.Label.TheVariants as labels
use Rattle.x_value.specs.declared.nodes.Leaf.{Leaf as RustLeaf}
use Rattle.x_value.specs.declared.nodes.Leaf.TheVariants as leaves
use Rattle.x_value.specs.declared.nodes.Node.{Node as RustNode}
use Rattle.x_value.specs.Shown.{Label, Name, Index, Star, Arguments, Results, Leaf, Signed, Unsigned, Truth}
use Rattle.x_value.specs.Shown.{Enumerator, Hex, Text, Array, Null, Link, Struct, Union, Void, Node, node}

abbrev pub shown_label : RustLabel → Label
shown_label (labels.Name name) = Name name.now
shown_label (labels.Index at) = Index at
shown_label labels.Star = Star
shown_label labels.Arguments = Arguments
shown_label labels.Results = Results

abbrev pub shown_leaf : RustLeaf → Leaf
shown_leaf (leaves.Signed n) = Signed n
shown_leaf (leaves.Unsigned n) = Unsigned n
shown_leaf (leaves.Truth b) = Truth b
shown_leaf (leaves.Enumerator name n) = Enumerator name.now n
shown_leaf (leaves.Hex bytes) = Hex bytes.now
shown_leaf (leaves.Text bytes) = Text bytes.now
shown_leaf (leaves.Array n) = Array n
shown_leaf leaves.Null = Null
shown_leaf leaves.Link = Link
shown_leaf leaves.Struct = Struct
shown_leaf leaves.Union = Union
shown_leaf leaves.Void = Void

abbrev pub shown_node : RustNode → Node
shown_node n = node n.level (shown_label n.label) (shown_leaf n.leaf)

-- Entries by their places in a list.
use Rattle.std.proofs.Common.{◌≡◌, ℕ, zero, suc, ◌<◌, ◌≤◌, List, [], ◌∷◌, length, option_map, slice_get}
use Rattle.std.proofs.Common.{get_or, refl, sym, ap, subst, ◌∙◌, arith}
use Rattle.std.specs.Prelude.{Some, None}
use Rattle.x_schema.specs.Schema.{Schema}
use Rattle.x_value.specs.declared.nodes.compact_node.CompactNode.{CompactNode}
use Rattle.x_value.specs.declared.nodes.Node.{Node as RustNode}
use Rattle.x_value.specs.Entries.{node_of, nodes_of, IsCalled, IsKeptLeaf, AreNamed}
use Rattle.x_value.specs.NodeList.{shown_node}

pub called_at : (n : ℕ) (es : List CompactNode) (i : ℕ) (e : CompactNode) → AreNamed n es → i < length es
    → e ≡ get_or es i e → IsCalled n e.label
called_at n [] i e h lt is = absurd (omega arith)
called_at n (x ∷ es) zero e h lt is = subst (λ t. IsCalled n t.label) (sym is) h.0
called_at n (x ∷ es) (suc i) e h lt is = called_at n es i e h.2 (omega arith) is

pub kept_at : (n : ℕ) (es : List CompactNode) (i : ℕ) (e : CompactNode) → AreNamed n es → i < length es
    → e ≡ get_or es i e → IsKeptLeaf n e.leaf
kept_at n [] i e h lt is = absurd (omega arith)
kept_at n (x ∷ es) zero e h lt is = subst (λ t. IsKeptLeaf n t.leaf) (sym is) h.1
kept_at n (x ∷ es) (suc i) e h lt is = kept_at n es i e h.2 (omega arith) is

pub shown_at : (s : Schema) (m : List ℕ) (es : List CompactNode) (i : ℕ) (e : CompactNode) (r : RustNode)
    → shown_node r ≡ node_of s m e → i < length es → e ≡ get_or es i e
    → option_map shown_node (Some r) ≡ slice_get (nodes_of s m es) i
shown_at s m [] i e r is lt at = absurd (omega arith)
shown_at s m (x ∷ es) zero e r is lt at = ap (λ t. Some t) (is ∙ ap (node_of s m) at)
shown_at s m (x ∷ es) (suc i) e r is lt at = shown_at s m es i e r is (omega arith) at

pub none_at : (s : Schema) (m : List ℕ) (es : List CompactNode) (i : ℕ) → length es ≤ i
    → slice_get (nodes_of s m es) i ≡ None
none_at s m [] i le = refl
none_at s m (x ∷ es) zero le = absurd (omega arith)
none_at s m (x ∷ es) (suc i) le = none_at s m es i (omega arith)

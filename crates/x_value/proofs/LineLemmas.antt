-- Nodes by their places.
use Rattle.std.proofs.Common.{◌≡◌, ℕ, ◌+◌, ◌<◌, List, ◌∷◌, Some, None, length, drop, get_or, ap, sym, ◌∙◌}
use Rattle.std.specs.Prelude.{slice_get}
use Rattle.std.proofs.lemmas.Option.{get_or_from_slice_get, none-some, slice_get-get_or}
use Rattle.x_lists.proofs.ListLemmas.{drop_one}
use Rattle.x_value.specs.Shown.{Node, node, Star, Null}

none : Node
none = node 0 Star Null

-- there is a node at each place before the end
pub not_none : (nodes : List Node) (i : ℕ) → i < length nodes → slice_get nodes i ≡ None → ⊥
not_none nodes i lt is = none-some (get_or nodes i none) (sym is ∙ slice_get-get_or nodes i none lt)

-- the nodes from a place on
pub left_at : (nodes : List Node) (i : ℕ) (n : Node) → i < length nodes → slice_get nodes i ≡ Some n
    → drop i nodes ≡ n ∷ drop (i + 1) nodes
left_at nodes i n lt is = drop_one nodes i n lt
    ∙ ap (λ z. z ∷ drop (i + 1) nodes) (get_or_from_slice_get nodes i n n is)

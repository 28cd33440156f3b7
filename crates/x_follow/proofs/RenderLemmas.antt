-- What is generated of a stale item.
use Rattle.std.proofs.Common.{◌≡◌, Bool, List, [], ◌∷◌, Option, None, Some, Bor, if◌then◌else◌, option_copied}
use Rattle.std.proofs.Common.{option_map, is_some, sym, ap, ◌∙◌}
use Rattle.x_trees.specs.Tree.{Definition}
use Rattle.x_rules.specs.declared.fault.WordFault.{WordFault}
use Rattle.x_pieces.specs.Pieces.{Pieces}
use Rattle.x_pieces.specs.Rendering.{pieces_of}
use Rattle.x_compile.specs.Checking.{sound}
use Rattle.x_compile.specs.KeptView.{pieces_behind}

-- the pieces that an item had stay, and where it had none they are generated
pub renewed_as : (lent : Option (Bor Pieces)) (had made : Option Pieces) (d : Definition)
    (faults : List WordFault) (has : Bool) → option_copied lent ≡ had → has ≡ is_some lent
    → made ≡ (if has then None else option_map pieces_of (sound (Some d) faults))
    → ((p : Pieces) → had ≡ Some p → Some (pieces_of d) ≡ Some p)
    → pieces_behind had made faults ≡ option_map pieces_of (sound (Some d) faults)
renewed_as None had made d [] has lends is new makes =
    let m : made ≡ Some (pieces_of d) = new ∙ ap (λ (b : Bool). if b then None else Some (pieces_of d)) is in
    λ i. pieces_behind (sym lends i) (m i) []
renewed_as None had made d (f ∷ fs) has lends is new makes =
    let m : made ≡ None = new ∙ ap (λ (b : Bool). if b then None else None) is in
    λ i. pieces_behind (sym lends i) (m i) (f ∷ fs)
renewed_as (Some p) had made d [] has lends is new makes =
    let m : made ≡ None = new ∙ ap (λ (b : Bool). if b then None else Some (pieces_of d)) is in
    (λ i. pieces_behind (sym lends i) (m i) []) ∙ sym (makes p.now (sym lends))
renewed_as (Some p) had made d (f ∷ fs) has lends is new makes =
    let m : made ≡ None = new ∙ ap (λ (b : Bool). if b then None else None) is in
    λ i. pieces_behind (sym lends i) (m i) (f ∷ fs)

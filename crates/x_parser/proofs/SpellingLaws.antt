-- No two definitions have one spelling.
use Rattle.std.proofs.Common.{◌≡◌, [], ◌∷◌, ◌++◌, refl, ap, sym}
use Rattle.x_trees.specs.Tree as tree
use Rattle.x_trees.specs.Spell.{spell, KeepsLimits}
use Rattle.x_parser.specs.Symbols.{Item, step}
use Rattle.x_parser.proofs.Machine.{Vals, one_text}
use Rattle.x_parser.proofs.Grammar.{Value, text, build, built, split, least}

pub one_spelling : (d e : tree.Definition) → KeepsLimits d → KeepsLimits e → spell d ≡ spell e → d ≡ e
one_spelling d e p q same =
    let all = one_text step Value text build built split least (spell d ++ []) (Item ∷ []) ((d, p), tt)
    ((e, q), tt) refl (ap (λ t. t ++ []) (sym same)) in
    ap (λ (v : Vals Value (Item ∷ [])). v.0.0) all

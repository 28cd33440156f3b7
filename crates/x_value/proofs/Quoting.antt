-- Bytes that stand between quotes as themselves.
use Rattle.std.proofs.Common.{◌≡◌, ℕ, List, [], ◌∷◌, ◌++◌, refl, ap, ◌∙◌}
use Rattle.std.specs.Prelude.{Bool, true, false, ◌&&◌, ◌||◌, ◌==◌, not, nat_le, codes, if◌then◌else◌}
use Rattle.std.specs.List.{flat_map, list_all}
use Rattle.x_value.specs.Lines.{hex_byte, quoted_byte, is_plain}

-- what stands for a byte, by whether it is `"` or `\`, and printable
abbrev shown : Bool → Bool → ℕ → List ℕ
shown marked printed b = if marked then 92 ∷ b ∷ [] else if printed then b ∷ [] else codes "\\x" ++ hex_byte b

plain_shown : (marked printed : Bool) (b : ℕ) → (printed && not marked) ≡ true
    → shown marked printed b ≡ b ∷ []
plain_shown false true b h = refl
plain_shown false false b h = cc
plain_shown true true b h = cc
plain_shown true false b h = cc

both : (p q : Bool) → (p && q) ≡ true → (p ≡ true) × (q ≡ true)
both true true h = (refl, refl)
both true false h = cc
both false true h = cc
both false false h = cc

pub plain_text : (bs : List ℕ) → list_all is_plain bs ≡ true → flat_map quoted_byte bs ≡ bs
plain_text [] h = refl
plain_text (b ∷ bs) h =
    let parts = both (is_plain b) (list_all is_plain bs) h in
    ap (λ t. t ++ flat_map quoted_byte bs)
    (plain_shown (b == 34 || b == 92) (nat_le 32 b && nat_le b 126) b parts.0)
    ∙ ap (λ t. b ∷ t) (plain_text bs parts.1)

-- Bytes that stand for themselves in a string of JSON.
use Rattle.std.proofs.Common.{◌≡◌, ℕ, zero, suc, ◌<◌, ◌≤◌, true, List, [], ◌∷◌, ◌++◌, ap, arith, refl}
use Rattle.std.proofs.Common.{◌∙◌}
use Rattle.std.specs.List.{list_all}
use Rattle.std.specs.Str.{IsAscii}
use Rattle.std.specs.Str.Lossy.{utf8_lossy}
use Rattle.std.proofs.lemmas.Bool.{and_parts, eqb-false, leb-true, ltb-true, not-true}
use Rattle.std.proofs.lemmas.Str.{IsUtf8-from_ascii, utf8_lossy-IsUtf8}
use Rattle.json.specs.Print.{escape, quoted}
use Rattle.json.proofs.Printed.Strings.{escape_byte_plain}
use Rattle.serde_json.specs.Data.{string}
use Rattle.serde_json.specs.Written.{compact_text}
use Rattle.x_contents.specs.StringTexts.{is_plain_byte}

pub record IsPlain (b : ℕ) : Type 0 where
  pub least : 32 ≤ b
  pub most : b < 127
  pub no_quote : b ≡ 34 → ⊥
  pub no_slash : b ≡ 92 → ⊥

plain : (b : ℕ) → is_plain_byte b ≡ true → IsPlain b
plain b is =
    let all = and_parts _ _ is in
    let three = and_parts _ _ all.0 in
    let two = and_parts _ _ three.0 in
    record {
      least = leb-true 32 b two.0;
      most = ltb-true b 127 two.1;
      no_quote = eqb-false b 34 (not-true _ three.1);
      no_slash = eqb-false b 92 (not-true _ all.1);
    }

escaped : (s : List ℕ) → list_all is_plain_byte s ≡ true → escape s ≡ s
escaped [] is = refl
escaped (b ∷ s) is =
    let parts = and_parts (is_plain_byte b) (list_all is_plain_byte s) is in
    let p = plain b parts.0 in
    λ i. escape_byte_plain b p.no_quote p.no_slash p.least i ++ escaped s parts.1 i

ascii : (s : List ℕ) → list_all is_plain_byte s ≡ true → IsAscii s
ascii [] is i = omega arith
ascii (b ∷ s) is zero = let most = (plain b (and_parts _ _ is).0).most in omega (arith, most)
ascii (b ∷ s) is (suc i) = ascii s (and_parts (is_plain_byte b) (list_all is_plain_byte s) is).1 i

pub plain_text : (s : List ℕ) → list_all is_plain_byte s ≡ true
    → compact_text (string (utf8_lossy s)) ≡ 34 ∷ (s ++ 34 ∷ [])
plain_text s is = ap quoted (utf8_lossy-IsUtf8 s (IsUtf8-from_ascii s (ascii s is)))
    ∙ ap (λ l. 34 ∷ (l ++ 34 ∷ [])) (escaped s is)

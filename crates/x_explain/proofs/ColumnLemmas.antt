-- Columns of texts, and of the room that is as wide.
use Rattle.std.proofs.Common.{◌≡◌, ℕ, zero, suc, ◌+◌, ◌-◌, ◌*◌, ◌/◌, ◌%◌, ◌^◌, ◌<◌, ◌≤◌, Bool, true, false}
use Rattle.std.proofs.Common.{List, [], ◌∷◌, ◌++◌, length, map, codes, refl, sym, ap, ◌∙◌, append_assoc}
use Rattle.std.proofs.Common.{ne_eqb, arith}
use Rattle.std.specs.Prelude.{if◌then◌else◌, ◌==◌, ◌&&◌, ◌||◌, nat_le, slice_index, take, max}
use Rattle.std.specs.Fmt.{decimal}
use Rattle.std.specs.Int.Digits.{AllBelowBase, digits_of}
use Rattle.std.proofs.lemmas.Bool.{lt-leb}
use Rattle.std.proofs.lemmas.Fmt.{decimal-digits_of}
use Rattle.std.proofs.lemmas.Int.Digits.{all_below_base_digits_of}
use Rattle.std.proofs.lemmas.List.{length-map}
use Rattle.std.specs.List.{flat_map}
use Rattle.hex.proofs.OnLiterals.{hex_on_literals}
use Rattle.hex.specs.Hex.{encode_lower, lower_digits}
use Rattle.x_explain.specs.Columns.{IsUnderWord, ends_at, step}
use Rattle.x_explain.specs.Excerpts.{Excerpt}
use Rattle.x_explain.specs.Explained.{blank_front, gutter, margin, number_field, shown_front}
use Rattle.x_explain.specs.Shown.{blank, is_within, shown_byte}

-- a text after another
pub ends_after : (stop column : ℕ) (xs ys : List ℕ)
    → ends_at stop column (xs ++ ys) ≡ ends_at stop (ends_at stop column xs) ys
ends_after stop column [] ys = refl
ends_after stop column (x ∷ xs) ys = ends_after stop (step stop column x) xs ys

-- a hexadecimal digit has a column
digit_steps : (stop column k : ℕ) → step stop column (slice_index lower_digits k) ≡ suc column
digit_steps stop column zero = refl
digit_steps stop column (suc zero) = refl
digit_steps stop column (suc (suc zero)) = refl
digit_steps stop column (suc (suc (suc zero))) = refl
digit_steps stop column (suc (suc (suc (suc zero)))) = refl
digit_steps stop column (suc (suc (suc (suc (suc zero))))) = refl
digit_steps stop column (suc (suc (suc (suc (suc (suc zero)))))) = refl
digit_steps stop column (suc (suc (suc (suc (suc (suc (suc zero))))))) = refl
digit_steps stop column (suc (suc (suc (suc (suc (suc (suc (suc zero)))))))) = refl
digit_steps stop column (suc (suc (suc (suc (suc (suc (suc (suc (suc zero))))))))) = refl
digit_steps stop column (suc (suc (suc (suc (suc (suc (suc (suc (suc (suc zero)))))))))) = refl
digit_steps stop column (suc (suc (suc (suc (suc (suc (suc (suc (suc (suc (suc zero))))))))))) = refl
digit_steps stop column (suc (suc (suc (suc (suc (suc (suc (suc (suc (suc (suc (suc zero)))))))))))) = refl
digit_steps stop column (suc (suc (suc (suc (suc (suc (suc (suc (suc (suc (suc (suc (suc zero))))))))))))) =
    refl
digit_steps stop column
    (suc (suc (suc (suc (suc (suc (suc (suc (suc (suc (suc (suc (suc (suc zero)))))))))))))) = refl
digit_steps stop column
    (suc (suc (suc (suc (suc (suc (suc (suc (suc (suc (suc (suc (suc (suc (suc zero))))))))))))))) = refl
digit_steps stop column
    (suc (suc (suc (suc (suc (suc (suc (suc (suc (suc (suc (suc (suc (suc (suc (suc k)))))))))))))))) = refl

escape_ends : (stop column b : ℕ) → ends_at stop column (codes "\\x" ++ encode_lower (b ∷ []))
    ≡ suc (suc (suc (suc column)))
unfolding hex_on_literals
escape_ends stop column b =
    digit_steps stop (step stop (suc (suc column)) (slice_index lower_digits (b / 16))) (b % 16)
    ∙ ap suc (digit_steps stop (suc (suc column)) (b / 16))

-- a byte and the room that is as wide, by what the byte is
one_ends : (stop column b : ℕ) (tab rest within : Bool) → (b == 9) ≡ tab → is_within b ≡ within
    → ends_at stop column (if tab then b ∷ [] else take (if tab || rest then (if within then 0 else 1) else 4)
    (codes "    "))
    ≡ ends_at stop column (if tab || rest then b ∷ [] else codes "\\x" ++ encode_lower (b ∷ []))
one_ends stop column b true rest within is w = refl
one_ends stop column b false true true is w =
    sym (ap (λ t. if t then (column / stop + 1) * stop else (if is_within b then column else suc column)) is
    ∙ ap (λ t. if t then column else suc column) w)
one_ends stop column b false true false is w =
    sym (ap (λ t. if t then (column / stop + 1) * stop else (if is_within b then column else suc column)) is
    ∙ ap (λ t. if t then column else suc column) w)
one_ends stop column b false false within is w = sym (escape_ends stop column b)

-- a byte and the room that is as wide
byte_ends : (utf8 : Bool) (stop column b : ℕ)
    → ends_at stop column (blank utf8 b) ≡ ends_at stop column (shown_byte utf8 b)
byte_ends utf8 stop column b = one_ends stop column b (b == 9)
    ((nat_le 32 b && nat_le b 126) || (utf8 && nat_le 128 b)) (is_within b) refl refl

-- bytes and the room that is as wide
bytes_end : (utf8 : Bool) (stop column : ℕ) (bs : List ℕ)
    → ends_at stop column (flat_map (blank utf8) bs) ≡ ends_at stop column (flat_map (shown_byte utf8) bs)
bytes_end utf8 stop column [] = refl
bytes_end utf8 stop column (b ∷ bs) =
    ends_after stop column (blank utf8 b) (flat_map (blank utf8) bs)
    ∙ ap (λ at. ends_at stop at (flat_map (blank utf8) bs)) (byte_ends utf8 stop column b)
    ∙ bytes_end utf8 stop (ends_at stop column (shown_byte utf8 b)) bs
    ∙ sym (ends_after stop column (shown_byte utf8 b) (flat_map (shown_byte utf8) bs))

front_ends : (utf8 lacks : Bool) (stop column : ℕ) (bs : List ℕ)
    → ends_at stop column ((if lacks then codes "   " else []) ++ flat_map (blank utf8) bs)
    ≡ ends_at stop column ((if lacks then codes "..." else []) ++ flat_map (shown_byte utf8) bs)
front_ends utf8 true stop column bs = bytes_end utf8 stop (suc (suc (suc column))) bs
front_ends utf8 false stop column bs = bytes_end utf8 stop column bs

-- spaces from the start of a line
spaces_end : (stop k : ℕ) → k ≤ 10 → ends_at stop 0 (take k margin) ≡ k
spaces_end stop zero few = refl
spaces_end stop (suc zero) few = refl
spaces_end stop (suc (suc zero)) few = refl
spaces_end stop (suc (suc (suc zero))) few = refl
spaces_end stop (suc (suc (suc (suc zero)))) few = refl
spaces_end stop (suc (suc (suc (suc (suc zero))))) few = refl
spaces_end stop (suc (suc (suc (suc (suc (suc zero)))))) few = refl
spaces_end stop (suc (suc (suc (suc (suc (suc (suc zero))))))) few = refl
spaces_end stop (suc (suc (suc (suc (suc (suc (suc (suc zero)))))))) few = refl
spaces_end stop (suc (suc (suc (suc (suc (suc (suc (suc (suc zero))))))))) few = refl
spaces_end stop (suc (suc (suc (suc (suc (suc (suc (suc (suc (suc zero)))))))))) few = refl
spaces_end stop (suc (suc (suc (suc (suc (suc (suc (suc (suc (suc (suc k))))))))))) few =
    absurd (omega (arith, few))

-- the digits of a number
digit_step : (stop column d : ℕ) → d < 10 → step stop column (48 + d) ≡ suc column
digit_step stop column d low =
    let tab : (48 + d == 9) ≡ false = ne_eqb (48 + d) 9 (λ e. absurd (omega (arith, e))) in
    let within : is_within (48 + d) ≡ false =
    ap (λ t. t && nat_le (48 + d) 191) (lt-leb 128 (48 + d) (omega (arith, low))) in
    ap (λ t. if t then (column / stop + 1) * stop else (if is_within (48 + d) then column else suc column))
    tab ∙ ap (λ t. if t then column else suc column) within

digits_end : (stop column : ℕ) (ds : List ℕ) → AllBelowBase 10 ds
    → ends_at stop column (map (λ d. 48 + d) ds) ≡ column + length ds
digits_end stop column [] are = omega arith
digits_end stop column (d ∷ ds) are = ap (λ c. ends_at stop c (map (λ d. 48 + d) ds))
    (digit_step stop column d are.0) ∙ digits_end stop (suc column) ds are.1 ∙ omega arith

number_ends : (stop column n : ℕ) → 0 < n → n < 2 ^ 64
    → ends_at stop column (decimal n) ≡ column + length (decimal n)
number_ends stop column n some small =
    let is = decimal-digits_of n some small in
    let ds = digits_of 10 n in
    ap (ends_at stop column) is ∙ digits_end stop column ds (all_below_base_digits_of 10 n (omega arith))
    ∙ ap (λ k. column + k) (sym (length-map ds (λ d. 48 + d)) ∙ ap length (sym is))

-- the number of a line takes five columns, or as many as its digits
field_wide : (many : ℕ) → 5 - many + many ≡ max 5 many
field_wide many = omega arith

pub under_word : (line : ℕ) (e : Excerpt) → IsUnderWord line e
under_word line e stop some small few =
    let many = length (decimal line) in
    let wide = max 5 many in
    let rest : List ℕ = codes " | " ++ blank_front e in
    let other : List ℕ = codes " | " ++ shown_front e in
    let same : (column : ℕ) → ends_at stop column rest ≡ ends_at stop column other =
    λ column. front_ends e.utf8 e.lacks_before stop (suc (suc (suc column))) e.front in
    let sum = field_wide many in
    let within : wide ≤ 10 = omega (arith, sum, few) in
    let left : ends_at stop 0 (gutter line ++ rest) ≡ ends_at stop wide rest =
    ends_after stop 0 (gutter line) rest ∙ ap (λ c. ends_at stop c rest) (spaces_end stop wide within) in
    let field : ends_at stop 0 (number_field line) ≡ wide =
    ends_after stop 0 (take (5 - many) margin) (decimal line)
    ∙ ap (λ c. ends_at stop c (decimal line)) (spaces_end stop (5 - many) (omega arith))
    ∙ number_ends stop (5 - many) line some small ∙ sum in
    let right : ends_at stop 0 (number_field line ++ other) ≡ ends_at stop wide other =
    ends_after stop 0 (number_field line) other ∙ ap (λ c. ends_at stop c other) field in
    ap (ends_at stop 0) (append_assoc (gutter line) (codes " | ") (blank_front e)) ∙ left ∙ same wide
    ∙ sym right ∙ sym (ap (ends_at stop 0) (append_assoc (number_field line) (codes " | ") (shown_front e)))

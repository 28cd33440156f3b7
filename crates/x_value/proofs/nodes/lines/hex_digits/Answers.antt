use Rattle.std.proofs.Common.{length-set, ◌≡◌, ◌<◌, ◌*◌, ◌/◌, ◌%◌, ◌+◌, ℕ, List, [], ◌∷◌, ◌++◌, length, take}
use Rattle.std.proofs.Common.{get_or, set, sym, ap, subst, ◌∙◌, append_assoc, arith, rules}
use Rattle.std.proofs.lemmas.Grind.{flat_map-append}
use Rattle.std.proofs.lemmas.List.{take_all, take_more, take_more_set}
use Rattle.std.specs.List.{flat_map}
use Rattle.x_value.specs.Lines.{hex_digit, hex_byte}
use Rattle.x_value.proofs.nodes.lines.hex_digits.Goals as goal

-- two digits stand behind those of the bytes before
two_more : (ds so : List ℕ) (at high low : ℕ) → at + 1 < length ds → take at ds ≡ so
    → take (at + 1 + 1) (set (set ds at high) (at + 1) low) ≡ so ++ high ∷ low ∷ []
two_more ds so at high low lt is =
    let first : take (at + 1) (set ds at high) ≡ take at ds ++ high ∷ [] =
    take_more_set ds at high (omega (arith, lt)) in
    let within : at + 1 < length (set ds at high) =
    subst (λ n. at + 1 < n) (sym (length-set ds at high)) lt in
    take_more_set (set ds at high) (at + 1) low within
    ∙ ap (λ (t : List ℕ). t ++ low ∷ []) (first ∙ ap (λ (t : List ℕ). t ++ high ∷ []) is)
    ∙ append_assoc so (high ∷ []) (low ∷ [])

-- the digits of one byte more
digits_more : (bs ds : List ℕ) (i : ℕ) → i < length bs → 2 * i + 1 < length ds
    → take (2 * i) ds ≡ flat_map hex_byte (take i bs)
    → take (2 * (i + 1)) (set (set ds (2 * i) (hex_digit (get_or bs i 0 / 16))) (2 * i + 1)
    (hex_digit (get_or bs i 0 % 16))) ≡ flat_map hex_byte (take (i + 1) bs)
digits_more bs ds i h lt is =
    let b = get_or bs i 0 in
    let next : 2 * (i + 1) ≡ 2 * i + 1 + 1 = omega arith in
    ap (λ n. take n (set (set ds (2 * i) (hex_digit (b / 16))) (2 * i + 1) (hex_digit (b % 16)))) next
    ∙ two_more ds (flat_map hex_byte (take i bs)) (2 * i) (hex_digit (b / 16)) (hex_digit (b % 16)) lt is
    ∙ sym (flat_map-append hex_byte (take i bs) (b ∷ [])) ∙ ap (flat_map hex_byte) (sym (take_more bs i 0 h))

pub loop-index-preserved : goal.loop-index-preserved
loop-index-preserved c =
    let all = c.loop-index.invariant.0 in
    let test = c.loop-index-test.true in
    let room = c.requires in (
      search rules,
      rw (c.hex_digit.ensures, c.hex_digit-in-loop-index.ensures)
          (digits_more c.args.bytes.now c.loop-index.digits c.loop-index.index test
          (omega (arith, all, test, room)) c.loop-index.invariant.1),
    )

pub returns : goal.returns
returns c =
    let bs = c.args.bytes.now in
    let over = c.loop-index-test.false in
    let last = c.loop-index.auto.index-end in
    let all : length bs ≡ c.loop-index.index = omega (arith, over, last) in
    ap (λ n. take (2 * n) c.loop-index.digits) all ∙ c.loop-index.invariant.1
    ∙ ap (flat_map hex_byte) (take_all c.loop-index.index bs over)

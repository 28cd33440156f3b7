-- A queue of bytes within a buffer.
use Rattle.std.proofs.Common.{◌≡◌, ℕ, ◌+◌, ◌-◌, ◌<◌, ◌≤◌, List, ◌++◌, length, take, drop, Option, slice_range}
use Rattle.std.proofs.Common.{arith, sym, ap, ◌∙◌, length-take, length-drop, length-append}
use Rattle.std.proofs.lemmas.List.{take-append-le, drop-take, drop-drop}
use Rattle.std.proofs.Math.Seq.{take-append-add}
use Rattle.std.specs.Io.KnownBytes.{Consumes, IsAtEnd}
use borrow.Rule.Slice.PartMut.{put_mid, post_of}
use Rattle.x_lines.specs.Lines.{HasCome}

-- so many bytes fewer at the front
pub fewer : (buffer : List ℕ) (start end count : ℕ) → start ≤ end
    → count ≤ length (slice_range buffer start end)
    → slice_range buffer (start + count) end ≡ drop count (slice_range buffer start end)
fewer buffer start end count le within =
    let m = end - (start + count) in
    let all : end - start ≡ count + m = omega (arith, length-take (end - start) (drop start buffer)) in
    sym (ap (λ n. drop count (take n (drop start buffer))) all ∙ drop-take count m (drop start buffer)
    ∙ ap (take m) (drop-drop count start buffer))

pub length-filled : (buffer filled : List ℕ) (n : ℕ) → n < length buffer
    → length filled ≡ length (take (length buffer - n) (drop n buffer))
    → length (put_mid n (length buffer - n) buffer filled) ≡ length buffer
length-filled buffer filled n room full =
    simp (length-append, length-take, length-drop)
    (omega (arith, full, length-take (length buffer - n) (drop n buffer), length-drop n buffer))

-- bytes were read behind the first n of the buffer
pub come_behind : (old new buffer filled : List ℕ) (left left' : Option (List ℕ)) (n count : ℕ)
    → old ≡ take n buffer → n < length buffer
    → length filled ≡ length (take (length buffer - n) (drop n buffer)) → count ≤ length filled
    → Consumes left left' (take count filled) → (count ≡ 0 → 0 < length filled → IsAtEnd left')
    → (items : List ℕ) → new ≡ slice_range items 0 (n + count)
    → items ≡ put_mid n (length buffer - n) buffer filled
    → HasCome old new left left' count
come_behind old new buffer filled left left' n count is room full within taken end items view now = record {
  come = take count filled;
  from_tap = taken;
  new_is =
      let front : length (take n buffer) ≡ n = omega (arith, length-take n buffer) in
      view ∙ ap (λ l. slice_range l 0 (n + count)) now
      ∙ ap (λ k. take k (put_mid n (length buffer - n) buffer filled))
      (let e : n + count - 0 ≡ length (take n buffer) + count = omega arith in e)
      ∙ take-append-add (take n buffer) (filled ++ post_of n (length buffer - n) buffer) count
      ∙ ap (λ l. take n buffer ++ l)
      (take-append-le count filled (post_of n (length buffer - n) buffer) within)
      ∙ ap (λ l. l ++ take count filled) (sym is);
  count_is = omega (arith, length-take count filled);
  none =
      λ z. end z (omega (arith, full, length-take (length buffer - n) (drop n buffer), length-drop n buffer));
}

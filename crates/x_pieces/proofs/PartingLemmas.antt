-- Pieces that stand in one text, one behind another.
use Rattle.std.proofs.Common.{◌≡◌, ℕ, ◌-◌, List, ◌++◌, length, take, drop, arith, refl, ap, ◌∙◌, append_assoc}
use Rattle.std.proofs.Common.{length-append}
use Rattle.std.proofs.Math.Seq.{take-append_seam, drop-append_seam}
use Rattle.x_pieces.specs.Parting.{parted}
use Rattle.x_pieces.specs.declared.pieces.Ends.{Ends}

-- what stands between two places
between : (front part back : List ℕ) (start end : ℕ) → start ≡ length front → end ≡ length (front ++ part)
    → take (end - start) (drop start (front ++ part ++ back)) ≡ part
between front part back start end begins ends =
    let long : end - start ≡ length part = omega (arith, begins, ends, length-append front part) in
    let rest : drop start (front ++ part ++ back) ≡ part ++ back =
    ap (λ n. drop n (front ++ part ++ back)) begins ∙ ap (drop (length front)) (append_assoc front part back)
    ∙ drop-append_seam front (part ++ back) in
    ap (λ n. take n (drop start (front ++ part ++ back))) long ∙ ap (take (length part)) rest
    ∙ take-append_seam part back

first_of : (f h r s t : List ℕ) (n : ℕ) → n ≡ length f → take n (f ++ h ++ r ++ s ++ t) ≡ f
first_of f h r s t n is =
    ap (λ l. take n l) (append_assoc (f ++ h ++ r) s t ∙ append_assoc (f ++ h) r (s ++ t)
    ∙ append_assoc f h (r ++ (s ++ t)))
    ∙ ap (λ m. take m (f ++ (h ++ (r ++ (s ++ t))))) is ∙ take-append_seam f (h ++ (r ++ (s ++ t)))

second_of : (f h r s t : List ℕ) (m n : ℕ) → m ≡ length f → n ≡ length (f ++ h)
    → take (n - m) (drop m (f ++ h ++ r ++ s ++ t)) ≡ h
second_of f h r s t m n begins ends =
    ap (λ l. take (n - m) (drop m l)) (append_assoc (f ++ h ++ r) s t ∙ append_assoc (f ++ h) r (s ++ t))
    ∙ between f h (r ++ (s ++ t)) m n begins ends

third_of : (f h r s t : List ℕ) (m n : ℕ) → m ≡ length (f ++ h) → n ≡ length (f ++ h ++ r)
    → take (n - m) (drop m (f ++ h ++ r ++ s ++ t)) ≡ r
third_of f h r s t m n begins ends =
    ap (λ l. take (n - m) (drop m l)) (append_assoc (f ++ h ++ r) s t)
    ∙ between (f ++ h) r (s ++ t) m n begins ends

pub parted_is : (f h r s t : List ℕ) (e : Ends) → e.forward ≡ length f → e.header ≡ length (f ++ h)
    → e.routines ≡ length (f ++ h ++ r)
    → e.stubs ≡ length (f ++ h ++ r ++ s)
    → parted (f ++ h ++ r ++ s ++ t) e
    ≡ record { forward = f; header = h; routines = r; stubs = s; table = t }
parted_is f h r s t e a b c d = rw (
  first_of f h r s t e.forward a,
  second_of f h r s t e.forward e.header a b,
  third_of f h r s t e.header e.routines b c,
  between (f ++ h ++ r) s t e.routines e.stubs c d,
  ap (λ n. drop n (f ++ h ++ r ++ s ++ t)) d ∙ drop-append_seam (f ++ h ++ r ++ s) t,
) refl

-- the same of a text to which they were added one after another
pub grown_is : (one two three four five f h r s t : List ℕ) (e : Ends) → one ≡ f → two ≡ one ++ h
    → three ≡ two ++ r → four ≡ three ++ s → five ≡ four ++ t
    → e.forward ≡ length one → e.header ≡ length two → e.routines ≡ length three → e.stubs ≡ length four
    → parted five e ≡ record { forward = f; header = h; routines = r; stubs = s; table = t }
grown_is one two three four five f h r s t e first second third fourth fifth a b c d =
    let header : two ≡ f ++ h = second ∙ ap (λ l. l ++ h) first in
    let routines : three ≡ f ++ h ++ r = third ∙ ap (λ l. l ++ r) header in
    let stubs : four ≡ f ++ h ++ r ++ s = fourth ∙ ap (λ l. l ++ s) routines in
    ap (λ l. parted l e) (fifth ∙ ap (λ l. l ++ t) stubs)
    ∙ parted_is f h r s t e (a ∙ ap length first) (b ∙ ap length header) (c ∙ ap length routines)
    (d ∙ ap length stubs)

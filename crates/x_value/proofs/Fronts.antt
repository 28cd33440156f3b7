-- Laws of languages, whatever their lists are of.
use Rattle.std.proofs.Common.{◌≡◌, ℕ, ◌+◌, ◌*◌, ◌<◌, ◌≤◌, List, [], ◌∷◌, ◌++◌, length, refl, sym, ◌∙◌, ap}
use Rattle.std.proofs.Common.{subst, append_assoc, arith, inl, inr}
use Rattle.std.proofs.lemmas.List.{append-nil, length-append}
use Rattle.std.proofs.lemmas.Bool.{cases_lt}
use Rattle.x_value.specs.Shown.{Node}
use Rattle.x_value.specs.Readings.{UnitRole}
use Rattle.x_value.specs.Language.{Language, Leads, Begins, NotIn, IsOfUnits, Stuck, Short}

-- ---- lists

-- two ways to cut a list: the longer front has the shorter one in front
pub cut_longer : {A : Type 0} (a b c d : List A) → a ++ b ≡ c ++ d → length a ≤ length c
    → (e : List A) × (c ≡ a ++ e) × (b ≡ e ++ d)
cut_longer [] b c d e le = (c, refl, e)
cut_longer (x ∷ a) b [] d e le = absurd (omega arith)
cut_longer (x ∷ a) b (y ∷ c) d e le =
    let tails : a ++ b ≡ c ++ d = cc in
    let heads : x ≡ y = cc in
    let ih = cut_longer a b c d tails (omega arith) in
    (ih.0, (let p : c ≡ a ++ ih.0 = ih.1 in cc), ih.2)

pub cut_same : {A : Type 0} (a b c d : List A) → a ++ b ≡ c ++ d → length a ≡ length c → (a ≡ c) × (b ≡ d)
cut_same [] b [] d e le = (refl, e)
cut_same [] b (y ∷ c) d e le = absurd (omega arith)
cut_same (x ∷ a) b [] d e le = absurd (omega arith)
cut_same (x ∷ a) b (y ∷ c) d e le =
    let tails : a ++ b ≡ c ++ d = cc in
    let heads : x ≡ y = cc in
    let ih = cut_same a b c d tails (omega arith) in
    ((let p : a ≡ c = ih.0 in cc), ih.1)

pub append_is_nil : {A : Type 0} (a b : List A) → a ++ b ≡ [] → (a ≡ []) × (b ≡ [])
append_is_nil [] b e = (refl, e)
append_is_nil (x ∷ a) b e = absurd cc

-- ---- what leads on

pub leads_nowhere : (L : Language) → Leads L [] [] [] L
leads_nowhere L = record { on = λ x y n h. h; back = λ x z m h. (z, m, refl, refl, h) }

pub leads_then : (L M N : Language) (p q : List ℕ) (s t : List UnitRole) (a b : List Node) → Leads L p s a M
    → Leads M q t b N → Leads L (p ++ q) (s ++ t) (a ++ b) N
leads_then L M N p q s t a b f g = record {
  on = λ x y n h. rw (append_assoc, append_assoc, append_assoc)
      (f.on (q ++ x) (t ++ y) (b ++ n) (g.on x y n h));
  back = λ x z m h.
      let h' : L (p ++ (q ++ x)) z m = rw append_assoc at h in
      let one = f.back (q ++ x) z m h' in
      let two = g.back x one.0 one.1 one.4 in (
        two.0,
        two.1,
        one.2 ∙ ap (λ v. s ++ v) two.2 ∙ sym (append_assoc s t two.0),
        one.3 ∙ ap (λ v. a ++ v) two.3 ∙ sym (append_assoc a b two.1),
        two.4,
      );
}

pub begins_behind : (L M : Language) (p q : List ℕ) (s : List UnitRole) (a : List Node) → Leads L p s a M
    → Begins M q → Begins L (p ++ q)
begins_behind L M p q s a f b = record {
  rest = b.rest;
  told = s ++ b.told;
  shown = a ++ b.shown;
  is_in = rw append_assoc (f.on (q ++ b.rest) b.told b.shown b.is_in);
}

pub not_in_behind : (L M : Language) (p q : List ℕ) (s : List UnitRole) (a : List Node) → Leads L p s a M
    → NotIn M q → NotIn L (p ++ q)
not_in_behind L M p q s a f n z m h = let one = f.back q z m h in n one.0 one.1 one.4

pub stuck_behind : (L M : Language) (faulty : UnitRole → List ℕ → Type 0) (p m : List ℕ) (s : List UnitRole)
    (a : List Node) (at : ℕ) →
    Leads L p s a M → length p ≡ 4 * length s → Stuck M faulty m at → Stuck L faulty (p ++ m) (length p + at)
stuck_behind L M faulty p m s a at f len k = record {
  front = p ++ k.front;
  unit = k.unit;
  rest = k.rest;
  parts = ap (λ v. p ++ v) k.parts ∙ sym (append_assoc p k.front (k.unit ++ k.rest));
  place = ap (λ v. length p + v) k.place ∙ sym (length-append p k.front);
  wide = k.wide;
  begun = begins_behind L M p k.front s a f k.begun;
  unfinished = not_in_behind L M p k.front s a f k.unfinished;
  ended = λ x z n h.
      let one = f.back (k.front ++ (k.unit ++ x)) z n (rw append_assoc at h) in
      k.ended x one.0 one.1 one.4;
  cause = λ x z n h.
      let one = f.back (k.front ++ x) z n (rw append_assoc at h) in
      let two = k.cause x one.0 one.1 one.4 in (
        s ++ two.0,
        two.1,
        two.2,
        one.2 ∙ ap (λ v. s ++ v) two.3 ∙ sym (append_assoc s two.0 (two.1 ∷ two.2)),
        (let l : length k.front ≡ 4 * length two.0 = two.4 in let lp = length-append p k.front in
            let ls = length-append s two.0 in omega arith),
        two.5,
      );
}

pub short_behind : (L M : Language) (p m : List ℕ) (s : List UnitRole) (a : List Node) (at : ℕ) →
    Leads L p s a M → length p ≡ 4 * length s → Short M m at → Short L (p ++ m) (length p + at)
short_behind L M p m s a at f len k = record {
  front = p ++ k.front;
  tail = k.tail;
  parts = ap (λ v. p ++ v) k.parts ∙ sym (append_assoc p k.front k.tail);
  place = ap (λ v. length p + v) k.place ∙ sym (length-append p m);
  begun = begins_behind L M p k.front s a f k.begun;
  units = length s + k.units;
  whole = let l = k.whole in let lp = length-append p k.front in omega arith;
  part = k.part;
  unfinished = not_in_behind L M p k.front s a f k.unfinished;
}

-- ---- nothing of the language is a front of what is refused

-- a front of a front that goes on is all of it
pub within_open : (L : Language) (front a c : List ℕ) → IsOfUnits L → Begins L front → NotIn L front
    → front ≡ a ++ c → NotIn L a
within_open L front a c one b n e y m h =
    let longer : L (a ++ (c ++ b.rest)) b.told b.shown =
    rw append_assoc at (subst (λ v. L (v ++ b.rest) b.told b.shown) e b.is_in) in
    let nils = append_is_nil c b.rest (one.one_end a (c ++ b.rest) y b.told m b.shown h longer) in
    n b.told b.shown
    (subst (λ v. L v b.told b.shown) (ap (λ v. front ++ v) nils.1 ∙ append-nil front) b.is_in)

between_units : (u y e : ℕ) → 4 * y ≡ 4 * u + e → 0 < e → e < 4 → ⊥
between_units u y e eq pos lt = omega arith

pub none_in_short : (L : Language) (m : List ℕ) (at : ℕ) → IsOfUnits L → Short L m at → (a b : List ℕ)
    → m ≡ a ++ b → NotIn L a
none_in_short L m at one k a b e y n h =
    elim (cases_lt (length k.front) (length a)) [
      | inr le ↦ (let c = cut_longer a b k.front k.tail (sym e ∙ k.parts) le in
          within_open L k.front a c.0 one k.begun k.unfinished c.1 y n h)
      | inl lt ↦ (
          let c = cut_longer k.front k.tail a b (sym k.parts ∙ e) (omega arith) in
          let split : length a ≡ length k.front + length c.0 = ap length c.1 ∙ length-append k.front c.0 in
          let tails : length k.tail ≡ length c.0 + length b = ap length c.2 ∙ length-append c.0 b in
          let units = one.units a y n h in
          between_units k.units (length y) (length c.0) (sym units ∙ split ∙ ap (λ v. v + length c.0) k.whole)
          (omega arith) (let p = k.part in omega arith))
    ]

pub none_in_stuck : (L : Language) (faulty : UnitRole → List ℕ → Type 0) (m : List ℕ) (at : ℕ) → IsOfUnits L
    → Stuck L faulty m at → (a b : List ℕ) → m ≡ a ++ b → NotIn L a
none_in_stuck L faulty m at one k a b e y n h =
    let why = k.cause k.begun.rest k.begun.told k.begun.shown k.begun.is_in in
    let place : length k.front ≡ 4 * length why.0 = why.4 in
    elim (cases_lt (length k.front) (length a)) [
      | inr le ↦ (let c = cut_longer a b k.front (k.unit ++ k.rest) (sym e ∙ k.parts) le in
          within_open L k.front a c.0 one k.begun k.unfinished c.1 y n h)
      | inl lt ↦ (
          let c = cut_longer k.front (k.unit ++ k.rest) a b (sym k.parts ∙ e) (omega arith) in
          let split : length a ≡ length k.front + length c.0 = ap length c.1 ∙ length-append k.front c.0 in
          let units = one.units a y n h in
          elim (cases_lt (length c.0) (length k.unit)) [
            | inl short ↦ between_units (length why.0) (length y) (length c.0) (sym units ∙ split
                ∙ ap (λ v. v + length c.0) place) (omega arith) (let p = k.wide in omega arith)
            | inr long ↦ (let d = cut_longer k.unit k.rest c.0 b c.2 long in
                k.ended d.0 y n (subst (λ v. L v y n) (c.1 ∙ ap (λ v. k.front ++ v) d.1) h))
          ])
    ]

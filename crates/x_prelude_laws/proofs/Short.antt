-- How many names there can be of so many bytes.
use Rattle.std.proofs.Common.{◌≡◌, ◌⊎◌, inl, inr, ℕ, suc, ◌+◌, ◌-◌, ◌*◌, ◌<◌, ◌≤◌, Bool, true, false, cond}
use Rattle.std.proofs.Common.{List, [], ◌∷◌, length, eqb, arith, refl, sym, ap, subst, ◌∙◌}
use Rattle.std.specs.Prelude.{◌&&◌, ◌||◌, nat_le}
use Rattle.std.specs.List.{AllByRecursion, IsAmong, IsDistinct, list_all, list_any}
use Rattle.std.proofs.lemmas.Bool.{eqb-true}
use Rattle.std.proofs.lemmas.Bool.Decides.{nat_tests}
use Rattle.std.proofs.lemmas.Map.Keys.{IsDistinct-cons}
use Rattle.std.proofs.lemmas.Map.Steps.{length-le_from_distinct_below}
use Rattle.x_lex.specs.Bytes.{is_word_byte}
use Rattle.x_trees.proofs.AmongLemmas.{among_cases, among_first, among_more, among_none}
use Rattle.x_prelude_laws.proofs.Distinct.{Distinct}

-- ---- words as numbers

abbrev AreWordBytes : List ℕ → Type 0
AreWordBytes [] = Unit {0}
AreWordBytes (b ∷ w) = (is_word_byte b ≡ true) × AreWordBytes w

word_bytes : (w : List ℕ) → list_all is_word_byte w ≡ true → AreWordBytes w
word_bytes [] h = tt
word_bytes (b ∷ w) h = by (is_word_byte b) (list_all is_word_byte w) refl refl h (λ e. word_bytes w e)
  where
    by : (x y : Bool) → is_word_byte b ≡ x → list_all is_word_byte w ≡ y → (x && y) ≡ true
        → (list_all is_word_byte w ≡ true → AreWordBytes w) → AreWordBytes (b ∷ w)
    by true true e f g next = (e, next f)
    by true false e f g next = absurd (cc)
    by false y e f g next = absurd (cc)

-- a word byte is one of 75
record IsDigit (b : ℕ) : Type 0 where
  some : 0 < b - 47
  below : b - 47 < 76

digit_of : (b : ℕ) → is_word_byte b ≡ true → IsDigit b
digit_of b h = record { some = low b h; below = high b h }
  where
    low : (b : ℕ) → is_word_byte b ≡ true → 0 < b - 47
    low b h = grind (arith, nat_tests)

    high : (b : ℕ) → is_word_byte b ≡ true → b - 47 < 76
    high b h = grind (arith, nat_tests)

-- the number of a word, in base 76
code : List ℕ → ℕ
code [] = 0
code (b ∷ w) = (b - 47) + 76 * code w

one_word : (w v : List ℕ) → AreWordBytes w → AreWordBytes v → code w ≡ code v → w ≡ v
unfolding code
one_word [] [] h k e = refl
one_word [] (b ∷ v) h k e = absurd (let d = digit_of b k.0 in let some = d.some in omega (arith, some, e))
one_word (a ∷ w) [] h k e = absurd (let d = digit_of a h.0 in let some = d.some in omega (arith, some, e))
one_word (a ∷ w) (b ∷ v) h k e =
    let c = digit_of a h.0 in
    let d = digit_of b k.0 in
    let byte = same_byte a b (code w) (code v) c d e in
    let rest = one_word w v h.1 k.1 (same_rest a b (code w) (code v) c d e) in
    λ i. byte i ∷ rest i
  where
    same_byte : (a b x y : ℕ) → IsDigit a → IsDigit b → (a - 47) + 76 * x ≡ (b - 47) + 76 * y → a ≡ b
    same_byte a b x y c d e =
        let p = c.some in let q = c.below in let r = d.some in let s = d.below in omega (arith, p, q, r, s, e)

    same_rest : (a b x y : ℕ) → IsDigit a → IsDigit b → (a - 47) + 76 * x ≡ (b - 47) + 76 * y → x ≡ y
    same_rest a b x y c d e =
        let p = c.some in let q = c.below in let r = d.some in let s = d.below in omega (arith, p, q, r, s, e)

-- a word of at most three bytes has a small one
short_code : (w : List ℕ) → AreWordBytes w → length w ≤ 3 → code w < 438976
unfolding code
short_code [] h le = omega arith
short_code (a ∷ []) h le = let p = (digit_of a h.0).below in omega (arith, p)
short_code (a ∷ b ∷ []) h le =
    let p = (digit_of a h.0).below in let q = (digit_of b h.1.0).below in omega (arith, p, q)
short_code (a ∷ b ∷ c ∷ []) h le =
    let p = (digit_of a h.0).below in
    let q = (digit_of b h.1.0).below in
    let r = (digit_of c h.1.1.0).below in
    omega (arith, p, q, r)
short_code (a ∷ b ∷ c ∷ d ∷ w) h le = absurd (omega (arith, le))

-- ---- short names

abbrev pub AllWords : List (List ℕ) → Type 0
AllWords [] = Unit {0}
AllWords (n ∷ ns) = (list_all is_word_byte n ≡ true) × AllWords ns

all_words : (ns : List (List ℕ)) (n : List ℕ) → AllWords ns → IsAmong ns n → AreWordBytes n
all_words [] n h k = absurd (among_none n k)
all_words (m ∷ ns) n h k = by (among_cases m n ns k) (λ j. all_words ns n h.1 j)
  where
    by : (n ≡ m) ⊎ IsAmong ns n → (IsAmong ns n → AreWordBytes n) → AreWordBytes n
    by (inl e) next = word_bytes n (ap (list_all is_word_byte) e ∙ h.0)
    by (inr j) next = next j

abbrev is_short : List ℕ → Bool
is_short w = nat_le (length w) 3

short_is : (w : List ℕ) → is_short w ≡ true → length w ≤ 3
short_is w h = by (length w) h
  where
    by : (n : ℕ) → nat_le n 3 ≡ true → n ≤ 3
    by n h = grind (arith, nat_tests)

long_is : (w : List ℕ) → is_short w ≡ false → 3 < length w
long_is w h = by (length w) h
  where
    by : (n : ℕ) → nat_le n 3 ≡ false → 3 < n
    by n h = grind (arith, nat_tests)

-- the numbers of the short names
abbrev short_codes : List (List ℕ) → List ℕ
short_codes [] = []
short_codes (n ∷ ns) = cond (is_short n) (code n ∷ short_codes ns) (short_codes ns)

-- the name with a number among them
record HasCode (ns : List (List ℕ)) (q : ℕ) : Type 0 where
  name : List ℕ
  among : IsAmong ns name
  short : is_short name ≡ true
  is : code name ≡ q

has_code : (ns : List (List ℕ)) (q : ℕ) → IsAmong (short_codes ns) q → HasCode ns q
has_code [] q h = absurd (among_none q h)
has_code (n ∷ ns) q h = by (is_short n) refl h (λ k. has_code ns q k)
  where
    later : HasCode ns q → HasCode (n ∷ ns) q
    later c = record { name = c.name; among = among_more n c.name ns c.among; short = c.short; is = c.is }

    cases : is_short n ≡ true → (q ≡ code n) ⊎ IsAmong (short_codes ns) q
        → (IsAmong (short_codes ns) q → HasCode ns q)
        → HasCode (n ∷ ns) q
    cases e (inl same) next = record { name = n; among = among_first n ns; short = e; is = sym same }
    cases e (inr k) next = later (next k)

    by : (b : Bool) → is_short n ≡ b → IsAmong (cond b (code n ∷ short_codes ns) (short_codes ns)) q
        → (IsAmong (short_codes ns) q → HasCode ns q) → HasCode (n ∷ ns) q
    by true e k next = cases e (among_cases (code n) q (short_codes ns) k) next
    by false e k next = later (next k)

each_differs : (q : ℕ) (qs : List ℕ) → (IsAmong qs q → ⊥) → AllByRecursion (λ y. eqb q y ≡ false) qs
each_differs q [] apart = tt
each_differs q (p ∷ qs) apart = (by (eqb q p) refl, each_differs q qs (λ k. apart (among_more p q qs k)))
  where
    by : (b : Bool) → eqb q p ≡ b → b ≡ false
    by false e = refl
    by true e = absurd (apart (subst (IsAmong (p ∷ qs)) (sym (eqb-true q p e)) (among_first p qs)))

codes_distinct : (ns : List (List ℕ)) → AllWords ns → Distinct ns → IsDistinct eqb (short_codes ns)
unfolding IsDistinct
codes_distinct [] h d = tt
codes_distinct (n ∷ ns) h d = by (is_short n) (codes_distinct ns h.1 d.1)
  where
    apart : IsAmong (short_codes ns) (code n) → ⊥
    apart k =
        let c = has_code ns (code n) k in
        let same = one_word c.name n (all_words ns c.name h.1 c.among) (word_bytes n h.0) c.is in
        d.0 (subst (IsAmong ns) same c.among)

    by : (b : Bool) → IsDistinct eqb (short_codes ns) → IsDistinct eqb
        (cond b (code n ∷ short_codes ns) (short_codes ns))
    by true rest = IsDistinct-cons eqb (code n) (short_codes ns)
        (each_differs (code n) (short_codes ns) apart) rest
    by false rest = rest

any_among : (q : ℕ) (qs : List ℕ) → list_any (eqb q) qs ≡ true → IsAmong qs q
any_among q [] h = absurd (cc)
any_among q (p ∷ qs) h = by (eqb q p) refl h (λ k. any_among q qs k)
  where
    by : (b : Bool) → eqb q p ≡ b → (b || list_any (eqb q) qs) ≡ true
        → (list_any (eqb q) qs ≡ true → IsAmong qs q)
        → IsAmong (p ∷ qs) q
    by true e k next = subst (IsAmong (p ∷ qs)) (sym (eqb-true q p e)) (among_first p qs)
    by false e k next = among_more p q qs (next k)

few_short : (ns : List (List ℕ)) → AllWords ns → Distinct ns → length (short_codes ns) ≤ 438976
few_short ns h d =
    length-le_from_distinct_below (short_codes ns) 438976 (codes_distinct ns h d)
    (λ q k.
    let c = has_code ns q (any_among q (short_codes ns) k) in
    subst (λ x. x < 438976) c.is
    (short_code c.name (all_words ns c.name h c.among) (short_is c.name c.short)))

-- ---- all names

-- so many bytes they have, each with one behind it
abbrev pub room_of : List (List ℕ) → ℕ
room_of [] = 0
room_of (n ∷ ns) = length n + 1 + room_of ns

many_room : (ns : List (List ℕ)) → 5 * length ns ≤ room_of ns + 5 * length (short_codes ns)
many_room [] = omega arith
many_room (n ∷ ns) = by (is_short n) refl (many_room ns)
  where
    by : (b : Bool) → is_short n ≡ b → 5 * length ns ≤ room_of ns + 5 * length (short_codes ns)
        → 5 * suc (length ns) ≤ (length n + 1 + room_of ns) + 5 * length
        (cond b (code n ∷ short_codes ns) (short_codes ns))
    by true e le = omega (arith, le)
    by false e le = let lt = long_is n e in omega (arith, le, lt)

-- distinct names for which a text has room are fewer than 2^22
pub few_names : (ns : List (List ℕ)) → AllWords ns → Distinct ns → room_of ns ≤ 16777217 → length ns < 4194304
few_names ns h d room =
    let short = few_short ns h d in
    let many = many_room ns in
    omega (arith, short, many, room)

-- The places where tokens end, and the tokens from such a place on.
use Rattle.std.proofs.Common.{◌≡◌, ℕ, zero, suc, ◌+◌, ◌-◌, ◌<◌, ◌≤◌, Bool, true, false, List, [], ◌∷◌, ◌++◌}
use Rattle.std.proofs.Common.{length, get_or, take, drop, arith, refl, sym, ap, subst, ◌∙◌, length-drop}
use Rattle.std.proofs.Common.{get_or-drop, add-one}
use Rattle.std.specs.Prelude.{◌==◌, ◌||◌}
use Rattle.std.proofs.lemmas.List.{drop-drop}
use Rattle.x_lex.specs.declared.kind.Kind.{Kind}
use Rattle.x_lex.specs.Tiling.{Tiles, AreTokens, starts_after, span, end_of}
use Rattle.x_lex.specs.Places.{is_line_start}
use Rattle.x_lex.proofs.TilingLemmas.{token_spans}
use Rattle.x_lex.proofs.LocalLemmas.{Agree, local_token}

pub end_le_span : (ts : List (Kind × ℕ)) (i : ℕ) → end_of ts i ≤ span ts
end_le_span ts zero = omega arith
end_le_span [] (suc i) = omega arith
end_le_span (t ∷ ts) (suc i) = let r = end_le_span ts i in omega (arith, r)

pub end_mono : (ts : List (Kind × ℕ)) (i j : ℕ) → i ≤ j → end_of ts i ≤ end_of ts j
end_mono ts zero j le = omega arith
end_mono ts (suc i) zero le = absurd (omega arith)
end_mono [] (suc i) (suc j) le = omega arith
end_mono (t ∷ ts) (suc i) (suc j) le = let r = end_mono ts i j (omega arith) in omega (arith, r)

end_suc : (ts : List (Kind × ℕ)) (i : ℕ) (d : Kind × ℕ) → i < length ts
    → end_of ts (suc i) ≡ end_of ts i + (get_or ts i d).1
end_suc [] i d lt = absurd (omega arith)
end_suc (t ∷ ts) zero d lt = omega arith
end_suc (t ∷ ts) (suc i) d lt = let r = end_suc ts i d (omega arith) in omega (arith, r)

pub end_more : (ts : List (Kind × ℕ)) (i : ℕ) (d : Kind × ℕ) → i < length ts
    → end_of ts (i + 1) ≡ end_of ts i + (get_or ts i d).1
end_more ts i d lt = rw add-one (end_suc ts i d lt)

pub end_all : (ts : List (Kind × ℕ)) → end_of ts (length ts) ≡ span ts
end_all [] = refl
end_all (t ∷ ts) = ap (λ n. t.1 + n) (end_all ts)

-- a token ends no later than all
pub end_more_le : (ts : List (Kind × ℕ)) (i : ℕ) (d : Kind × ℕ) → i < length ts
    → end_of ts i + (get_or ts i d).1 ≤ span ts
end_more_le ts i d lt = let e = end_more ts i d lt in let l = end_le_span ts (i + 1) in omega (arith, e, l)

-- whether the place behind the first n bytes of rest is a
-- line start, where `start` says it of the place before them
abbrev pub starts_from : Bool → List ℕ → ℕ → Bool
starts_from start rest zero = start
starts_from start rest (suc n) = get_or rest n 0 == 10

starts_are : (text : List ℕ) (at : ℕ) → starts_from true text at ≡ is_line_start text at
starts_are text zero = refl
starts_are text (suc n) =
    let e : n ≡ suc n - 1 = omega arith in
    let f : (suc n == 0) ≡ false = grind arith in
    ap (λ i. get_or text i 0 == 10) e ∙ ap (λ b. b || get_or text (suc n - 1) 0 == 10) (sym f)

pub starts_after_is : (start : Bool) (rest : List ℕ) (n : ℕ) → 0 < n
    → starts_after rest n ≡ starts_from start rest n
starts_after_is start rest zero pos = absurd (omega arith)
starts_after_is start rest (suc n) pos =
    let e : suc n - 1 ≡ n = omega arith in ap (λ i. get_or rest i 0 == 10) e

pub starts_then : (start : Bool) (rest : List ℕ) (n m : ℕ)
    → starts_from (starts_from start rest n) (drop n rest) m ≡ starts_from start rest (n + m)
starts_then start rest n zero = let e : n ≡ n + 0 = omega arith in ap (λ i. starts_from start rest i) e
starts_then start rest n (suc m) =
    let e : suc (n + m) ≡ n + suc m = omega arith in ap (λ b. b == 10) (get_or-drop n rest m 0)
    ∙ ap (λ i. starts_from start rest i) e

-- what is left behind the first i tokens
pub tiles_drop : (i : ℕ) (start : Bool) (rest : List ℕ) (ts : List (Kind × ℕ)) → Tiles start rest ts
    → i ≤ length ts → Tiles (starts_from start rest (end_of ts i)) (drop (end_of ts i) rest) (drop i ts)
tiles_drop zero start rest ts h le = h
tiles_drop (suc i) start rest [] h le = absurd (omega arith)
tiles_drop (suc i) start rest (t ∷ ts) h le =
    let r : Tiles (starts_from (starts_after rest t.1) (drop t.1 rest) (end_of ts i))
    (drop (end_of ts i) (drop t.1 rest)) (drop i ts) =
    tiles_drop i (starts_after rest t.1) (drop t.1 rest) ts h.1 (omega arith) in
    let s : starts_from (starts_after rest t.1) (drop t.1 rest) (end_of ts i)
    ≡ starts_from start rest (t.1 + end_of ts i) =
    ap (λ b. starts_from b (drop t.1 rest) (end_of ts i))
    (starts_after_is start rest t.1 (token_spans t.0 start rest t.1 h.0).some)
    ∙ starts_then start rest t.1 (end_of ts i) in
    subst (λ b. Tiles b (drop (t.1 + end_of ts i) rest) (drop i ts)) s
    (subst (λ l. Tiles (starts_from (starts_after rest t.1) (drop t.1 rest) (end_of ts i)) l (drop i ts))
    (drop-drop (end_of ts i) t.1 rest) r)

-- two texts with the same bytes below m
pub record Same (xs ys : List ℕ) (m : ℕ) : Type 0 where
  pub left : m ≤ length xs
  pub right : m ≤ length ys
  pub bytes : (i : ℕ) → i < m → get_or xs i 0 ≡ get_or ys i 0

same_drop : (xs ys : List ℕ) (m n : ℕ) → n ≤ m → Same xs ys m → Same (drop n xs) (drop n ys) (m - n)
same_drop xs ys m n le h = record {
  left = let l = h.left in rw length-drop (omega (arith, l));
  right = let l = h.right in rw length-drop (omega (arith, l));
  bytes = λ i lt. get_or-drop n xs i 0 ∙ h.bytes (n + i) (omega arith) ∙ sym (get_or-drop n ys i 0);
}

same_agree : (xs ys : List ℕ) (m n : ℕ) → n < m → Same xs ys m → Agree xs ys n
same_agree xs ys m n lt h =
    record {
      left = let l = h.left in omega (arith, l);
      right = let l = h.right in omega (arith, l);
      same = λ i le. h.bytes i (omega arith);
    }

pub same_starts : (start : Bool) (xs ys : List ℕ) (m n : ℕ) → n ≤ m → Same xs ys m
    → starts_from start xs n ≡ starts_from start ys n
same_starts start xs ys m zero le h = refl
same_starts start xs ys m (suc n) le h = ap (λ b. b == 10) (h.bytes n (omega arith))

-- the tokens that end below m are tokens of the other text too
pub front_same : (i : ℕ) (start : Bool) (xs ys : List ℕ) (ts : List (Kind × ℕ)) (m : ℕ) → Same xs ys m
    → Tiles start xs ts → i ≤ length ts → (0 < i → end_of ts i < m) → (us : List (Kind × ℕ))
    → Tiles (starts_from start ys (end_of ts i)) (drop (end_of ts i) ys) us → Tiles start ys (take i ts ++ us)
front_same zero start xs ys ts m same h le below us k = k
front_same (suc i) start xs ys [] m same h le below us k = absurd (omega arith)
front_same (suc i) start xs ys (t ∷ ts) m same h le below us k =
    let all : t.1 + end_of ts i < m = below (omega arith) in
    let pos = (token_spans t.0 start xs t.1 h.0).some in
    let bit : starts_after xs t.1 ≡ starts_after ys t.1 = starts_after_is start xs t.1 pos
    ∙ same_starts start xs ys m t.1 (omega arith) same ∙ sym (starts_after_is start ys t.1 pos) in
    let rest : Tiles (starts_after ys t.1) (drop t.1 xs) ts = subst (λ b. Tiles b (drop t.1 xs) ts) bit h.1 in
    let s : starts_from start ys (t.1 + end_of ts i)
    ≡ starts_from (starts_after ys t.1) (drop t.1 ys) (end_of ts i) =
    sym (starts_then start ys t.1 (end_of ts i))
    ∙ ap (λ b. starts_from b (drop t.1 ys) (end_of ts i)) (sym (starts_after_is start ys t.1 pos)) in
    let k2 : Tiles (starts_from (starts_after ys t.1) (drop t.1 ys) (end_of ts i))
    (drop (end_of ts i) (drop t.1 ys)) us =
    subst (λ b. Tiles b (drop (end_of ts i) (drop t.1 ys)) us) s
    (subst (λ l. Tiles (starts_from start ys (t.1 + end_of ts i)) l us)
    (sym (drop-drop (end_of ts i) t.1 ys)) k) in (
      local_token t.0 start xs ys t.1 h.0 (same_agree xs ys m t.1 (omega arith) same),
      front_same i (starts_after ys t.1) (drop t.1 xs) (drop t.1 ys) ts (m - t.1)
          (same_drop xs ys m t.1 (omega arith) same) rest (omega arith) (λ p. omega arith) us k2,
    )

-- what is left of all tokens of a text
pub tiles_from : (i : ℕ) (text : List ℕ) (ts : List (Kind × ℕ)) → AreTokens text ts → i ≤ length ts
    → Tiles (is_line_start text (end_of ts i)) (drop (end_of ts i) text) (drop i ts)
tiles_from i text ts h le = subst (λ b. Tiles b (drop (end_of ts i) text) (drop i ts))
    (starts_are text (end_of ts i)) (tiles_drop i true text ts h le)

-- a place up to which two texts are the same is a line start in both or in neither
pub same_line_starts : (xs ys : List ℕ) (m n : ℕ) → n ≤ m → Same xs ys m
    → is_line_start xs n ≡ is_line_start ys n
same_line_starts xs ys m n le h = sym (starts_are xs n) ∙ same_starts true xs ys m n le h ∙ starts_are ys n

-- the tokens of a text that end below m are tokens of the other text too
pub front_stays : (i : ℕ) (xs ys : List ℕ) (ts : List (Kind × ℕ)) (m : ℕ) → Same xs ys m → AreTokens xs ts
    → i ≤ length ts → (0 < i → end_of ts i < m) → (us : List (Kind × ℕ))
    → Tiles (is_line_start ys (end_of ts i)) (drop (end_of ts i) ys) us → AreTokens ys (take i ts ++ us)
front_stays i xs ys ts m same h le below us k =
    front_same i true xs ys ts m same h le below us
    (subst (λ b. Tiles b (drop (end_of ts i) ys) us) (sym (starts_are ys (end_of ts i))) k)

-- the place behind a byte is a line start if the byte is a line feed
pub starts_behind : (text : List ℕ) (at end : ℕ) → at < end
    → (get_or text (end - 1) 0 == 10) ≡ is_line_start text end
starts_behind text at zero lt = absurd (omega arith)
starts_behind text at (suc n) lt =
    let f : (suc n == 0) ≡ false = grind arith in ap (λ b. b || get_or text (suc n - 1) 0 == 10) (sym f)

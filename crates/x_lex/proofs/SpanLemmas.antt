-- How many bytes tokens have together, and where each of them stands.
use Rattle.std.proofs.Common.{◌≡◌, ℕ, zero, suc, ◌+◌, ◌≤◌, Bool, true, List, [], ◌∷◌, ◌++◌, length, take}
use Rattle.std.proofs.Common.{drop, None, Some, arith, refl, sym, ap, ◌∙◌, length-drop}
use Rattle.std.specs.Prelude.{option_map, slice_get}
use Rattle.std.proofs.lemmas.List.{take-append-drop}
use Rattle.x_lex.specs.declared.kind.Kind.{Kind}
use Rattle.x_lex.specs.Tiling.{Tiles, AreTokens, starts_after, span, end_of}
use Rattle.x_lex.specs.Places.{places_from, lexeme_at, lexemes_from}
use Rattle.x_lex.proofs.TilingLemmas.{token_spans}

pub span-append : (ts us : List (Kind × ℕ)) → span (ts ++ us) ≡ span ts + span us
span-append [] us = omega arith
span-append (t ∷ ts) us = let r = span-append ts us in omega (arith, r)

-- the tokens of a text have its bytes together
pub span_tiles : (start : Bool) (rest : List ℕ) (ts : List (Kind × ℕ)) → Tiles start rest ts
    → span ts ≡ length rest
span_tiles start rest [] h = sym (ap length h)
span_tiles start rest (t ∷ ts) h =
    let s = (token_spans t.0 start rest t.1 h.0).within in
    let r : span ts ≡ length (drop t.1 rest) = span_tiles (starts_after rest t.1) (drop t.1 rest) ts h.1 in
    let e = length-drop t.1 rest in
    omega (arith, s, r, e)

-- as many as there are tokens
pub length-lexemes_from : (text : List ℕ) (at : ℕ) (ts : List (Kind × ℕ))
    → length (lexemes_from text at ts) ≡ length ts
length-lexemes_from text at [] = refl
length-lexemes_from text at (t ∷ ts) = ap suc (length-lexemes_from text (at + t.1) ts)

-- the kind and place of a token, which stands behind `before` bytes
abbrev pub place_of : ℕ → Kind × ℕ → Kind × ℕ × ℕ
place_of before t = (t.0, before, before + t.1)

places_get_from : (at : ℕ) (ts : List (Kind × ℕ)) (i : ℕ)
    → slice_get (places_from at ts) i ≡ option_map (place_of (at + end_of ts i)) (slice_get ts i)
places_get_from at [] i = refl
places_get_from at (t ∷ ts) zero = let e : at ≡ at + 0 = omega arith in ap (λ n. Some (place_of n t)) e
places_get_from at (t ∷ ts) (suc i) =
    let e : at + t.1 + end_of ts i ≡ at + (t.1 + end_of ts i) = omega arith in
    places_get_from (at + t.1) ts i ∙ ap (λ n. option_map (place_of n) (slice_get ts i)) e

-- the place of a token, as it is read
pub place_found : (ts : List (Kind × ℕ)) (i start : ℕ) (t : Kind × ℕ) → slice_get ts i ≡ Some t
    → start ≡ end_of ts i → slice_get (places_from 0 ts) i ≡ Some (t.0, start, start + t.1)
place_found ts i start t found e =
    let before : 0 + end_of ts i ≡ start = omega (arith, e) in
    places_get_from 0 ts i ∙ ap (option_map (place_of (0 + end_of ts i))) found
    ∙ ap (λ n. Some (place_of n t)) before

-- no place past the end
pub place_past : (ts : List (Kind × ℕ)) (at i : ℕ) → length ts ≤ i → slice_get (places_from at ts) i ≡ None
place_past [] at i le = refl
place_past (t ∷ ts) at zero le = absurd (omega arith)
place_past (t ∷ ts) at (suc i) le = place_past ts (at + t.1) i (omega arith)

-- the token at a place with its bytes
pub lexemes_get : (text : List ℕ) (at : ℕ) (ts : List (Kind × ℕ)) (i : ℕ)
    → slice_get (lexemes_from text at ts) i ≡ option_map (lexeme_at text) (slice_get (places_from at ts) i)
lexemes_get text at [] i = refl
lexemes_get text at (t ∷ ts) zero = refl
lexemes_get text at (t ∷ ts) (suc i) = lexemes_get text (at + t.1) ts i

-- a place ends behind its start, and no later than the tokens do
places_fit : (at : ℕ) (ts : List (Kind × ℕ)) (i : ℕ) (p : Kind × ℕ × ℕ)
    → slice_get (places_from at ts) i ≡ Some p → (p.1 ≤ p.2) × (p.2 ≤ at + span ts)
places_fit at [] i p e = (cc)
places_fit at (t ∷ ts) zero p e =
    let q : (t.0, at, at + t.1) ≡ p = (cc) in let a : at ≡ p.1 = ap (λ x. x.1) q in
    let b : at + t.1 ≡ p.2 = ap (λ x. x.2) q in (omega arith, omega arith)
places_fit at (t ∷ ts) (suc i) p e =
    let r = places_fit (at + t.1) ts i p e in (r.0, (let s = r.1 in omega (arith, s)))

pub place_fits : (text : List ℕ) (ts : List (Kind × ℕ)) (i : ℕ) (p : Kind × ℕ × ℕ) → AreTokens text ts
    → slice_get (places_from 0 ts) i ≡ Some p → (p.1 ≤ p.2) × (p.2 ≤ length text)
place_fits text ts i p h e =
    let r = places_fit 0 ts i p e in let s = span_tiles true text ts h in
    (r.0, (let b = r.1 in omega (arith, b, s)))

-- the tokens from an index on stand behind those before it
pub lexemes_drop : (text : List ℕ) (at : ℕ) (ts : List (Kind × ℕ)) (i : ℕ)
    → drop i (lexemes_from text at ts) ≡ lexemes_from text (at + end_of ts i) (drop i ts)
lexemes_drop text at ts zero = let e : at ≡ at + 0 = omega arith in ap (λ n. lexemes_from text n ts) e
lexemes_drop text at [] (suc i) = refl
lexemes_drop text at (t ∷ ts) (suc i) =
    let e : at + t.1 + end_of ts i ≡ at + (t.1 + end_of ts i) = omega arith in
    lexemes_drop text (at + t.1) ts i ∙ ap (λ n. lexemes_from text n (drop i ts)) e

pub lexemes_behind : (text : List ℕ) (ts : List (Kind × ℕ)) (i at : ℕ) → at ≡ end_of ts i
    → lexemes_from text at (drop i ts) ≡ drop i (lexemes_from text 0 ts)
lexemes_behind text ts i at e =
    let z : at ≡ 0 + end_of ts i = omega (arith, e) in ap (λ n. lexemes_from text n (drop i ts)) z
    ∙ sym (lexemes_drop text 0 ts i)

-- the bytes of the tokens before an index and of those from it on
pub span-drop : (ts : List (Kind × ℕ)) (i : ℕ) → end_of ts i + span (drop i ts) ≡ span ts
span-drop ts i = sym (span-append (take i ts) (drop i ts)) ∙ ap span (take-append-drop i ts)

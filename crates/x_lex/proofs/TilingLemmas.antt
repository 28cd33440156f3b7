-- Tokens one after another.
use Rattle.std.proofs.Common.{◌≡◌, ℕ, ◌+◌, ◌-◌, ◌<◌, ◌≤◌, inl, inr, Bool, true, List, [], ◌∷◌, ◌++◌, length}
use Rattle.std.proofs.Common.{get_or, take, drop, arith, refl, sym, ap, subst, ◌∙◌, length-drop, get_or-drop}
use Rattle.std.proofs.Common.{append_assoc}
use Rattle.std.specs.Prelude.{◌==◌}
use Rattle.std.proofs.lemmas.List.{take_rest, drop-drop, drop_all, append-nil}
use Rattle.x_lex.specs.declared.kind.Kind.{Kind}
use Rattle.x_lex.specs.Word.{IsWord, IsToken}
use Rattle.x_lex.specs.Scan.{scan}
use Rattle.x_lex.specs.Tiling.{Tiles, starts_after, AreTokens}
use Rattle.x_lex.proofs.ScanLemmas.{scan_token, token_scan}

-- a word has bytes, all of them of the text
pub record Spans (rest : List ℕ) (n : ℕ) : Type 0 where
  pub some : 0 < n
  pub within : n ≤ length rest

pub word_spans : (k : Kind) (start : Bool) (rest : List ℕ) (n : ℕ) → IsWord k start rest n → Spans rest n
word_spans k start rest n (inl g) = record { some = g.some; within = g.within }
word_spans k start rest n (inr (e, b)) =
    record { some = let o = b.one in omega (arith, o); within = b.within }

pub token_spans : (k : Kind) (start : Bool) (rest : List ℕ) (n : ℕ) → IsToken k start rest n → Spans rest n
token_spans k start rest n t = word_spans k start rest n t.word

-- the token at a place is the one
pub same_token : (start : Bool) (rest : List ℕ) (t u : Kind × ℕ) → IsToken t.0 start rest t.1
    → IsToken u.0 start rest u.1 → t ≡ u
same_token start rest t u h k =
    let s = token_spans t.0 start rest t.1 h in
    let some : 0 < length rest = let a = s.some in let b = s.within in omega (arith, a, b) in
    token_scan start rest some t.0 t.1 h ∙ sym (token_scan start rest some u.0 u.1 k)

pub same_tiles : (start : Bool) (rest : List ℕ) (ts us : List (Kind × ℕ)) → Tiles start rest ts
    → Tiles start rest us → ts ≡ us
same_tiles start rest [] [] h k = refl
same_tiles start rest [] (u ∷ us) h k =
    let s = token_spans u.0 start rest u.1 k.0 in let e = ap length h in
    absurd (let a = s.some in let b = s.within in omega (arith, a, b, e))
same_tiles start rest (t ∷ ts) [] h k =
    let s = token_spans t.0 start rest t.1 h.0 in let e = ap length k in
    absurd (let a = s.some in let b = s.within in omega (arith, a, b, e))
same_tiles start rest (t ∷ ts) (u ∷ us) h k =
    let e : t ≡ u = same_token start rest t u h.0 k.0 in
    let tail : Tiles (starts_after rest t.1) (drop t.1 rest) us =
    subst (λ x. Tiles (starts_after rest x.1) (drop x.1 rest) us) (sym e) k.1 in
    let r : ts ≡ us = same_tiles (starts_after rest t.1) (drop t.1 rest) ts us h.1 tail in
    λ i. e i ∷ r i

-- ts go before whatever tiles the rest of the text from `at` on
pub record Leads (text : List ℕ) (ts : List (Kind × ℕ)) (start : Bool) (at : ℕ) : Type 0 where
  pub within : at ≤ length text
  pub goes_on : (us : List (Kind × ℕ)) → Tiles start (drop at text) us → Tiles true text (ts ++ us)

pub leads_none : (text : List ℕ) → Leads text [] true 0
leads_none text = record { within = omega arith; goes_on = λ us h. h }

pub leads_more : (text : List ℕ) (ts : List (Kind × ℕ)) (start : Bool) (at end : ℕ) (k : Kind)
    → Leads text ts start at → at < end → end ≤ length text → IsToken k start (drop at text) (end - at)
    → Leads text (ts ++ (k, end - at) ∷ []) (get_or text (end - 1) 0 == 10) end
leads_more text ts start at end k h lt fit t = record { within = fit; goes_on = goes_on }
  where
    here : (us : List (Kind × ℕ)) → Tiles (get_or text (end - 1) 0 == 10) (drop end text) us
        → Tiles (starts_after (drop at text) (end - at)) (drop (end - at) (drop at text)) us
    here us h =
        let place : at + (end - at) ≡ end = omega arith in
        let before : at + (end - at - 1) ≡ end - 1 = omega arith in
        let rest_is : drop (end - at) (drop at text) ≡ drop end text = drop-drop (end - at) at text
        ∙ ap (λ n. drop n text) place in
        let start_is : starts_after (drop at text) (end - at) ≡ (get_or text (end - 1) 0 == 10) =
        ap (λ b. b == 10) (get_or-drop at text (end - at - 1) 0 ∙ ap (λ n. get_or text n 0) before) in
        subst (λ s. Tiles s (drop (end - at) (drop at text)) us) (sym start_is)
        (subst (λ r. Tiles (get_or text (end - 1) 0 == 10) r us) (sym rest_is) h)

    goes_on : (us : List (Kind × ℕ)) → Tiles (get_or text (end - 1) 0 == 10) (drop end text) us
        → Tiles true text ((ts ++ (k, end - at) ∷ []) ++ us)
    goes_on us g = subst (λ l. Tiles true text l) (sym (append_assoc ts ((k, end - at) ∷ []) us))
        (h.goes_on ((k, end - at) ∷ us) (t, here us g))

-- at the end of the text they are all
pub leads_all : (text : List ℕ) (ts : List (Kind × ℕ)) (start : Bool) (at : ℕ) → Leads text ts start at
    → length text ≤ at → AreTokens text ts
leads_all text ts start at h le =
    subst (λ l. Tiles true text l) (append-nil ts) (h.goes_on [] (drop_all at text le))

-- what the lexer answers on a part `&text[at..]`
pub record TokenHere (text : List ℕ) (at : ℕ) (start : Bool) (t : Kind × ℕ) : Type 0 where
  pub spans : Spans (drop at text) t.1
  pub token : IsToken t.0 start (drop at text) t.1

pub token_at : (text : List ℕ) (at : ℕ) (start : Bool) (t : Kind × ℕ) → at < length text
    → t ≡ scan start (take (length text - at) (drop at text)) → TokenHere text at start t
token_at text at start t lt e =
    let some : 0 < length (drop at text) = rw length-drop (omega arith) in
    let f : scan start (drop at text) ≡ t = ap (λ r. scan start r) (sym (take_rest text at)) ∙ sym e in
    let is : IsToken t.0 start (drop at text) t.1 =
    subst (λ u. IsToken u.0 start (drop at text) u.1) f (scan_token start (drop at text) some) in
    record { spans = token_spans t.0 start (drop at text) t.1 is; token = is }

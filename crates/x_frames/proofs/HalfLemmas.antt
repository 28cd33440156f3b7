-- A text of JSON in which halves of pairs of surrogates are mended, byte by byte.
use Rattle.std.proofs.Common.{◌≡◌, ◌∙◌, ℕ, ◌+◌, ◌<◌, ◌≤◌, ◌++◌, List, [], ◌∷◌, ap, append-nil, append_assoc}
use Rattle.std.proofs.Common.{arith, suc}
use Rattle.std.proofs.Common.{drop, drop-cons, get_or, get_or-drop, length, sym}
use Rattle.std.proofs.lemmas.List.{drop_all}
use Rattle.x_frames.specs.Halves.{behind, mended_from, put}
use Rattle.x_frames.specs.declared.halves.Escape.{Escape}

-- one byte more
more : (escape : Escape) (at b : ℕ) (text : List ℕ) → at < length text → b ≡ get_or text at 0
    → mended_from escape (drop at text) ≡ put escape b (get_or text (at + 1) 0)
    ∷ mended_from (behind escape b (get_or text (at + 1) 0)) (drop (at + 1) text)
unfolding mended_from
more escape at b text lt is =
    let rest = drop (at + 1) text in
    let next : at + 1 + 0 ≡ at + 1 = omega arith in
    let one : at + 1 ≡ suc at = omega arith in
    let after : get_or rest 0 0 ≡ get_or text (at + 1) 0 =
    get_or-drop (at + 1) text 0 0 ∙ ap (λ k. get_or text k 0) next in
    ap (mended_from escape) (drop-cons text at 0 lt ∙ ap (λ n. get_or text at 0 ∷ drop n text) (sym one))
    ∙ (λ i. put escape (sym is i) (after i) ∷ mended_from (behind escape (sym is i) (after i)) rest)

pub mended_step : (now then start : List ℕ) (escape : Escape) (at b : ℕ) (text : List ℕ) → at < length text
    → b ≡ get_or text at 0 → now ++ mended_from escape (drop at text) ≡ start
    → then ≡ now ++ put escape b (get_or text (at + 1) 0) ∷ []
    → then ++ mended_from (behind escape b (get_or text (at + 1) 0)) (drop (at + 1) text) ≡ start
mended_step now then start escape at b text lt is so_far then_is =
    let byte = put escape b (get_or text (at + 1) 0) in
    let rest = mended_from (behind escape b (get_or text (at + 1) 0)) (drop (at + 1) text) in
    ap (λ l. l ++ rest) then_is ∙ append_assoc now (byte ∷ []) rest
    ∙ ap (λ l. now ++ l) (sym (more escape at b text lt is)) ∙ so_far

-- all bytes
pub mended_end : (now start : List ℕ) (escape : Escape) (at : ℕ) (text : List ℕ) → length text ≤ at
    → now ++ mended_from escape (drop at text) ≡ start → now ≡ start
unfolding mended_from
mended_end now start escape at text le so_far =
    sym (append-nil now) ∙ ap (λ l. now ++ mended_from escape l) (sym (drop_all at text le)) ∙ so_far

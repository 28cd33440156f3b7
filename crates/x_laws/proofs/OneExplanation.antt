-- The faults of a text are explained in one way.
use Rattle.std.proofs.Common.{◌≡◌, ℕ, ◌-◌, ◌≤◌, inl, inr, Option, List, [], ◌∷◌, length, map, drop}
use Rattle.std.proofs.Common.{length-drop, arith, refl, sym, ap, ◌∙◌}
use Rattle.x_lex.specs.declared.kind.Kind.{Kind}
use Rattle.x_lex.specs.Places.{IsTokenAt, is_line_start}
use Rattle.x_lex.proofs.TilingLemmas.{word_spans}
use Rattle.x_compile.specs.Compile.{Item, definitions_of, places_of}
use Rattle.x_compile.specs.declared.fault.FaultPlace.{FaultPlace}
use Rattle.x_explain.specs.declared.found.FoundFault.{FoundFault}
use Rattle.x_explain.specs.Explained.{AreExplained, Telling, explanation}
use Rattle.x_session.specs.Foreign.{ForeignName}
use Rattle.x_explain.specs.Found.{AreFound, IsEndOfToken, IsFound}
use Rattle.x_explain.specs.KnownFiles.{KnownPlaces}
use Rattle.x_explain.specs.Suggestions.{AreSuggested, compared, sought, suggested}

-- a token has bytes, all of them of the text
starts_within : (text : List ℕ) (kind : Kind) (start end : ℕ) → IsTokenAt text kind start end
    → length text ≤ start → ⊥
starts_within text kind start end t far =
    let spans = word_spans kind (is_line_start text start) (drop start text) (end - start) t.word in
    let some = spans.some in
    let within = spans.within in
    let left = length-drop start text in
    omega (arith, some, within, left, far)

neither_longer : (n m : ℕ) → n ≤ m → m ≤ n → n ≡ m
neither_longer n m le ge = omega (arith, le, ge)

-- the token that starts at a place ends at one
one_end : (text : List ℕ) (start a b : ℕ) → IsEndOfToken text start a → IsEndOfToken text start b → a ≡ b
one_end text start a b (inl (kind, t)) (inl (kind', u)) = neither_longer a b (u.longest kind a t.word)
    (t.longest kind' b u.word)
one_end text start a b (inl (kind, t)) (inr (far, k)) = absurd (starts_within text kind start a t far)
one_end text start a b (inr (far, e)) (inl (kind, u)) = absurd (starts_within text kind start b u far)
one_end text start a b (inr (far, e)) (inr (far', k)) = e ∙ sym k

one_found : (text : List ℕ) (f : FaultPlace) (d e : FoundFault) → IsFound text f d → IsFound text f e → d ≡ e
one_found text f d e h k =
    let code = h.code ∙ sym k.code in
    let start = h.start ∙ sym k.start in
    let end = one_end text f.start d.end e.end h.end k.end in
    λ i. record { code = code i; start = start i; end = end i }

all_found : (text : List ℕ) (fs : List FaultPlace) (ds es : List FoundFault) → AreFound text fs ds
    → AreFound text fs es → ds ≡ es
all_found text [] [] [] h k = refl
all_found text [] [] (e ∷ es) h k = absurd k
all_found text [] (d ∷ ds) es h k = absurd h
all_found text (f ∷ fs) [] es h k = absurd h
all_found text (f ∷ fs) (d ∷ ds) [] h k = absurd k
all_found text (f ∷ fs) (d ∷ ds) (e ∷ es) h k =
    let one = one_found text f d e h.0 k.0 in
    let rest = all_found text fs ds es h.1 k.1 in
    λ i. one i ∷ rest i

-- for its undeclared words the same is suggested
one_near : (text : List ℕ) (items : List Item) (a b : List (ℕ × Option (List ℕ))) → AreSuggested text items a
    → AreSuggested text items b → a ≡ b
one_near text items a b h k =
    let found = all_found text (sought (places_of items)) h.found k.found h.are_found k.are_found in
    h.list_is ∙ ap (map (suggested text (compared (definitions_of items)))) found ∙ sym k.list_is

pub one_explanation : (places : KnownPlaces) (foreign : List ForeignName) (t : Telling) (items : List Item)
    (a b : List ℕ) → AreExplained places foreign t items a → AreExplained places foreign t items b → a ≡ b
one_explanation places foreign t items a b h k =
    let near = one_near t.text items h.near k.near h.are_near k.are_near in
    let errors = all_found t.text (places_of items) h.errors k.errors h.are_found k.are_found in
    let notes = all_found t.text (places_of items) h.notes k.notes h.are_found_too k.are_found_too in
    h.said_is ∙ (λ i. explanation places foreign t items (near i) (errors i) (notes i)) ∙ sym k.said_is

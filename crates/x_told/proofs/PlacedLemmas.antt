-- Where the faults of a text stand: in which order, in which items, and at which tokens.
use Rattle.std.proofs.Common.{◌≡◌, ℕ, zero, suc, ◌+◌, ◌-◌, ◌<◌, ◌≤◌, Bool, true, false, cond, List, [], ◌∷◌}
use Rattle.std.proofs.Common.{◌++◌}
use Rattle.std.proofs.Common.{length, take, drop, map, refl, sym, ap, subst, ◌∙◌, arith, eq-eqb, length-drop}
use Rattle.std.proofs.Common.{◌⊎◌, inl, inr}
use Rattle.std.proofs.lemmas.Bool.{eqb-true}
use Rattle.std.proofs.lemmas.List.Elements.{All-head, All-tail}
use Rattle.std.proofs.lemmas.List.Folds.{list_any-append}
use Rattle.std.specs.Prelude.{◌==◌, ◌||◌, All, slice_range}
use Rattle.std.specs.List.{list_any}
use Rattle.x_lex.specs.declared.kind.Kind.{Kind}
use Rattle.x_lex.specs.Places.{Follow, IsLexeme, IsTokenAt, Lexeme, TilesByPlace, is_line_start}
use Rattle.x_lex.specs.Word.{IsWord}
use Rattle.x_lex.proofs.PlaceLemmas.{by_place}
use Rattle.x_compile.specs.Compile.{Item, IsCompilation, item_places, place_in, places_from, places_of}
use Rattle.x_compile.specs.Compile.{start_of}
use Rattle.x_compile.specs.Compile.{token_faults, tokens_of}
use Rattle.x_compile.specs.Known.{KnownText}
use Rattle.x_compile.specs.declared.fault.FaultPlace.{FaultPlace}
use Rattle.x_compile.specs.declared.fault.TokenFault.{TokenFault}
use Rattle.x_explain.specs.Found.{IsEndOfToken}
use Rattle.x_told.specs.Telling.{word_from}
use Rattle.x_told.proofs.SilentLemmas.{AreFrom}

-- ---- of each fault of a list

abbrev pub Each : (FaultPlace → Type 0) → List FaultPlace → Type 0
Each P [] = Unit {0}
Each P (p ∷ ps) = P p × Each P ps

each_append : (P : FaultPlace → Type 0) (ps qs : List FaultPlace) → Each P ps → Each P qs → Each P (ps ++ qs)
each_append P [] qs h k = k
each_append P (p ∷ ps) qs h k = (h.0, each_append P ps qs h.1 k)

each_left : (P : FaultPlace → Type 0) (done left : List FaultPlace) → Each P (done ++ left) → Each P left
each_left P [] left h = h
each_left P (p ∷ done) left h = each_left P done left h.1

each_so : (P Q : FaultPlace → Type 0) → ((p : FaultPlace) → P p → Q p) → (ps : List FaultPlace) → Each P ps
    → Each Q ps
each_so P Q so [] h = tt
each_so P Q so (p ∷ ps) h = (so p h.0, each_so P Q so ps h.1)

-- ---- the items of faults

-- each fault stands in no item before that of the one before it
abbrev pub Ascend : List FaultPlace → Type 0
Ascend [] = Unit {0}
Ascend (p ∷ ps) = AreFrom p.item ps × Ascend ps

from_so : (n : ℕ) (ps : List FaultPlace) → Each (λ p. n ≤ p.item) ps → AreFrom n ps
from_so n [] h = tt
from_so n (p ∷ ps) h = (h.0, from_so n ps h.1)

-- those of one item, and then those of items behind it
ascend_append : (k : ℕ) (ps qs : List FaultPlace) → Each (λ p. p.item ≡ k) ps → Each (λ p. k ≤ p.item) qs
    → Ascend qs → Ascend (ps ++ qs)
ascend_append k [] qs here behind order = order
ascend_append k (p ∷ ps) qs here behind order =
    let same = here.0 in (
      from_so p.item (ps ++ qs) (each_append (λ q. p.item ≤ q.item) ps qs
          (each_so (λ q. q.item ≡ k) (λ q. p.item ≤ q.item) (λ q e. omega (arith, e, same)) ps here.1)
          (each_so (λ q. k ≤ q.item) (λ q. p.item ≤ q.item) (λ q le. omega (arith, le, same)) qs behind)),
      ascend_append k ps qs here.1 behind order,
    )

all_here : (k : ℕ) (i : Item) (fs : List TokenFault) → Each (λ p. p.item ≡ k) (map (place_in k i.tokens) fs)
all_here k i [] = tt
all_here k i (f ∷ fs) = (refl, all_here k i fs)

none_before : (k : ℕ) (items : List Item) → Each (λ p. k ≤ p.item) (places_from k items)
none_before k [] = tt
none_before k (i ∷ items) =
    each_append (λ p. k ≤ p.item) (item_places k i) (places_from (suc k) items)
    (each_so (λ p. p.item ≡ k) (λ p. k ≤ p.item) (λ p e. omega (arith, e)) (item_places k i)
    (all_here k i (token_faults i)))
    (each_so (λ p. suc k ≤ p.item) (λ p. k ≤ p.item) (λ p le. omega (arith, le)) (places_from (suc k) items)
    (none_before (suc k) items))

in_order : (k : ℕ) (items : List Item) → Ascend (places_from k items)
in_order k [] = tt
in_order k (i ∷ items) =
    ascend_append k (item_places k i) (places_from (suc k) items) (all_here k i (token_faults i))
    (each_so (λ p. suc k ≤ p.item) (λ p. k ≤ p.item) (λ p le. omega (arith, le)) (places_from (suc k) items)
    (none_before (suc k) items))
    (in_order (suc k) items)

order_left : (done left : List FaultPlace) → Ascend (done ++ left) → Ascend left
order_left [] left order = order
order_left (p ∷ done) left order = order_left done left order.1

all_within : (n k : ℕ) (items : List Item) → n ≡ k + length items
    → Each (λ p. p.item < n) (places_from k items)
all_within n k [] is = tt
all_within n k (i ∷ items) is =
    each_append (λ p. p.item < n) (item_places k i) (places_from (suc k) items)
    (each_so (λ p. p.item ≡ k) (λ p. p.item < n) (λ p e. omega (arith, e, is)) (item_places k i)
    (all_here k i (token_faults i)))
    (all_within n (suc k) items (omega (arith, is)))

-- ---- the tokens at which faults stand

-- one of these tokens starts at the place
abbrev pub has_start : List Lexeme → ℕ → Bool
has_start ts start = list_any (λ t. t.start == start) ts

-- so it is, or it is the start of the text
abbrev pub IsStart : List Lexeme → ℕ → Type 0
IsStart ts start = (has_start ts start ≡ true) ⊎ (start ≡ 0)

or_left : (a b : Bool) → a ≡ true → (a || b) ≡ true
or_left a b e = ap (λ c. c || b) e

or_right : (a b : Bool) → b ≡ true → (a || b) ≡ true
or_right true b e = refl
or_right false b e = e

start_there : (ts : List Lexeme) (token : ℕ) → IsStart ts (start_of ts token)
start_there [] token = inr refl
start_there (t ∷ ts) zero =
    inl (or_left (t.start == t.start) (has_start ts t.start) (eq-eqb t.start t.start refl))
start_there (t ∷ ts) (suc token) =
    elim (start_there ts token) as (λ _. IsStart (t ∷ ts) (start_of ts token)) [
      | inl h ↦ inl (or_right (t.start == start_of ts token) (has_start ts (start_of ts token)) h)
      | inr h ↦ inr h
    ]

among : (before ts behind : List Lexeme) (start : ℕ) → IsStart ts start → IsStart (ts ++ behind) start
among before ts behind start (inl h) =
    inl (list_any-append (λ (t : Lexeme). t.start == start) ts behind
    ∙ or_left (has_start ts start) (has_start behind start) h)
among before ts behind start (inr h) = inr h

behind : (ts others : List Lexeme) (start : ℕ) → IsStart others start → IsStart (ts ++ others) start
behind ts others start (inl h) =
    inl (list_any-append (λ (t : Lexeme). t.start == start) ts others
    ∙ or_right (has_start ts start) (has_start others start) h)
behind ts others start (inr h) = inr h

all_start_here : (k : ℕ) (ts others : List Lexeme) (fs : List TokenFault)
    → Each (λ p. IsStart (ts ++ others) p.start) (map (place_in k ts) fs)
all_start_here k ts others [] = tt
all_start_here k ts others (f ∷ fs) =
    (among [] ts others (start_of ts f.token) (start_there ts f.token), all_start_here k ts others fs)

all_start : (k : ℕ) (items : List Item) → Each (λ p. IsStart (tokens_of items) p.start) (places_from k items)
all_start k [] = tt
all_start k (i ∷ items) =
    each_append (λ p. IsStart (i.tokens ++ tokens_of items) p.start) (item_places k i)
    (places_from (suc k) items)
    (all_start_here k i.tokens (tokens_of items) (token_faults i))
    (each_so (λ p. IsStart (tokens_of items) p.start) (λ p. IsStart (i.tokens ++ tokens_of items) p.start)
    (λ p h. behind i.tokens (tokens_of items) p.start h) (places_from (suc k) items)
    (all_start (suc k) items))

-- ---- their words

-- a word has bytes
word_within : (k : Kind) (s : Bool) (rest : List ℕ) (n : ℕ) → IsWord k s rest n → 0 < length rest
word_within k s rest n (inl good) =
    let some = good.some in
    let within = good.within in
    omega (arith, some, within)
word_within k s rest n (inr bad) =
    let one = bad.1.one in
    let within = bad.1.within in
    omega (arith, one, within)

token_within : (text : List ℕ) (k : Kind) (start end : ℕ) → IsTokenAt text k start end → start < length text
token_within text k start end t =
    let some = word_within k (is_line_start text start) (drop start text) (end - start) t.word in
    let long = length-drop start text in
    omega (arith, some, long)

-- tokens that start at one place end at one
same_end : (text : List ℕ) (k : Kind) (from to start end : ℕ) → IsTokenAt text k from to → from ≡ start
    → IsEndOfToken text start end → to ≡ end
same_end text k from to start end here e (inl other) =
    let there : IsTokenAt text k start to = subst (λ s. IsTokenAt text k s to) e here in
    let a = there.longest other.0 end other.1.word in
    let b = other.1.longest k to there.word in
    omega (arith, a, b)
same_end text k from to start end here e (inr past) =
    let lt = token_within text k from to here in
    let le = past.0 in
    absurd (omega (arith, lt, le, e))

-- the word of this token, or of one of the others
word_next : (text : List ℕ) (t : Lexeme) (ts : List Lexeme) (start end : ℕ) → IsLexeme text t
    → IsEndOfToken text start end
    → (has_start ts start ≡ true → word_from ts start ≡ slice_range text start end)
    → (b : Bool) → (t.start == start) ≡ b → (b || has_start ts start) ≡ true
    → cond b t.text (word_from ts start) ≡ slice_range text start end
word_next text t ts start end here ends others true e has =
    let same = eqb-true t.start start e in
    let last = same_end text t.kind t.start t.end start end here.token same ends in
    here.bytes ∙ (λ i. slice_range text (same i) (last i))
word_next text t ts start end here ends others false e has = others has

word_there : (text : List ℕ) (ts : List Lexeme) (start end : ℕ) → All (IsLexeme text) ts
    → has_start ts start ≡ true → IsEndOfToken text start end
    → word_from ts start ≡ slice_range text start end
word_there text [] start end each has ends = absurd (cc)
word_there text (t ∷ ts) start end each has ends =
    word_next text t ts start end (All-head (IsLexeme text) t ts each) ends
    (λ h. word_there text ts start end (All-tail (IsLexeme text) t ts each) h ends)
    (t.start == start) refl has

no_word : (text : List ℕ) (start end : ℕ) → length text ≡ 0 → IsEndOfToken text start end
    → slice_range text start end ≡ []
no_word text start end none (inl token) =
    let lt = token_within text token.0 start end token.1 in
    absurd (omega (arith, lt, none))
no_word text start end none (inr past) =
    let same = past.1 in
    let nothing : end - start ≡ 0 = omega (arith, same) in
    ap (λ n. take n (drop start text)) nothing

word_first : (text : List ℕ) (ts : List Lexeme) (start end : ℕ) → Follow 0 ts (length text)
    → All (IsLexeme text) ts → start ≡ 0 → IsEndOfToken text start end
    → word_from ts start ≡ slice_range text start end
word_first text [] start end follow each first ends = sym (no_word text start end (sym follow) ends)
word_first text (t ∷ ts) start end follow each first ends =
    let from : t.start ≡ 0 = follow.0 in
    word_there text (t ∷ ts) start end each
    (or_left (t.start == start) (has_start ts start) (eq-eqb t.start start (from ∙ sym first))) ends

word_found : (text : List ℕ) (ts : List Lexeme) (start end : ℕ) → TilesByPlace text ts → IsStart ts start
    → IsEndOfToken text start end → word_from ts start ≡ slice_range text start end
word_found text ts start end tiles (inl has) ends = word_there text ts start end tiles.each has ends
word_found text ts start end tiles (inr first) ends =
    word_first text ts start end tiles.follow tiles.each first ends

-- ---- the fault that is next

pub record IsNext (text : List ℕ) (items : List Item) (p : FaultPlace) (rest : List FaultPlace) : Type 0 where
  pub from : AreFrom p.item (p ∷ rest)
  pub within : p.item < length items
  pub word : (end : ℕ) → IsEndOfToken text p.start end
      → slice_range text p.start end ≡ word_from (tokens_of items) p.start

pub next_place : {known : KnownText} (text : List ℕ) (tokens : List (Kind × ℕ)) (items : List Item)
    (done : List FaultPlace) (p : FaultPlace) (rest : List FaultPlace) → IsCompilation known text tokens items
    → done ++ p ∷ rest ≡ places_of items → IsNext text items p rest
next_place text tokens items done p rest compiled parts =
    let tiles : TilesByPlace text (tokens_of items) =
    subst (TilesByPlace text) (sym compiled.are_items.all) (by_place text tokens compiled.are_tokens) in
    let order : Ascend (p ∷ rest) =
    order_left done (p ∷ rest) (subst Ascend (sym parts) (in_order 0 items)) in
    let within = each_left (λ q. q.item < length items) done (p ∷ rest)
    (subst (Each (λ q. q.item < length items)) (sym parts)
    (all_within (length items) 0 items (omega arith))) in
    let start = each_left (λ q. IsStart (tokens_of items) q.start) done (p ∷ rest)
    (subst (Each (λ q. IsStart (tokens_of items) q.start)) (sym parts) (all_start 0 items)) in
    record {
      from = (omega arith, order.0);
      within = within.0;
      word = λ end ends. sym (word_found text (tokens_of items) p.start end tiles start.0 ends);
    }

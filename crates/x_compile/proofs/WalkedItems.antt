-- Items that are passed over by the numbers of their tokens and bytes.
use Rattle.std.proofs.Common.{◌≡◌, ℕ, Bool, true, false, zero, suc, ◌+◌, ◌-◌, ◌<◌, ◌≤◌, min, map, get_or}
use Rattle.std.proofs.Common.{drop-cons, List, [], ◌∷◌, ◌++◌, length, take, drop, slice_range, refl, sym, ap}
use Rattle.std.proofs.Common.{subst, ◌∙◌, arith, length-take, length-drop}
use Rattle.std.proofs.lemmas.List.{at_drop_all, drop-drop, take-append-drop}
use Rattle.x_lex.specs.declared.kind.Kind.{Kind}
use Rattle.x_lex.specs.declared.tokens.token.Token.{Token}
use Rattle.x_lex.specs.Places.{Lexeme, lexeme, lexeme_at, lexemes, lexemes_from}
use Rattle.x_lex.specs.Tiling.{AreTokens, end_of, span}
use Rattle.x_lex.proofs.SpanLemmas.{lexemes_drop, length-lexemes_from, span-append, span-drop, span_tiles}
use Rattle.x_cutting.specs.Items.{IsNext}
use Rattle.x_cutting.specs.declared.cutting.item_entry.ItemEntry.{ItemEntry}
use Rattle.x_compile.specs.FaultWalk.{ArePassed, StandAt, faults_behind}
use Rattle.x_compile.specs.KeptView.{AreAlong, AreParsed, byte_count, item_with, items_with}
use Rattle.x_compile.specs.Compile.{item_places, places_from}
use Rattle.x_compile.specs.declared.content.Content.{Content}
use Rattle.x_compile.proofs.AlongLemmas.{along_each}
use Rattle.x_compile.proofs.WalkLemmas.{take-short}

-- ---- how many bytes tokens of a text have

bytes_from : (text : List ℕ) (at : ℕ) (ts : List (Kind × ℕ)) → at + span ts ≤ length text
    → byte_count (lexemes_from text at ts) ≡ span ts
bytes_from text at [] le = refl
bytes_from text at (t ∷ ts) le =
    let d = length-drop at text in
    let k = length-take (at + t.1 - at) (drop at text) in
    let here : length (slice_range text at (at + t.1)) ≡ t.1 = omega (arith, d, k, le) in
    let rest = bytes_from text (at + t.1) ts (omega (arith, le)) in
    omega (arith, here, rest)

take_lexemes : (text : List ℕ) (at n : ℕ) (ts : List (Kind × ℕ))
    → take n (lexemes_from text at ts) ≡ lexemes_from text at (take n ts)
take_lexemes text at zero ts = refl
take_lexemes text at (suc n) [] = refl
take_lexemes text at (suc n) (t ∷ ts) =
    ap (λ l. lexeme_at text (t.0, at, at + t.1) ∷ l) (take_lexemes text (at + t.1) n ts)

span_few : (n : ℕ) (ts : List (Kind × ℕ)) → span (take n ts) ≤ span ts
span_few n ts =
    let a = sym (span-append (take n ts) (drop n ts)) ∙ ap span (take-append-drop n ts) in omega (arith, a)

bytes_among : (text : List ℕ) (ts : List (Kind × ℕ)) (k n : ℕ) → AreTokens text ts
    → byte_count (take n (drop k (lexemes text ts))) ≡ span (take n (drop k ts))
bytes_among text ts k n are =
    let few = span_few n (drop k ts) in
    let parts = span-drop ts k in
    let all = span_tiles true text ts are in
    ap byte_count (ap (take n) (lexemes_drop text 0 ts k) ∙ take_lexemes text (0 + end_of ts k) n (drop k ts))
    ∙ bytes_from text (0 + end_of ts k) (take n (drop k ts)) (omega (arith, few, parts, all))

-- all tokens of a text have its bytes together
pub bytes_of_all : (text : List ℕ) (ts : List (Kind × ℕ)) → AreTokens text ts
    → byte_count (lexemes text ts) ≡ length text
bytes_of_all text ts are =
    let all = span_tiles true text ts are in bytes_from text 0 ts (omega (arith, all)) ∙ all

-- the bytes of one token more are counted, and of none
pub counted_more : (ts : List Token) (i : ℕ) (d : Token) (count sum most : ℕ)
    → sum ≡ min (count + length (get_or ts i d).text.now) most → i < length ts
    → count + byte_count (map lexeme (drop i ts)) ≡ byte_count (map lexeme ts) → byte_count (map lexeme ts)
    ≤ most → sum + byte_count (map lexeme (drop (i + 1) ts)) ≡ byte_count (map lexeme ts)
counted_more ts i d count sum most is lt all small =
    let one : suc i ≡ i + 1 = omega arith in
    let here : byte_count (map lexeme (drop i ts))
    ≡ length (get_or ts i d).text.now + byte_count (map lexeme (drop (i + 1) ts)) =
    ap (λ l. byte_count (map lexeme l)) (drop-cons ts i d lt)
    ∙ ap (λ k. length (get_or ts i d).text.now + byte_count (map lexeme (drop k ts))) one in
    omega (arith, is, here, all, small)

pub bytes_left : (ts : List Token) (i : ℕ) → length ts ≤ i → byte_count (map lexeme (drop i ts)) ≡ 0
bytes_left ts i none = at_drop_all (λ l. byte_count (map lexeme l)) ts i none

byte_count-append : (xs ys : List Lexeme) → byte_count (xs ++ ys) ≡ byte_count xs + byte_count ys
byte_count-append [] ys = omega arith
byte_count-append (x ∷ xs) ys = let r = byte_count-append xs ys in omega (arith, r)

-- some of them have no more
pub bytes_few_taken : (n : ℕ) (xs : List Lexeme) → byte_count (take n xs) ≤ byte_count xs
bytes_few_taken n xs =
    let a = sym (byte_count-append (take n xs) (drop n xs)) ∙ ap byte_count (take-append-drop n xs) in
    omega (arith, a)

pub bytes_few_left : (n : ℕ) (xs : List Lexeme) → byte_count (drop n xs) ≤ byte_count xs
bytes_few_left n xs =
    let a = sym (byte_count-append (take n xs) (drop n xs)) ∙ ap byte_count (take-append-drop n xs) in
    omega (arith, a)

pub bytes_of_part : (whole : Bool) (left part left' : List Lexeme) → IsNext whole left part left'
    → byte_count part ≤ byte_count left
bytes_of_part true left part left' next =
    let l = ap byte_count next.1 ∙ byte_count-append part left' in omega (arith, l)
bytes_of_part false left part left' next = let l = ap byte_count next.1 in omega (arith, l)

pub bytes_of_rest : (whole : Bool) (left part left' : List Lexeme) → IsNext whole left part left'
    → byte_count left' ≤ byte_count left
bytes_of_rest true left part left' next =
    let l = ap byte_count next.1 ∙ byte_count-append part left' in omega (arith, l)
bytes_of_rest false left part left' next = let l = ap byte_count next.2 in omega (arith, l)

span_plus : (ts : List (Kind × ℕ)) (k n : ℕ) → end_of ts (k + n) ≡ end_of ts k + span (take n (drop k ts))
span_plus ts zero n =
    let same : 0 + n ≡ n = omega arith in
    let all : end_of ts (0 + n) ≡ span (take n (drop 0 ts)) = ap (end_of ts) same in
    let none : end_of ts 0 ≡ 0 = refl in
    omega (arith, all, none)
span_plus [] (suc k) n =
    let all = nothing (suc k + n) in
    let front : end_of [] (suc k) ≡ 0 = refl in
    let rest : span (take n (drop (suc k) [])) ≡ 0 = nothing n in
    omega (arith, all, front, rest)
  where
    nothing : (j : ℕ) → end_of [] j ≡ 0
    nothing zero = refl
    nothing (suc j) = refl
span_plus (t ∷ ts) (suc k) n =
    let r = span_plus ts k n in
    let one : suc k + n ≡ suc (k + n) = omega arith in
    let all : end_of (t ∷ ts) (suc k + n) ≡ t.1 + end_of ts (k + n) = ap (end_of (t ∷ ts)) one in
    let front : end_of (t ∷ ts) (suc k) ≡ t.1 + end_of ts k = refl in
    omega (arith, r, all, front)

-- ---- items

pub passed_along : (tokens : List Lexeme) (es : List (ItemEntry Content)) → AreAlong tokens es
    → ArePassed tokens es
passed_along tokens [] h = tt
passed_along tokens (e ∷ es) h =
    let few = take-short e.tokens tokens in
    let count = h.0.count in
    (omega (arith, few, count), h.0.bytes, h.0.marked, passed_along (drop e.tokens tokens) es h.1)

pub passed_parsed : (tokens : List Lexeme) (es : List (ItemEntry Content)) → AreParsed tokens es
    → ArePassed tokens es
passed_parsed tokens es h = passed_along tokens es (along_each h.parts es tokens h.are.all h.each)

-- ---- where an item ends

-- it starts that many bytes before
pub end_by_bytes : (text : List ℕ) (ts : List (Kind × ℕ)) (token start : ℕ) (e : ItemEntry Content)
    (entries es : List (ItemEntry Content)) → AreTokens text ts → entries ≡ e ∷ es
    → StandAt text ts token start entries
    → start + e.bytes ≡ end_of ts (token + e.tokens)
end_by_bytes text ts token start e entries es are all h =
    let now : ArePassed (drop token (lexemes text ts)) (e ∷ es) =
    subst (ArePassed (drop token (lexemes text ts))) all h.passed in
    let kept = now.1 in
    let count = bytes_among text ts token e.tokens are in
    let plus = span_plus ts token e.tokens in
    let start_is = h.start_is in
    omega (arith, kept, count, plus, start_is)

-- and the place is one of the text
pub end_within : (text : List ℕ) (ts : List (Kind × ℕ)) (i : ℕ) → AreTokens text ts
    → end_of ts i ≤ length text
end_within text ts i are =
    let parts = span-drop ts i in let all = span_tiles true text ts are in omega (arith, parts, all)

pub stand_within : (text : List ℕ) (ts : List (Kind × ℕ)) (token start : ℕ) (e : ItemEntry Content)
    (entries es : List (ItemEntry Content)) → entries ≡ e ∷ es → StandAt text ts token start entries
    → token + e.tokens ≤ length ts
stand_within text ts token start e entries es all h =
    let now : ArePassed (drop token (lexemes text ts)) (e ∷ es) =
    subst (ArePassed (drop token (lexemes text ts))) all h.passed in
    let d = length-drop token (lexemes text ts) in
    let c = length-lexemes_from text 0 ts in
    let few = now.0 in
    let within = h.within in
    omega (arith, d, c, few, within)

-- the first of them is passed over
pub stand_behind : (text : List ℕ) (ts : List (Kind × ℕ)) (token start end : ℕ) (e : ItemEntry Content)
    (entries es : List (ItemEntry Content)) → entries ≡ e ∷ es → StandAt text ts token start entries
    → end ≡ end_of ts (token + e.tokens) → StandAt text ts (token + e.tokens) end es
stand_behind text ts token start end e entries es all h is =
    let now : ArePassed (drop token (lexemes text ts)) (e ∷ es) =
    subst (ArePassed (drop token (lexemes text ts))) all h.passed in
    record {
      within = stand_within text ts token start e entries es all h;
      start_is = is;
      passed = subst (λ l. ArePassed l es) (drop-drop e.tokens token (lexemes text ts)) now.3;
    }

-- their faults are those of the first, and those behind it
pub faults_next : (text : List ℕ) (ts : List (Kind × ℕ)) (token number : ℕ) (e : ItemEntry Content)
    (entries es : List (ItemEntry Content)) → entries ≡ e ∷ es
    → faults_behind text ts token number entries
    ≡ item_places number (item_with (drop token (lexemes text ts)) e)
    ++ faults_behind text ts (token + e.tokens) (number + 1) es
faults_next text ts token number e entries es all =
    let one : suc number ≡ number + 1 = omega arith in
    ap (faults_behind text ts token number) all
    ∙ (λ i. item_places number (item_with (drop token (lexemes text ts)) e)
    ++ places_from (one i) (items_with (drop-drop e.tokens token (lexemes text ts) i) es))

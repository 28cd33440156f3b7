-- The faults of a text over a known one, where both are one text.
use Rattle.std.proofs.Common.{◌≡◌, inl, inr, ℕ, suc, ◌+◌, ◌-◌, ◌<◌, Bool, true, false, cond, List, [], ◌∷◌}
use Rattle.std.proofs.Common.{◌++◌, map, length, get_or, reverse, take, Option, None, Some, eqb, eqb-true}
use Rattle.std.proofs.Common.{arith, refl, sym, ap, subst, ◌∙◌, ◌≤◌, drop, zero}
use Rattle.std.specs.Prelude.{count_by}
use Rattle.std.specs.List.{IsAmong, prefix_len}
use Rattle.std.proofs.lemmas.List.{append_assoc, get_or-reverse, length-map, map-append, length_push}
use Rattle.std.proofs.lemmas.List.{length-reverse, reverse-append, length-drop, take-append-le}
use Rattle.std.proofs.lemmas.List.Folds.{prefix_len-append}
use Rattle.std.proofs.lemmas.List.Sums.{prefix_len_is, sum_by-append}
use Rattle.x_text.specs.Text.{column_of, is_in_line, is_line_feed, line_of}
use Rattle.x_lex.specs.declared.kind.Kind.{Kind}
use Rattle.x_lex.specs.Places.{Lexeme, lexemes_from}
use Rattle.x_lex.specs.Tiling.{Tiles, starts_after}
use Rattle.x_lex.proofs.TilingLemmas.{token_spans}
use Rattle.x_cutting.specs.Items.{joined}
use Rattle.x_trees.specs.Seen.{names_of}
use Rattle.x_trees.specs.Spell.{spell}
use Rattle.x_trees.specs.Tree.{Definition}
use Rattle.x_trees.specs.Words.{Word, word_of, words_of}
use Rattle.x_trees.proofs.AmongLemmas.{among_first, among_more}
use Rattle.x_item.specs.Parse.{Def, Fault, IsParse, Nothing, Parse}
use Rattle.x_item.proofs.ParseLaws.{one_parse}
use Rattle.x_rules.specs.Results.{AreResults, AreResultsFrom, IsResult, KnownNames, Outcome, result_at}
use Rattle.x_rules.specs.Results.{view_by}
use Rattle.x_rules.specs.Rules.{IsFault}
use Rattle.x_rules.specs.Views.{View, seen}
use Rattle.x_rules.specs.declared.fault.WordFault.{WordFault}
use Rattle.x_compile.specs.Compile.{AreParses, IsCompilation, Item, definitions_of, faults_at, faults_from}
use Rattle.x_compile.specs.Compile.{faults_of, item_faults, parsed_definition, placed, rule_faults, start_of}
use Rattle.x_compile.specs.Compile.{token_faults, tokens_of}
use Rattle.x_compile.specs.Known.{KnownText, known_definitions, known_names, nothing_known}
use Rattle.x_compile.specs.declared.fault as rust
use Rattle.x_compile.specs.declared.fault.TokenFault.{TokenFault}
use Rattle.x_compile.proofs.Compiled.{one_compilation}
use Rattle.x_prelude.specs.Before.{IsKnownOf}
use Rattle.x_prelude_laws.specs.AsOne.{Told, but_last, told, told_behind}
use Rattle.x_prelude_laws.specs.Over.{DeclareNoneLacking, IsFaultless}
use Rattle.x_prelude_laws.specs.Wholes.{EndsLine, EndsWhole}
use Rattle.x_prelude_laws.proofs.AsOne.{OverKnown, last_as_one, over_known, results_exactly}
use Rattle.x_prelude_laws.proofs.Found.{item_words, none_in_empty, words_are}
use Rattle.x_prelude_laws.proofs.InRange.{fault_under}
use Rattle.x_prelude_laws.proofs.Joint.{kept, kept_append, moved}
use Rattle.x_prelude_laws.proofs.LaterFaults.{AreWithin, Seen, seen_at, seen_behind, seen_faults}
use Rattle.x_prelude_laws.proofs.Over.{none_behind, none_mapped}
use Rattle.x_prelude_laws.proofs.Wholes.{whole_from, words_before}

-- ---- the items of the text among those of both

kept_items : (is : List Item) → kept (tokens_of is) ≡ joined (map (λ i. kept i.tokens) is)
kept_items [] = refl
kept_items (i ∷ is) = kept_append i.tokens (tokens_of is) ∙ ap (λ l. kept i.tokens ++ l) (kept_items is)

moved_items : (n : ℕ) (is : List Item)
    → map (moved n) (kept (tokens_of is)) ≡ joined (map (λ i. map (moved n) (kept i.tokens)) is)
moved_items n [] = refl
moved_items n (i ∷ is) =
    ap (map (moved n)) (kept_append i.tokens (tokens_of is))
    ∙ map-append (moved n) (kept i.tokens) (kept (tokens_of is))
    ∙ ap (λ l. map (moved n) (kept i.tokens) ++ l) (moved_items n is)

split_same : {X : Type 0} (xs ys us vs : List X) → xs ++ us ≡ ys ++ vs → length xs ≡ length ys
    → (xs ≡ ys) × (us ≡ vs)
split_same [] [] us vs e long = (refl, e)
split_same [] (y ∷ ys) us vs e long = absurd (omega (arith, long))
split_same (x ∷ xs) [] us vs e long = absurd (omega (arith, long))
split_same (x ∷ xs) (y ∷ ys) us vs e long =
    let first : x ≡ y = cc in
    let rest : xs ++ us ≡ ys ++ vs = cc in
    let next = split_same xs ys us vs rest (omega (arith, long)) in
    let others = next.0 in
    ((λ i. first i ∷ others i), next.1)

words_long : (xs ys : List Lexeme) → words_of xs ≡ words_of ys → length (kept xs) ≡ length (kept ys)
words_long xs ys e = sym (length-map (kept xs) word_of) ∙ ap length e ∙ length-map (kept ys) word_of

same_kept : (n : ℕ) (all is : List Item) → item_words all ≡ item_words is
    → joined (map (λ i. kept i.tokens) all) ≡ joined (map (λ i. map (moved n) (kept i.tokens)) is)
    → map (λ i. kept i.tokens) all ≡ map (λ i. map (moved n) (kept i.tokens)) is
same_kept n [] [] e f = refl
same_kept n [] (i ∷ is) e f = absurd (cc)
same_kept n (a ∷ all) [] e f = absurd (cc)
same_kept n (a ∷ all) (i ∷ is) e f =
    let words : words_of a.tokens ≡ words_of i.tokens = cc in
    let rest : item_words all ≡ item_words is = cc in
    let both = split_same (kept a.tokens) (map (moved n) (kept i.tokens))
    (joined (map (λ i. kept i.tokens) all)) (joined (map (λ i. map (moved n) (kept i.tokens)) is)) f
    (words_long a.tokens i.tokens words ∙ sym (length-map (kept i.tokens) (moved n))) in
    let first = both.0 in
    let others = same_kept n all is rest both.1 in
    λ k. first k ∷ others k

record Behind (n : ℕ) (ws : List (List Word)) (ks is all : List Item) : Type 0 where
  front : List Item
  rear : List Item
  parts : all ≡ front ++ rear
  front_words : item_words front ≡ ws
  front_kept : map (λ i. kept i.tokens) ks ≡ map (λ i. kept i.tokens) front ++ [] ∷ []
  kept_are : map (λ i. kept i.tokens) rear ≡ map (λ i. map (moved n) (kept i.tokens)) is

behind : (n : ℕ) (ws : List (List Word)) (ks is all : List Item) → item_words ks ≡ ws ++ [] ∷ []
    → item_words all ≡ ws ++ item_words is
    → joined (map (λ i. kept i.tokens) all) ≡ joined (map (λ i. kept i.tokens) ks)
    ++ joined (map (λ i. map (moved n) (kept i.tokens)) is) → Behind n ws ks is all
behind n [] [] is all e f g = absurd (cc)
behind n [] (x ∷ y ∷ ks) is all e f g = absurd (cc)
behind n [] (x ∷ []) is all e f g =
    let words : words_of x.tokens ≡ [] = cc in
    let none : kept x.tokens ≡ [] = none_mapped word_of (kept x.tokens) words in
    record {
      front = [];
      rear = all;
      parts = refl;
      front_words = refl;
      front_kept = ap (λ l. l ∷ []) none;
      kept_are = same_kept n all is f
          (g ∙ (λ k. (none k ++ []) ++ joined (map (λ i. map (moved n) (kept i.tokens)) is)));
    }
behind n (w ∷ ws) [] is all e f g = absurd (cc)
behind n (w ∷ ws) (x ∷ ks) is [] e f g = absurd (cc)
behind n (w ∷ ws) (x ∷ ks) is (a ∷ all) e f g =
    let own : words_of x.tokens ≡ w = cc in
    let other : words_of a.tokens ≡ w = cc in
    let rest : item_words ks ≡ ws ++ [] ∷ [] = cc in
    let others : item_words all ≡ ws ++ item_words is = cc in
    let both = split_same (kept a.tokens) (kept x.tokens) (joined (map (λ i. kept i.tokens) all))
    (joined (map (λ i. kept i.tokens) ks) ++ joined (map (λ i. map (moved n) (kept i.tokens)) is))
    (g ∙ append_assoc (kept x.tokens) (joined (map (λ i. kept i.tokens) ks))
    (joined (map (λ i. map (moved n) (kept i.tokens)) is)))
    (words_long a.tokens x.tokens (other ∙ sym own)) in
    let next = behind n ws ks is all rest others both.1 in
    let words = next.front_words in
    let parts = next.parts in
    let first = both.0 in
    let front = next.front_kept in
    record {
      front = a ∷ next.front;
      rear = next.rear;
      parts = λ i. a ∷ parts i;
      front_words = λ i. other i ∷ words i;
      front_kept = λ i. sym first i ∷ front i;
      kept_are = next.kept_are;
    }

-- ---- lines and columns

take_front : (a b : List ℕ) (s : ℕ) → take (length a + s) (a ++ b) ≡ a ++ take s b
take_front [] b s = let same : 0 + s ≡ s = omega arith in ap (λ n. take n b) same
take_front (x ∷ a) b s =
    let same : suc (length a) + s ≡ suc (length a + s) = omega arith in
    ap (λ n. take n (x ∷ (a ++ b))) same ∙ ap (λ l. x ∷ l) (take_front a b s)

line_later : (a b : List ℕ) (s : ℕ)
    → line_of (a ++ b) (length a + s) ≡ count_by is_line_feed a + line_of b s
line_later a b s =
    let counts = ap (count_by is_line_feed) (take_front a b s)
    ∙ sum_by-append (λ x. cond (is_line_feed x) 1 0) a (take s b) in
    omega (arith, counts)

ends_stop : (a : List ℕ) → EndsLine a → prefix_len is_in_line (reverse a) ≡ 0
ends_stop a (inl none) = ap (λ l. prefix_len is_in_line (reverse l)) none
ends_stop a (inr ten) =
    prefix_len_is is_in_line (reverse a) 0 0 (omega arith) (λ k lt. absurd (omega (arith, lt)))
    (λ lt. ap is_in_line (last lt))
  where
    last : 0 < length (reverse a) → get_or (reverse a) 0 0 ≡ 10
    last lt =
        let same : length a - 1 - 0 ≡ length a - 1 = omega arith in
        get_or-reverse a 0 0 (omega (arith, lt, length-reverse a)) ∙ ap (λ n. get_or a n 0) same ∙ ten

column_later : (a b : List ℕ) (s : ℕ) → EndsLine a → column_of (a ++ b) (length a + s) ≡ column_of b s
column_later a b s ends =
    ap (λ l. 1 + prefix_len is_in_line (reverse l)) (take_front a b s)
    ∙ ap (λ l. 1 + prefix_len is_in_line l) (reverse-append a t)
    ∙ ap (λ n. 1 + n) (prefix_len-append is_in_line (reverse t) (reverse a)
    ∙ by (eqb (prefix_len is_in_line (reverse t)) (length (reverse t))) refl)
  where
    t : List ℕ
    t = take s b

    by : (x : Bool) → eqb (prefix_len is_in_line (reverse t)) (length (reverse t)) ≡ x
        → cond x (length (reverse t) + prefix_len is_in_line (reverse a)) (prefix_len is_in_line (reverse t))
        ≡ prefix_len is_in_line (reverse t)
    by true e =
        let all = eqb-true (prefix_len is_in_line (reverse t)) (length (reverse t)) e in
        let stop = ends_stop a ends in
        omega (arith, all, stop)
    by false e = refl

-- ---- the faults of one item

abbrev at_lines : List ℕ → ℕ → Seen → Told
at_lines text index x = record {
  item = index;
  line = line_of text x.start;
  col = column_of text x.start;
  code = x.code;
}

told_item : (text : List ℕ) (index : ℕ) (tokens : List Lexeme) (fs : List TokenFault)
    → map told (map (placed text index tokens) fs) ≡ map (at_lines text index) (map (seen_at tokens) fs)
told_item text index tokens [] = refl
told_item text index tokens (f ∷ fs) =
    ap (λ l. at_lines text index (seen_at tokens f) ∷ l) (told_item text index tokens fs)

told_later : (before text : List ℕ) (m index : ℕ) (tokens : List Lexeme) (fs : List TokenFault)
    → EndsLine before
    → map (at_lines (before ++ text) (m + index))
    (map (seen_behind (length before)) (map (seen_at tokens) fs))
    ≡ map (told_behind m (count_by is_line_feed before)) (map (placed text index tokens) fs)
told_later before text m index tokens [] ends = refl
told_later before text m index tokens (f ∷ fs) ends =
    let line = line_later before text (seen_at tokens f).start in
    let col = column_later before text (seen_at tokens f).start ends in
    let rest = told_later before text m index tokens fs ends in
    λ i. record { item = m + index; line = line i; col = col i; code = f.code } ∷ rest i

-- all faults stand at words of their items
abbrev pub AreAllWithin : List Item → Type 0
AreAllWithin [] = Unit {0}
AreAllWithin (i ∷ is) = AreWithin (length (kept i.tokens)) (rule_faults i.result) × AreAllWithin is

item_later : (before text : List ℕ) (m index : ℕ) (a j : Item) → EndsLine before
    → kept a.tokens ≡ map (moved (length before)) (kept j.tokens) → a.result ≡ j.result
    → IsParse a.tokens a.parse → IsParse j.tokens j.parse
    → AreWithin (length (kept j.tokens)) (rule_faults j.result)
    → map told (item_faults (before ++ text) (m + index) a)
    ≡ map (told_behind m (count_by is_line_feed before)) (item_faults text index j)
item_later before text m index a j ends same result h k within =
    told_item (before ++ text) (m + index) a.tokens (token_faults a)
    ∙ ap (λ o. map (at_lines (before ++ text) (m + index))
    (map (seen_at a.tokens) (faults_at a.tokens a.parse (rule_faults o)))) result
    ∙ ap (map (at_lines (before ++ text) (m + index)))
    (seen_faults (length before) a.tokens j.tokens a.parse j.parse (rule_faults j.result) same h k within)
    ∙ told_later before text m index j.tokens (token_faults j) ends

-- ---- the faults of an item stand at its words

within_by : (d : Definition) (see : List ℕ → View) (n : ℕ) (fs : List WordFault) → length (spell d) ≡ n
    → ((f : WordFault) → IsAmong fs f → IsFault d see f.word f.code) → AreWithin n fs
within_by d see n [] long are = tt
within_by d see n (f ∷ fs) long are =
    let lt = fault_under d see f.word f.code (are f (among_first f fs)) in
    (omega (arith, lt, long), within_by d see n fs long (λ g k. are g (among_more f g fs k)))

item_within : (names : KnownNames) (ds : List (Option Definition)) (read : ℕ → Option Outcome) (item : ℕ)
    (tokens : List Lexeme) (p : Parse) (o : Option Outcome) → IsParse tokens p
    → IsResult names ds read item (parsed_definition p) o → AreWithin (length (kept tokens)) (rule_faults o)
item_within names ds read item tokens p None h k = tt
item_within names ds read item tokens Nothing (Some o) h k = absurd k
item_within names ds read item tokens (Fault at code) (Some o) h k = absurd k
item_within names ds read item tokens (Def d) (Some o) h k =
    within_by d (seen d (map (view_by names ds read item) (names_of d))) (length (kept tokens)) o.faults
    (ap length h.1 ∙ length-map (kept tokens) word_of) k.are_faults.are_faults

all_within : (names : KnownNames) (ds : List (Option Definition)) (read : ℕ → Option Outcome) (item : ℕ)
    (is : List Item) → AreParses is
    → AreResultsFrom names ds read item (definitions_of is) (map (λ i. i.result) is) → AreAllWithin is
all_within names ds read item [] h k = tt
all_within names ds read item (i ∷ is) h k = (
  item_within names ds read item i.tokens i.parse i.result h.0 k.0,
  all_within names ds read (suc item) is h.1 k.1,
)

-- ---- the faults of all items

faults_later : (before text : List ℕ) (m index : ℕ) (rear is : List Item) → EndsLine before
    → map (λ i. kept i.tokens) rear ≡ map (λ i. map (moved (length before)) (kept i.tokens)) is
    → map (λ i. i.result) rear ≡ map (λ i. i.result) is → AreParses rear → AreParses is → AreAllWithin is
    → map told (faults_from (before ++ text) (m + index) rear)
    ≡ map (told_behind m (count_by is_line_feed before)) (faults_from text index is)
faults_later before text m index [] [] ends e f h k within = refl
faults_later before text m index [] (i ∷ is) ends e f h k within = absurd (cc)
faults_later before text m index (a ∷ rear) [] ends e f h k within = absurd (cc)
faults_later before text m index (a ∷ rear) (i ∷ is) ends e f h k within =
    let same : kept a.tokens ≡ map (moved (length before)) (kept i.tokens) = cc in
    let others : map (λ i. kept i.tokens) rear ≡ map (λ i. map (moved (length before)) (kept i.tokens)) is =
    cc in
    let result : a.result ≡ i.result = cc in
    let results : map (λ i. i.result) rear ≡ map (λ i. i.result) is = cc in
    let next : suc (m + index) ≡ m + suc index = omega arith in
    let first = item_later before text m index a i ends same result h.0 k.0 within.0 in
    let rest = ap (λ n. map told (faults_from (before ++ text) n rear)) next
    ∙ faults_later before text m (suc index) rear is ends others results h.1 k.1 within.1 in
    map-append told (item_faults (before ++ text) (m + index) a)
    (faults_from (before ++ text) (suc (m + index)) rear)
    ∙ (λ n. first n ++ rest n)
    ∙ sym (map-append (told_behind m (count_by is_line_feed before)) (item_faults text index i)
    (faults_from text (suc index) is))

-- ---- the faults of the known items

moved_none : (ts : List Lexeme) → map (moved 0) ts ≡ ts
moved_none [] = refl
moved_none (t ∷ ts) =
    let start : 0 + t.start ≡ t.start = omega arith in
    let stop : 0 + t.end ≡ t.end = omega arith in
    let rest = moved_none ts in
    λ i. record { kind = t.kind; start = start i; end = stop i; text = t.text } ∷ rest i

seen_none : (xs : List Seen) → map (seen_behind 0) xs ≡ xs
seen_none [] = refl
seen_none (x ∷ xs) =
    let start : 0 + x.start ≡ x.start = omega arith in
    let rest = seen_none xs in
    λ i. record { start = start i; code = x.code } ∷ rest i

-- they start in a text of so many bytes
abbrev AreAt : ℕ → List Lexeme → Type 0
AreAt n [] = Unit {0}
AreAt n (t ∷ ts) = (t.start ≤ n) × AreAt n ts

abbrev AllAt : ℕ → List Item → Type 0
AllAt n [] = Unit {0}
AllAt n (i ∷ is) = AreAt n i.tokens × AllAt n is

at_parts : (n : ℕ) (xs ys : List Lexeme) → AreAt n (xs ++ ys) → AreAt n xs × AreAt n ys
at_parts n [] ys h = (tt, h)
at_parts n (x ∷ xs) ys h = let rest = at_parts n xs ys h.1 in ((h.0, rest.0), rest.1)

all_at : (n : ℕ) (is : List Item) → AreAt n (tokens_of is) → AllAt n is
all_at n [] h = tt
all_at n (i ∷ is) h =
    let parts = at_parts n i.tokens (tokens_of is) h in (parts.0, all_at n is parts.1)

starts_at : (start : Bool) (text rest : List ℕ) (at : ℕ) (ts : List (Kind × ℕ)) → Tiles start rest ts
    → at + length rest ≡ length text → AreAt (length text) (lexemes_from text at ts)
starts_at start text rest at [] h e = tt
starts_at start text rest at (t ∷ ts) h e =
    let within = (token_spans t.0 start rest t.1 h.0).within in (
      omega (arith, e),
      starts_at (starts_after rest t.1) text (drop t.1 rest) (at + t.1) ts h.1
          (omega (arith, e, within, length-drop t.1 rest)),
    )

start_at : (n : ℕ) (ts : List Lexeme) (k : ℕ) → AreAt n ts → start_of ts k ≤ n
start_at n [] k h = omega arith
start_at n (t ∷ ts) zero h = h.0
start_at n (t ∷ ts) (suc k) h = start_at n ts k h.1

told_before : (a b : List ℕ) (index : ℕ) (tokens : List Lexeme) (fs : List TokenFault)
    → AreAt (length a) tokens
    → map (at_lines (a ++ b) index) (map (seen_at tokens) fs) ≡ map told (map (placed a index tokens) fs)
told_before a b index tokens [] h = refl
told_before a b index tokens (f ∷ fs) h =
    let same = take-append-le (start_of tokens f.token) a b (start_at (length a) tokens f.token h) in
    let rest = told_before a b index tokens fs h in
    λ i. record {
      item = index;
      line = 1 + count_by is_line_feed (same i);
      col = 1 + prefix_len is_in_line (reverse (same i));
      code = f.code;
    } ∷ rest i

item_before : (a b : List ℕ) (index : ℕ) (x k : Item) → kept x.tokens ≡ kept k.tokens → x.result ≡ k.result
    → IsParse x.tokens x.parse → IsParse k.tokens k.parse
    → AreWithin (length (kept k.tokens)) (rule_faults k.result) → AreAt (length a) k.tokens
    → map told (item_faults (a ++ b) index x) ≡ map told (item_faults a index k)
item_before a b index x k same result h l within at =
    told_item (a ++ b) index x.tokens (token_faults x)
    ∙ ap (λ o. map (at_lines (a ++ b) index)
    (map (seen_at x.tokens) (faults_at x.tokens x.parse (rule_faults o)))) result
    ∙ ap (map (at_lines (a ++ b) index))
    (seen_faults 0 x.tokens k.tokens x.parse k.parse (rule_faults k.result)
    (same ∙ sym (moved_none (kept k.tokens))) h l within
    ∙ seen_none (map (seen_at k.tokens) (token_faults k)))
    ∙ told_before a b index k.tokens (token_faults k) at

-- an item without words has none
wordless : (names : KnownNames) (ds : List (Option Definition)) (read : ℕ → Option Outcome) (item : ℕ)
    (tokens : List Lexeme) (p : Parse) (o : Option Outcome) → words_of tokens ≡ [] → IsParse tokens p
    → IsResult names ds read item (parsed_definition p) o → faults_at tokens p (rule_faults o) ≡ []
wordless names ds read item tokens Nothing None none h k = refl
wordless names ds read item tokens Nothing (Some o) none h k = absurd k
wordless names ds read item tokens (Def d) o none h k =
    absurd (let f = one_parse tokens Nothing (Def d) none h in cc)
wordless names ds read item tokens (Fault at code) o none h k =
    absurd (let f = one_parse tokens Nothing (Fault at code) none h in cc)

faults_before : (a b : List ℕ) (names : KnownNames) (ds : List (Option Definition))
    (read : ℕ → Option Outcome) (index : ℕ) (front ks : List Item) (last : Option Outcome)
    → map (λ i. kept i.tokens) ks ≡ map (λ i. kept i.tokens) front ++ [] ∷ []
    → map (λ i. i.result) ks ≡ map (λ i. i.result) front ++ last ∷ [] → AreParses front → AreParses ks
    → AreResultsFrom names ds read index (definitions_of ks) (map (λ i. i.result) ks) → AllAt (length a) ks
    → map told (faults_from (a ++ b) index front) ≡ map told (faults_from a index ks)
faults_before a b names ds read index [] [] last e f h k results at = absurd (cc)
faults_before a b names ds read index [] (x ∷ y ∷ ks) last e f h k results at = absurd (cc)
faults_before a b names ds read index [] (x ∷ []) last e f h k results at =
    let none : kept x.tokens ≡ [] = cc in
    let gone = wordless names ds read index x.tokens x.parse x.result (ap (map word_of) none) k.0 results.0 in
    sym (ap (λ fs. map told (map (placed a index x.tokens) fs ++ [])) gone)
faults_before a b names ds read index (i ∷ front) [] last e f h k results at = absurd (cc)
faults_before a b names ds read index (i ∷ front) (x ∷ ks) last e f h k results at =
    let same : kept i.tokens ≡ kept x.tokens = cc in
    let others : map (λ i. kept i.tokens) ks ≡ map (λ i. kept i.tokens) front ++ [] ∷ [] = cc in
    let result : i.result ≡ x.result = cc in
    let rest : map (λ i. i.result) ks ≡ map (λ i. i.result) front ++ last ∷ [] = cc in
    let first = item_before a b index i x same result h.0 k.0
    (item_within names ds read index x.tokens x.parse x.result k.0 results.0) at.0 in
    let next = faults_before a b names ds read (suc index) front ks last others rest h.1 k.1 results.1 at.1 in
    map-append told (item_faults (a ++ b) index i) (faults_from (a ++ b) (suc index) front)
    ∙ (λ n. first n ++ next n)
    ∙ sym (map-append told (item_faults a index x) (faults_from a (suc index) ks))

faults_append : (text : List ℕ) (index : ℕ) (front rear : List Item) → faults_from text index (front ++ rear)
    ≡ faults_from text index front ++ faults_from text (length front + index) rear
faults_append text index [] rear =
    let same : index ≡ 0 + index = omega arith in ap (λ n. faults_from text n rear) same
faults_append text index (i ∷ front) rear =
    let next : length front + suc index ≡ suc (length front) + index = omega arith in
    ap (λ l. item_faults text index i ++ l) (faults_append text (suc index) front rear
    ∙ ap (λ n. faults_from text (suc index) front ++ faults_from text n rear) next)
    ∙ sym (append_assoc (item_faults text index i) (faults_from text (suc index) front)
    (faults_from text (suc (length front) + index) rear))

parses_parts : (front rear : List Item) → AreParses (front ++ rear) → AreParses front × AreParses rear
parses_parts [] rear h = (tt, h)
parses_parts (i ∷ front) rear h = let rest = parses_parts front rear h.1 in ((h.0, rest.0), rest.1)

-- ---- both

words_many : (is : List Item) → length (item_words is) ≡ length is
words_many is = length-map (map (λ i. i.tokens) is) words_of ∙ length-map is (λ i. i.tokens)

cut_many : {X : Type 0} (xs front : List X) (x : X) (n : ℕ) → xs ≡ front ++ x ∷ [] → length xs ≡ n + 1
    → length front ≡ n
cut_many xs front x n e many =
    let same = ap length e in omega (arith, same, many, length_push front x)

-- the known text may have faults
faults_behind : (b : ℕ) (bs text : List ℕ) (known : KnownText)
    (own_tokens tokens all_tokens : List (Kind × ℕ)) (own is all : List Item) → EndsWhole (b ∷ bs)
    → IsKnownOf (b ∷ bs) known
    → DeclareNoneLacking (known_definitions known) (definitions_of is)
    → IsCompilation nothing_known (b ∷ bs) own_tokens own → IsCompilation known text tokens is
    → IsCompilation nothing_known ((b ∷ bs) ++ text) all_tokens all
    → map told (faults_of ((b ∷ bs) ++ text) all) ≡ map told (faults_of (b ∷ bs) own)
    ++ map (told_behind (length (but_last (known_definitions known))) (count_by is_line_feed (b ∷ bs)))
    (faults_of text is)
faults_behind b bs text known own_tokens tokens all_tokens own is all ends known_is apart f h k =
    ap (λ l. map told (faults_of both l)) at.parts
    ∙ ap (map told) (faults_append both 0 at.front at.rear)
    ∙ map-append told (faults_from both 0 at.front) (faults_from both (length at.front + 0) at.rear)
    ∙ (λ i. first i ++ second i)
  where
    both : List ℕ
    both = (b ∷ bs) ++ text

    over : OverKnown (b ∷ bs) known is all
    over = over_known b bs text known tokens all_tokens is all ends known_is h k

    n : ℕ
    n = length over.ws

    at : Behind (length (b ∷ bs)) over.ws over.own is all
    at = behind (length (b ∷ bs)) over.ws over.own is all over.both.own_words over.both.all_words
        (sym (kept_items all) ∙ over.both.all_kept
        ∙ (λ i. kept_items over.own i ++ moved_items (length (b ∷ bs)) is i))

    parses : AreParses at.front × AreParses at.rear
    parses = parses_parts at.front at.rear (subst AreParses at.parts k.are_parses)

    last : (known_definitions known ≡ but_last (known_definitions known) ++ None ∷ [])
        × (known.outcomes ≡ but_last known.outcomes ++ None ∷ [])
    last = last_as_one (b ∷ bs) known ends known_is (λ e. absurd (cc))

    own_many : length over.own ≡ n + 1
    own_many = sym (words_many over.own) ∙ ap length over.both.own_words ∙ length_push over.ws []

    front_many : length at.front ≡ n
    front_many = sym (words_many at.front) ∙ ap length at.front_words

    many : length at.front ≡ length (but_last (known_definitions known))
    many = front_many ∙ sym (cut_many (known_definitions known) (but_last (known_definitions known)) None n
        last.0 (ap length over.is.definitions ∙ length-map over.own (λ i. parsed_definition i.parse)
        ∙ own_many))

    outcomes_many : length (but_last known.outcomes) ≡ n
    outcomes_many = cut_many known.outcomes (but_last known.outcomes) None n last.1
        (ap length over.is.outcomes ∙ length-map over.own (λ i. i.result) ∙ own_many)

    results : (map (λ i. i.result) at.front ≡ but_last known.outcomes)
        × (map (λ i. i.result) at.rear ≡ map (λ i. i.result) is)
    results = split_same (map (λ i. i.result) at.front) (but_last known.outcomes)
        (map (λ i. i.result) at.rear) (map (λ i. i.result) is)
        (sym (map-append (λ (i : Item). i.result) at.front at.rear)
        ∙ ap (map (λ (i : Item). i.result)) (sym at.parts)
        ∙ (results_exactly (b ∷ bs) text known tokens all_tokens is all ends known_is h k).1 apart)
        (length-map at.front (λ i. i.result) ∙ front_many ∙ sym outcomes_many)

    own_at : AreAt (length (b ∷ bs)) (tokens_of over.own)
    own_at =
        subst (AreAt (length (b ∷ bs))) (sym over.compiled.are_items.all)
        (starts_at true (b ∷ bs) (b ∷ bs) 0 over.own_tokens over.compiled.are_tokens (omega arith))

    first : map told (faults_from both 0 at.front) ≡ map told (faults_of (b ∷ bs) own)
    first =
        faults_before (b ∷ bs) text (known_names nothing_known) (definitions_of over.own)
        (result_at (map (λ i. i.result) over.own)) 0 at.front over.own None at.front_kept
        (sym over.is.outcomes ∙ last.1 ∙ ap (λ l. l ++ None ∷ []) (sym results.0)) parses.0
        over.compiled.are_parses over.compiled.are_results (all_at (length (b ∷ bs)) over.own own_at)
        ∙ ap (λ l. map told (faults_of (b ∷ bs) l)) (one_compilation nothing_known (b ∷ bs) over.own_tokens
        own_tokens over.own own over.compiled f).1

    second : map told (faults_from both (length at.front + 0) at.rear)
        ≡ map (told_behind (length (but_last (known_definitions known))) (count_by is_line_feed (b ∷ bs)))
        (faults_of text is)
    second =
        ap (λ m. map told (faults_from both (m + 0) at.rear)) many
        ∙ faults_later (b ∷ bs) text (length (but_last (known_definitions known))) 0 at.rear is ends.ends_line
        at.kept_are results.1 parses.1 h.are_parses
        (all_within (known_names known) (definitions_of is) (result_at (map (λ i. i.result) is)) 0 is
        h.are_parses h.are_results)

-- behind the empty text nothing moves
told_none : (fs : List rust.Fault.Fault) → map told fs ≡ map (told_behind 0 0) fs
told_none [] = refl
told_none (f ∷ fs) =
    let item : f.item ≡ 0 + f.item = omega arith in
    let line : f.line ≡ 0 + f.line = omega arith in
    let rest = told_none fs in
    λ i. record { item = item i; line = line i; col = f.col; code = f.code } ∷ rest i

behind_none : (text : List ℕ) (known : KnownText) (tokens all_tokens : List (Kind × ℕ)) (is all : List Item)
    → IsKnownOf [] known → IsCompilation known text tokens is
    → IsCompilation nothing_known text all_tokens all → map told (faults_of text all)
    ≡ map (told_behind (length (but_last (known_definitions known))) 0) (faults_of text is)
behind_none text known tokens all_tokens is all known_is h k =
    ap (λ l. map told (faults_of text l)) (one_compilation nothing_known text all_tokens tokens all is k
    (subst (λ o. IsCompilation o text tokens is) known_is h)).1
    ∙ told_none (faults_of text is)
    ∙ ap (λ (o : KnownText). map (told_behind (length (but_last (known_definitions o))) 0)
    (faults_of text is)) (sym known_is)

-- the empty text has no fault
empty_none : (own_tokens : List (Kind × ℕ)) (own : List Item) → EndsWhole []
    → IsCompilation nothing_known [] own_tokens own → faults_of [] own ≡ []
empty_none own_tokens own ends f = by own words f.are_parses f.are_results
  where
    ws : List (List Word)
    ws = words_before [] ends

    words : item_words own ≡ [] ∷ []
    words =
        words_are nothing_known [] ws own_tokens own (whole_from [] ends) f
        ∙ ap (λ l. l ++ [] ∷ []) (none_in_empty ws (whole_from [] ends))

    by : (is : List Item) → item_words is ≡ [] ∷ [] → AreParses is
        → AreResults (known_names nothing_known) (definitions_of is) (map (λ i. i.result) is)
        → faults_of [] is ≡ []
    by [] e h k = refl
    by (x ∷ y ∷ is) e h k = absurd (cc)
    by (x ∷ []) e h k =
        let none : words_of x.tokens ≡ [] = cc in
        ap (λ fs. map (placed [] 0 x.tokens) fs ++ []) (wordless (known_names nothing_known)
        (definitions_of (x ∷ [])) (result_at (x.result ∷ [])) 0 x.tokens x.parse x.result none h.0 k.0)

pub faults_exactly : (before text : List ℕ) (known : KnownText)
    (own_tokens tokens all_tokens : List (Kind × ℕ)) (own is all : List Item) → EndsWhole before
    → IsKnownOf before known → DeclareNoneLacking (known_definitions known) (definitions_of is)
    → IsCompilation nothing_known before own_tokens own → IsCompilation known text tokens is
    → IsCompilation nothing_known (before ++ text) all_tokens all
    → map told (faults_of (before ++ text) all) ≡ map told (faults_of before own)
    ++ map (told_behind (length (but_last (known_definitions known))) (count_by is_line_feed before))
    (faults_of text is)
faults_exactly [] text known own_tokens tokens all_tokens own is all ends known_is apart f h k =
    behind_none text known tokens all_tokens is all known_is h k
    ∙ ap (λ fs. map told fs
    ++ map (told_behind (length (but_last (known_definitions known))) 0) (faults_of text is))
    (sym (empty_none own_tokens own ends f))
faults_exactly (b ∷ bs) text known own_tokens tokens all_tokens own is all ends known_is apart f h k =
    faults_behind b bs text known own_tokens tokens all_tokens own is all ends known_is apart f h k

pub faults_as_one : (before text : List ℕ) (known : KnownText) (tokens all_tokens : List (Kind × ℕ))
    (is all : List Item) → EndsWhole before → IsKnownOf before known → IsFaultless before
    → IsCompilation known text tokens is → IsCompilation nothing_known (before ++ text) all_tokens all
    → map told (faults_of (before ++ text) all)
    ≡ map (told_behind (length (but_last (known_definitions known))) (count_by is_line_feed before))
    (faults_of text is)
faults_as_one [] text known tokens all_tokens is all ends known_is fine h k =
    behind_none text known tokens all_tokens is all known_is h k
faults_as_one (b ∷ bs) text known tokens all_tokens is all ends known_is (own_tokens, own, f, none) h k =
    faults_behind b bs text known own_tokens tokens all_tokens own is all ends known_is
    (none_behind (b ∷ bs) known (definitions_of is) known_is (own_tokens, own, f, none)) f h k
    ∙ ap (λ fs. map told fs
    ++ map (told_behind (length (but_last (known_definitions known))) (count_by is_line_feed (b ∷ bs)))
    (faults_of text is)) none

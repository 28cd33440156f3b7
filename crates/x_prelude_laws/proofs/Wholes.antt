-- Texts that end whole, one behind the other.
use Rattle.std.proofs.Common.{◌≡◌, ◌⊎◌, inl, inr, ℕ, zero, suc, ◌+◌, ◌-◌, ◌<◌, ◌≤◌, Bool, true, false, List}
use Rattle.std.proofs.Common.{[], ◌∷◌, ◌++◌, map, length, get_or, drop, arith, refl, sym, ap, subst, ◌∙◌}
use Rattle.std.specs.Prelude.{◌==◌}
use Rattle.std.proofs.lemmas.Bool.{cases_lt}
use Rattle.std.proofs.lemmas.Bool.Decides.{nat_tests}
use Rattle.std.proofs.lemmas.List.{append-nil, append_assoc, get_or-append-add, get_or-drop, length-append}
use Rattle.std.proofs.lemmas.List.{map_push, nil_from_length, same_from_push}
use Rattle.x_lex.specs.declared.kind.Kind.{Kind}
use Rattle.x_lex.specs.declared.kind.Kind.TheVariants as kinds
use Rattle.x_lex.specs.Bytes.{is_digit, is_in_line, is_letter, is_punct, is_space, is_word_byte}
use Rattle.x_lex.specs.Marks.{mark_of}
use Rattle.x_lex.specs.Places.{Lexeme, lexemes}
use Rattle.x_lex.specs.Tiling.{AreTokens, starts_after}
use Rattle.x_lex.specs.Word.{Each, HasForm, IsBad, IsComment, IsLine, IsRun, IsToken, IsWord}
use Rattle.x_lex.proofs.CloseLemmas.{occurs_bytes}
use Rattle.x_lex.specs.Scan.{scan, scan_as}
use Rattle.x_lex.proofs.ClassLemmas.{class_blank}
use Rattle.x_lex.proofs.ScanLemmas.{token_scan}
use Rattle.x_lex.proofs.TilingLemmas.{token_spans}
use Rattle.x_cutting.specs.Items.{AreItems, IsCut}
use Rattle.x_cutting.specs.Cutting.{counts_from, ends_at, depth_after, role_by, roles_of}
use Rattle.x_cutting.proofs.CuttingLemmas.{counts_cut}
use Rattle.x_trees.specs.Spell.{spell}
use Rattle.x_trees.specs.Words.{Word, word_by, words_of}
use Rattle.x_prelude_laws.specs.Wholes as specs
use Rattle.x_prelude_laws.specs.Wholes.{EndsWhole}
use Rattle.x_prelude_laws.proofs.Fine.{fine_lexes}
use Rattle.x_prelude_laws.proofs.Items.{put_none, HasFirst, first_is, has_first, items, items_are, items_both}
use Rattle.x_prelude_laws.proofs.Items.{put, role, words}
use Rattle.x_prelude_laws.proofs.Lines.{Line}
use Rattle.x_prelude_laws.proofs.Pieces.{ends_any, ends-glued, bytes-glued, glued, lexes_glued, EndsLine}
use Rattle.x_prelude_laws.proofs.Pieces.{Lexes, Piece, bytes-append, bytes_are, bytes_of, lexes_both}
use Rattle.x_prelude_laws.proofs.Pieces.{lexes_from, pieces_at, pieces_back, pieces_of, tiles_from, tokens_of}

-- the text ends whole, and its items before the last have these words
pub record Whole (text : List ℕ) (all : List (List Word)) : Type 0 where
  pub pieces : List Piece
  pub bytes : bytes_of pieces ≡ text
  pub lexes : Lexes true pieces
  pub ends : EndsLine true pieces
  pub items_are : items 0 pieces ≡ all ++ [] ∷ []

pub whole_none : Whole [] []
whole_none = record { pieces = []; bytes = refl; lexes = tt; ends = refl; items_are = refl }

pub whole_line : (text name : List ℕ) (l : Line text name) → Whole text (spell l.definition ∷ [])
whole_line text name l = record {
  pieces = l.pieces;
  bytes = l.bytes;
  lexes = fine_lexes true l.pieces l.fine l.apart;
  ends = l.ends;
  items_are = l.item;
}

ends_both : (s : Bool) (ps qs : List Piece) → EndsLine s ps → EndsLine true qs → EndsLine s (ps ++ qs)
ends_both s [] qs e f = subst (λ t. EndsLine t qs) (sym e) f
ends_both s (p ∷ []) [] e f = e
ends_both s (p ∷ []) (q ∷ qs) e f = ends_any true false q qs f
ends_both s (p ∷ q ∷ ps) qs e f = ends_both false (q ∷ ps) qs e f

-- the first piece of a text that begins with white space
pub space_first : (start : Bool) (p : Piece) (ps : List Piece) → Lexes start (p ∷ ps)
    → is_space (get_or (p.1 ++ bytes_of ps) 0 0) ≡ true → p.0 ≡ kinds.Space
unfolding scan
space_first start p ps h first =
    let rest = p.1 ++ bytes_of ps in
    let some : 0 < length (p.1 ++ bytes_of ps) =
    omega (arith, (token_spans p.0 start rest (length p.1) h.0).some, length-append p.1 (bytes_of ps)) in
    ap (λ x. x.0) (token_scan start rest some p.0 (length p.1) h.0
    ∙ ap (λ c. scan_as c rest) (class_blank start (get_or rest 0 0) (get_or rest 1 0) first))

pub items_glued : (d : ℕ) (ps : List Piece) (q : Piece) (qs : List Piece) (start : Bool) → EndsLine start ps
    → q.0 ≡ kinds.Space → items d (glued ps q qs) ≡ items d (ps ++ q ∷ qs)
unfolding role_by
items_glued d [] q qs start e space = refl
items_glued d (p ∷ []) q qs start e space =
    (λ i. items d ((e.0 i, p.1 ++ q.1) ∷ qs))
    ∙ sym (put_none (items d ((kinds.Space, q.1) ∷ qs)) (has_first d ((kinds.Space, q.1) ∷ qs)))
    ∙ (λ i. items d ((sym e.0 i, p.1) ∷ (sym space i, q.1) ∷ qs))
items_glued d (p ∷ r ∷ ps) q qs start e space =
    ap (put (ends_at d (role p)) (words p))
    (items_glued (depth_after d (role p)) (r ∷ ps) q qs false e space)

pub whole_both : (a b : List ℕ) (ws us : List (List Word)) → Whole a ws → Whole b us
    → Whole (a ++ b) (ws ++ us)
whole_both a b ws us h k =
    by (is_space (get_or (bytes_of k.pieces) 0 0)) k.pieces refl k.bytes k.lexes k.ends k.items_are
  where
    all_items : (qs : List Piece) → items 0 qs ≡ us ++ [] ∷ []
        → items 0 (h.pieces ++ qs) ≡ (ws ++ us) ++ [] ∷ []
    all_items qs is =
        items_both 0 h.pieces qs ws h.items_are (λ none. refl) ∙ ap (λ l. ws ++ l) is
        ∙ sym (append_assoc ws us ([] ∷ []))

    by : (x : Bool) (qs : List Piece) → is_space (get_or (bytes_of qs) 0 0) ≡ x → bytes_of qs ≡ b
        → Lexes true qs → EndsLine true qs → items 0 qs ≡ us ++ [] ∷ [] → Whole (a ++ b) (ws ++ us)
    by false qs other bytes lexes ends is = record {
      pieces = h.pieces ++ qs;
      bytes = bytes-append h.pieces qs ∙ (λ i. h.bytes i ++ bytes i);
      lexes = lexes_both true h.pieces qs h.lexes h.ends other lexes;
      ends = ends_both true h.pieces qs h.ends ends;
      items_are = all_items qs is;
    }
    by true [] first bytes lexes ends is = absurd (cc)
    by true (q ∷ qs) first bytes lexes ends is =
        let space = space_first true q qs lexes first in
        let some = (token_spans q.0 true (q.1 ++ bytes_of qs) (length q.1) lexes.0).some in
        record {
          pieces = glued h.pieces q qs;
          bytes = bytes-glued h.pieces q qs ∙ (λ i. h.bytes i ++ bytes i);
          lexes = lexes_glued true h.pieces q qs h.lexes h.ends space lexes;
          ends = ends-glued true h.pieces q qs some h.ends ends;
          items_are = items_glued 0 h.pieces q qs true h.ends space ∙ all_items (q ∷ qs) is;
        }

-- ---- a text that ends whole by its tokens and items

abbrev last_byte : List ℕ → ℕ
last_byte w = get_or w (length w - 1) 0

no_ten : (p : ℕ → Bool) (b : ℕ) → p 10 ≡ false → b ≡ 10 → p b ≡ true → ⊥
no_ten p b not is passes = let e : p 10 ≡ true = ap p (sym is) ∙ passes in absurd (cc)

digit_in_word : (b : ℕ) → is_digit b ≡ true → is_word_byte b ≡ true
digit_in_word b h = grind (arith, nat_tests)

letter_in_word : (b : ℕ) → is_letter b ≡ true → is_word_byte b ≡ true
letter_in_word b h = grind (arith, nat_tests)

-- the last of bytes of which all pass from one on that passes itself
run_last : (p : ℕ → Bool) (w : List ℕ) (from at : ℕ) → p (get_or w from 0) ≡ true
    → Each p w (from + 1) (length w)
    → from ≤ at → at < length w → p (get_or w at 0) ≡ true
run_last p w from at first others le lt = by (cases_lt from at)
  where
    by : (from < at) ⊎ (at ≤ from) → p (get_or w at 0) ≡ true
    by (inl more) = others at (omega arith) lt
    by (inr less) = let same : from ≡ at = omega arith in ap (λ n. p (get_or w n 0)) (sym same) ∙ first

run_of_word : (w : List ℕ) (from : ℕ) → is_word_byte (get_or w from 0) ≡ true
    → Each is_word_byte w (from + 1) (length w)
    → from < length w → last_byte w ≡ 10 → ⊥
run_of_word w from first others lt ten =
    no_ten is_word_byte (last_byte w) refl ten (run_last is_word_byte w from (length w - 1) first others
    (omega arith) (omega arith))

run_of_digits : (w : List ℕ) → IsRun w (length w) → 0 < length w → last_byte w ≡ 10 → ⊥
run_of_digits w (inl d) some ten = run_of_word w 0 (digit_in_word (get_or w 0 0) d.first) d.others some ten
run_of_digits w (inr s) some ten = run_of_word w 1 (digit_in_word (get_or w 1 0) s.first) s.others s.long ten

run_of_line : (w : List ℕ) → IsLine w (length w) → 0 < length w → last_byte w ≡ 10 → ⊥
run_of_line w h some ten = no_ten is_in_line (last_byte w) refl ten
    (h.within (length w - 1) (omega arith) (omega arith))

comment_last : (w : List ℕ) → IsComment w (length w) → last_byte w ≡ 10 → ⊥
comment_last w h ten =
    let slash = (occurs_bytes (drop 2 w) h.place h.closes).1 in
    let many : length w ≡ h.place + 4 = h.length_is in
    let at : 2 + (h.place + 1) ≡ length w - 1 = omega (arith, many) in
    let is : get_or w (length w - 1) 0 ≡ 47 =
    ap (λ n. get_or w n 0) (sym at) ∙ sym (get_or-drop 2 w (h.place + 1) 0) ∙ slash in
    let never : 47 ≡ 10 = sym is ∙ ten in
    omega (arith, never)

punct_last : (w : List ℕ) → length w ≡ 1 → is_punct (get_or w 0 0) ≡ true → last_byte w ≡ 10 → ⊥
unfolding mark_of
punct_last w one h ten =
    let at : length w - 1 ≡ 0 = omega (arith, one) in
    no_ten is_punct (get_or w 0 0) refl (ap (λ n. get_or w n 0) (sym at) ∙ ten) h

form_last : (k : Kind) (start : Bool) (w : List ℕ) → HasForm k start w (length w) → 0 < length w
    → last_byte w ≡ 10
    → (k ≡ kinds.Space) ⊎ (k ≡ kinds.OpenComment)
form_last kinds.Space start w h some ten = inl refl
form_last kinds.Comment start w h some ten = absurd (comment_last w h ten)
form_last kinds.OpenComment start w h some ten = inr refl
form_last kinds.Percent start w h some ten = absurd (run_of_line w h.2 some ten)
form_last kinds.Marker start w h some ten = absurd (run_of_line w h.2 some ten)
form_last kinds.Directive start w h some ten = absurd (run_of_line w h.2 some ten)
form_last kinds.Keyword start w h some ten =
    absurd (run_of_word w 0 (letter_in_word (get_or w 0 0) h.0.first) h.0.others some ten)
form_last kinds.Name start w h some ten =
    absurd (run_of_word w 0 (letter_in_word (get_or w 0 0) h.0.first) h.0.others some ten)
form_last kinds.Number start w h some ten = absurd (run_of_digits w h.0 some ten)
form_last kinds.BadNumber start w h some ten = absurd (run_of_digits w h.0 some ten)
form_last kinds.Punct start w h some ten = absurd (punct_last w h.0 h.1 ten)
form_last kinds.BadByte start w h some ten = absurd h

bad_last : (start : Bool) (w : List ℕ) → IsBad start w (length w) → last_byte w ≡ 10 → ⊥
bad_last start w h ten =
    let one : length w ≡ 1 = h.one in
    let at : length w - 1 ≡ 0 = omega (arith, one) in
    let here : get_or w 0 0 ≡ 10 = ap (λ n. get_or w n 0) (sym at) ∙ ten in
    h.none kinds.Space 1
    (record { some = omega arith; within = omega (arith, one); form = λ k le lt. by k lt here })
  where
    by : (k : ℕ) → k < 1 → get_or w 0 0 ≡ 10 → is_space (get_or w k 0) ≡ true
    by zero lt here = ap is_space here
    by (suc k) lt here = absurd (omega (arith, lt))

-- a token that ends its text, and with a line feed
token_last : (k : Kind) (start : Bool) (w : List ℕ) → IsToken k start w (length w) → last_byte w ≡ 10
    → (k ≡ kinds.Space) ⊎ (k ≡ kinds.OpenComment)
token_last k start w t ten = by t.word
  where
    by : IsWord k start w (length w) → (k ≡ kinds.Space) ⊎ (k ≡ kinds.OpenComment)
    by (inl g) = form_last k start w g.form g.some ten
    by (inr (e, b)) = absurd (bad_last start w b ten)

last_behind : (w v : List ℕ) → 0 < length v → last_byte (w ++ v) ≡ last_byte v
last_behind w v some =
    let at : length (w ++ v) - 1 ≡ length w + (length v - 1) = omega (arith, some, length-append w v) in
    ap (λ n. get_or (w ++ v) n 0) at ∙ get_or-append-add w v (length v - 1) 0

-- the last of items is that of those behind a piece
pub rest_last : (b : Bool) (ws : List Word) (is all : List (List Word)) → HasFirst is
    → put b ws is ≡ all ++ [] ∷ []
    → (rest : List (List Word)) × (is ≡ rest ++ [] ∷ [])
rest_last true ws is [] (first_is i js f) e =
    absurd (let g : ws ∷ (i ∷ js) ≡ [] ∷ [] = ap (λ l. ws ∷ l) (sym f) ∙ e in cc)
rest_last true ws is (a ∷ all) h e = (all, cc)
rest_last false ws is [] (first_is i js f) e =
    let g : (ws ++ i) ∷ js ≡ [] ∷ [] = ap (put false ws) (sym f) ∙ e in
    let none : ws ++ i ≡ [] = cc in
    let last : js ≡ [] = cc in
    let own : i ≡ [] = behind ws i none in
    ([], f ∙ (λ k. own k ∷ last k))
  where
    behind : (ws i : List Word) → ws ++ i ≡ [] → i ≡ []
    behind [] i e = e
    behind (w ∷ ws) i e = absurd (cc)
rest_last false ws is (a ∷ all) (first_is i js f) e =
    let g : (ws ++ i) ∷ js ≡ a ∷ (all ++ [] ∷ []) = ap (put false ws) (sym f) ∙ e in
    let last : js ≡ all ++ [] ∷ [] = cc in
    (i ∷ all, f ∙ ap (λ l. i ∷ l) last)

pub open_comment_word : (d : ℕ) (p : Piece) (all : List (List Word)) → p.0 ≡ kinds.OpenComment
    → items d (p ∷ []) ≡ all ++ [] ∷ [] → ⊥
unfolding role_by word_by
open_comment_word d p all e is = by all (sym (λ i. items d ((e i, p.1) ∷ [])) ∙ is)
  where
    by : (all : List (List Word)) → items d ((kinds.OpenComment, p.1) ∷ []) ≡ all ++ [] ∷ [] → ⊥
    by [] e = absurd (cc)
    by (a ∷ []) e = absurd (cc)
    by (a ∷ b ∷ all) e = absurd (cc)

-- white space stands at the end
space_last : (start : Bool) (d : ℕ) (ps : List Piece) (all : List (List Word)) → Lexes start ps
    → items d ps ≡ all ++ [] ∷ [] → 0 < length (bytes_of ps) → last_byte (bytes_of ps) ≡ 10
    → EndsLine start ps
space_last start d [] all h is some ten = absurd (omega (arith, some))
space_last start d (p ∷ []) all h is some ten =
    let alone : IsToken p.0 start p.1 (length p.1) =
    subst (λ w. IsToken p.0 start w (length p.1)) (append-nil p.1) h.0 in
    let last : last_byte p.1 ≡ 10 = ap last_byte (sym (append-nil p.1)) ∙ ten in
    (space (token_last p.0 start p.1 alone last), ap (λ b. b == 10) last)
  where
    space : (p.0 ≡ kinds.Space) ⊎ (p.0 ≡ kinds.OpenComment) → p.0 ≡ kinds.Space
    space (inl e) = e
    space (inr e) = absurd (open_comment_word d p all e is)
space_last start d (p ∷ q ∷ ps) all h is some ten =
    let next = starts_after (p.1 ++ bytes_of (q ∷ ps)) (length p.1) in
    let rest = rest_last (ends_at d (role p)) (words p) (items (depth_after d (role p)) (q ∷ ps)) all
    (has_first (depth_after d (role p)) (q ∷ ps)) is in
    let more = (token_spans q.0 next (q.1 ++ bytes_of ps) (length q.1) h.1.0).some in
    let left : 0 < length (bytes_of (q ∷ ps)) = omega (arith, more, length-append q.1 (bytes_of ps)) in
    let last = sym (last_behind p.1 (bytes_of (q ∷ ps)) left) ∙ ten in
    ends_any next false q ps (space_last next (depth_after d (role p)) (q ∷ ps) rest.0 h.1 rest.1 left last)

no_pieces : (start : Bool) (ps : List Piece) → Lexes start ps → bytes_of ps ≡ [] → EndsLine true ps
no_pieces start [] h e = refl
no_pieces start (p ∷ ps) h e =
    let some = (token_spans p.0 start (p.1 ++ bytes_of ps) (length p.1) h.0).some in
    let none = ap length e in
    absurd (omega (arith, some, none, length-append p.1 (bytes_of ps)))

-- the words of the items that stand before the last
abbrev pub words_before : (text : List ℕ) → EndsWhole text → List (List Word)
words_before text h = map words_of h.whole

-- the pieces of a text with tokens, and the words of its items
pub items_by : (text : List ℕ) (tokens : List (Kind × ℕ)) (is : List (List Lexeme))
    → AreItems (lexemes text tokens) is
    → map words_of is ≡ items 0 (pieces_of text tokens)
items_by text tokens is h = items_are (lexemes text tokens) is h ∙ ap (items 0) (pieces_at text 0 tokens)

pub whole_from : (text : List ℕ) (h : EndsWhole text) → Whole text (words_before text h)
whole_from text h = record {
  pieces = pieces_of text h.tokens;
  bytes = bytes;
  lexes = lexes;
  ends = ends h.ends_line;
  items_are = is;
}
  where
    bytes : bytes_of (pieces_of text h.tokens) ≡ text
    bytes = bytes_are true text h.tokens h.are_tokens

    lexes : Lexes true (pieces_of text h.tokens)
    lexes = lexes_from true text h.tokens h.are_tokens

    is : items 0 (pieces_of text h.tokens) ≡ map words_of h.whole ++ [] ∷ []
    is =
        sym (items_by text h.tokens (h.whole ++ h.last ∷ []) h.are_items) ∙ map_push words_of h.whole h.last
        ∙ ap (λ l. map words_of h.whole ++ l ∷ []) h.no_words

    ends : specs.EndsLine text → EndsLine true (pieces_of text h.tokens)
    ends (inl none) = no_pieces true (pieces_of text h.tokens) lexes (bytes ∙ none)
    ends (inr ten) = by (cases_lt 0 (length text))
      where
        by : (0 < length text) ⊎ (length text ≤ 0) → EndsLine true (pieces_of text h.tokens)
        by (inl some) =
            space_last true 0 (pieces_of text h.tokens) (map words_of h.whole) lexes is
            (subst (λ l. 0 < length l) (sym bytes) some) (ap last_byte bytes ∙ ten)
        by (inr none) =
            no_pieces true (pieces_of text h.tokens) lexes (bytes
            ∙ nil_from_length text (omega (arith, none)))

-- and back
last_of : (start : Bool) (ps : List Piece) → Lexes start ps → EndsLine start ps → specs.EndsLine (bytes_of ps)
last_of start [] h e = inl refl
last_of start (p ∷ []) h e = inr (ap last_byte (append-nil p.1) ∙ ten_from (last_byte p.1) e.1)
  where
    ten_from : (b : ℕ) → (b == 10) ≡ true → b ≡ 10
    ten_from b h = grind (arith, nat_tests)
last_of start (p ∷ q ∷ ps) h e =
    let next = starts_after (p.1 ++ bytes_of (q ∷ ps)) (length p.1) in
    by (last_of next (q ∷ ps) h.1 (ends_any false next q ps e))
    (token_spans q.0 next (q.1 ++ bytes_of ps) (length q.1) h.1.0).some
  where
    by : specs.EndsLine (bytes_of (q ∷ ps)) → 0 < length q.1 → specs.EndsLine (bytes_of (p ∷ q ∷ ps))
    by (inl none) some =
        let e = ap length none in absurd (omega (arith, e, some, length-append q.1 (bytes_of ps)))
    by (inr ten) some =
        inr (last_behind p.1 (bytes_of (q ∷ ps)) (omega (arith, some, length-append q.1 (bytes_of ps))) ∙ ten)

pub ends_whole : (text : List ℕ) (all : List (List Word)) → Whole text all → EndsWhole text
ends_whole text all w = record {
  ends_line = subst specs.EndsLine w.bytes (last_of true w.pieces w.lexes w.ends);
  tokens = tokens_of w.pieces;
  are_tokens = are;
  whole = cut.are.whole;
  last = cut.are.last;
  are_items = subst (AreItems tokens) cut.are.parts cut.are;
  no_words = last;
}
  where
    are : AreTokens text (tokens_of w.pieces)
    are = subst (λ t. AreTokens t (tokens_of w.pieces)) w.bytes (tiles_from true w.pieces w.lexes)

    tokens : List Lexeme
    tokens = lexemes text (tokens_of w.pieces)

    cut : IsCut tokens (counts_from 0 0 (roles_of tokens))
    cut = counts_cut tokens (counts_from 0 0 (roles_of tokens)) refl

    same : pieces_of text (tokens_of w.pieces) ≡ w.pieces
    same = ap (λ t. pieces_of t (tokens_of w.pieces)) (sym w.bytes) ∙ pieces_back w.pieces

    last : words_of cut.are.last ≡ []
    last =
        (same_from_push (map words_of cut.are.whole) all (words_of cut.are.last) []
        (sym (map_push words_of cut.are.whole cut.are.last) ∙ ap (map words_of) (sym cut.are.parts)
        ∙ items_by text (tokens_of w.pieces) cut.items cut.are ∙ ap (items 0) same ∙ w.items_are)).1

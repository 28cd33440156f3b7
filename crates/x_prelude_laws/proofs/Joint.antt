-- The words of two texts, one behind the other, at their places.
use Rattle.std.proofs.Common.{◌≡◌, ℕ, ◌+◌, ◌-◌, Bool, true, false, cond, List, [], ◌∷◌, ◌++◌, map, length}
use Rattle.std.proofs.Common.{get_or, take, drop, arith, refl, sym, ap, subst, ◌∙◌}
use Rattle.std.specs.List.{filter}
use Rattle.std.proofs.lemmas.List.{drop-drop, length-append, length-take-le}
use Rattle.std.proofs.lemmas.List.Elements.{filter-append}
use Rattle.x_lex.specs.declared.kind.Kind.{Kind}
use Rattle.x_lex.specs.declared.kind.Kind.TheVariants.{Space}
use Rattle.x_lex.specs.Bytes.{is_space}
use Rattle.x_lex.specs.Places.{Lexeme, lexemes_from}
use Rattle.x_lex.specs.Tiling.{AreTokens, Tiles, starts_after}
use Rattle.x_lex.proofs.TilingLemmas.{same_tiles, token_spans}
use Rattle.x_trees.specs.Words.{Word, is_significant, word_of, words_of}
use Rattle.x_compile.specs.Compile.{IsCompilation, Item, tokens_of}
use Rattle.x_compile.specs.Known.{KnownText}
use Rattle.x_prelude_laws.proofs.Found.{item_words, same_pieces}
use Rattle.x_prelude_laws.proofs.Items.{items, items_both}
use Rattle.x_prelude_laws.proofs.Pieces as pieces
use Rattle.x_prelude_laws.proofs.Pieces.{EndsLine, Lexes, Piece, bytes-append, bytes-glued, bytes_are}
use Rattle.x_prelude_laws.proofs.Pieces.{bytes_of, glued, lexes_both, lexes_from, lexes_glued, pieces_back}
use Rattle.x_prelude_laws.proofs.Pieces.{pieces_of, tiles_from}
use Rattle.x_prelude_laws.proofs.Wholes.{Whole, items_by, items_glued, space_first}

-- ---- the tokens that are words

abbrev pub kept : List Lexeme → List Lexeme
kept ts = filter (λ t. is_significant t.kind) ts

pub kept_append : (xs ys : List Lexeme) → kept (xs ++ ys) ≡ kept xs ++ kept ys
kept_append xs ys = filter-append (λ t. is_significant t.kind) xs ys

pub kept_yes : (t : Lexeme) (ts : List Lexeme) → is_significant t.kind ≡ true → kept (t ∷ ts) ≡ t ∷ kept ts
kept_yes t ts e = ap (λ b. cond b (t ∷ kept ts) (kept ts)) e

pub kept_no : (t : Lexeme) (ts : List Lexeme) → is_significant t.kind ≡ false → kept (t ∷ ts) ≡ kept ts
kept_no t ts e = ap (λ b. cond b (t ∷ kept ts) (kept ts)) e

pub kept_twice : (ts : List Lexeme) → kept (kept ts) ≡ kept ts
kept_twice [] = refl
kept_twice (t ∷ ts) = by (is_significant t.kind) refl (kept_twice ts)
  where
    by : (b : Bool) → is_significant t.kind ≡ b → kept (kept ts) ≡ kept ts
        → kept (kept (t ∷ ts)) ≡ kept (t ∷ ts)
    by true e rest =
        ap kept (kept_yes t ts e) ∙ kept_yes t (kept ts) e ∙ ap (λ l. t ∷ l) rest ∙ sym (kept_yes t ts e)
    by false e rest = ap kept (kept_no t ts e) ∙ rest ∙ sym (kept_no t ts e)

-- a token so many bytes later
abbrev pub moved : ℕ → Lexeme → Lexeme
moved n t = record { kind = t.kind; start = n + t.start; end = n + t.end; text = t.text }

pub kept_moved : (n : ℕ) (ts : List Lexeme) → kept (map (moved n) ts) ≡ map (moved n) (kept ts)
kept_moved n [] = refl
kept_moved n (t ∷ ts) = by (is_significant t.kind) (kept_moved n ts)
  where
    by : (b : Bool) → kept (map (moved n) ts) ≡ map (moved n) (kept ts)
        → cond b (moved n t ∷ kept (map (moved n) ts)) (kept (map (moved n) ts))
        ≡ map (moved n) (cond b (t ∷ kept ts) (kept ts))
    by true rest = ap (λ l. moved n t ∷ l) rest
    by false rest = rest

word_moved : (n : ℕ) (ts : List Lexeme) → map word_of (map (moved n) ts) ≡ map word_of ts
word_moved n [] = refl
word_moved n (t ∷ ts) = ap (λ l. word_of t ∷ l) (word_moved n ts)

pub words_moved : (n : ℕ) (ts : List Lexeme) → words_of (map (moved n) ts) ≡ words_of ts
words_moved n ts = ap (map word_of) (kept_moved n ts) ∙ word_moved n (kept ts)

-- ---- pieces at their places

abbrev placed : ℕ → List Piece → List Lexeme
placed at [] = []
placed at (p ∷ ps) =
    record { kind = p.0; start = at; end = at + length p.1; text = p.1 } ∷ placed (at + length p.1) ps

lexemes_placed : (start : Bool) (text rest : List ℕ) (at : ℕ) (ts : List (Kind × ℕ)) → Tiles start rest ts
    → drop at text ≡ rest → lexemes_from text at ts ≡ placed at (pieces_of rest ts)
lexemes_placed start text rest at [] h e = refl
lexemes_placed start text rest at (t ∷ ts) h e =
    let long : length (take t.1 rest) ≡ t.1 =
    length-take-le t.1 rest (token_spans t.0 start rest t.1 h.0).within in
    let count : at + t.1 - at ≡ t.1 = omega arith in
    let stop : at + t.1 ≡ at + length (take t.1 rest) = omega (arith, long) in
    let others = lexemes_placed (starts_after rest t.1) text (drop t.1 rest) (at + t.1) ts h.1
    (sym (drop-drop t.1 at text) ∙ ap (drop t.1) e)
    ∙ ap (λ k. placed k (pieces_of (drop t.1 rest) ts)) stop in
    λ i. record { kind = t.0; start = at; end = stop i; text = take (count i) (e i) } ∷ others i

placed_behind : (n at : ℕ) (ps : List Piece) → placed (n + at) ps ≡ map (moved n) (placed at ps)
placed_behind n at [] = refl
placed_behind n at (p ∷ ps) =
    let stop : n + at + length p.1 ≡ n + (at + length p.1) = omega arith in
    let others = ap (λ k. placed k ps) stop ∙ placed_behind n (at + length p.1) ps in
    λ i. record { kind = p.0; start = n + at; end = stop i; text = p.1 } ∷ others i

placed_both : (at : ℕ) (ps qs : List Piece)
    → placed at (ps ++ qs) ≡ placed at ps ++ placed (at + length (bytes_of ps)) qs
placed_both at [] qs = let same : at ≡ at + 0 = omega arith in ap (λ k. placed k qs) same
placed_both at (p ∷ ps) qs =
    let stop : at + length p.1 + length (bytes_of ps) ≡ at + length (p.1 ++ bytes_of ps) =
    omega (arith, length-append p.1 (bytes_of ps)) in
    ap (λ l. record { kind = p.0; start = at; end = at + length p.1; text = p.1 } ∷ l)
    (placed_both (at + length p.1) ps qs
    ∙ ap (λ k. placed (at + length p.1) ps ++ placed k qs) stop)

kept_glued : (start : Bool) (at : ℕ) (ps : List Piece) (q : Piece) (qs : List Piece) → EndsLine start ps
    → q.0 ≡ Space → kept (placed at (glued ps q qs)) ≡ kept (placed at (ps ++ q ∷ qs))
kept_glued start at [] q qs e space = refl
kept_glued start at (p ∷ []) q qs e space =
    let stop : at + length (p.1 ++ q.1) ≡ at + length p.1 + length q.1 =
    omega (arith, length-append p.1 q.1) in
    let first : is_significant p.0 ≡ false = ap is_significant e.0 in
    let second : is_significant q.0 ≡ false = ap is_significant space in
    kept_no (record { kind = p.0; start = at; end = at + length (p.1 ++ q.1); text = p.1 ++ q.1 })
    (placed (at + length (p.1 ++ q.1)) qs) first
    ∙ ap (λ k. kept (placed k qs)) stop
    ∙ sym (kept_no (record {
      kind = q.0;
      start = at + length p.1;
      end = at + length p.1 + length q.1;
      text = q.1;
    }) (placed (at + length p.1 + length q.1) qs) second)
    ∙ sym (kept_no (record { kind = p.0; start = at; end = at + length p.1; text = p.1 })
    (placed (at + length p.1) (q ∷ qs)) first)
kept_glued start at (p ∷ r ∷ ps) q qs e space =
    let t : Lexeme = record { kind = p.0; start = at; end = at + length p.1; text = p.1 } in
    ap (λ l. cond (is_significant t.kind) (t ∷ l) l)
    (kept_glued false (at + length p.1) (r ∷ ps) q qs e space)

-- ---- both as one text

-- pieces of a text that have the items and the words of both lists, one behind the other
record Joint (ps qs : List Piece) (text : List ℕ) : Type 0 where
  all : List Piece
  bytes : bytes_of all ≡ text
  lexes : Lexes true all
  items_are : items 0 all ≡ items 0 (ps ++ qs)
  kept_are : kept (placed 0 all) ≡ kept (placed 0 (ps ++ qs))

joint : (a b : List ℕ) (ws : List (List Word)) (h : Whole a ws) (qs : List Piece) → bytes_of qs ≡ b
    → Lexes true qs → Joint h.pieces qs (a ++ b)
joint a b ws h qs bytes lexes = by (is_space (get_or (bytes_of qs) 0 0)) qs refl bytes lexes
  where
    by : (x : Bool) (qs : List Piece) → is_space (get_or (bytes_of qs) 0 0) ≡ x → bytes_of qs ≡ b
        → Lexes true qs → Joint h.pieces qs (a ++ b)
    by false qs other bytes lexes = record {
      all = h.pieces ++ qs;
      bytes = bytes-append h.pieces qs ∙ (λ i. h.bytes i ++ bytes i);
      lexes = lexes_both true h.pieces qs h.lexes h.ends other lexes;
      items_are = refl;
      kept_are = refl;
    }
    by true [] first bytes lexes = absurd (cc)
    by true (q ∷ qs) first bytes lexes =
        let space = space_first true q qs lexes first in
        record {
          all = glued h.pieces q qs;
          bytes = bytes-glued h.pieces q qs ∙ (λ i. h.bytes i ++ bytes i);
          lexes = lexes_glued true h.pieces q qs h.lexes h.ends space lexes;
          items_are = items_glued 0 h.pieces q qs true h.ends space;
          kept_are = kept_glued true 0 h.pieces q qs h.ends space;
        }

joint_pieces : (ps qs : List Piece) (text : List ℕ) (tokens : List (Kind × ℕ)) (j : Joint ps qs text)
    → AreTokens text tokens → pieces_of text tokens ≡ j.all
joint_pieces ps qs text tokens j are =
    let own : AreTokens text (pieces.tokens_of j.all) =
    subst (λ t. AreTokens t (pieces.tokens_of j.all)) j.bytes (tiles_from true j.all j.lexes) in
    ap (pieces_of text) (same_tiles true text tokens (pieces.tokens_of j.all) are own)
    ∙ ap (λ t. pieces_of t (pieces.tokens_of j.all)) (sym j.bytes) ∙ pieces_back j.all

-- the words of a text at their places
placed_words : (known : KnownText) (text : List ℕ) (tokens : List (Kind × ℕ)) (is : List Item)
    → IsCompilation known text tokens is → kept (tokens_of is) ≡ kept (placed 0 (pieces_of text tokens))
placed_words known text tokens is h =
    ap kept (h.are_items.all ∙ lexemes_placed true text text 0 tokens h.are_tokens refl)

-- the items and the words of both as one text are those of each
pub record AreBoth (n : ℕ) (ws : List (List Word)) (own is all : List Item) : Type 0 where
  pub own_words : item_words own ≡ ws ++ [] ∷ []
  pub all_words : item_words all ≡ ws ++ item_words is
  pub all_kept : kept (tokens_of all) ≡ kept (tokens_of own) ++ map (moved n) (kept (tokens_of is))

pub are_both : (first known other : KnownText) (before text : List ℕ) (ws : List (List Word))
    (own_tokens tokens all_tokens : List (Kind × ℕ)) (own is all : List Item) → Whole before ws
    → IsCompilation first before own_tokens own → IsCompilation known text tokens is
    → IsCompilation other (before ++ text) all_tokens all → AreBoth (length before) ws own is all
are_both first known other before text ws own_tokens tokens all_tokens own is all w f h k = record {
  own_words =
      items_by before own_tokens (map (λ i. i.tokens) own) f.are_items ∙ ap (items 0) own_pieces
      ∙ w.items_are;
  all_words =
      items_by (before ++ text) all_tokens (map (λ i. i.tokens) all) k.are_items ∙ ap (items 0) all_pieces
      ∙ j.items_are ∙ items_both 0 w.pieces qs ws w.items_are (λ none. refl)
      ∙ ap (λ l. ws ++ l) (sym (items_by text tokens (map (λ i. i.tokens) is) h.are_items));
  all_kept =
      placed_words other (before ++ text) all_tokens all k ∙ ap (λ l. kept (placed 0 l)) all_pieces
      ∙ j.kept_are ∙ ap kept (placed_both 0 w.pieces qs)
      ∙ kept_append (placed 0 w.pieces) (placed (0 + length (bytes_of w.pieces)) qs)
      ∙ (λ i. own_kept i ++ kept (placed (at i) qs)) ∙ ap (λ l. kept (tokens_of own) ++ kept l)
      (placed_behind (length before) 0 qs)
      ∙ ap (λ l. kept (tokens_of own) ++ l) (kept_moved (length before) (placed 0 qs))
      ∙ ap (λ l. kept (tokens_of own) ++ map (moved (length before)) l)
      (sym (placed_words known text tokens is h));
}
  where
    qs : List Piece
    qs = pieces_of text tokens

    j : Joint w.pieces qs (before ++ text)
    j = joint before text ws w qs (bytes_are true text tokens h.are_tokens)
        (lexes_from true text tokens h.are_tokens)

    own_pieces : pieces_of before own_tokens ≡ w.pieces
    own_pieces = same_pieces before ws w own_tokens f.are_tokens

    all_pieces : pieces_of (before ++ text) all_tokens ≡ j.all
    all_pieces = joint_pieces w.pieces qs (before ++ text) all_tokens j k.are_tokens

    own_kept : kept (placed 0 w.pieces) ≡ kept (tokens_of own)
    own_kept =
        ap (λ l. kept (placed 0 l)) (sym own_pieces) ∙ sym (placed_words first before own_tokens own f)

    at : 0 + length (bytes_of w.pieces) ≡ length before + 0
    at = let same = ap length w.bytes in omega (arith, same)

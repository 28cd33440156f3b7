-- A text with a line feed behind it.
use Rattle.std.proofs.Common.{◌≡◌, ◌≢◌, ℕ, ◌+◌, ◌-◌, ◌<◌, Bool, true, false, cond, List, [], ◌∷◌, ◌++◌}
use Rattle.std.proofs.Common.{length, get_or, take, drop, Option, Some, None, arith, refl, sym, ap, subst}
use Rattle.std.proofs.Common.{◌∙◌}
use Rattle.std.specs.Prelude.{◌==◌, if◌then◌else◌}
use Rattle.std.specs.List.{prefix_len}
use Rattle.std.proofs.Math.Seq.{take-append_seam}
use Rattle.std.proofs.lemmas.List.{append-nil, append_assoc, drop-append-le, get_or_append_left}
use Rattle.std.proofs.lemmas.List.{get_or-append-add, length-append, length-drop, take_all}
use Rattle.std.proofs.lemmas.List.Sums.{prefix_len_is, prefix_len_passes}
use Rattle.memchr.specs.Find.{OccursAt}
use Rattle.x_lex.specs.declared.kind.Kind.{Kind}
use Rattle.x_lex.specs.declared.kind.Kind.TheVariants as kinds
use Rattle.x_lex.specs.Bytes.{close, is_in_line, is_keyword, is_marker, is_number, is_word_byte}
use Rattle.x_lex.specs.Scan.{Class, blank, letters, digits, signed, mark, remark, percent, hash, other}
use Rattle.x_lex.specs.Scan.{class_of, comment_of, first_close, scan, scan_as, signed_len}
use Rattle.x_lex.specs.Tiling.{starts_after}
use Rattle.x_lex.specs.Word.{IsToken}
use Rattle.x_lex.proofs.CloseLemmas.{IsFirstClose, bytes_occur, first_close_is, occurs_bytes}
use Rattle.x_lex.proofs.CloseLemmas.{same_first_close}
use Rattle.x_lex.proofs.ScanLemmas.{scan_token, token_scan}
use Rattle.x_lex.proofs.TilingLemmas.{token_spans}
use Rattle.x_cutting.specs.Cutting.{depth_after, ends_at, role_by}
use Rattle.x_trees.specs.Words.{Word}
use Rattle.x_prelude_laws.proofs.Ended.{Ended}
use Rattle.x_prelude_laws.proofs.Items.{has_first, items, put, role, words}
use Rattle.x_prelude_laws.proofs.Pieces.{EndsLine, Lexes, Piece, bytes_of, ends_line, same_start, space_glued}
use Rattle.x_prelude_laws.proofs.Pieces.{token_before}
use Rattle.x_prelude_laws.proofs.Wholes.{Whole, open_comment_word, rest_last}

-- with a line feed behind it
abbrev with_end : List ℕ → List ℕ
with_end w = w ++ 10 ∷ []

-- ---- a run of bytes

grown_run : (p : ℕ → Bool) (w : List ℕ) → prefix_len p w ≡ length w → p 10 ≡ false
    → prefix_len p (with_end w) ≡ length w
grown_run p w all stops =
    prefix_len_is p (with_end w) (length w) 0 (omega (arith, length-append w (10 ∷ [])))
    (λ k lt. ap p (get_or_append_left w (10 ∷ []) 0 k lt) ∙ prefix_len_passes p w k 0
    (omega (arith, all, lt)))
    (λ lt. ap p (behind w) ∙ stops)
  where
    behind : (w : List ℕ) → get_or (with_end w) (length w) 0 ≡ 10
    behind w =
        let at : length w ≡ length w + 0 = omega arith in
        ap (λ n. get_or (with_end w) n 0) at ∙ get_or-append-add w (10 ∷ []) 0 0

-- a kind by a test of the word
grown_kind : (f : List ℕ → Bool) (x y : Kind) (w : List ℕ) (n m : ℕ) → n ≡ length w → m ≡ length w
    → ◌≡◌ {A = Kind × ℕ} (cond (f (take m (with_end w))) x y, m) (cond (f (take n w)) x y, n)
grown_kind f x y w n m e g = λ i. (cond (f (same i)) x y, (g ∙ sym e) i)
  where
    same : take m (with_end w) ≡ take n w
    same =
        ap (λ k. take k (with_end w)) g ∙ take-append_seam w (10 ∷ [])
        ∙ sym (ap (λ k. take k w) e ∙ take_all (length w) w (omega arith))

-- ---- a comment

grown_close : (w : List ℕ) (i : ℕ) → first_close (drop 2 w) ≡ Some i → i + 4 ≡ length w
    → first_close (drop 2 (with_end w)) ≡ Some i
grown_close w i e long =
    same_first_close (drop 2 (with_end w)) (first_close (drop 2 (with_end w))) (Some i)
    (first_close_is (drop 2 (with_end w))) (there, before)
  where
    found : IsFirstClose (drop 2 w) (Some i)
    found = subst (IsFirstClose (drop 2 w)) e (first_close_is (drop 2 w))

    same : (k : ℕ) → k < i + 2 → get_or (drop 2 w) k 0 ≡ get_or (drop 2 (with_end w)) k 0
    same k lt =
        let parts : drop 2 (with_end w) ≡ drop 2 w ++ 10 ∷ [] =
        drop-append-le 2 w (10 ∷ []) (omega (arith, long)) in
        sym (ap (λ l. get_or l k 0) parts
        ∙ get_or_append_left (drop 2 w) (10 ∷ []) 0 k (omega (arith, lt, long, length-drop 2 w)))

    there : OccursAt (drop 2 (with_end w)) close i
    there =
        let o = occurs_bytes (drop 2 w) i found.0 in
        bytes_occur (drop 2 (with_end w)) i (sym (same i (omega arith)) ∙ o.0)
        (sym (same (i + 1) (omega arith)) ∙ o.1)

    before : (k : ℕ) → k < i → OccursAt (drop 2 (with_end w)) close k → ⊥
    before k lt o =
        let b = occurs_bytes (drop 2 (with_end w)) k o in
        found.1 k lt (bytes_occur (drop 2 w) k (same k (omega arith) ∙ b.0)
        (same (k + 1) (omega arith) ∙ b.1))

grown_comment : (w : List ℕ) (r : Option ℕ) → first_close (drop 2 w) ≡ r
    → (comment_of r w).0 ≢ kinds.OpenComment
    → (comment_of r w).1 ≡ length w → comment_of (first_close (drop 2 (with_end w)))
    (with_end w) ≡ comment_of r w
grown_comment w None e not long = absurd (not refl)
grown_comment w (Some i) e not long = ap (λ r. comment_of r (with_end w)) (grown_close w i e long)

-- ---- a token that ends its text

-- at the end of the text a line feed tells no more than nothing
class_end : (start : Bool) (b : ℕ) → class_of start b 10 ≡ class_of start b 0
unfolding class_of
class_end start b = refl

grown_signed : (w : List ℕ) → 0 < length w → signed_len w ≡ length w → signed_len (with_end w) ≡ length w
grown_signed w some all =
    let rest : drop 1 (with_end w) ≡ with_end (drop 1 w) = drop-append-le 1 w (10 ∷ [])
    (omega (arith, some)) in
    let long = length-drop 1 w in
    let run : prefix_len is_word_byte (with_end (drop 1 w)) ≡ length (drop 1 w) =
    grown_run is_word_byte (drop 1 w) (omega (arith, all, long)) refl in
    let same = ap (prefix_len is_word_byte) rest in
    omega (arith, run, same, long, some)

grown_class : (c : Class) (w : List ℕ) (k : Kind) → 0 < length w → scan_as c w ≡ (k, length w)
    → k ≢ kinds.Space
    → k ≢ kinds.OpenComment → scan_as c (with_end w) ≡ scan_as c w
grown_class blank w k some e white open_one = absurd (white (sym (ap (λ x. x.0) e)))
grown_class letters w k some e white open_one =
    let all = ap (λ x. x.1) e in
    grown_kind is_keyword kinds.Keyword kinds.Name w (prefix_len is_word_byte w)
    (prefix_len is_word_byte (with_end w))
    all (grown_run is_word_byte w all refl)
grown_class digits w k some e white open_one =
    let all = ap (λ x. x.1) e in
    grown_kind is_number kinds.Number kinds.BadNumber w (prefix_len is_word_byte w)
    (prefix_len is_word_byte (with_end w))
    all (grown_run is_word_byte w all refl)
grown_class signed w k some e white open_one =
    let all = ap (λ x. x.1) e in
    grown_kind is_number kinds.Number kinds.BadNumber w (signed_len w) (signed_len (with_end w)) all
    (grown_signed w some all)
grown_class mark w k some e white open_one = refl
grown_class remark w k some e white open_one =
    grown_comment w (first_close (drop 2 w)) refl (λ is. open_one (sym (ap (λ x. x.0) e) ∙ is))
    (ap (λ x. x.1) e)
grown_class percent w k some e white open_one =
    let all = ap (λ x. x.1) e in
    let count = grown_run is_in_line w all refl ∙ sym all in
    λ i. (kinds.Percent, count i)
grown_class hash w k some e white open_one =
    let all = ap (λ x. x.1) e in
    grown_kind is_marker kinds.Marker kinds.Directive w (prefix_len is_in_line w)
    (prefix_len is_in_line (with_end w))
    all (grown_run is_in_line w all refl)
grown_class other w k some e white open_one = refl

same_class : (start : Bool) (w : List ℕ) → 0 < length w
    → class_of start (get_or (with_end w) 0 0) (get_or (with_end w) 1 0) ≡ class_of start (get_or w 0 0)
    (get_or w 1 0)
same_class start [] some = absurd (omega (arith, some))
same_class start (b ∷ []) some = class_end start b
same_class start (b ∷ c ∷ w) some = refl

-- it stays as it is, unless it is white space or an open comment
grown_token : (k : Kind) (start : Bool) (w : List ℕ) → IsToken k start w (length w) → k ≢ kinds.Space
    → k ≢ kinds.OpenComment → IsToken k start (with_end w) (length w)
unfolding scan
grown_token k start w t white open_one =
    let some = (token_spans k start w (length w) t).some in
    let own = token_scan start w some k (length w) t in
    let class = class_of start (get_or w 0 0) (get_or w 1 0) in
    let same : scan start (with_end w) ≡ scan start w =
    ap (λ c. scan_as c (with_end w)) (same_class start w some)
    ∙ grown_class class w k some (sym own) white open_one in
    subst (λ x. IsToken x.0 start (with_end w) x.1) (same ∙ sym own)
    (scan_token start (with_end w) (omega (arith, some, length-append w (10 ∷ []))))

-- a line feed alone
line_at : (start : Bool) → IsToken kinds.Space start (10 ∷ []) 1
unfolding scan class_of
line_at start = scan_token start (10 ∷ []) (omega arith)

-- white space goes on
grown_space : (start : Bool) (w : List ℕ) → IsToken kinds.Space start w (length w)
    → IsToken kinds.Space start (with_end w) (length (with_end w))
grown_space start w t =
    subst (λ l. IsToken kinds.Space start l (length (with_end w))) (append-nil (with_end w))
    (space_glued start w (10 ∷ []) [] t (line_at true))

-- ---- all tokens

-- a piece is white space
abbrev is_white : Kind → Bool
is_white kinds.Space = true
is_white kind = false

white_kind : (k : Kind) → is_white k ≡ true → k ≡ kinds.Space
white_kind kinds.Space e = refl
white_kind k e = absurd (cc)

black_kind : (k : Kind) → is_white k ≡ false → k ≢ kinds.Space
black_kind kinds.Space e same = absurd (cc)
black_kind k e same = absurd (cc)

abbrev line_piece : Piece
line_piece = (kinds.Space, 10 ∷ [])

-- the pieces with a line feed behind them
abbrev lined : List Piece → List Piece
lined [] = line_piece ∷ []
lined (p ∷ []) = if is_white p.0 then (p.0, with_end p.1) ∷ [] else p ∷ line_piece ∷ []
lined (p ∷ q ∷ ps) = p ∷ lined (q ∷ ps)

bytes-lined : (ps : List Piece) → bytes_of (lined ps) ≡ bytes_of ps ++ 10 ∷ []
bytes-lined [] = refl
bytes-lined (p ∷ []) = by (is_white p.0)
  where
    by : (b : Bool) → bytes_of (if b then (p.0, with_end p.1) ∷ [] else p ∷ line_piece ∷ []) ≡
        (p.1 ++ []) ++ 10 ∷ []
    by true = append-nil (with_end p.1) ∙ ap (λ l. l ++ 10 ∷ []) (sym (append-nil p.1))
    by false = ap (λ l. l ++ 10 ∷ []) (sym (append-nil p.1))
bytes-lined (p ∷ q ∷ ps) =
    ap (λ l. p.1 ++ l) (bytes-lined (q ∷ ps)) ∙ sym (append_assoc p.1 (bytes_of (q ∷ ps)) (10 ∷ []))

data HasPiece (ps : List Piece) : Type 0 where
  piece_is : (p : Piece) (rest : List Piece) → ps ≡ p ∷ rest → HasPiece ps

has_piece : (p : Piece) (ps : List Piece) → HasPiece (lined (p ∷ ps))
has_piece p [] = by (is_white p.0)
  where
    by : (b : Bool) → HasPiece (if b then (p.0, with_end p.1) ∷ [] else p ∷ line_piece ∷ [])
    by true = piece_is (p.0, with_end p.1) [] refl
    by false = piece_is p (line_piece ∷ []) refl
has_piece p (q ∷ ps) = piece_is p (lined (q ∷ ps)) refl

-- the last piece is no open comment
abbrev IsShut : List Piece → Type 0
IsShut [] = Unit {0}
IsShut (p ∷ []) = p.0 ≢ kinds.OpenComment
IsShut (p ∷ q ∷ ps) = IsShut (q ∷ ps)

lexes-lined : (start : Bool) (ps : List Piece) → Lexes start ps → IsShut ps → Lexes start (lined ps)
lexes-lined start [] h shut = (line_at start, tt)
lexes-lined start (p ∷ []) h shut = by (is_white p.0) refl
  where
    alone : IsToken p.0 start p.1 (length p.1)
    alone = subst (λ w. IsToken p.0 start w (length p.1)) (append-nil p.1) h.0

    by : (b : Bool) → is_white p.0 ≡ b
        → Lexes start (if b then (p.0, with_end p.1) ∷ [] else p ∷ line_piece ∷ [])
    by true e =
        let white = white_kind p.0 e in
        let own : IsToken p.0 start (with_end p.1) (length (with_end p.1)) =
        subst (λ k. IsToken k start (with_end p.1) (length (with_end p.1))) (sym white)
        (grown_space start p.1 (subst (λ k. IsToken k start p.1 (length p.1)) white alone)) in
        (subst (λ w. IsToken p.0 start w (length (with_end p.1))) (sym (append-nil (with_end p.1))) own, tt)
    by false e = (
      grown_token p.0 start p.1 alone (black_kind p.0 e) shut,
      (line_at (starts_after (p.1 ++ 10 ∷ []) (length p.1)), tt),
    )
lexes-lined start (p ∷ q ∷ ps) h shut =
    let some = (token_spans p.0 start (p.1 ++ bytes_of (q ∷ ps)) (length p.1) h.0).some in
    let next = starts_after (p.1 ++ bytes_of (q ∷ ps)) (length p.1) in
    let more = (token_spans q.0 next (q.1 ++ bytes_of ps) (length q.1) h.1.0).some in (
      subst (λ l. IsToken p.0 start (p.1 ++ l) (length p.1)) (sym (bytes-lined (q ∷ ps)))
          (token_before p start (bytes_of (q ∷ ps)) (10 ∷ []) h.0
          (omega (arith, more, length-append q.1 (bytes_of ps)))),
      subst (λ s. Lexes s (lined (q ∷ ps)))
          (same_start p.1 (bytes_of (q ∷ ps)) (bytes_of (lined (q ∷ ps))) some)
          (lexes-lined next (q ∷ ps) h.1 shut),
    )

last_ten : (w : List ℕ) → ends_line (with_end w) ≡ true
last_ten w =
    let at : length (with_end w) - 1 ≡ length w + 0 = omega (arith, length-append w (10 ∷ [])) in
    ap (λ b. b == 10) (ap (λ n. get_or (with_end w) n 0) at ∙ get_or-append-add w (10 ∷ []) 0 0)

ends-lined : (start : Bool) (ps : List Piece) → EndsLine start (lined ps)
ends-lined start [] = (refl, refl)
ends-lined start (p ∷ []) = by (is_white p.0) refl
  where
    by : (b : Bool) → is_white p.0 ≡ b
        → EndsLine start (if b then (p.0, with_end p.1) ∷ [] else p ∷ line_piece ∷ [])
    by true e = (white_kind p.0 e, last_ten p.1)
    by false e = (refl, refl)
ends-lined start (p ∷ q ∷ ps) = goes_on (lined (q ∷ ps)) (has_piece q ps) (ends-lined false (q ∷ ps))
  where
    goes_on : (rs : List Piece) → HasPiece rs → EndsLine false rs → EndsLine start (p ∷ rs)
    goes_on rs (piece_is r more e) f =
        subst (λ l. EndsLine start (p ∷ l)) (sym e) (subst (λ l. EndsLine false l) e f)

items-lined : (d : ℕ) (ps : List Piece) → items d (lined ps) ≡ items d ps
unfolding role_by
items-lined d [] = refl
items-lined d (p ∷ []) = by (is_white p.0) refl
  where
    by : (b : Bool) → is_white p.0 ≡ b
        → items d (if b then (p.0, with_end p.1) ∷ [] else p ∷ line_piece ∷ []) ≡ items d (p ∷ [])
    by true e =
        (λ i. items d ((white_kind p.0 e i, with_end p.1) ∷ []))
        ∙ (λ i. items d ((sym (white_kind p.0 e) i, p.1) ∷ []))
    by false e = refl
items-lined d (p ∷ q ∷ ps) = ap (put (ends_at d (role p)) (words p))
    (items-lined (depth_after d (role p)) (q ∷ ps))

-- ---- a text that ends so

shut_by : (d : ℕ) (ps : List Piece) (all : List (List Word)) → items d ps ≡ all ++ [] ∷ [] → IsShut ps
shut_by d [] all is = tt
shut_by d (p ∷ []) all is = λ e. open_comment_word d p all e is
shut_by d (p ∷ q ∷ ps) all is =
    let rest = rest_last (ends_at d (role p)) (words p) (items (depth_after d (role p)) (q ∷ ps)) all
    (has_first (depth_after d (role p)) (q ∷ ps)) is in
    shut_by (depth_after d (role p)) (q ∷ ps) rest.0 rest.1

-- with a line feed behind it a text ends whole that has no word behind its last definition
pub ended_whole : (text : List ℕ) (e : Ended text) → Whole (text ++ 10 ∷ []) e.all
ended_whole text e = record {
  pieces = lined e.pieces;
  bytes = bytes-lined e.pieces ∙ ap (λ l. l ++ 10 ∷ []) e.bytes;
  lexes = lexes-lined true e.pieces e.lexes (shut_by 0 e.pieces e.all e.items_are);
  ends = ends-lined true e.pieces;
  items_are = items-lined 0 e.pieces ∙ e.items_are;
}

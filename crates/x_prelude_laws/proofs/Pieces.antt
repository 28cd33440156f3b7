-- A text as pieces: its tokens one after another, each with its bytes.
use Rattle.std.proofs.Common.{◌≡◌, ◌≤◌, ◌⊎◌, ℕ, ◌+◌, ◌-◌, ◌<◌, inl, inr, Bool, true, false, List, [], ◌∷◌}
use Rattle.std.proofs.Common.{◌++◌, map, length, get_or, take, drop, arith, refl, sym, ap, subst, ◌∙◌}
use Rattle.std.specs.Prelude.{◌==◌}
use Rattle.std.specs.List.{prefix_len}
use Rattle.std.proofs.Math.Seq.{drop-append_seam, take-append_seam}
use Rattle.std.proofs.lemmas.List.{append-nil, append_assoc, take-append-drop, length-take-le, drop-drop}
use Rattle.std.proofs.lemmas.List.{length-append, get_or_append_left, get_or-append-add}
use Rattle.std.proofs.lemmas.Bool.{cases_lt}
use Rattle.std.proofs.lemmas.List.Sums.{prefix_len_is, prefix_len_stops}
use Rattle.x_lex.specs.declared.kind.Kind.{Kind}
use Rattle.x_lex.specs.declared.kind.Kind.TheVariants.{Space}
use Rattle.x_lex.specs.Bytes.{is_space}
use Rattle.x_lex.specs.Places.{Lexeme, lexemes_from}
use Rattle.x_lex.specs.Scan.{scan, scan_as}
use Rattle.x_lex.specs.Tiling.{Tiles, starts_after}
use Rattle.x_lex.specs.Word.{Each, IsToken, IsWord}
use Rattle.x_lex.proofs.ClassLemmas.{class_blank}
use Rattle.x_lex.proofs.LocalLemmas.{local_token}
use Rattle.x_lex.proofs.ScanLemmas.{scan_token, token_scan}
use Rattle.x_lex.proofs.TilingLemmas.{token_spans}

abbrev pub Piece : Type 0
Piece = Kind × List ℕ

-- the text of pieces
abbrev pub bytes_of : List Piece → List ℕ
bytes_of [] = []
bytes_of (p ∷ ps) = p.1 ++ bytes_of ps

-- each is the token at its place
abbrev pub Lexes : Bool → List Piece → Type 0
Lexes start [] = Unit {0}
Lexes start (p ∷ ps) =
    IsToken p.0 start (p.1 ++ bytes_of ps) (length p.1)
    × Lexes (starts_after (p.1 ++ bytes_of ps) (length p.1)) ps

abbrev pub tokens_of : List Piece → List (Kind × ℕ)
tokens_of ps = map (λ p. (p.0, length p.1)) ps

-- the pieces that tokens cut a text into
abbrev pub pieces_of : List ℕ → List (Kind × ℕ) → List Piece
pieces_of rest [] = []
pieces_of rest (t ∷ ts) = (t.0, take t.1 rest) ∷ pieces_of (drop t.1 rest) ts

-- ---- pieces and tokens

pub bytes_are : (start : Bool) (rest : List ℕ) (ts : List (Kind × ℕ)) → Tiles start rest ts
    → bytes_of (pieces_of rest ts) ≡ rest
bytes_are start rest [] h = sym h
bytes_are start rest (t ∷ ts) h =
    ap (λ l. take t.1 rest ++ l) (bytes_are (starts_after rest t.1) (drop t.1 rest) ts h.1)
    ∙ take-append-drop t.1 rest

pub lexes_from : (start : Bool) (rest : List ℕ) (ts : List (Kind × ℕ)) → Tiles start rest ts
    → Lexes start (pieces_of rest ts)
lexes_from start rest [] h = tt
lexes_from start rest (t ∷ ts) h =
    let all : take t.1 rest ++ bytes_of (pieces_of (drop t.1 rest) ts) ≡ rest =
    bytes_are start rest (t ∷ ts) h in
    let long : length (take t.1 rest) ≡ t.1 =
    length-take-le t.1 rest (token_spans t.0 start rest t.1 h.0).within in
    let next : starts_after (take t.1 rest ++ bytes_of (pieces_of (drop t.1 rest) ts))
    (length (take t.1 rest))
    ≡ starts_after rest t.1 = λ i. starts_after (all i) (long i) in (
      subst (λ w. IsToken t.0 start w (length (take t.1 rest))) (sym all)
          (subst (λ n. IsToken t.0 start rest n) (sym long) h.0),
      subst (λ s. Lexes s (pieces_of (drop t.1 rest) ts)) (sym next)
          (lexes_from (starts_after rest t.1) (drop t.1 rest) ts h.1),
    )

pub tiles_from : (start : Bool) (ps : List Piece) → Lexes start ps → Tiles start (bytes_of ps) (tokens_of ps)
tiles_from start [] h = refl
tiles_from start (p ∷ ps) h =
    let next = starts_after (p.1 ++ bytes_of ps) (length p.1) in (
      h.0,
      subst (λ r. Tiles next r (tokens_of ps)) (sym (drop-append_seam p.1 (bytes_of ps)))
          (tiles_from next ps h.1),
    )

pub pieces_back : (ps : List Piece) → pieces_of (bytes_of ps) (tokens_of ps) ≡ ps
pieces_back [] = refl
pieces_back (p ∷ ps) =
    let first = take-append_seam p.1 (bytes_of ps) in
    let rest : pieces_of (drop (length p.1) (p.1 ++ bytes_of ps)) (tokens_of ps) ≡ ps =
    ap (λ r. pieces_of r (tokens_of ps)) (drop-append_seam p.1 (bytes_of ps)) ∙ pieces_back ps in
    λ i. (p.0, first i) ∷ rest i

abbrev pub piece_of : Lexeme → Piece
piece_of l = (l.kind, l.text)

pub pieces_at : (text : List ℕ) (at : ℕ) (ts : List (Kind × ℕ))
    → map piece_of (lexemes_from text at ts) ≡ pieces_of (drop at text) ts
pieces_at text at [] = refl
pieces_at text at (t ∷ ts) =
    let count : at + t.1 - at ≡ t.1 = omega arith in
    let rest : map piece_of (lexemes_from text (at + t.1) ts) ≡ pieces_of (drop t.1 (drop at text)) ts =
    pieces_at text (at + t.1) ts ∙ ap (λ r. pieces_of r ts) (sym (drop-drop t.1 at text)) in
    λ i. (t.0, take (count i) (drop at text)) ∷ rest i

pub bytes-append : (ps qs : List Piece) → bytes_of (ps ++ qs) ≡ bytes_of ps ++ bytes_of qs
bytes-append [] qs = refl
bytes-append (p ∷ ps) qs =
    ap (λ l. p.1 ++ l) (bytes-append ps qs) ∙ sym (append_assoc p.1 (bytes_of ps) (bytes_of qs))

-- ---- two texts one behind the other

-- the byte is a line feed
abbrev pub ends_line : List ℕ → Bool
ends_line w = get_or w (length w - 1) 0 == 10

-- the last piece is white space that ends with a line feed; `start` is what stands where there is none
abbrev pub EndsLine : Bool → List Piece → Type 0
EndsLine start [] = start ≡ true
EndsLine start (p ∷ []) = (p.0 ≡ Space) × (ends_line p.1 ≡ true)
EndsLine start (p ∷ q ∷ ps) = EndsLine false (q ∷ ps)

space_each : (start : Bool) (w : List ℕ) → IsWord Space start w (length w) → Each is_space w 0 (length w)
space_each start w (inl g) = g.form
space_each start w (inr (e, b)) = absurd (cc)

-- white space goes up to another byte
space_token : (start : Bool) (w rest : List ℕ) → IsToken Space start w (length w)
    → is_space (get_or rest 0 0) ≡ false → IsToken Space start (w ++ rest) (length w)
unfolding scan
space_token start w rest t other = subst (λ u. IsToken u.0 start (w ++ rest) u.1) is
    (scan_token start (w ++ rest) (omega (arith, some, long)))
  where
    some : 0 < length w
    some = (token_spans Space start w (length w) t).some

    each : Each is_space w 0 (length w)
    each = space_each start w t.word

    long : length (w ++ rest) ≡ length w + length rest
    long = length-append w rest

    here : (k : ℕ) → k < length w → is_space (get_or (w ++ rest) k 0) ≡ true
    here k lt = ap is_space (get_or_append_left w rest 0 k lt) ∙ each k (omega arith) lt

    behind : is_space (get_or (w ++ rest) (length w) 0) ≡ false
    behind =
        let at : length w ≡ length w + 0 = omega arith in
        ap (λ n. is_space (get_or (w ++ rest) n 0)) at ∙ ap is_space (get_or-append-add w rest 0 0) ∙ other

    count : prefix_len is_space (w ++ rest) ≡ length w
    count = prefix_len_is is_space (w ++ rest) (length w) 0 (omega (arith, long)) here (λ lt. behind)

    is : scan start (w ++ rest) ≡ (Space, length w)
    is =
        ap (λ c. scan_as c (w ++ rest))
        (class_blank start (get_or (w ++ rest) 0 0) (get_or (w ++ rest) 1 0) (here 0 some))
        ∙ (λ i. (Space, count i))

-- what goes on behind a text that goes on decides no token of it
pub token_before : (p : Piece) (start : Bool) (xs more : List ℕ) → IsToken p.0 start (p.1 ++ xs) (length p.1)
    → 0 < length xs → IsToken p.0 start (p.1 ++ (xs ++ more)) (length p.1)
token_before p start xs more t some =
    local_token p.0 start (p.1 ++ xs) (p.1 ++ (xs ++ more)) (length p.1) t (record {
      left = omega (arith, length-append p.1 xs);
      right = omega (arith, length-append p.1 (xs ++ more), length-append xs more);
      same = λ i le. sym (ap (λ l. get_or l i 0) (sym (append_assoc p.1 xs more))
          ∙ get_or_append_left (p.1 ++ xs) more 0 i (omega (arith, length-append p.1 xs)));
    })

pub same_start : (w xs ys : List ℕ) → 0 < length w → starts_after (w ++ xs) (length w) ≡ starts_after
    (w ++ ys)
    (length w)
same_start w xs ys some =
    let in_first = get_or_append_left w xs 0 (length w - 1) (omega arith) in
    let in_second = get_or_append_left w ys 0 (length w - 1) (omega arith) in
    ap (λ b. b == 10) (in_first ∙ sym in_second)

start_is : (w xs : List ℕ) → 0 < length w → starts_after (w ++ xs) (length w) ≡ ends_line w
start_is w xs some = ap (λ b. b == 10) (get_or_append_left w xs 0 (length w - 1) (omega arith))

pub ends_any : (s t : Bool) (q : Piece) (ps : List Piece) → EndsLine s (q ∷ ps) → EndsLine t (q ∷ ps)
ends_any s t q [] e = e
ends_any s t q (r ∷ ps) e = e

pub lexes_both : (start : Bool) (ps qs : List Piece) → Lexes start ps → EndsLine start ps
    → is_space (get_or (bytes_of qs) 0 0) ≡ false → Lexes true qs → Lexes start (ps ++ qs)
lexes_both start [] qs h e other k = subst (λ s. Lexes s qs) (sym e) k
lexes_both start (p ∷ []) qs h e other k =
    let some = (token_spans p.0 start (p.1 ++ []) (length p.1) h.0).some in
    let alone : IsToken Space start p.1 (length p.1) =
    subst (λ kind. IsToken kind start p.1 (length p.1)) e.0
    (subst (λ w. IsToken p.0 start w (length p.1)) (append-nil p.1) h.0) in (
      subst (λ kind. IsToken kind start (p.1 ++ bytes_of qs) (length p.1)) (sym e.0)
          (space_token start p.1 (bytes_of qs) alone other),
      subst (λ s. Lexes s qs) (sym (start_is p.1 (bytes_of qs) some ∙ e.1)) k,
    )
lexes_both start (p ∷ q ∷ ps) qs h e other k =
    let some = (token_spans p.0 start (p.1 ++ bytes_of (q ∷ ps)) (length p.1) h.0).some in
    let more = (token_spans q.0 (starts_after (p.1 ++ bytes_of (q ∷ ps)) (length p.1)) (q.1 ++ bytes_of ps)
    (length q.1) h.1.0).some in
    let all : bytes_of (q ∷ ps) ++ bytes_of qs ≡ bytes_of ((q ∷ ps) ++ qs) = sym (bytes-append (q ∷ ps) qs) in
    let next = starts_after (p.1 ++ bytes_of (q ∷ ps)) (length p.1) in (
      subst (λ l. IsToken p.0 start (p.1 ++ l) (length p.1)) all
          (token_before p start (bytes_of (q ∷ ps)) (bytes_of qs) h.0
          (omega (arith, more, length-append q.1 (bytes_of ps)))),
      subst (λ s. Lexes s ((q ∷ ps) ++ qs)) (same_start p.1 (bytes_of (q ∷ ps))
          (bytes_of ((q ∷ ps) ++ qs)) some)
          (lexes_both next (q ∷ ps) qs h.1 (ends_any false next q ps e) other k),
    )

-- ---- white space at the end of one, and at the start of the other

-- both as one piece
abbrev pub glued : List Piece → Piece → List Piece → List Piece
glued [] q qs = q ∷ qs
glued (p ∷ []) q qs = (p.0, p.1 ++ q.1) ∷ qs
glued (p ∷ r ∷ ps) q qs = p ∷ glued (r ∷ ps) q qs

pub bytes-glued : (ps : List Piece) (q : Piece) (qs : List Piece)
    → bytes_of (glued ps q qs) ≡ bytes_of ps ++ bytes_of (q ∷ qs)
bytes-glued [] q qs = refl
bytes-glued (p ∷ []) q qs =
    append_assoc p.1 q.1 (bytes_of qs) ∙ ap (λ l. l ++ (q.1 ++ bytes_of qs)) (sym (append-nil p.1))
bytes-glued (p ∷ r ∷ ps) q qs =
    ap (λ l. p.1 ++ l) (bytes-glued (r ∷ ps) q qs)
    ∙ sym (append_assoc p.1 (bytes_of (r ∷ ps)) (bytes_of (q ∷ qs)))

pub ends-glued : (start : Bool) (ps : List Piece) (q : Piece) (qs : List Piece) → 0 < length q.1
    → EndsLine start ps → EndsLine true (q ∷ qs) → EndsLine start (glued ps q qs)
ends-glued start [] q qs some e f = subst (λ s. EndsLine s (q ∷ qs)) (sym e) f
ends-glued start (p ∷ []) q [] some e f =
    let at : length (p.1 ++ q.1) - 1 ≡ length p.1 + (length q.1 - 1) =
    omega (arith, some, length-append p.1 q.1) in
    let last : get_or (p.1 ++ q.1) (length (p.1 ++ q.1) - 1) 0 ≡ get_or q.1 (length q.1 - 1) 0 =
    ap (λ n. get_or (p.1 ++ q.1) n 0) at ∙ get_or-append-add p.1 q.1 (length q.1 - 1) 0 in
    (e.0, ap (λ b. b == 10) last ∙ f.1)
ends-glued start (p ∷ []) q (r ∷ qs) some e f = f
ends-glued start (p ∷ r ∷ []) q qs some e f = ends-glued false (r ∷ []) q qs some e f
ends-glued start (p ∷ r ∷ s ∷ ps) q qs some e f = ends-glued false (r ∷ s ∷ ps) q qs some e f

-- white space goes on with white space
pub space_glued : (start : Bool) (w v rest : List ℕ) → IsToken Space start w (length w)
    → IsToken Space true (v ++ rest) (length v) → IsToken Space start ((w ++ v) ++ rest) (length (w ++ v))
unfolding scan
space_glued start w v rest t u = subst (λ x. IsToken x.0 start ((w ++ v) ++ rest) x.1) is
    (scan_token start ((w ++ v) ++ rest) (omega (arith, some, long, all)))
  where
    some : 0 < length w
    some = (token_spans Space start w (length w) t).some

    long : length (w ++ v) ≡ length w + length v
    long = length-append w v

    all : length ((w ++ v) ++ rest) ≡ length (w ++ v) + length rest
    all = length-append (w ++ v) rest

    front : Each is_space w 0 (length w)
    front = space_each start w t.word

    rear : Each is_space (v ++ rest) 0 (length v)
    rear = form u.word
      where
        form : IsWord Space true (v ++ rest) (length v) → Each is_space (v ++ rest) 0 (length v)
        form (inl g) = g.form
        form (inr (e, b)) = absurd (cc)

    place : (k : ℕ) → get_or ((w ++ v) ++ rest) (length w + k) 0 ≡ get_or (v ++ rest) k 0
    place k = ap (λ l. get_or l (length w + k) 0) (append_assoc w v rest)
        ∙ get_or-append-add w (v ++ rest) k 0

    here : (k : ℕ) → k < length (w ++ v) → is_space (get_or ((w ++ v) ++ rest) k 0) ≡ true
    here k lt = by (cases_lt k (length w))
      where
        by : (k < length w) ⊎ (length w ≤ k) → is_space (get_or ((w ++ v) ++ rest) k 0) ≡ true
        by (inl less) =
            ap (λ l. is_space (get_or l k 0)) (append_assoc w v rest)
            ∙ ap is_space (get_or_append_left w (v ++ rest) 0 k less) ∙ front k (omega arith) less
        by (inr more) =
            let at : k ≡ length w + (k - length w) = omega (arith, more) in
            ap (λ n. is_space (get_or ((w ++ v) ++ rest) n 0)) at ∙ ap is_space (place (k - length w))
            ∙ rear (k - length w) (omega arith) (omega (arith, lt, long, more))

    behind : length (w ++ v) < length ((w ++ v) ++ rest)
        → is_space (get_or ((w ++ v) ++ rest) (length (w ++ v)) 0) ≡ false
    behind lt =
        let fits : 0 < length (v ++ rest) =
        omega (arith, (token_spans Space true (v ++ rest) (length v) u).some, length-append v rest) in
        let scanned = token_scan true (v ++ rest) fits Space (length v) u in
        let first : is_space (get_or (v ++ rest) 0 0) ≡ true =
        rear 0 (omega arith) (token_spans Space true (v ++ rest) (length v) u).some in
        let count : length v ≡ prefix_len is_space (v ++ rest) =
        ap (λ x. x.1) (scanned ∙ ap (λ c. scan_as c (v ++ rest))
        (class_blank true (get_or (v ++ rest) 0 0) (get_or (v ++ rest) 1 0) first)) in
        let room : prefix_len is_space (v ++ rest) < length (v ++ rest) =
        omega (arith, count, lt, all, long, length-append v rest) in
        let stops = prefix_len_stops is_space (v ++ rest) 0 room in
        let at : length (w ++ v) ≡ length w + prefix_len is_space (v ++ rest) = omega (arith, long, count) in
        ap (λ n. is_space (get_or ((w ++ v) ++ rest) n 0)) at
        ∙ ap is_space (place (prefix_len is_space (v ++ rest))) ∙ stops

    count : prefix_len is_space ((w ++ v) ++ rest) ≡ length (w ++ v)
    count = prefix_len_is is_space ((w ++ v) ++ rest) (length (w ++ v)) 0 (omega (arith, all)) here behind

    is : scan start ((w ++ v) ++ rest) ≡ (Space, length (w ++ v))
    is =
        ap (λ c. scan_as c ((w ++ v) ++ rest))
        (class_blank start (get_or ((w ++ v) ++ rest) 0 0) (get_or ((w ++ v) ++ rest) 1 0)
        (here 0 (omega (arith, some, long))))
        ∙ (λ i. (Space, count i))

pub lexes_glued : (start : Bool) (ps : List Piece) (q : Piece) (qs : List Piece) → Lexes start ps
    → EndsLine start ps → q.0 ≡ Space → Lexes true (q ∷ qs) → Lexes start (glued ps q qs)
lexes_glued start [] q qs h e space k = subst (λ s. Lexes s (q ∷ qs)) (sym e) k
lexes_glued start (p ∷ []) q qs h e space k =
    let alone : IsToken Space start p.1 (length p.1) =
    subst (λ kind. IsToken kind start p.1 (length p.1)) e.0
    (subst (λ w. IsToken p.0 start w (length p.1)) (append-nil p.1) h.0) in
    let next : IsToken Space true (q.1 ++ bytes_of qs) (length q.1) =
    subst (λ kind. IsToken kind true (q.1 ++ bytes_of qs) (length q.1)) space k.0 in
    let some = (token_spans Space true (q.1 ++ bytes_of qs) (length q.1) next).some in (
      subst (λ kind. IsToken kind start ((p.1 ++ q.1) ++ bytes_of qs) (length (p.1 ++ q.1))) (sym e.0)
          (space_glued start p.1 q.1 (bytes_of qs) alone next),
      subst (λ s. Lexes s qs) (same_end p.1 q.1 (bytes_of qs) some) k.1,
    )
  where
    same_end : (w v rest : List ℕ) → 0 < length v
        → starts_after (v ++ rest) (length v) ≡ starts_after ((w ++ v) ++ rest) (length (w ++ v))
    same_end w v rest some =
        let at : length (w ++ v) - 1 ≡ length w + (length v - 1) = omega (arith, some, length-append w v) in
        ap (λ b. b == 10) (sym (ap (λ l. get_or l (length (w ++ v) - 1) 0) (append_assoc w v rest)
        ∙ ap (λ n. get_or (w ++ (v ++ rest)) n 0) at ∙ get_or-append-add w (v ++ rest) (length v - 1) 0))
lexes_glued start (p ∷ r ∷ ps) q qs h e space k =
    let some = (token_spans p.0 start (p.1 ++ bytes_of (r ∷ ps)) (length p.1) h.0).some in
    let next = starts_after (p.1 ++ bytes_of (r ∷ ps)) (length p.1) in
    let more = (token_spans r.0 next (r.1 ++ bytes_of ps) (length r.1) h.1.0).some in (
      subst (λ l. IsToken p.0 start (p.1 ++ l) (length p.1)) (sym (bytes-glued (r ∷ ps) q qs))
          (token_before p start (bytes_of (r ∷ ps)) (bytes_of (q ∷ qs)) h.0
          (omega (arith, more, length-append r.1 (bytes_of ps)))),
      subst (λ s. Lexes s (glued (r ∷ ps) q qs))
          (same_start p.1 (bytes_of (r ∷ ps)) (bytes_of (glued (r ∷ ps) q qs)) some)
          (lexes_glued next (r ∷ ps) q qs h.1 (ends_any false next r ps e) space k),
    )

-- How a text is cut into lines.
use Rattle.std.proofs.Common.{◌≡◌, ℕ, ◌+◌, ◌<◌, Bool, true, false, ◌&&◌, cond, List, [], ◌∷◌, ◌++◌, length}
use Rattle.std.proofs.Common.{take, drop, get_or, eqb, Option, None, Some, add-one, drop-cons, arith, refl}
use Rattle.std.proofs.Common.{sym, ap, ◌∙◌, length-take, length-append, append_assoc, ne_eqb, eq-eqb}
use Rattle.std.proofs.Common.{eqb-true}
use Rattle.std.specs.List.{All, concat, onto_first}
use Rattle.std.proofs.lemmas.List.{take-append-drop, get_or-take, take_at, drop_all}
use Rattle.std.proofs.Math.Seq.{take-length}
use Rattle.std.proofs.lemmas.List.Elements.{All-head, All-tail, All-from_get_or}
use Rattle.memchr.specs.Find.{IsFirstByte, is_byte}
use Rattle.x_directives.specs.declared.lines.Part.{Part}
use Rattle.x_directives.specs.Directives.{lines, is_open, part_of, is_inside, marked}
use Rattle.x_directives.specs.Directives.{remark_goes_on}

-- none of the bytes is c
abbrev pub HasNo : ℕ → List ℕ → Type 0
HasNo c bytes = All (λ b. eqb b c ≡ false) bytes

-- a line feed ends the first line
pub lines_at : (line later : List ℕ) → HasNo 10 line
    → lines (line ++ 10 ∷ later) ≡ (line ++ 10 ∷ []) ∷ lines later
unfolding lines
lines_at [] later none = refl
lines_at (b ∷ line) later none =
    let rest = lines (line ++ 10 ∷ later) in
    ap (λ t. cond t ((b ∷ []) ∷ rest) (onto_first b rest)) (All-head (λ x. eqb x 10 ≡ false) b line none)
    ∙ ap (onto_first b) (lines_at line later (All-tail (λ x. eqb x 10 ≡ false) b line none))

-- bytes without a line feed are one line
pub one_line : (b : ℕ) (line : List ℕ) → HasNo 10 (b ∷ line) → lines (b ∷ line) ≡ (b ∷ line) ∷ []
unfolding lines
one_line b [] none =
    ap (λ t. cond t ((b ∷ []) ∷ []) (onto_first b [])) (All-head (λ x. eqb x 10 ≡ false) b [] none)
one_line b (next ∷ line) none =
    let rest = lines (next ∷ line) in
    ap (λ t. cond t ((b ∷ []) ∷ rest) (onto_first b rest))
    (All-head (λ x. eqb x 10 ≡ false) b (next ∷ line) none)
    ∙ ap (onto_first b) (one_line next line (All-tail (λ x. eqb x 10 ≡ false) b (next ∷ line) none))

-- a byte joins the first of the lines
onto_joined : (b : ℕ) (rest : List (List ℕ)) → concat (onto_first b rest) ≡ b ∷ concat rest
onto_joined b [] = refl
onto_joined b (line ∷ rest) = refl

joined_by : (t : Bool) (b : ℕ) (rest : List (List ℕ))
    → concat (cond t ((b ∷ []) ∷ rest) (onto_first b rest)) ≡ b ∷ concat rest
joined_by true b rest = refl
joined_by false b rest = onto_joined b rest

-- the lines are the text
pub lines_joined : (text : List ℕ) → concat (lines text) ≡ text
unfolding lines
lines_joined [] = refl
lines_joined (b ∷ text) = joined_by (eqb b 10) b (lines text) ∙ ap (λ l. b ∷ l) (lines_joined text)

-- a search that finds none
pub has_none : (c : ℕ) (bytes : List ℕ) (r : Option ℕ) → IsFirstByte (is_byte c) bytes r → r ≡ None
    → HasNo c bytes
has_none c bytes None first none =
    All-from_get_or (λ x. eqb x c ≡ false) bytes 0
    (λ k lt. ne_eqb (get_or bytes k 0) c (λ e. first k (omega arith) lt (eq-eqb (get_or bytes k 0) c e)))
has_none c bytes (Some at) first none = absurd (cc)

-- the first line feed parts the bytes
parted : (bytes : List ℕ) (k : ℕ) → IsFirstByte (is_byte 10) bytes (Some k)
    → (k < length bytes) × HasNo 10 (take k bytes) × (bytes ≡ take k bytes ++ 10 ∷ drop (k + 1) bytes)
parted bytes k first =
    let high = first.0.high in
    let none : HasNo 10 (take k bytes) = All-from_get_or (λ b. eqb b 10 ≡ false) (take k bytes) 0 (λ j lt.
    let below : j < k = omega (arith, length-take k bytes) in
    ne_eqb (get_or (take k bytes) j 0) 10 (λ e. first.0.before j (omega arith) below
    (eq-eqb (get_or bytes j 0) 10 (sym (get_or-take k bytes j 0 below) ∙ e)))) in
    let here : get_or bytes k 0 ≡ 10 = eqb-true (get_or bytes k 0) 10 first.1 in
    let rest : drop k bytes ≡ get_or bytes k 0 ∷ drop (k + 1) bytes =
    rw add-one (drop-cons bytes k 0 high) in (
      high,
      none,
      sym (take-append-drop k bytes)
          ∙ ap (λ l. take k bytes ++ l) (rest ∙ ap (λ b. b ∷ drop (k + 1) bytes) here),
    )

-- the line up to the first line feed
pub line_found : (bytes line later : List ℕ) (k : ℕ) → IsFirstByte (is_byte 10) bytes (Some k)
    → line ≡ take (k + 1) bytes → later ≡ drop (k + 1) bytes → lines bytes ≡ line ∷ lines later
line_found bytes line later k first line_is later_is =
    let parts = parted bytes k first in
    let front = take k bytes in
    let cut = lines_at front (drop (k + 1) bytes) parts.1 in
    let size : length (front ++ 10 ∷ []) ≡ k + 1 =
    omega (arith, parts.0, length-append front (10 ∷ []), length-take k bytes) in
    let whole : front ++ 10 ∷ drop (k + 1) bytes ≡ (front ++ 10 ∷ []) ++ drop (k + 1) bytes =
    sym (append_assoc front (10 ∷ []) (drop (k + 1) bytes)) in
    let line_at : take (k + 1) bytes ≡ front ++ 10 ∷ [] =
    ap (take (k + 1)) (parts.2 ∙ whole) ∙ take_at (front ++ 10 ∷ []) (drop (k + 1) bytes) (k + 1) size in
    ap lines parts.2 ∙ cut ∙ (λ i. sym (line_is ∙ line_at) i ∷ lines (sym later_is i))

-- the only line
pub line_last : (bytes line later : List ℕ) (r : Option ℕ) → 0 < length bytes
    → IsFirstByte (is_byte 10) bytes r → r ≡ None → line ≡ take (length bytes) bytes
    → later ≡ drop (length bytes) bytes → lines bytes ≡ line ∷ lines later
unfolding lines
line_last [] line later r some first none line_is later_is = absurd (omega arith)
line_last (b ∷ rest) line later r some first none line_is later_is =
    let bytes = b ∷ rest in
    let none_later = later_is ∙ drop_all (length bytes) bytes (omega arith) in
    one_line b rest (has_none 10 bytes r first none)
    ∙ (λ i. sym (line_is ∙ take-length bytes) i ∷ lines (sym none_later i))

-- ---- what lines are of directives

pub marked_more : (within commented goes_on remark : Bool) (start : ℕ) (rest line later : List ℕ)
    (part : Part) → lines rest ≡ line ∷ lines later → part ≡ part_of within commented line
    → goes_on ≡ (is_inside part && is_open line) → remark ≡ remark_goes_on commented part line
    → marked within commented start (lines rest)
    ≡ record { start = start; bytes = line; part = part; commented = commented }
    ∷ marked goes_on remark (start + length line) (lines later)
unfolding marked
marked_more within commented goes_on remark start rest line later part cut part_is goes_on_is remark_is =
    let next : (is_inside (part_of within commented line) && is_open line) ≡ goes_on =
    ap (λ p. is_inside p && is_open line) (sym part_is) ∙ sym goes_on_is in
    let next_remark : remark_goes_on commented (part_of within commented line) line ≡ remark =
    ap (λ p. remark_goes_on commented p line) (sym part_is) ∙ sym remark_is in
    ap (marked within commented start) cut
    ∙ (λ i. record { start = start; bytes = line; part = sym part_is i; commented = commented }
    ∷ marked (next i) (next_remark i) (start + length line) (lines later))

pub marked_none : (within commented : Bool) (start : ℕ) (rest : List ℕ) → rest ≡ []
    → marked within commented start (lines rest) ≡ []
unfolding marked lines
marked_none within commented start rest none = ap (λ l. marked within commented start (lines l)) none

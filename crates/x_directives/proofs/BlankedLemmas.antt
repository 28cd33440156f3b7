-- What is blanked of a text, and what stays.
use Rattle.std.proofs.Common.{◌≡◌, ℕ, ◌+◌, ◌-◌, ◌<◌, ◌≤◌, Bool, true, false, cond, not, ◌&&◌, ◌||◌, List, []}
use Rattle.std.proofs.Common.{◌∷◌, ◌++◌, length, take, drop, get_or, eqb, map, zero, suc, arith, refl, sym}
use Rattle.std.proofs.Common.{ap, ◌∙◌, subst, append_assoc, append-nil, slice_range, length-append}
use Rattle.std.specs.List.{All, concat, prefix_len, list_any, flat_map}
use Rattle.std.proofs.lemmas.Bool.Decides.{nat_tests}
use Rattle.std.proofs.lemmas.List.{get_or-drop, map-append, length-map, drop_at, take_at, drop_more, drop_all}
use Rattle.std.proofs.lemmas.List.Elements.{All-head, All-tail, All-same, All-take, All-drop, All-nil}
use Rattle.std.proofs.lemmas.List.Elements.{All-cons}
use Rattle.std.proofs.Math.ListN.{get_or-map}
use Rattle.std.proofs.Math.Seq.{take-append_seam}
use Rattle.x_lex.specs.Bytes.{is_blank, is_marker}
use Rattle.x_directives.specs.declared.lines.Part.{Part}
use Rattle.x_directives.specs.declared.lines.Part.TheVariants.{Outside, First, Later}
use Rattle.x_directives.specs.Directives.{lines, unblanked, is_directive, part_of, is_inside, is_open, Marked}
use Rattle.x_directives.specs.Directives.{remark_goes_on}
use Rattle.x_directives.specs.Directives.{marked, marked_lines}
use Rattle.x_directives.specs.Blanked.{stays, blanked_bytes, blanked_line, blanked}
use Rattle.x_directives.specs.Comments.{turns, commented_behind}
use Rattle.x_directives.proofs.LineLemmas.{HasNo, lines_joined}

-- ---- texts without a directive

pub neither : (a b : Bool) → (a || b) ≡ false → (a ≡ false) × (b ≡ false)
neither true b e = cc
neither false b e = (refl, e)

-- a line that is no directive, where none goes on in it
pub outside : (commented : Bool) (line : List ℕ) → is_directive line ≡ false
    → part_of false commented line ≡ Outside
unfolding part_of
outside commented line none = ap (λ t. cond (t && not commented) First Outside) none

-- lines of which none is a directive stay
plain_lines : (commented : Bool) (start : ℕ) (all : List (List ℕ)) → list_any is_directive all ≡ false
    → flat_map blanked_line (marked false commented start all) ≡ concat all
unfolding marked blanked_line
plain_lines commented start [] none = refl
plain_lines commented start (line ∷ later) none =
    let parts = neither (is_directive line) (list_any is_directive later) none in
    let part = outside commented line parts.0 in
    let next = start + length line in
    (λ i. cond (is_inside (part i)) (blanked_bytes 0 line) line
    ++ flat_map blanked_line
    (marked (is_inside (part i) && is_open line) (remark_goes_on commented (part i) line) next later))
    ∙ ap (λ l. line ++ l) (plain_lines (remark_goes_on commented Outside line) next later parts.1)

pub plain_text : (text : List ℕ) → list_any is_directive (lines text) ≡ false → blanked text ≡ text
plain_text text none = plain_lines false 0 (lines text) none ∙ lines_joined text

no_hash_at : (line : List ℕ) (k : ℕ) → HasNo 35 line → eqb (get_or line k 0) 35 ≡ false
no_hash_at [] k none = refl
no_hash_at (b ∷ line) zero none = All-head (λ x. eqb x 35 ≡ false) b line none
no_hash_at (b ∷ line) (suc k) none = no_hash_at line k (All-tail (λ x. eqb x 35 ≡ false) b line none)

no_directive : (line : List ℕ) → HasNo 35 line → is_directive line ≡ false
unfolding is_directive unblanked
no_directive line none =
    let blanks = prefix_len is_blank line in
    ap (λ t. t && not (eqb (get_or line 0 0) 35 && is_marker line))
    (ap (λ b. eqb b 35) (get_or-drop blanks line 0 0) ∙ no_hash_at line (blanks + 0) none)

no_directives : (all : List (List ℕ)) → HasNo 35 (concat all) → list_any is_directive all ≡ false
no_directives [] none = refl
no_directives (line ∷ later) none =
    let P : ℕ → Type 0 = λ b. eqb b 35 ≡ false in
    let n = length line in
    let rest = concat later in
    let text = line ++ rest in
    let front = take-append_seam line rest in
    let in_first = All-same P line (take n text) (sym front) (All-take P n text none) in
    let in_rest = All-same P rest (drop n text) (sym (drop_at line rest n refl)) (All-drop P n text none) in
    ap (λ t. t || list_any is_directive later) (no_directive line in_first) ∙ no_directives later in_rest

pub none_in_lines : (text : List ℕ) → HasNo 35 text → list_any is_directive (lines text) ≡ false
none_in_lines text none =
    let all = lines text in
    no_directives all (All-same (λ b. eqb b 35 ≡ false) (concat all) text (lines_joined text) none)

-- a text without a `#` stays
pub no_hash : (text : List ℕ) → HasNo 35 text → blanked text ≡ text
no_hash text none = plain_text text (none_in_lines text none)

-- ---- one more byte

blanked_more : (before at b : ℕ) (line : List ℕ) → at < length line → b ≡ get_or line at 0
    → blanked_bytes before (drop at line)
    ≡ cond (stays before b (get_or line (at + 1) 0)) b 32 ∷ blanked_bytes b (drop (at + 1) line)
unfolding blanked_bytes
blanked_more before at b line lt is =
    let rest = drop (at + 1) line in
    let next : at + 1 + 0 ≡ at + 1 = omega arith in
    let after : get_or rest 0 0 ≡ get_or line (at + 1) 0 =
    get_or-drop (at + 1) line 0 0 ∙ ap (λ k. get_or line k 0) next in
    ap (blanked_bytes before) (drop_more line at 0 lt)
    ∙ (λ i. cond (stays before (sym is i) (after i)) (sym is i) 32 ∷ blanked_bytes (sym is i) rest)

pub blanked_step : (now then start : List ℕ) (before at b : ℕ) (line : List ℕ) → at < length line
    → b ≡ get_or line at 0 → now ++ blanked_bytes before (drop at line) ≡ start
    → then ≡ now ++ cond (stays before b (get_or line (at + 1) 0)) b 32 ∷ []
    → then ++ blanked_bytes b (drop (at + 1) line) ≡ start
blanked_step now then start before at b line lt is so_far then_is =
    let byte = cond (stays before b (get_or line (at + 1) 0)) b 32 in
    let rest = blanked_bytes b (drop (at + 1) line) in
    ap (λ l. l ++ rest) then_is ∙ append_assoc now (byte ∷ []) rest
    ∙ ap (λ l. now ++ l) (sym (blanked_more before at b line lt is)) ∙ so_far

-- all bytes
pub blanked_end : (now start : List ℕ) (before at : ℕ) (line : List ℕ) → length line ≤ at
    → now ++ blanked_bytes before (drop at line) ≡ start → now ≡ start
unfolding blanked_bytes
blanked_end now start before at line le so_far =
    sym (append-nil now) ∙ ap (λ l. now ++ blanked_bytes before l) (sym (drop_all at line le)) ∙ so_far

-- ---- one more line

-- what is made of lines one by one is made of all
pub one_more : {X : Type 0} (f : Marked → List X) (now then made : List X) (line : Marked)
    (left later : List Marked) → left ≡ line ∷ later → now ++ flat_map f left ≡ made → then ≡ now ++ f line
    → then ++ flat_map f later ≡ made
one_more f now then made line left later is so_far then_is =
    ap (λ l. l ++ flat_map f later) then_is ∙ append_assoc now (f line) (flat_map f later)
    ∙ ap (λ l. now ++ flat_map f l) (sym is) ∙ so_far

pub no_more : {X : Type 0} (f : Marked → List X) (now made : List X) (left : List Marked) → left ≡ []
    → now ++ flat_map f left ≡ made → now ≡ made
no_more f now made left none so_far = sym (append-nil now) ∙ ap (λ l. now ++ flat_map f l) (sym none) ∙ so_far

-- ---- line feeds

abbrev is_feed : ℕ → Bool
is_feed b = eqb b 10

feed_stays : (before b after : ℕ) → is_feed (cond (stays before b after) b 32) ≡ is_feed b
unfolding stays
feed_stays before b after = grind (arith, nat_tests)

bytes_feeds : (before : ℕ) (bytes : List ℕ) → map is_feed (blanked_bytes before bytes) ≡ map is_feed bytes
unfolding blanked_bytes
bytes_feeds before [] = refl
bytes_feeds before (b ∷ bytes) = λ i. feed_stays before b (get_or bytes 0 0) i ∷ bytes_feeds b bytes i

line_feeds : (part : Part) (commented : Bool) (start : ℕ) (line : List ℕ)
    → map is_feed
    (blanked_line (record { start = start; bytes = line; part = part; commented = commented }))
    ≡ map is_feed line
unfolding blanked_line
line_feeds Outside commented start line = refl
line_feeds First commented start line = bytes_feeds 0 line
line_feeds Later commented start line = bytes_feeds 0 line

lines_feeds : (within commented : Bool) (start : ℕ) (all : List (List ℕ))
    → map is_feed (flat_map blanked_line (marked within commented start all)) ≡ map is_feed (concat all)
unfolding marked
lines_feeds within commented start [] = refl
lines_feeds within commented start (line ∷ later) =
    let part = part_of within commented line in
    let goes_on = is_inside part && is_open line in
    let remark = remark_goes_on commented part line in
    let next = start + length line in
    map-append is_feed
    (blanked_line (record { start = start; bytes = line; part = part; commented = commented }))
    (flat_map blanked_line (marked goes_on remark next later))
    ∙ (λ i. line_feeds part commented start line i ++ lines_feeds goes_on remark next later i)
    ∙ sym (map-append is_feed line (concat later))

same_feeds : (text : List ℕ) → map is_feed (blanked text) ≡ map is_feed text
same_feeds text = lines_feeds false false 0 (lines text) ∙ ap (map is_feed) (lines_joined text)

pub same_length : (text : List ℕ) → length (blanked text) ≡ length text
same_length text =
    sym (length-map (blanked text) is_feed) ∙ ap length (same_feeds text) ∙ length-map text is_feed

pub feeds_stay : (text : List ℕ) (place : ℕ)
    → eqb (get_or (blanked text) place 0) 10 ≡ eqb (get_or text place 0) 10
feeds_stay text place =
    sym (get_or-map is_feed (blanked text) place 0) ∙ ap (λ l. get_or l place false) (same_feeds text)
    ∙ get_or-map is_feed text place 0

-- ---- lines in their places

-- a line stands in its place of these bytes as it is blanked
abbrev IsInPlace : List ℕ → Marked → Type 0
IsInPlace bytes line = slice_range bytes line.start (line.start + length line.bytes) ≡ blanked_line line

line_length : (part : Part) (commented : Bool) (start : ℕ) (line : List ℕ)
    → length (blanked_line (record { start = start; bytes = line; part = part; commented = commented }))
    ≡ length line
line_length part commented start line =
    let made = blanked_line (record { start = start; bytes = line; part = part; commented = commented }) in
    sym (length-map made is_feed) ∙ ap length (line_feeds part commented start line)
    ∙ length-map line is_feed

here : (front line later : List ℕ) (start n : ℕ) → length front ≡ start → length line ≡ n
    → slice_range (front ++ (line ++ later)) start (start + n) ≡ line
here front line later start n at size =
    let count : start + n - start ≡ n = omega arith in
    ap (take (start + n - start)) (drop_at front (line ++ later) start at)
    ∙ ap (λ k. take k (line ++ later)) count ∙ take_at line later n size

places : (within commented : Bool) (start : ℕ) (all : List (List ℕ)) (front : List ℕ)
    → length front ≡ start
    → All (IsInPlace (front ++ flat_map blanked_line (marked within commented start all)))
    (marked within commented start all)
unfolding marked
places within commented start [] front at = All-nil (IsInPlace (front ++ []))
places within commented start (line ∷ later) front at =
    let part = part_of within commented line in
    let goes_on = is_inside part && is_open line in
    let remark = remark_goes_on commented part line in
    let next = start + length line in
    let first : Marked = record { start = start; bytes = line; part = part; commented = commented } in
    let made = blanked_line first in
    let behind = flat_map blanked_line (marked goes_on remark next later) in
    let size = line_length part commented start line in
    let sum : length (front ++ made) ≡ next = length-append front made ∙ (λ i. at i + size i) in
    All-cons (IsInPlace (front ++ (made ++ behind))) first (marked goes_on remark next later)
    (here front made behind start (length line) at size)
    (subst (λ l. All (IsInPlace l) (marked goes_on remark next later)) (append_assoc front made behind)
    (places goes_on remark next later (front ++ made) sum))

in_place : (text : List ℕ) → All (IsInPlace (blanked text)) (marked_lines text)
in_place text = places false false 0 (lines text) [] refl

other_line : (bytes : List ℕ) (line : Marked) → IsInPlace bytes line → is_inside line.part ≡ false
    → slice_range bytes line.start (line.start + length line.bytes) ≡ line.bytes
unfolding blanked_line
other_line bytes line is none = is ∙ ap (λ t. cond t (blanked_bytes 0 line.bytes) line.bytes) none

pub others_stay : (text : List ℕ) → All (λ line. is_inside line.part ≡ false
    → slice_range (blanked text) line.start (line.start + length line.bytes) ≡ line.bytes) (marked_lines text)
others_stay text k d lt = other_line (blanked text) (get_or (marked_lines text) k d) (in_place text k d lt)

-- ---- comments

-- two bytes that begin or end a comment stay, and no others become such
same_turn : (commented : Bool) (before a b after : ℕ)
    → turns commented (cond (stays before a b) a 32) (cond (stays a b after) b 32) ≡ turns commented a b
unfolding turns stays
same_turn true before a b after = grind (arith, nat_tests)
same_turn false before a b after = grind (arith, nat_tests)

bytes_comments : (commented : Bool) (before : ℕ) (bytes : List ℕ)
    → commented_behind commented (blanked_bytes before bytes) ≡ commented_behind commented bytes
unfolding blanked_bytes commented_behind
bytes_comments commented before [] = refl
bytes_comments commented before (a ∷ []) = refl
bytes_comments commented before (a ∷ b ∷ bytes) =
    λ i. cond (same_turn commented before a b (get_or bytes 0 0) i)
    (bytes_comments (not commented) b bytes i) (bytes_comments commented a (b ∷ bytes) i)

line_comments : (line : Marked) → commented_behind line.commented (blanked_line line)
    ≡ commented_behind line.commented line.bytes
unfolding blanked_line
line_comments line = by_part (is_inside line.part) line.commented line.bytes where
  by_part : (t commented : Bool) (bytes : List ℕ)
      → commented_behind commented (cond t (blanked_bytes 0 bytes) bytes) ≡ commented_behind commented bytes
  by_part true commented bytes = bytes_comments commented 0 bytes
  by_part false commented bytes = refl

pub comments_stay : (text : List ℕ) → All (λ line. commented_behind line.commented (blanked_line line)
    ≡ commented_behind line.commented line.bytes) (marked_lines text)
comments_stay text k d lt = line_comments (get_or (marked_lines text) k d)

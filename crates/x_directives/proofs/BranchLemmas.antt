-- Later branches, going forward: a number says how many of the conditionals around have to end until no later
-- branch is around.
use Rattle.std.proofs.Common.{◌≡◌, ℕ, ◌+◌, ◌-◌, ◌<◌, ◌≤◌, Bool, true, false, cond, ◌&&◌, List, [], ◌∷◌, ◌++◌}
use Rattle.std.proofs.Common.{reverse, map, length, eqb, ltb, leb, get_or, zero, suc, arith, refl, sym, ap}
use Rattle.std.proofs.Common.{◌∙◌, Option, None, Some, subst, append_assoc, append-nil}
use Rattle.std.specs.List.{All, filter, prefix_len}
use Rattle.std.specs.List.Sorted.{IsNonDecreasingBy, IsPartitionPoint}
use Rattle.std.proofs.lemmas.Bool.{leb-false, lt-leb}
use Rattle.std.proofs.lemmas.Bool.Decides.{nat_tests}
use Rattle.std.proofs.lemmas.List.{reverse-append, length-map, get_or_default}
use Rattle.std.proofs.lemmas.List.Elements.{All-nil, All-cons}
use Rattle.std.proofs.lemmas.List.Sorted.{IsNonDecreasingBy-short}
use Rattle.std.proofs.lemmas.List.Sums.{prefix_len_is}
use Rattle.std.proofs.Math.ListN.{get_or-map}
use Rattle.x_directives.specs.declared.branches.Role.{Role}
use Rattle.x_directives.specs.declared.branches.Role.TheVariants.{Begins, Alternative, Ends}
use Rattle.x_directives.specs.declared.branches.Turn.{Turn}
use Rattle.x_directives.specs.Branches.{is_alternative, is_end, later_behind, SayBranchesOf, said_of}
use Rattle.x_directives.specs.Conditionals.{is_condition}
use Rattle.x_directives.specs.Directives.{lines, Marked, marked, marked_lines, directive_word, part_of}
use Rattle.x_directives.specs.Directives.{is_inside, is_open, remark_goes_on}
use Rattle.x_directives.specs.Turns.{role_of, deep_behind}

-- ---- one line more

-- the depth behind a line that does this
abbrev pub next_deep : Option Role → ℕ → ℕ
next_deep None deep = deep
next_deep (Some role) deep = deep_behind role deep

abbrev pub role_in : Marked → Option Role
role_in line = role_of (directive_word line)

-- The lines, the last of them first, have so many to end: from each depth below it a later branch is found.
abbrev pub IsDeep : ℕ → List Marked → Type 0
IsDeep deep earlier = (depth : ℕ) → later_behind depth earlier ≡ ltb depth deep

ends : (depth deep : ℕ) → ltb (1 + depth) deep ≡ ltb depth (deep_behind Ends deep)
unfolding deep_behind
ends depth deep = grind (arith, nat_tests)

begins : (depth deep : ℕ) → ltb (depth - 1) deep ≡ ltb depth (deep_behind Begins deep)
unfolding deep_behind
begins depth deep = grind (arith, nat_tests)

alternative : (depth deep : ℕ)
    → cond (eqb depth 0) true (ltb depth deep) ≡ ltb depth (deep_behind Alternative deep)
unfolding deep_behind
alternative depth deep = grind (arith, nat_tests)

-- by the tests of the word, in their order
by_tests : (end condition alternative' : Bool) (depth deep : ℕ)
    → cond end (ltb (1 + depth) deep) (cond condition (ltb (depth - 1) deep)
    (cond (alternative' && eqb depth 0) true (ltb depth deep)))
    ≡ ltb depth (next_deep (cond end (Some Ends) (cond condition (Some Begins)
    (cond alternative' (Some Alternative) None))) deep)
by_tests true condition alternative' depth deep = ends depth deep
by_tests false true alternative' depth deep = begins depth deep
by_tests false false true depth deep = alternative depth deep
by_tests false false false depth deep = refl

pub deep_more : (deep : ℕ) (line : Marked) (earlier : List Marked) → IsDeep deep earlier
    → IsDeep (next_deep (role_in line) deep) (line ∷ earlier)
unfolding later_behind role_of
deep_more deep line earlier is depth =
    let word = directive_word line in
    (λ i. cond (is_end word) (is (1 + depth) i) (cond (is_condition word) (is (depth - 1) i)
    (cond (is_alternative word && eqb depth 0) true (is depth i))))
    ∙ by_tests (is_end word) (is_condition word) (is_alternative word) depth deep

-- ---- all lines

-- the depth behind lines
pub deep_after : ℕ → List Marked → ℕ
deep_after deep [] = deep
deep_after deep (line ∷ later) = deep_after (next_deep (role_in line) deep) later

pub deep_all : (deep : ℕ) (earlier all : List Marked) → IsDeep deep earlier
    → IsDeep (deep_after deep all) (reverse all ++ earlier)
unfolding deep_after
deep_all deep earlier [] is = is
deep_all deep earlier (line ∷ later) is = λ depth.
    let one : reverse (line ∷ later) ++ earlier ≡ reverse later ++ line ∷ earlier =
    ap (λ l. l ++ earlier) (reverse-append (line ∷ []) later)
    ∙ append_assoc (reverse later) (line ∷ []) earlier in
    ap (later_behind depth) one
    ∙ deep_all (next_deep (role_in line) deep) (line ∷ earlier) later (deep_more deep line earlier is) depth

none_deep : IsDeep 0 []
unfolding later_behind
none_deep depth = grind (arith, nat_tests)

-- ---- the turns of lines

unfoldable pub turn_of : Option Role → ℕ → ℕ → List Turn
turn_of None deep start = []
turn_of (Some role) deep start = record { start = start; later = ltb 0 (deep_behind role deep) } ∷ []

unfoldable pub turns_from : ℕ → List Marked → List Turn
turns_from deep [] = []
turns_from deep (line ∷ later) =
    turn_of (role_in line) deep line.start ++ turns_from (next_deep (role_in line) deep) later

-- what turns say of a place, where `before` holds before the first
said : Bool → List Turn → ℕ → Bool
said before turns place =
    get_or (before ∷ map (λ t. t.later) turns) (prefix_len (λ t. leb t.start place) turns) false

one_turn : (place deep start : ℕ) (role : Option Role) (t : Bool) → leb start place ≡ t
    → (turns : List Turn) (after : ℕ → ℕ)
    → said (ltb 0 (next_deep role deep)) turns place ≡ ltb 0 (after (next_deep role deep))
    → (t ≡ false → after deep ≡ deep)
    → said (ltb 0 deep) (turn_of role deep start ++ turns) place
    ≡ ltb 0 (cond t (after (next_deep role deep)) (after deep))
unfolding turn_of said
one_turn place deep start None true is turns after later none = later
one_turn place deep start None false is turns after later none = later
one_turn place deep start (Some role) true is turns after later none =
    let turn = ltb 0 (deep_behind role deep) in
    let count = prefix_len (λ t. leb t.start place) turns in
    let more : 1 + count ≡ suc count = omega arith in
    let all = ltb 0 deep ∷ turn ∷ map (λ t. t.later) turns in
    ap (λ t. get_or all (cond t (1 + count) 0) false) is ∙ ap (λ n. get_or all n false) more ∙ later
one_turn place deep start (Some role) false is turns after later none =
    let turn = ltb 0 (deep_behind role deep) in
    let count = prefix_len (λ t. leb t.start place) turns in
    ap (λ t. get_or (ltb 0 deep ∷ turn ∷ map (λ t. t.later) turns) (cond t (1 + count) 0) false) is
    ∙ ap (ltb 0) (sym (none refl))

-- lines that begin behind a place
none_before : (place : ℕ) (within commented : Bool) (start : ℕ) (all : List (List ℕ)) → place < start
    → filter (λ line. leb line.start place) (marked within commented start all) ≡ []
unfolding marked
none_before place within commented start [] lt = refl
none_before place within commented start (line ∷ later) lt =
    let part = part_of within commented line in
    let first : Marked = record { start = start; bytes = line; part = part; commented = commented } in
    let goes_on = is_inside part && is_open line in
    let remark = remark_goes_on commented part line in
    let next = start + length line in
    let kept = filter (λ line. leb line.start place) (marked goes_on remark next later) in
    ap (λ t. cond t (first ∷ kept) kept) (lt-leb start place lt)
    ∙ none_before place goes_on remark next later (omega arith)

kept_after : (deep : ℕ) (line : Marked) (kept : List Marked) (t : Bool)
    → deep_after deep (cond t (line ∷ kept) kept)
    ≡ cond t (deep_after (next_deep (role_in line) deep) kept) (deep_after deep kept)
unfolding deep_after
kept_after deep line kept true = refl
kept_after deep line kept false = refl

said_is : (place deep : ℕ) (within commented : Bool) (start : ℕ) (all : List (List ℕ))
    → said (ltb 0 deep) (turns_from deep (marked within commented start all)) place
    ≡ ltb 0 (deep_after deep (filter (λ line. leb line.start place) (marked within commented start all)))
unfolding marked deep_after said turns_from
said_is place deep within commented start [] = refl
said_is place deep within commented start (line ∷ later) =
    let part = part_of within commented line in
    let first : Marked = record { start = start; bytes = line; part = part; commented = commented } in
    let goes_on = is_inside part && is_open line in
    let remark = remark_goes_on commented part line in
    let next = start + length line in
    let rest = marked goes_on remark next later in
    let kept = filter (λ line. leb line.start place) rest in
    let deep' = next_deep (role_in first) deep in
    one_turn place deep start (role_in first) (leb start place) refl (turns_from deep' rest)
    (λ d. deep_after d kept) (said_is place deep' goes_on remark next later)
    (λ t. ap (deep_after deep)
    (none_before place goes_on remark next later (omega (arith, leb-false start place t))))
    ∙ ap (ltb 0) (sym (kept_after deep first kept (leb start place)))

-- ---- one more turn

pub some_more : (now then all : List Turn) (line : Marked) (left later : List Marked) (deep next : ℕ)
    (role : Role) (flag : Bool) → left ≡ line ∷ later → role_in line ≡ Some role
    → next ≡ deep_behind role deep → flag ≡ ltb 0 (deep_behind role deep)
    → now ++ turns_from deep left ≡ all → then ≡ now ++ record { start = line.start; later = flag } ∷ []
    → then ++ turns_from next later ≡ all
unfolding turns_from turn_of
some_more now then all line left later deep next role flag is role_is next_is flag_is so_far then_is =
    let turn : Turn = record { start = line.start; later = flag } in
    let found = sym role_is in
    let depth : next ≡ next_deep (role_in line) deep = next_is ∙ ap (λ r. next_deep r deep) found in
    let first : turn ∷ [] ≡ turn_of (role_in line) deep line.start =
    (λ i. record { start = line.start; later = flag_is i } ∷ [])
    ∙ ap (λ r. turn_of r deep line.start) found in
    ap (λ l. l ++ turns_from next later) then_is ∙ append_assoc now (turn ∷ []) (turns_from next later)
    ∙ (λ i. now ++ (first i ++ turns_from (depth i) later))
    ∙ ap (λ l. now ++ turns_from deep l) (sym is) ∙ so_far

pub none_more : (now all : List Turn) (line : Marked) (left later : List Marked) (deep : ℕ)
    → left ≡ line ∷ later → role_in line ≡ None → now ++ turns_from deep left ≡ all
    → now ++ turns_from deep later ≡ all
unfolding turns_from turn_of
none_more now all line left later deep is role_is so_far =
    ap (λ r. now ++ (turn_of r deep line.start ++ turns_from (next_deep r deep) later)) (sym role_is)
    ∙ ap (λ l. now ++ turns_from deep l) (sym is) ∙ so_far

pub no_more : (now all : List Turn) (left : List Marked) (deep : ℕ) → left ≡ []
    → now ++ turns_from deep left ≡ all → now ≡ all
unfolding turns_from
no_more now all left deep none so_far =
    sym (append-nil now) ∙ ap (λ l. now ++ turns_from deep l) (sym none) ∙ so_far

-- ---- what they say

-- the turns of all lines say it
pub all_said : (turns : List Turn) (text : List ℕ) → turns ≡ turns_from 0 (marked_lines text)
    → SayBranchesOf turns text
unfolding said
all_said turns text is place =
    let kept = filter (λ line. leb line.start place) (marked_lines text) in
    ap (λ l. said false l place) is ∙ said_is place 0 false false 0 (lines text)
    ∙ sym (deep_all 0 [] kept none_deep 0) ∙ ap (later_behind 0) (append-nil (reverse kept))

-- ---- they ascend

abbrev IsFrom : ℕ → Turn → Type 0
IsFrom low turn = low ≤ turn.start

turn_from : (low deep start : ℕ) (role : Option Role) (turns : List Turn) → low ≤ start
    → All (IsFrom low) turns → All (IsFrom low) (turn_of role deep start ++ turns)
unfolding turn_of
turn_from low deep start None turns le later = later
turn_from low deep start (Some role) turns le later =
    All-cons (IsFrom low) (record { start = start; later = ltb 0 (deep_behind role deep) }) turns le later

all_from : (low deep : ℕ) (within commented : Bool) (start : ℕ) (all : List (List ℕ)) → low ≤ start
    → All (IsFrom low) (turns_from deep (marked within commented start all))
unfolding marked turns_from
all_from low deep within commented start [] le = All-nil (IsFrom low)
all_from low deep within commented start (line ∷ later) le =
    let part = part_of within commented line in
    let first : Marked = record { start = start; bytes = line; part = part; commented = commented } in
    let goes_on = is_inside part && is_open line in
    let remark = remark_goes_on commented part line in
    let next = start + length line in
    let deep' = next_deep (role_in first) deep in
    turn_from low deep start (role_in first) (turns_from deep' (marked goes_on remark next later)) le
    (all_from low deep' goes_on remark next later (omega arith))

cons_ascends : (turn : Turn) (turns : List Turn) → All (IsFrom turn.start) turns
    → IsNonDecreasingBy (λ t. t.start) turns → IsNonDecreasingBy (λ t. t.start) (turn ∷ turns)
cons_ascends turn turns low up zero zero d le lt = omega arith
cons_ascends turn turns low up zero (suc j) d le lt = low j d (omega arith)
cons_ascends turn turns low up (suc i) zero d le lt = absurd (omega arith)
cons_ascends turn turns low up (suc i) (suc j) d le lt = up i j d (omega arith) (omega arith)

turn_ascends : (deep start : ℕ) (role : Option Role) (turns : List Turn) → All (IsFrom start) turns
    → IsNonDecreasingBy (λ t. t.start) turns
    → IsNonDecreasingBy (λ t. t.start) (turn_of role deep start ++ turns)
unfolding turn_of
turn_ascends deep start None turns low up = up
turn_ascends deep start (Some role) turns low up =
    cons_ascends (record { start = start; later = ltb 0 (deep_behind role deep) }) turns low up

ascend : (deep : ℕ) (within commented : Bool) (start : ℕ) (all : List (List ℕ))
    → IsNonDecreasingBy (λ t. t.start) (turns_from deep (marked within commented start all))
unfolding marked turns_from
ascend deep within commented start [] = IsNonDecreasingBy-short (λ t. t.start) [] (omega arith)
ascend deep within commented start (line ∷ later) =
    let part = part_of within commented line in
    let first : Marked = record { start = start; bytes = line; part = part; commented = commented } in
    let goes_on = is_inside part && is_open line in
    let remark = remark_goes_on commented part line in
    let next = start + length line in
    let deep' = next_deep (role_in first) deep in
    turn_ascends deep start (role_in first) (turns_from deep' (marked goes_on remark next later))
    (all_from start deep' goes_on remark next later (omega arith)) (ascend deep' goes_on remark next later)

pub all_ascend : (turns : List Turn) (text : List ℕ) → turns ≡ turns_from 0 (marked_lines text)
    → IsNonDecreasingBy (λ t. t.start) turns
all_ascend turns text is =
    subst (IsNonDecreasingBy (λ t. t.start)) (sym is) (ascend 0 false false 0 (lines text))

-- what the last turn says that is not behind the place
pub last_said : (turns : List Turn) (place count : ℕ)
    → IsPartitionPoint (λ t. leb t.start place ≡ true) (λ t. leb t.start place ≡ false) turns count
    → count ≤ length turns → (last : Turn) → 0 < count → last ≡ get_or turns (count - 1) last
    → last.later ≡ said_of turns place
last_said turns place zero parts within last some is = absurd (omega arith)
last_said turns place (suc n) parts within last some is =
    let tests : Turn → Bool = λ t. leb t.start place in
    let count : prefix_len tests turns ≡ suc n = prefix_len_is tests turns (suc n) last within
    (λ k lt. parts.0 k last (omega arith) lt) (λ lt. parts.1 (suc n) last (omega arith) lt) in
    let at : suc n - 1 ≡ n = omega arith in
    let flags : List Bool = map (λ t. t.later) turns in
    let size : n < length flags = omega (arith, length-map turns (λ t. t.later), within) in
    ap (λ t. t.later) (is ∙ ap (λ k. get_or turns k last) at)
    ∙ sym (get_or-map (λ t. t.later) turns n last)
    ∙ get_or_default flags n last.later false size
    ∙ sym (ap (λ k. get_or (false ∷ flags) k false) count)

pub none_said : (turns : List Turn) (place count : ℕ)
    → IsPartitionPoint (λ t. leb t.start place ≡ true) (λ t. leb t.start place ≡ false) turns count
    → count ≤ length turns → count ≤ 0 → ltb 0 count ≡ said_of turns place
none_said turns place count parts within none =
    let tests : Turn → Bool = λ t. leb t.start place in
    let some : Turn = record { start = 0; later = false } in
    let zero_is : count ≡ 0 = omega arith in
    let is : prefix_len tests turns ≡ count = prefix_len_is tests turns count some within
    (λ k lt. parts.0 k some (omega arith) lt) (λ lt. parts.1 count some (omega arith) lt) in
    ap (ltb 0) zero_is
    ∙ sym (ap (λ k. get_or (false ∷ map (λ t. t.later) turns) k false) (is ∙ zero_is))

-- ---- how deep

pub one_deeper : (role : Role) (deep : ℕ) → deep_behind role deep ≤ deep + 1
unfolding deep_behind
one_deeper Begins deep = grind (arith, nat_tests)
one_deeper Alternative deep = grind (arith, nat_tests)
one_deeper Ends deep = omega arith

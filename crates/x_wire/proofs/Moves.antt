-- Moves of a stream by one byte and by many.
use Rattle.std.proofs.Common.{◌≡◌, ℕ, suc, ◌+◌, ◌-◌, ◌<◌, ◌≤◌, Bool, true, false, List, [], ◌∷◌, ◌++◌}
use Rattle.std.proofs.Common.{length, take, refl, sym, ap, ◌∙◌, append_assoc, arith}
use Rattle.std.specs.Prelude.{nat_lt, Option, Some, None, if◌then◌else◌, slice_set}
use Rattle.std.specs.Int.{from_be_bytes, w32}
use Rattle.std.proofs.lemmas.List.{append-nil, length-take, take_more_set, take_all, length-set}
use Rattle.std.proofs.lemmas.Bool.Decides.{nat_tests}
use Rattle.x_wire.specs.Records.{Phase, InHeader, InData, Left, Moved, count_after, data_of, quiet}
use Rattle.x_wire.specs.Records.{in_fragment, behind_header, in_header, step, after, told}

-- so many bytes count, and a stream stands here
abbrev pub stands : ℕ → Phase → Left
stands taken phase = record { taken = taken; phase = phase }

-- a move by many bytes
abbrev pub run : Left → List ℕ → Moved
run l bs = record { left = after l bs; told = told l bs }

pub lt_true : (a b : ℕ) → a < b → nat_lt a b ≡ true
lt_true a b h = grind (arith, nat_tests)

pub lt_false : (a b : ℕ) → b ≤ a → nat_lt a b ≡ false
lt_false a b h = grind (arith, nat_tests)

pub run_one : (l : Left) (b : ℕ) → run l (b ∷ []) ≡ step l b
run_one l b = ap (λ t. record { left = (step l b).left; told = t }) (append-nil (step l b).told)

count_after_more : (taken a b : ℕ) → count_after (count_after taken a) b ≡ count_after taken (a + b)
count_after_more taken a b = omega arith

-- a byte of data
step_data : (taken lacks b : ℕ) (last : Bool) (joined : List ℕ) →
    step (stands taken (InData lacks last joined)) b ≡ in_fragment (count_after taken 1) (lacks - 1) last
    (joined ++ b ∷ [])
unfolding step
step_data taken lacks b last joined = refl

-- a fragment that lacks more
pub stays : (taken n : ℕ) (last : Bool) (joined : List ℕ) → 0 < n → in_fragment taken n last joined
    ≡ quiet taken (InData n last joined)
stays taken n last joined h = rw (lt_true 0 n h) refl

-- bytes of data at once
pub run_data : (taken lacks n : ℕ) (last : Bool) (joined : List ℕ) (b : ℕ) (bs : List ℕ) → lacks
    ≡ n + suc (length bs) →
    run (stands taken (InData lacks last joined)) (b ∷ bs)
    ≡ in_fragment (count_after taken (suc (length bs))) n last (joined ++ (b ∷ bs))
run_data taken lacks n last joined b [] e =
    run_one (stands taken (InData lacks last joined)) b ∙ step_data taken lacks b last joined
    ∙ ap (λ t. in_fragment (count_after taken 1) t last (joined ++ b ∷ [])) (omega arith)
run_data taken lacks n last joined b (c ∷ bs) e =
    let some : 0 < lacks - 1 = omega arith in
    let first : step (stands taken (InData lacks last joined)) b
    ≡ quiet (count_after taken 1) (InData (lacks - 1) last (joined ++ b ∷ [])) =
    step_data taken lacks b last joined ∙ stays (count_after taken 1) (lacks - 1) last (joined ++ b ∷ [])
    some in
    let next = run_data (count_after taken 1) (lacks - 1) n last (joined ++ b ∷ []) c bs (omega arith) in
    ap (λ (m : Moved). record { left = after m.left (c ∷ bs); told = m.told ++ told m.left (c ∷ bs) }) first
    ∙ next
    ∙ ap (λ t. in_fragment t n last ((joined ++ b ∷ []) ++ (c ∷ bs)))
    (count_after_more taken 1 (suc (length bs)) ∙ ap (count_after taken) (omega arith))
    ∙ ap (in_fragment (count_after taken (suc (suc (length bs)))) n last)
    (append_assoc joined (b ∷ []) (c ∷ bs))

-- fewer bytes than a fragment lacks make no record whole
pub told_short : (taken lacks : ℕ) (last : Bool) (joined bs : List ℕ) → length bs < lacks →
    told (stands taken (InData lacks last joined)) bs ≡ []
told_short taken lacks last joined [] h = refl
told_short taken lacks last joined (b ∷ bs) h =
    let n : ℕ = lacks - suc (length bs) in
    ap (λ (m : Moved). m.told) (run_data taken lacks (lacks - suc (length bs)) last joined b bs (omega arith)
    ∙ stays (count_after taken (suc (length bs))) (lacks - suc (length bs)) last (joined ++ (b ∷ bs))
    (omega arith))

-- the joined data of the open record, where what isn't open is clear
data_by : (is_open : Bool) (joined : List ℕ) → (is_open ≡ false → joined ≡ []) →
    data_of (if is_open then Some joined else None) ≡ joined
data_by true joined h = refl
data_by false joined h = sym (h refl)

pub step_header : (taken b : ℕ) (header : List ℕ) (joined : Option (List ℕ)) →
    step (stands taken (InHeader header joined)) b ≡ in_header (count_after taken 1) (header ++ b ∷ []) joined
unfolding step
step_header taken b header joined = refl

-- a byte of a header that is not its last
pub step_begun : (taken b count : ℕ) (bytes : List ℕ) (joined : Option (List ℕ)) → length bytes ≡ 4 →
    count + 1 < 4 →
    step (stands taken (InHeader (take count bytes) joined)) b
    ≡ quiet (count_after taken 1) (InHeader (take (count + 1) (slice_set bytes count b)) joined)
step_begun taken b count bytes joined len lt =
    let e : take (count + 1) (slice_set bytes count b) ≡ take count bytes ++ b ∷ [] =
    take_more_set bytes count b (omega arith) in
    let short : length (take (count + 1) (slice_set bytes count b)) < 4 = simp length-take (omega arith) in
    step_header taken b (take count bytes) joined ∙ ap (λ t. in_header (count_after taken 1) t joined) (sym e)
    ∙ rw (lt_true _ 4 short) refl

-- the last byte of a header
pub step_whole : (taken b count : ℕ) (bytes joined : List ℕ) (is_open : Bool) → length bytes ≡ 4 → count + 1
    ≡ 4 → (is_open ≡ false → joined ≡ []) →
    step (stands taken (InHeader (take count bytes) (if is_open then Some joined else None))) b
    ≡ behind_header (count_after taken 1) (from_be_bytes w32 (slice_set bytes count b)) joined
step_whole taken b count bytes joined is_open len at clear =
    let set_len : length (slice_set bytes count b) ≡ 4 = length-set bytes count b ∙ len in
    let e : take (count + 1) (slice_set bytes count b) ≡ take count bytes ++ b ∷ [] =
    take_more_set bytes count b (omega arith) in
    let all : slice_set bytes count b ≡ take count bytes ++ b ∷ [] =
    sym (take_all (count + 1) (slice_set bytes count b) (omega arith)) ∙ e in
    step_header taken b (take count bytes) (if is_open then Some joined else None)
    ∙ ap (λ t. in_header (count_after taken 1) t (if is_open then Some joined else None)) (sym all)
    ∙ rw (lt_false (length (slice_set bytes count b)) 4 (omega arith))
    (ap (behind_header (count_after taken 1) (from_be_bytes w32 (slice_set bytes count b)))
    (data_by is_open joined clear))

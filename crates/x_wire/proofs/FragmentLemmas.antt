-- The fragments of a stream, and what its bytes leave one by one.
use Rattle.std.proofs.Common.{◌≡◌, ℕ, zero, suc, ◌+◌, ◌-◌, ◌%◌, ◌^◌, ◌<◌, ◌≤◌, inl, inr, Bool}
use Rattle.std.proofs.Common.{true, false, List, [], ◌∷◌, ◌++◌, length, take, drop, get_or, refl, sym, ap}
use Rattle.std.proofs.Common.{subst, ◌∙◌, append_assoc, arith}
use Rattle.std.specs.Prelude.{nat_lt, nat_le, Option, Some, None, if◌then◌else◌, All}
use Rattle.std.specs.Int.{from_be_bytes, to_be_bytes, w32}
use Rattle.std.proofs.lemmas.List.{append-nil, length-take, length-drop, length-append, take-append-drop}
use Rattle.std.proofs.lemmas.List.{get_or_past}
use Rattle.std.proofs.lemmas.List.Elements.{All-get_or, All-take, All-drop}
use Rattle.std.proofs.lemmas.Nat.{be_bytes_4, from_be_bytes-to_be_bytes_4}
use Rattle.std.proofs.lemmas.Bool.{cases_lt}
use Rattle.std.proofs.lemmas.Bool.Decides.{nat_tests}
use Rattle.x_wire.specs.Limits.{most_record}
use Rattle.x_wire.specs.Limits.{last_bit}
use Rattle.x_wire.specs.Records.{InHeader, InData, TooLong, Left, Moved, count_after, data_of, quiet}
use Rattle.x_wire.specs.Records.{in_fragment, behind_header, step, after, told, left}
use Rattle.x_wire.specs.Records.{records, nothing_left}
use Rattle.x_wire.specs.Fragments.{header, Frames, ends_in_header, ends_too_long, ends_in_data, fragment}
use Rattle.x_wire.specs.Fragments.{last_fragment}
use Rattle.x_wire.proofs.Moves.{stands, run, run_one, run_data, stays, step_header, lt_true, lt_false}
use Rattle.x_wire.proofs.Framed.{after_append, told_append}

-- a move, and then one from what it leaves
abbrev pub then_run : Moved → List ℕ → Moved
then_run m bs = record { left = after m.left bs; told = m.told ++ told m.left bs }

pub run_append : (l : Left) (a b : List ℕ) → run l (a ++ b) ≡ then_run (run l a) b
run_append l a b =
    ap (λ t. record { left = t; told = told l (a ++ b) }) (after_append l a b)
    ∙ ap (λ t. record { left = after (after l a) b; told = t }) (told_append l a b)

run_cons : (l : Left) (b : ℕ) (bs : List ℕ) → run l (b ∷ bs) ≡ then_run (step l b) bs
run_cons l b bs = refl

-- a byte that leaves a header open
step_short : (taken b : ℕ) (bytes : List ℕ) (joined : Option (List ℕ)) → taken + 1 < 2 ^ 64 →
    length (bytes ++ b ∷ []) < 4 →
    step (stands taken (InHeader bytes joined)) b ≡ quiet (taken + 1) (InHeader (bytes ++ b ∷ []) joined)
step_short taken b bytes joined room short =
    step_header taken b bytes joined ∙ rw (lt_true (length (bytes ++ b ∷ [])) 4 short)
    (ap (λ t. quiet t (InHeader (bytes ++ b ∷ []) joined)) (omega arith))

-- a byte that makes a header whole
step_full : (taken b : ℕ) (bytes : List ℕ) (joined : Option (List ℕ)) → taken + 1 < 2 ^ 64 →
    4 ≤ length (bytes ++ b ∷ []) →
    step (stands taken (InHeader bytes joined)) b ≡ behind_header (taken + 1)
    (from_be_bytes w32 (bytes ++ b ∷ [])) (data_of joined)
step_full taken b bytes joined room full =
    step_header taken b bytes joined ∙ rw (lt_false (length (bytes ++ b ∷ [])) 4 full)
    (ap (λ t. behind_header t (from_be_bytes w32 (bytes ++ b ∷ [])) (data_of joined)) (omega arith))

-- bytes that leave a header open
pub run_short : (taken : ℕ) (bytes bs : List ℕ) (joined : Option (List ℕ)) → taken + length bs < 2 ^ 64 →
    length bytes + length bs < 4 →
    run (stands taken (InHeader bytes joined)) bs ≡ quiet (taken + length bs) (InHeader (bytes ++ bs) joined)
run_short taken bytes [] joined room short =
    ap (λ t. quiet t (InHeader bytes joined)) (omega arith)
    ∙ ap (λ t. quiet (taken + 0) (InHeader t joined)) (sym (append-nil bytes))
run_short taken bytes (b ∷ bs) joined room short =
    let len = length-append bytes (b ∷ []) in
    run_cons (stands taken (InHeader bytes joined)) b bs
    ∙ ap (λ m. then_run m bs) (step_short taken b bytes joined (omega arith) (omega arith))
    ∙ run_short (taken + 1) (bytes ++ b ∷ []) bs joined (omega arith) (omega arith)
    ∙ ap (λ t. quiet t (InHeader ((bytes ++ b ∷ []) ++ bs) joined)) (omega arith)
    ∙ ap (λ t. quiet (taken + suc (length bs)) (InHeader t joined)) (append_assoc bytes (b ∷ []) bs)

-- bytes that make a header whole
pub run_full : (taken : ℕ) (bytes bs : List ℕ) (joined : Option (List ℕ)) → taken + length bs < 2 ^ 64 →
    length bytes < 4 → length bytes + length bs ≡ 4 →
    run (stands taken (InHeader bytes joined)) bs ≡ behind_header (taken + length bs)
    (from_be_bytes w32 (bytes ++ bs)) (data_of joined)
run_full taken bytes [] joined room short full = absurd (omega arith)
run_full taken bytes (b ∷ []) joined room short full =
    let len = length-append bytes (b ∷ []) in
    run_one (stands taken (InHeader bytes joined)) b ∙ step_full taken b bytes joined (omega arith)
    (omega arith)
run_full taken bytes (b ∷ c ∷ bs) joined room short full =
    let len = length-append bytes (b ∷ []) in
    run_cons (stands taken (InHeader bytes joined)) b (c ∷ bs)
    ∙ ap (λ m. then_run m (c ∷ bs)) (step_short taken b bytes joined (omega arith) (omega arith))
    ∙ run_full (taken + 1) (bytes ++ b ∷ []) (c ∷ bs) joined (omega arith) (omega arith) (omega arith)
    ∙ ap (λ t. behind_header t (from_be_bytes w32 ((bytes ++ b ∷ []) ++ (c ∷ bs))) (data_of joined))
    (omega arith)
    ∙ ap (λ t. behind_header (taken + suc (suc (length bs))) (from_be_bytes w32 t) (data_of joined))
    (append_assoc bytes (b ∷ []) (c ∷ bs))

-- the number of a header
abbrev pub number_of : Bool → ℕ → ℕ
number_of last size = (if last then last_bit else 0) + size

number_below : (last : Bool) (size : ℕ) → size < 2 ^ 31 → number_of last size < 2 ^ 32
number_below true size h = omega arith
number_below false size h = omega arith

number_size : (last : Bool) (size : ℕ) → size < 2 ^ 31 → number_of last size % last_bit ≡ size
number_size true size h = omega arith
number_size false size h = omega arith

le_true : (a b : ℕ) → a ≤ b → nat_le a b ≡ true
le_true a b h = grind (arith, nat_tests)

le_false : (a b : ℕ) → b < a → nat_le a b ≡ false
le_false a b h = grind (arith, nat_tests)

number_last : (last : Bool) (size : ℕ) → size < 2 ^ 31 → nat_le last_bit (number_of last size) ≡ last
number_last true size h = le_true last_bit (last_bit + size) (omega arith)
number_last false size h = le_false last_bit (0 + size) (omega arith)

-- a header of a record that stays within the limit
fits : (taken : ℕ) (last : Bool) (size : ℕ) (joined : List ℕ) → size < 2 ^ 31 →
    length joined + size ≤ most_record →
    behind_header taken (number_of last size) joined ≡ in_fragment taken size last joined
fits taken last size joined small fit =
    ap (λ n. if nat_lt most_record (length joined + n) then quiet taken (TooLong (taken - 4)) else in_fragment
    taken n (nat_le last_bit (number_of last size)) joined) (number_size last size small)
    ∙ ap (λ b. if b then quiet taken (TooLong (taken - 4)) else in_fragment taken size
    (nat_le last_bit (number_of last size)) joined) (lt_false most_record (length joined + size) fit)
    ∙ ap (λ b. in_fragment taken size b joined) (number_last last size small)

-- a header that takes its record over the limit
overflows : (taken : ℕ) (last : Bool) (size : ℕ) (joined : List ℕ) → size < 2 ^ 31 →
    most_record < length joined + size →
    behind_header taken (number_of last size) joined ≡ quiet taken (TooLong (taken - 4))
overflows taken last size joined small over =
    ap (λ n. if nat_lt most_record (length joined + n) then quiet taken (TooLong (taken - 4)) else in_fragment
    taken n (nat_le last_bit (number_of last size)) joined) (number_size last size small)
    ∙ ap (λ b. if b then quiet taken (TooLong (taken - 4)) else in_fragment taken size
    (nat_le last_bit (number_of last size)) joined) (lt_true most_record (length joined + size) over)

-- a whole header
run_header : (taken : ℕ) (joined : Option (List ℕ)) (last : Bool) (size : ℕ) → taken + 4 < 2 ^ 64 →
    size < 2 ^ 31 →
    run (stands taken (InHeader [] joined)) (header last size)
    ≡ behind_header (taken + 4) (number_of last size) (data_of joined)
run_header taken joined last size room small =
    run_full taken [] (header last size) joined room (omega arith) refl
    ∙ ap (λ n. behind_header (taken + 4) n (data_of joined))
    (from_be_bytes-to_be_bytes_4 (number_of last size) (number_below last size small))

-- ---- what a stream of these fragments leaves

then_run_append : (m : Moved) (a b : List ℕ) → then_run m (a ++ b) ≡ then_run (then_run m a) b
then_run_append m a b =
    ap (λ t. record { left = t; told = m.told ++ told m.left (a ++ b) }) (after_append m.left a b)
    ∙ ap (λ t. record { left = after (after m.left a) b; told = m.told ++ t }) (told_append m.left a b)
    ∙ ap (λ t. record { left = after (after m.left a) b; told = t })
    (sym (append_assoc m.told (told m.left a) (told (after m.left a) b)))

step_long : (taken at b : ℕ) → step (stands taken (TooLong at)) b ≡ quiet taken (TooLong at)
unfolding step
step_long taken at b = refl

-- behind a header that takes its record over the limit no byte counts
pub run_long : (taken at : ℕ) (bs : List ℕ) → run (stands taken (TooLong at)) bs ≡ quiet taken (TooLong at)
run_long taken at [] = refl
run_long taken at (b ∷ bs) =
    run_cons (stands taken (TooLong at)) b bs ∙ ap (λ m. then_run m bs) (step_long taken at b)
    ∙ run_long taken at bs

count_after_in : (taken more : ℕ) → taken + more < 2 ^ 64 → count_after taken more ≡ taken + more
count_after_in taken more h = omega arith

-- all the data of a fragment
run_fragment : (taken : ℕ) (last : Bool) (joined bytes : List ℕ) → taken + length bytes < 2 ^ 64 →
    then_run (in_fragment taken (length bytes) last joined) bytes
    ≡ in_fragment (taken + length bytes) 0 last (joined ++ bytes)
run_fragment taken last joined [] room =
    ap (λ t. record { left = (in_fragment taken 0 last joined).left; told = t })
    (append-nil (in_fragment taken 0 last joined).told)
    ∙ ap (λ t. in_fragment t 0 last joined) (omega arith)
    ∙ ap (in_fragment (taken + 0) 0 last) (sym (append-nil joined))
run_fragment taken last joined (b ∷ bs) room =
    ap (λ m. then_run m (b ∷ bs)) (stays taken (suc (length bs)) last joined (omega arith))
    ∙ run_data taken (suc (length bs)) 0 last joined b bs (omega arith)
    ∙ ap (λ t. in_fragment t 0 last (joined ++ (b ∷ bs))) (count_after_in taken (suc (length bs)) room)

-- some of the data of a fragment
run_part : (taken size : ℕ) (last : Bool) (joined bytes : List ℕ) → taken + length bytes < 2 ^ 64 →
    length bytes < size →
    run (stands taken (InData size last joined)) bytes ≡ quiet (taken + length bytes)
    (InData (size - length bytes) last (joined ++ bytes))
run_part taken size last joined [] room some =
    ap (λ t. quiet t (InData size last joined)) (omega arith)
    ∙ ap (λ t. quiet (taken + 0) (InData t last joined)) (omega arith)
    ∙ ap (λ t. quiet (taken + 0) (InData (size - 0) last t)) (sym (append-nil joined))
run_part taken size last joined (b ∷ bs) room some =
    run_data taken size (size - suc (length bs)) last joined b bs (omega arith)
    ∙ ap (λ t. in_fragment t (size - suc (length bs)) last (joined ++ (b ∷ bs)))
    (count_after_in taken (suc (length bs)) room)
    ∙ stays (taken + suc (length bs)) (size - suc (length bs)) last (joined ++ (b ∷ bs)) (omega arith)

run_behind : (taken : ℕ) (joined : Option (List ℕ)) (last : Bool) (size : ℕ) (rest : List ℕ) →
    taken + 4 < 2 ^ 64 → size < 2 ^ 31 →
    run (stands taken (InHeader [] joined)) (header last size ++ rest)
    ≡ then_run (behind_header (taken + 4) (number_of last size) (data_of joined)) rest
run_behind taken joined last size rest room small =
    run_append (stands taken (InHeader [] joined)) (header last size) rest
    ∙ ap (λ m. then_run m rest) (run_header taken joined last size room small)

-- a whole fragment
run_whole : (taken : ℕ) (joined : Option (List ℕ)) (last : Bool) (bytes rest : List ℕ) →
    taken + 4 + length bytes < 2 ^ 64 → length (data_of joined) + length bytes ≤ most_record →
    run (stands taken (InHeader [] joined)) (header last (length bytes) ++ (bytes ++ rest))
    ≡ then_run (in_fragment (taken + 4 + length bytes) 0 last (data_of joined ++ bytes)) rest
run_whole taken joined last bytes rest room fit =
    run_behind taken joined last (length bytes) (bytes ++ rest) (omega arith) (omega arith)
    ∙ ap (λ m. then_run m (bytes ++ rest)) (fits (taken + 4) last (length bytes) (data_of joined)
    (omega arith) fit)
    ∙ then_run_append (in_fragment (taken + 4) (length bytes) last (data_of joined)) bytes rest
    ∙ ap (λ m. then_run m rest) (run_fragment (taken + 4) last (data_of joined) bytes room)

pub run_frames : {at : ℕ} {joined : Option (List ℕ)} {stream : List ℕ} {rs : List (List ℕ)} {l : Left} →
    Frames at joined stream rs l → at + length stream < 2 ^ 63 →
    run (stands at (InHeader [] joined)) stream ≡ record { left = l; told = rs }
run_frames (ends_in_header {at =
    at} {joined = joined} {bytes = bytes} short) room = run_short at [] bytes joined (omega arith)
    (omega arith)
run_frames (ends_too_long {at = at} {joined = joined} last size rest small over) room =
    run_behind at joined last size rest (omega arith) small
    ∙ ap (λ m. then_run m rest) (overflows (at + 4) last size (data_of joined) small over)
    ∙ run_long (at + 4) (at + 4 - 4) rest ∙ ap (λ t. quiet (at + 4) (TooLong t)) (omega arith)
run_frames (ends_in_data {at = at} {joined = joined} last size bytes part fit) room =
    run_behind at joined last size bytes (omega arith) (omega arith)
    ∙ ap (λ m. then_run m bytes) (fits (at + 4) last size (data_of joined) (omega arith) fit
    ∙ stays (at + 4) size last (data_of joined) (omega arith))
    ∙ run_part (at + 4) size last (data_of joined) bytes (omega arith) part
run_frames (fragment {at = at} {joined = joined} bytes stream fit frames) room =
    let len = length-append bytes stream in
    run_whole at joined false bytes stream (omega arith) fit ∙ run_frames frames (omega arith)
run_frames (last_fragment {at = at} {joined = joined} bytes stream fit frames) room =
    let len = length-append bytes stream in
    run_whole at joined true bytes stream (omega arith) fit
    ∙ ap (λ (m : Moved). record { left = m.left; told = (data_of joined ++ bytes) ∷ m.told })
    (run_frames frames (omega arith))

-- ---- each stream is fragments

abbrev pub SomeFrames : ℕ → Option (List ℕ) → List ℕ → Type 0
SomeFrames at joined stream = (rs : List (List ℕ)) × (l : Left) × Frames at joined stream rs l

below_at : (h : List ℕ) (i : ℕ) → All (λ b. b < 256) h → get_or h i 0 < 256
below_at h i all =
    elim (cases_lt i (length h)) [
      | inl lt ↦ All-get_or (λ b. b < 256) h i 0 lt all
      | inr past ↦ rw
          (get_or_past h i 0 past) (omega arith)
    ]

number_fits : (h : List ℕ) → All (λ b. b < 256) h → from_be_bytes w32 h < 2 ^ 32
number_fits h all = omega (arith, below_at h 0 all, below_at h 1 all, below_at h 2 all, below_at h 3 all)

-- four bytes are a header
header_of : (h : List ℕ) → length h ≡ 4 → All (λ b. b < 256) h →
    (last : Bool) × (size : ℕ) × (size < 2 ^ 31) × (header last size ≡ h)
header_of h len all =
    let n : ℕ = from_be_bytes w32 h in
    let below = number_fits h all in
    let spelled = be_bytes_4 h (from_be_bytes w32 h) len (λ i. below_at h i all) refl in
    elim (cases_lt (from_be_bytes w32 h) (2 ^ 31)) [
      | inl small ↦ (false, from_be_bytes w32 h, small, ap (to_be_bytes w32) (omega arith) ∙ spelled)
      | inr large ↦ (
        true,
        from_be_bytes w32 h - 2 ^ 31,
        omega arith,
        ap (to_be_bytes w32) (omega arith)
            ∙ spelled,
      )
    ]

-- streams that are no longer are fragments
abbrev Goes : List ℕ → Type 0
Goes rest =
    (at : ℕ) (joined : Option (List ℕ)) (stream : List ℕ) → length stream ≤ length rest →
    All (λ b. b < 256) stream → SomeFrames at joined stream

whole_frames : (at : ℕ) (joined : Option (List ℕ)) (last : Bool) (size : ℕ) (rest : List ℕ) →
    size ≤ length rest → length (data_of joined) + size ≤ most_record → All (λ b. b < 256) rest → Goes rest →
    SomeFrames at joined (header last size ++ rest)
whole_frames at joined last size rest le fit all goes =
    let len : length (take size rest) ≡ size = length-take size rest ∙ omega arith in
    let e : header last (length (take size rest)) ++ (take size rest ++ drop size rest)
    ≡ header last size ++ rest =
    ap (λ n. header last n ++ (take size rest ++ drop size rest)) len
    ∙ ap (λ t. header last size ++ t) (take-append-drop size rest) in
    let within : length (data_of joined) + length (take size rest) ≤ most_record = omega arith in
    let shorter : length (drop size rest) ≤ length rest = simp length-drop (omega arith) in
    let all' = All-drop (λ b. b < 256) size rest all in
    subst (SomeFrames at joined) e
    (elim last as (λ b. SomeFrames at joined (header b (length (take size rest)) ++ (take size rest ++ drop
    size rest))) [
      | true ↦ (let r = goes (at + 4 + length (take size rest)) None (drop size rest) shorter all' in (
        (data_of joined ++ take size rest) ∷ r.0,
        r.1,
        last_fragment (take size rest) (drop size rest) within
            r.2,
      ))
      | false ↦ (let r = goes (at + 4 + length (take size rest)) (Some (data_of joined ++ take size rest))
          (drop size rest) shorter all' in
          (r.0, r.1, fragment (take size rest) (drop size rest) within r.2))
    ])

header_frames : (at : ℕ) (joined : Option (List ℕ)) (last : Bool) (size : ℕ) (rest : List ℕ) → size < 2 ^ 31 →
    All (λ b. b < 256) rest → Goes rest → SomeFrames at joined (header last size ++ rest)
header_frames at joined last size rest small all goes =
    elim (cases_lt most_record (length (data_of joined) + size)) [
      | inl over ↦ ([], stands (at + 4) (TooLong at), ends_too_long last size rest small over)
      | inr fit ↦ elim (cases_lt (length rest) size) [
        | inl part ↦ (
          [],
          record {
            taken = at + 4 + length rest;
            phase =
                InData (size - length rest) last (data_of joined ++ rest);
          },
          ends_in_data last size rest part fit,
        )
        | inr le ↦ whole_frames at joined last size rest le fit all goes
      ]
    ]

next_frames : (at : ℕ) (joined : Option (List ℕ)) (stream : List ℕ) → All (λ b. b < 256) stream →
    (4 ≤ length stream → Goes (drop 4 stream)) → SomeFrames at joined stream
next_frames at joined stream all goes =
    elim (cases_lt (length stream) 4) [
      | inl short ↦ (
        [],
        record { taken = at + length stream; phase = InHeader stream joined },
        ends_in_header
            short,
      )
      | inr long ↦ (let len : length (take 4 stream) ≡ 4 = length-take 4 stream ∙ omega arith in
          let h = header_of (take 4 stream) len (All-take (λ b. b < 256) 4 stream all) in
          subst (SomeFrames at joined) (ap (λ t. t ++ drop 4 stream) h.3 ∙ take-append-drop 4 stream)
          (header_frames at joined h.0 h.1 (drop 4 stream) h.2 (All-drop (λ b. b < 256) 4 stream all)
          (goes long)))
    ]

frames_within : (most at : ℕ) (joined : Option (List ℕ)) (stream : List ℕ) → length stream ≤ most →
    All (λ b. b < 256) stream → SomeFrames at joined stream
frames_within zero at joined stream le all = next_frames at joined stream all (λ long. absurd (omega arith))
frames_within (suc most) at joined stream le all =
    next_frames at joined stream all (λ long at' joined' stream' shorter all'.
    frames_within most at' joined' stream' (let d = length-drop 4 stream in omega arith) all')

-- ---- the law

-- a stream has the records and leaves what its fragments say
pub one_reading : (stream : List ℕ) (rs : List (List ℕ)) (l : Left) → length stream < 2 ^ 63 →
    Frames 0 None stream rs l → (rs ≡ records stream) × (l ≡ left stream)
one_reading stream rs l room frames =
    let e : run nothing_left stream ≡ record { left = l; told = rs } = run_frames frames (omega arith) in
    (sym (ap (λ (m : Moved). m.told) e), sym (ap (λ (m : Moved). m.left) e))

-- each stream of bytes is fragments
pub some_reading : (stream : List ℕ) → All (λ b. b < 256) stream → length stream < 2 ^ 63 →
    Frames 0 None stream (records stream) (left stream)
some_reading stream all room =
    let some = frames_within (length stream) 0 None stream (omega arith) all in
    let one = one_reading stream some.0 some.1 room some.2 in
    subst (λ r. Frames 0 None stream r (left stream)) one.0
    (subst (λ l. Frames 0 None stream some.0 l) one.1 some.2)

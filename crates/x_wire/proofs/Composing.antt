-- Calls of `feed` one after another, and the end of a stream.
-- A reader keeps `IsStreamSoFar stream given kept`: the
-- bytes that it fed so far are the stream, the records that it was answered are those of the stream, and what
-- its `Records` keeps is what the stream leaves.
use Rattle.std.proofs.Common.{◌≡◌, ℕ, ◌+◌, ◌-◌, List, [], ◌∷◌, ◌++◌, length, take, drop, refl, sym}
use Rattle.std.proofs.Common.{ap, subst, ◌∙◌, append_assoc, take-add, arith}
use Rattle.std.specs.Prelude.{Option, Some, None}
use Rattle.std.proofs.lemmas.List.{append-nil, take_all, take_rest, take-append-drop}
use Rattle.x_wire.specs.Records.{Phase, InHeader, InData, TooLong, Left, Moved, quiet, told}
use Rattle.x_wire.specs.Records.{left, records, nothing_left}
use Rattle.x_wire.specs.RecordFaults.{fault_at, end_at, end_fault}
use Rattle.x_wire.specs.Framing.{Leads, in_list, Feeds, Overflows, IsStreamSoFar}
use Rattle.x_wire.proofs.Moves.{stands, run}
use Rattle.x_wire.proofs.FragmentLemmas.{run_long}
use Rattle.x_wire.proofs.Feeding.{left_append, records_append}

-- nothing was fed
pub read_none : IsStreamSoFar [] [] nothing_left
read_none = record { left_is = refl; records_are = refl }

-- bytes lead a stream on
pub read_led : (stream bytes : List ℕ) (given whole : List (List ℕ)) (old new : Left) →
    IsStreamSoFar stream given old → Leads old bytes new whole →
    IsStreamSoFar (stream ++ bytes) (given ++ whole) new
read_led stream bytes given whole old new read leads = record {
  left_is = (leads stream read.left_is).0;
  records_are = (leads stream read.left_is).1 ∙ ap (λ r. r ++ whole) read.records_are;
}

-- `feed` answered a record
pub read_whole : (stream piece : List ℕ) (given : List (List ℕ)) (used : ℕ) (whole : List ℕ)
    (old new : Left) → IsStreamSoFar stream given old → Feeds old piece used (Some whole) new →
    IsStreamSoFar (stream ++ take used piece) (given ++ whole ∷ []) new
read_whole stream piece given used whole old new read feeds =
    read_led stream (take used piece) given (whole ∷ []) old new read feeds.leads

-- `feed` answered no record
pub read_piece : (stream piece : List ℕ) (given : List (List ℕ)) (used : ℕ) (old new : Left) →
    IsStreamSoFar stream given old → Feeds old piece used None new →
    IsStreamSoFar (stream ++ piece) given new
read_piece stream piece given used old new read feeds =
    let all : take used piece ≡ piece = let e = feeds.all refl in take_all used piece (omega arith) in
    subst (λ g. IsStreamSoFar (stream ++ piece) g new) (append-nil given)
    (subst (λ p. IsStreamSoFar (stream ++ p) (given ++ []) new) all
    (read_led stream (take used piece) given [] old new read feeds.leads))

-- the rest of a block, from its byte i on, was fed: as a slice is seen
block_at : (stream block : List ℕ) (i used : ℕ) → (stream ++ take i block) ++ take used
    (take (length block - i) (drop i block)) ≡ stream ++ take (i + used) block
block_at stream block i used =
    append_assoc stream (take i block) (take used (take (length block - i) (drop i block)))
    ∙ ap (λ t. stream ++ (take i block ++ take used t)) (take_rest block i)
    ∙ ap (λ t. stream ++ t) (sym (take-add i used block))

-- the same, whether `feed` answered a record or not
pub block_led : (stream block : List ℕ) (given : List (List ℕ)) (i used : ℕ) (whole : Option (List ℕ))
    (old new : Left) → IsStreamSoFar (stream ++ take i block) given old →
    Feeds old (take (length block - i) (drop i block)) used whole new →
    IsStreamSoFar (stream ++ take (i + used) block) (given ++ in_list whole) new
block_led stream block given i used whole old new read feeds =
    subst (λ s. IsStreamSoFar s (given ++ in_list whole) new) (block_at stream block i used)
    (read_led (stream ++ take i block) (take used (take (length block - i) (drop i block))) given
    (in_list whole) old new read feeds.leads)

-- `feed` answered a record of the rest of a block
pub block_whole : (stream block : List ℕ) (given : List (List ℕ)) (i used : ℕ) (whole : List ℕ)
    (old new : Left) → IsStreamSoFar (stream ++ take i block) given old →
    Feeds old (take (length block - i) (drop i block)) used (Some whole) new →
    IsStreamSoFar (stream ++ take (i + used) block) (given ++ whole ∷ []) new
block_whole stream block given i used whole old new read feeds =
    subst (λ s. IsStreamSoFar s (given ++ whole ∷ []) new) (block_at stream block i used)
    (read_whole (stream ++ take i block) (take (length block - i) (drop i block)) given used whole old new
    read feeds)

-- `feed` answered no record of the rest of a block
pub block_rest : (stream block : List ℕ) (given : List (List ℕ)) (i used : ℕ) (old new : Left) →
    IsStreamSoFar (stream ++ take i block) given old →
    Feeds old (take (length block - i) (drop i block)) used None new
    → IsStreamSoFar (stream ++ block) given new
block_rest stream block given i used old new read feeds =
    let e : (stream ++ take i block) ++ take (length block - i) (drop i block) ≡ stream ++ block =
    append_assoc stream (take i block) (take (length block - i) (drop i block))
    ∙ ap (λ t. stream ++ (take i block ++ t)) (take_rest block i)
    ∙ ap (λ t. stream ++ t) (take-append-drop i block) in
    subst (λ s. IsStreamSoFar s given new) e (read_piece (stream ++ take i block)
    (take (length block - i) (drop i block)) given used old new read feeds)

-- ---- the end of a stream

-- the records of a front are a front of the records
pub records_front : (stream more : List ℕ) → (rest : List (List ℕ)) × (records (stream ++ more)
    ≡ records stream ++ rest)
records_front stream more = (told (left stream) more, records_append stream more)

phase_fault : (phase : Phase) (taken at : ℕ) (bytes : List ℕ) → fault_at phase ≡ Some at →
    run (stands taken phase) bytes ≡ quiet taken phase
phase_fault (InHeader header joined) taken at bytes h = absurd (cc)
phase_fault (InData lacks last joined) taken at bytes h = absurd (cc)
phase_fault (TooLong place) taken at bytes h = run_long taken place bytes

none_of : (o : Option ℕ) → ((at : ℕ) → o ≡ Some at → ⊥) → o ≡ None
none_of None h = refl
none_of (Some at) h = absurd (h at refl)

phase_rest : (phase : Phase) (taken : ℕ) → end_at phase taken ≡ None → phase ≡ InHeader [] None
phase_rest (InHeader [] None) taken h = refl
phase_rest (InHeader [] (Some joined)) taken h = absurd (cc)
phase_rest (InHeader (b ∷ bs) joined) taken h = absurd (cc)
phase_rest (InData lacks last joined) taken h = absurd (cc)
phase_rest (TooLong at) taken h = absurd (cc)

run_fault : (l : Left) (at : ℕ) (bytes : List ℕ) → fault_at l.phase ≡ Some at → run l bytes
    ≡ quiet l.taken l.phase
run_fault l at bytes h = phase_fault l.phase l.taken at bytes h

-- behind a header that takes its record over the limit nothing counts
pub fault_stays : (stream more : List ℕ) (at : ℕ) → fault_at (left stream).phase ≡ Some at →
    (left (stream ++ more) ≡ left stream) × (records (stream ++ more) ≡ records stream)
fault_stays stream more at h =
    let e = run_fault (left stream) at more h in (
      left_append stream more ∙ ap (λ (m : Moved). m.left) e,
      records_append stream more ∙ ap (λ (m : Moved). records stream ++ m.told) e
          ∙ append-nil (records stream),
    )

-- a fault came where a front has it
pub no_fault_front : (stream more : List ℕ) → fault_at (left (stream ++ more)).phase ≡ None →
    fault_at (left stream).phase ≡ None
no_fault_front stream more h =
    none_of (fault_at (left stream).phase) (λ at e. let s =
    ap (λ (l : Left). fault_at l.phase) (fault_stays stream more at e).0 in cc)

-- `feed` answered that a record is too long: whatever follows, the stream has these records and this fault
pub read_refused : (stream piece more : List ℕ) (given : List (List ℕ)) (at : ℕ) (old new : Left) →
    IsStreamSoFar stream given old → Overflows old piece at new →
    IsStreamSoFar (stream ++ (piece ++ more)) given new × (fault_at new.phase ≡ Some at)
read_refused stream piece more given at old new read over =
    let front : IsStreamSoFar (stream ++ take over.used piece) given new =
    subst (λ g. IsStreamSoFar (stream ++ take over.used piece) g new) (append-nil given)
    (read_led stream (take over.used piece) given [] old new read over.leads) in
    let fault : fault_at (left (stream ++ take over.used piece)).phase
    ≡ Some at = ap (λ (l : Left). fault_at l.phase) front.left_is ∙ over.fault in
    let stays = fault_stays (stream ++ take over.used piece) (drop over.used piece ++ more) at fault in
    let e : (stream ++ take over.used piece) ++ (drop over.used piece ++ more) ≡ stream ++ (piece ++ more) =
    append_assoc stream (take over.used piece) (drop over.used piece ++ more)
    ∙ ap (λ t. stream ++ t) (sym (append_assoc (take over.used piece) (drop over.used piece) more)
    ∙ ap (λ t. t ++ more) (take-append-drop over.used piece)) in (
      subst (λ s. IsStreamSoFar s given new) e (record {
        left_is = stays.0 ∙ front.left_is;
        records_are = stays.1
            ∙ front.records_are;
      }),
      over.fault,
    )

-- the same of the rest of a block
pub block_refused : (stream block more : List ℕ) (given : List (List ℕ)) (i at : ℕ) (old new : Left) →
    IsStreamSoFar (stream ++ take i block) given old →
    Overflows old (take (length block - i) (drop i block)) at new →
    IsStreamSoFar (stream ++ (block ++ more)) given new × (fault_at new.phase ≡ Some at)
block_refused stream block more given i at old new read over =
    let r = read_refused (stream ++ take i block) (take (length block - i) (drop i block)) more given at old
    new read over in
    let e : (stream ++ take i block) ++ (take (length block - i) (drop i block) ++ more)
    ≡ stream ++ (block ++ more) =
    append_assoc stream (take i block) (take (length block - i) (drop i block) ++ more)
    ∙ ap (λ t. stream ++ (take i block ++ (t ++ more))) (take_rest block i)
    ∙ ap (λ t. stream ++ t) (sym (append_assoc (take i block) (drop i block) more)
    ∙ ap (λ t. t ++ more) (take-append-drop i block)) in
    (subst (λ s. IsStreamSoFar s given new) e r.0, r.1)

-- what `finish` tells is the end of the stream
pub read_end : (stream : List ℕ) (given : List (List ℕ)) (kept : Left) → IsStreamSoFar stream given kept →
    end_fault kept ≡ end_fault (left stream)
read_end stream given kept read = ap end_fault (sym read.left_is)

-- where `finish` tells no fault, no header and no record is open, and no header took its record over the
-- limit
pub end_open : (kept : Left) → end_fault kept ≡ None → kept.phase ≡ InHeader [] None
end_open kept h = phase_rest kept.phase kept.taken h

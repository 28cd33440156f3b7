-- How a stream goes on, block by block.
use Rattle.std.proofs.Common.{◌≡◌, ℕ, zero, suc, ◌<◌, ◌≤◌, Bool, true, false, ◌||◌, List, [], ◌∷◌, ◌++◌}
use Rattle.std.proofs.Common.{length, take, refl, sym, ap, subst, ◌∙◌, inl, inr, append_assoc, append-nil}
use Rattle.std.proofs.Common.{arith}
use Rattle.std.specs.Prelude.{Option, Some, None, Ok, Err, ◌⊎◌, IsErr, IsTrue}
use Rattle.std.proofs.lemmas.List.{length-take}
use Rattle.std.specs.Io.KnownBytes.{Consumes, IsAtEnd, Keeps}
use Rattle.std.proofs.KnownBytes.{Appends-nil, Consumes-nil, Consumes-trans, Consumes-kept}
use Rattle.x_streams.specs.Streams.{Stream, FailsForGood}
use Rattle.x_streams.specs.declared.sink.Broken.{Broken}
use Rattle.x_streams.specs.Writing.{Inked, Writes, Adds}
use Rattle.x_streams.proofs.Pens.{adds_trans, all_written, counted_all, front_written, writes_none}
use Rattle.x_schema.specs.Schema.{Schema}
use Rattle.x_streams.specs.Engines.{is_refused, WorksOn}
use Rattle.x_streams.specs.declared.outcome.Outcome.{Outcome}
use Rattle.x_streams.specs.declared.outcome.EngineFault.TheVariants as faults
use Rattle.x_wire.specs.Dumpers.{IsAt, Tells, TellsFront, IsOver, IsUnder, IsTurn, TellsTurn}
use Rattle.x_wire.specs.Framers.{left_by}
use Rattle.x_wire.specs.MessageTexts.{Told, plain, then_told}
use Rattle.x_wire.specs.RecordFaults.{end_fault, fault_at}
use Rattle.x_wire.specs.Records.{Left, left, records, told}
use Rattle.x_wire.specs.Limits.{most_block}
use Rattle.x_wire.specs.StreamTexts.{IsTextOf, IsStreamText, IsFrontText, IsTextToBlock, DumpsStream, HasText}
use Rattle.x_wire.specs.StreamTexts.{end_told}
use Rattle.x_wire.specs.declared.telling.dumper.Dumper.{Dumper}
use Rattle.x_wire.specs.declared.telling.stream.Turn.{Turn}
use Rattle.x_wire.specs.declared.telling.stream.Turn.TheVariants.{GoesOn, Ended, NoMemory}
use Rattle.x_wire.proofs.Composing.{fault_stays}
use Rattle.x_wire.proofs.Dumping.{then_assoc, front_text}
use Rattle.x_wire.proofs.Feeding.{records_append}

-- ---- one block

pub some_taken : (n : ℕ) (xs : List ℕ) → 0 < n → 0 < length xs → 0 < length (take n xs)
some_taken zero xs h k = absurd (omega (arith, h))
some_taken (suc n) [] h k = absurd (omega (arith, k))
some_taken (suc n) (x ∷ xs) h k = omega arith

pub few_taken : (n : ℕ) (xs : List ℕ) → length xs ≤ most_block → length (take n xs) ≤ most_block
few_taken n xs h = let shorter = length-take n xs in omega (arith, shorter, h)

-- the stream goes on
pub turn_on : (s : Schema) (read piece : List ℕ) (t : Told) (before left : Option (List ℕ)) (new : Dumper)
    (p q : Inked) (now now' : Stream)
    → Consumes before left piece → length piece ≤ most_block → Tells s read t piece new p now q now'
    → IsUnder new → TellsTurn s read t before left GoesOn new p now q now'
turn_on s read piece t before left new p q now now' come few h under = record {
  taken = piece;
  come = come;
  few = few;
  more = h.more;
  is_turn = (h.is_at, under);
  added = h.added;
}

-- memory ran out
pub turn_want : (s : Schema) (read piece : List ℕ) (t : Told) (before left : Option (List ℕ)) (new : Dumper)
    (p q : Inked) (now now' : Stream)
    → Consumes before left piece → length piece ≤ most_block → TellsFront s read t piece p now q now'
    → TellsTurn s read t before left NoMemory new p now q now'
turn_want s read piece t before left new p q now now' come few h = record {
  taken = piece;
  come = come;
  few = few;
  more = h.more;
  is_turn = h.is_front;
  added = h.added;
}

-- what was read of a stream
pub came : (stream read : List ℕ) (left : Option (List ℕ)) → Consumes (Some stream) left read
    → (rest : List ℕ) × (left ≡ Some rest) × (stream ≡ read ++ rest)
came stream read None h = absurd h
came stream read (Some rest) h = (rest, refl, h)

-- whatever the stream has behind what was read, nothing of it counts
abbrev pub IsWhole : List ℕ → Option (List ℕ) → Type 0
IsWhole read later = (stream : List ℕ) → Consumes (Some stream) later read
    → (left stream ≡ left read) × (records stream ≡ records read)

whole_over : (read : List ℕ) (later : Option (List ℕ)) (at : ℕ) → fault_at (left read).phase ≡ Some at
    → IsWhole read later
whole_over read later at over stream h =
    let k = came stream read later h in
    let stays = fault_stays read k.0 at over in
    (ap left k.2 ∙ stays.0, ap records k.2 ∙ stays.1)

whole_end : (read : List ℕ) (later : Option (List ℕ)) → IsAtEnd later → IsWhole read later
whole_end read None end stream h = absurd h
whole_end read (Some rest) end stream h =
    let same : stream ≡ read = h ∙ ap (λ r. read ++ r) end ∙ append-nil read in
    (ap left same, ap records same)

-- the stream ended: behind a header that takes its record over the limit, or where the tap gave nothing more
pub whole_of : (read : List ℕ) (later : Option (List ℕ)) (d : Dumper) (goes : Bool) (count : ℕ)
    → left read ≡ left_by d.framer
    → ((goes ≡ true) × (count ≤ 0)) ⊎ (goes ≡ false) → (goes ≡ false → IsOver d) → (count ≡ 0 → IsAtEnd later)
    → IsWhole read later
whole_of read later d goes count left_is either over end = elim either [
  | inl k ↦ whole_end read later (end (let le = k.1 in omega (arith, le)))
  | inr stopped ↦ (let k = over stopped in
      whole_over read later k.0 (ap (λ (l : Left). fault_at l.phase) left_is ∙ k.1))
]

-- how a stream ends of which nothing more counts
pub turn_end : (s : Schema) (read piece : List ℕ) (t : Told) (before later : Option (List ℕ)) (d : Dumper)
    (outcome : Outcome) (p q r : Inked) (now now' now'' : Stream)
    → Consumes before later piece → length piece ≤ most_block → (h : Tells s read t piece d p now q now')
    → IsWhole (read ++ piece) later
    → Adds q now' r now'' (end_told (end_fault (left_by d.framer))).text
    → is_refused outcome ≡ (d.refused || (end_told (end_fault (left_by d.framer))).refused)
    → TellsTurn s read t before later (Ended outcome) d p now r now''
turn_end s read piece t before later d outcome p q r now now' now'' come few h whole added refused_is =
    let end = end_told (end_fault (left_by d.framer)) in
    let whole_text : (stream : List ℕ) → Consumes (Some stream) later (read ++ piece)
    → IsStreamText s stream (then_told t (then_told h.more (end_told (end_fault (left_by d.framer))))) =
    λ stream k. (
      then_told t h.more,
      subst (λ rs. IsTextOf s rs (then_told t h.more)) (sym (whole stream k).1)
          (h.is_at.has_told.calls, h.is_at.has_told.are),
      sym (then_assoc t h.more end)
          ∙ ap (λ (l : Left). then_told (then_told t h.more) (end_told (end_fault l)))
          (sym ((whole stream k).0 ∙ h.is_at.left_is)),
    ) in
    record {
      taken = piece;
      come = come;
      few = few;
      more = then_told h.more end;
      is_turn = (
        whole_text,
        refused_is ∙ ap (λ b. b || end.refused) h.is_at.has_told.refused_is
            ∙ ap (λ (a : Told). a.refused) (then_assoc t h.more end),
      );
      added = adds_trans p q r now now' now'' h.more.text end.text h.added added;
    }

-- ---- blocks one after another

-- between two blocks: the texts of what was read are written
pub record IsRunning (s : Schema) (start : Stream) (before later : Option (List ℕ)) (d : Dumper) (pen : Inked)
    (now : Stream) : Type 0 where
  pub read : List ℕ
  pub text : Told
  pub is_at : IsAt s read text d
  pub under : IsUnder d
  pub come : Consumes before later read
  pub writes : Writes start text.text pen now
  pub goes : pen.stopped ≡ false
  pub empty : pen.pending ≡ []
  pub works : WorksOn start.failed now.failed

pub run_start : (s : Schema) (start : Stream) (before : Option (List ℕ)) (d : Dumper) (pen : Inked)
    → IsAt s [] (plain []) d
    → pen ≡ record { pending = []; written = 0; stopped = false }
    → IsRunning s start before before d pen start
run_start s start before d pen at is = record {
  read = [];
  text = plain [];
  is_at = at;
  under = sym (ap (λ (l : Left). fault_at l.phase) at.left_is);
  come = Consumes-nil before;
  writes = subst (λ (p : Inked). Writes start [] p start) (sym is) (writes_none start);
  goes = ap (λ (p : Inked). p.stopped) is;
  empty = ap (λ (p : Inked). p.pending) is;
  works = λ e. e;
}

-- behind a block: what it came to was passed on, or the sink has failed
pub record HasTurned (s : Schema) (start : Stream) (before later : Option (List ℕ)) (turn : Turn) (d : Dumper)
    (pen : Inked) (now : Stream) : Type 0 where
  pub read : List ℕ
  pub block : List ℕ
  pub few : length block ≤ most_block
  pub text : Told
  pub is_turn : IsTurn s read block later turn text d
  pub come : Consumes before later (read ++ block)
  pub writes : Writes start text.text pen now

pub turned : (s : Schema) (start : Stream) (before left later : Option (List ℕ)) (turn : Turn)
    (d new : Dumper) (p q r : Inked) (now now' now'' : Stream)
    → IsRunning s start before left d p now
    → ((read : List ℕ) (t : Told) → IsAt s read t d → TellsTurn s read t left later turn new p now q now')
    → Adds q now' r now'' []
    → HasTurned s start before later turn new r now''
turned s start before left later turn d new p q r now now' now'' h tells flushed =
    let k = tells h.read h.text h.is_at in
    record {
      read = h.read;
      block = k.taken;
      few = k.few;
      text = then_told h.text k.more;
      is_turn = k.is_turn;
      come = Consumes-trans before left later h.read k.taken h.come k.come;
      writes = subst (λ x. Writes start x r now'') (append-nil (h.text.text ++ k.more.text))
          (flushed.goes_on start (h.text.text ++ k.more.text) (k.added.goes_on start h.text.text h.writes));
    }

pub run_on : (s : Schema) (start : Stream) (before later : Option (List ℕ)) (turn : Turn) (d : Dumper)
    (pen : Inked) (now : Stream)
    → HasTurned s start before later turn d pen now → turn ≡ GoesOn → pen.stopped ≡ false → pen.pending ≡ []
    → now.failed ≡ false
    → IsRunning s start before later d pen now
run_on s start before later turn d pen now h is goes empty works = record {
  read = h.read ++ h.block;
  text = h.text;
  is_at = (subst (λ u. IsTurn s h.read h.block later u h.text d) is h.is_turn).0;
  under = (subst (λ u. IsTurn s h.read h.block later u h.text d) is h.is_turn).1;
  come = h.come;
  writes = h.writes;
  goes = goes;
  empty = empty;
  works = λ e. works;
}

-- ---- how it ends

-- the texts of a front are those of a front of the whole stream
front_more : (s : Schema) (read rest : List ℕ) (t : Told) → IsFrontText s read t
    → IsFrontText s (read ++ rest) t
front_more s read rest t h = record {
  told = h.told;
  rest = h.rest ++ told (left read) rest;
  parts = records_append read rest ∙ ap (λ rs. rs ++ told (left read) rest) h.parts
      ∙ append_assoc h.told h.rest (told (left read) rest);
  are = h.are;
}

front_of : (s : Schema) (stream read : List ℕ) (later : Option (List ℕ)) (t : Told)
    → Consumes (Some stream) later read → IsFrontText s read t → IsFrontText s stream t
front_of s stream read later t come h =
    let k = came stream read later come in
    subst (λ b. IsFrontText s b t) (sym k.2) (front_more s read k.0 t h)

read_front : (s : Schema) (read : List ℕ) (t : Told) (d : Dumper) → IsAt s read t d → IsFrontText s read t
read_front s read t d h = subst (λ b. IsFrontText s b t) (append-nil read) (front_text s read [] t d h)

-- a turn's text is that of a front or of the whole stream
turn_text : (s : Schema) (stream read block : List ℕ) (later : Option (List ℕ)) (turn : Turn) (t : Told)
    (d : Dumper) → Consumes (Some stream) later (read ++ block)
    → IsTurn s read block later turn t d → IsFrontText s stream t ⊎ IsStreamText s stream t
turn_text s stream read block later GoesOn t d come h =
    inl (front_of s stream (read ++ block) later t come (read_front s (read ++ block) t d h.0))
turn_text s stream read block later (Ended outcome) t d come h = inr (h.0 stream come)
turn_text s stream read block later NoMemory t d come h =
    inl (front_of s stream (read ++ block) later t come h.front)

-- what the tap told at the start
known : (before later : Option (List ℕ)) (stream read : List ℕ) → before ≡ Some stream
    → Consumes before later read → Consumes (Some stream) later read
known before later stream read is come = subst (λ b. Consumes b later read) is come

-- all of a text was written
has_text : (t : Told) (start now : Stream) (pen : Inked) (written : ℕ) → Writes start t.text pen now
    → pen.stopped ≡ false → pen.pending ≡ [] → written ≡ pen.written
    → HasText t start now written
has_text t start now pen written writes goes empty is = record {
  taken = all_written pen start now t.text goes empty writes;
  written_is = is ∙ counted_all pen start now t.text goes empty writes;
}

-- memory ran out at once
pub none_dumped : (s : Schema) (stream : List ℕ) (later : Option (List ℕ)) (start : Stream)
    → later ≡ Some stream → DumpsStream s stream later start start (Err (faults.NoMemory 0))
none_dumped s stream later start from = (
  [],
  [],
  known later later stream [] from (Consumes-nil later),
  omega arith,
  (
    plain [],
    record {
      front = record { told = []; rest = records []; parts = refl; are = ([], (refl, refl)) };
      all_before = omega arith;
    },
    record { taken = Appends-nil start.bytes; written_is = refl },
  ),
)

-- the tap failed
pub unread_dumped : (s : Schema) (start : Stream) (before left later : Option (List ℕ)) (d : Dumper)
    (p q : Inked) (now now' : Stream) (written : ℕ) (stream : List ℕ)
    → IsRunning s start before left d p now → Keeps left later → q ≡ p → now' ≡ now → written ≡ q.written
    → before ≡ Some stream
    → DumpsStream s stream later start now' (Err (faults.Read written))
unread_dumped s start before left later d p q now now' written stream h kept pen_same sink_same is from =
    subst (λ (n : Stream). DumpsStream s stream later start n (Err (faults.Read written))) (sym sink_same) (
      h.read,
      known before later stream h.read from (Consumes-kept before left later h.read h.come kept),
      ap (λ (l : Left). fault_at l.phase) h.is_at.left_is ∙ h.under,
      (
        h.text,
        (h.is_at.has_told.calls, h.is_at.has_told.are),
        has_text h.text start now p written h.writes h.goes h.empty
            (is ∙ ap (λ (p : Inked). p.written) pen_same),
      ),
    )

-- no more blocks are read
pub stopped_dumped : (s : Schema) (start : Stream) (before later : Option (List ℕ)) (d : Dumper) (pen : Inked)
    (now : Stream) (written : ℕ) (stream : List ℕ)
    → IsRunning s start before later d pen now → written ≡ pen.written → before ≡ Some stream
    → DumpsStream s stream later start now (Err (faults.NoMemory written))
stopped_dumped s start before later d pen now written stream h is from = (
  h.read,
  [],
  known before later stream (h.read ++ []) from
      (subst (λ b. Consumes before later b) (sym (append-nil h.read)) h.come),
  omega arith,
  (
    h.text,
    record {
      front = record {
        told = records h.read;
        rest = told (left h.read) [];
        parts = records_append h.read [];
        are = (h.is_at.has_told.calls, h.is_at.has_told.are);
      };
      all_before = omega arith;
    },
    has_text h.text start now pen written h.writes h.goes h.empty is,
  ),
)

-- the sink failed
pub unwritten_dumped : (s : Schema) (start : Stream) (before later : Option (List ℕ)) (turn : Turn)
    (d : Dumper) (pen : Inked) (now : Stream) (written : ℕ) (stream : List ℕ)
    → HasTurned s start before later turn d pen now → pen.stopped ≡ true → written ≡ pen.written
    → before ≡ Some stream
    → DumpsStream s stream later start now (Err (faults.Write written))
unwritten_dumped s start before later turn d pen now written stream h stops is from =
    subst (λ w. DumpsStream s stream later start now (Err (faults.Write w))) (sym is) (
      h.text,
      turn_text s stream h.read h.block later turn h.text d
          (known before later stream (h.read ++ h.block) from h.come) h.is_turn,
      front_written pen start now h.text.text stops h.writes,
    )

pub sink_failed : (s : Schema) (start : Stream) (before later : Option (List ℕ)) (turn : Turn) (d : Dumper)
    (pen : Inked) (now : Stream)
    → HasTurned s start before later turn d pen now → pen.stopped ≡ true → now.failed ≡ true
sink_failed s start before later turn d pen now h stops =
    (front_written pen start now h.text.text stops h.writes).failed

-- the whole stream was told
pub all_dumped : (s : Schema) (start : Stream) (before later : Option (List ℕ)) (turn : Turn)
    (outcome : Outcome) (d : Dumper) (pen : Inked) (now : Stream) (stream : List ℕ)
    → HasTurned s start before later turn d pen now → turn ≡ Ended outcome → pen.stopped ≡ false
    → pen.pending ≡ [] → before ≡ Some stream
    → DumpsStream s stream later start now (Ok outcome)
all_dumped s start before later turn outcome d pen now stream h is goes empty from =
    let end = subst (λ u. IsTurn s h.read h.block later u h.text d) is h.is_turn in (
      h.text,
      end.0 stream (known before later stream (h.read ++ h.block) from h.come),
      all_written pen start now h.text.text goes empty h.writes,
      end.1,
    )

-- memory ran out
pub want_dumped : (s : Schema) (start : Stream) (before later : Option (List ℕ)) (turn : Turn) (d : Dumper)
    (pen : Inked) (now : Stream) (written : ℕ) (stream : List ℕ)
    → HasTurned s start before later turn d pen now → turn ≡ NoMemory → pen.stopped ≡ false → pen.pending ≡ []
    → written ≡ pen.written → before ≡ Some stream
    → DumpsStream s stream later start now (Err (faults.NoMemory written))
want_dumped s start before later turn d pen now written stream h is goes empty written_is from =
    let front : IsTextToBlock s h.read h.block h.text =
    subst (λ u. IsTurn s h.read h.block later u h.text d) is h.is_turn in (
      h.read,
      h.block,
      known before later stream (h.read ++ h.block) from h.come,
      h.few,
      (h.text, front, has_text h.text start now pen written h.writes goes empty written_is),
    )

not_failed : {X : Type 0} (b : Bool) (x : X) → (IsTrue b → IsErr {T = X} {E = Broken} (Ok x)) → b ≡ false
not_failed false x h = refl
not_failed true x h = let k : false ≡ true = h refl in absurd (cc)

-- a call that did not fail leaves the tap as it was
pub tap_still : {X : Type 0} (old new : Stream) (x : X) → FailsForGood {T = X} old new (Ok x)
    → new.failed ≡ old.failed
tap_still old new x h = h.failed ∙ sym (not_failed old.failed x h.for_good)

-- How a conversation goes on.
use Rattle.std.proofs.Common.{◌≡◌, ℕ, ◌≤◌, arith, Bool, true, false, List, [], ◌∷◌, ◌++◌, length, Option}
use Rattle.std.proofs.Common.{Some, None, Ok, Err, inl, inr, refl, sym, ap, subst, ◌∙◌, append_assoc}
use Rattle.std.proofs.Common.{append-nil}
use Rattle.std.specs.Prelude.{IfSome, MatchBool, nat_lt}
use Rattle.std.specs.Io.KnownBytes.{Consumes, IsAtEnd}
use Rattle.std.proofs.KnownBytes.{Appends-nil}
use Rattle.std.proofs.lemmas.Bool.{ltb-false, ltb-true}
use Rattle.x_streams.specs.Streams.{Stream}
use Rattle.x_streams.specs.Writing.{Adds, Inked, Writes, counted}
use Rattle.x_streams.proofs.Pens.{all_written, counted_all, front_written, writes_none}
use Rattle.x_frames.specs.Answers.{framed_if}
use Rattle.x_frames.specs.Messages.{Asked, asked_by, request, notification, response, invalid}
use Rattle.x_frames.proofs.CancelLemmas.{cancelled_more, framed_more}
use Rattle.x_frames.specs.Framing.{FrameReading, IsFramed, IsUnframed, ReadsFrame, most_body}
use Rattle.x_frames.specs.Lives.{end_of}
use Rattle.x_lsp.specs.Serving.{AreServed, Exchange, HasFailed, HasServed, HasStopped, IsAnswered, Serves}
use Rattle.x_lsp.specs.Serving.{stop_by, written_of}
use Rattle.x_frames.specs.declared.framing.FrameFault.{FrameFault}
use Rattle.x_frames.specs.declared.framing.FrameFault.TheVariants as frame
use Rattle.x_frames.specs.declared.framing.FrameFound.TheVariants.{Message, Long, End}
use Rattle.x_documents.specs.Grounds.{Ground}
use Rattle.x_lsp.specs.States.{IsPassedOver, IsRefusedAs, IsServed, IsTakenBefore, ServerState, fresh}
use Rattle.x_lsp.specs.declared.serving.ServeFault.TheVariants.{NoMemory, Write}

-- ---- one message

served_as : (long : Bool) (s s' : ServerState) (body later : List ℕ) (said : Option (List ℕ))
    → (long ≡ true → IsPassedOver s said s') → (long ≡ false → IsTakenBefore s body later said s')
    → MatchBool long (IsPassedOver s said s') (IsTakenBefore s body later said s')
served_as true s s' body later said passed taken = passed refl
served_as false s s' body later said passed taken = taken refl

-- a question stays cancelled whatever follows
refused_more : (asked : Asked) (later more : List ℕ) (said : Option (List ℕ)) → IsRefusedAs asked later said
    → IsRefusedAs asked (later ++ more) said
refused_more (request id name) later more said h = (h.0, cancelled_more id later more h.1, h.2)
refused_more (notification name) later more said h = absurd h
refused_more response later more said h = absurd h
refused_more invalid later more said h = absurd h

taken_more : (s s' : ServerState) (body later more : List ℕ) (said : Option (List ℕ))
    → IsTakenBefore s body later said s' → IsTakenBefore s body (later ++ more) said s'
taken_more s s' body later more said (inl taken) = inl taken
taken_more s s' body later more said (inr c) = inr (record {
  message = c.message;
  body_is = c.body_is;
  is_running = c.is_running;
  is_refused = refused_more (asked_by c.message) later more said c.is_refused;
  same = c.same;
})

more_behind : (long : Bool) (s s' : ServerState) (body later more : List ℕ) (said : Option (List ℕ))
    → MatchBool long (IsPassedOver s said s') (IsTakenBefore s body later said s')
    → MatchBool long (IsPassedOver s said s') (IsTakenBefore s body (later ++ more) said s')
more_behind true s s' body later more said h = h
more_behind false s s' body later more said h = taken_more s s' body later more said h

-- a message that was read is answered
pub message_answered : (reader reader' : FrameReading) (left left' : Option (List ℕ))
    (state state' : ServerState) (p q : Inked) (now now' : Stream) (said : Option (List ℕ))
    → ReadsFrame reader reader' left left' (Ok Message)
    → IsTakenBefore state reader'.body reader'.unread said state' → Adds p now q now' (framed_if said)
    → IsAnswered reader reader' left left' state state' p now q now'
message_answered reader reader' left left' state state' p q now now' said reads taken adds =
    let short = reads.found.1 in
    record {
      come = reads.come;
      from_tap = reads.from_tap;
      body = reader'.body;
      framed_is = reads.found.0;
      said = said;
      served = served_as (nat_lt most_body
          (length reader'.body)) state state' reader'.body reader'.unread said
          (λ long. let lt = ltb-true most_body (length reader'.body) long in absurd
          (omega (arith, short, lt)))
          (λ no. taken);
      adds = adds;
    }

-- one that was too long is refused
pub long_answered : (reader reader' : FrameReading) (left left' : Option (List ℕ))
    (state state' : ServerState) (p q : Inked) (now now' : Stream) (said : Option (List ℕ))
    → ReadsFrame reader reader' left left' (Ok Long) → IsPassedOver state said state'
    → Adds p now q now' (framed_if said) → IsAnswered reader reader' left left' state state' p now q now'
long_answered reader reader' left left' state state' p q now now' said reads passed adds =
    let body = reads.found.0 in
    let long = reads.found.2 in
    record {
      come = reads.come;
      from_tap = reads.from_tap;
      body = body;
      framed_is = reads.found.1;
      said = said;
      served = served_as (nat_lt most_body (length body)) state state' body reader'.unread said
          (λ yes. passed)
          (λ no. let le = ltb-false most_body (length body) no in absurd (omega (arith, long, le)));
      adds = adds;
    }

module _ (on : Ground) where
  -- ---- messages

  -- more follows
  served_more : (state state' : ServerState) (served : List Exchange) (input rest more : List ℕ)
      → AreServed state served input rest state' → AreServed state served (input ++ more)
      (rest ++ more) state'
  served_more state state' [] input rest more h = (ap (λ l. l ++ more) h.0, h.1)
  served_more state state' (x ∷ xs) input rest more h = (
    h.0,
    h.1 ++ more,
    framed_more input x.body h.1 more h.2,
    more_behind (nat_lt most_body (length x.body)) state x.state x.body h.1 more x.said h.3,
    served_more x.state state' xs h.1 rest more h.4,
  )

  -- one message more
  served_then : (state mid : ServerState) (served : List Exchange) (x : Exchange) (input rest next : List ℕ)
      → AreServed state served input rest mid → end_of mid.life ≡ None
      → IsFramed rest x.body next → IsServed mid x.body next x.said x.state
      → AreServed state (served ++ x ∷ []) input next x.state
  served_then state mid [] x input rest next h goes is says = (
    ap (λ (s : ServerState). end_of s.life) (sym h.1) ∙ goes,
    next,
    subst (λ b. IsFramed b x.body next) h.0 is,
    subst (λ l. IsServed l x.body next x.said x.state) h.1 says,
    (refl, refl),
  )
  served_then state mid (y ∷ ys) x input rest next h goes is says =
      (h.0, h.1, h.2, h.3, served_then y.state mid ys x h.1 rest next h.4 goes is says)

  written_then : (served : List Exchange) (x : Exchange) → written_of (served ++ x ∷ []) ≡ written_of served
      ++ framed_if x.said
  written_then [] x = append-nil (framed_if x.said)
  written_then (y ∷ ys) x = ap (λ l. framed_if y.said ++ l) (written_then ys x)
      ∙ sym (append_assoc (framed_if y.said) (written_of ys) (framed_if x.said))

  -- ---- what was read

  -- what is left of what the tap told
  come_split : (left : Option (List ℕ)) (later come : List ℕ) → Consumes (Some later) left come
      → (rest : List ℕ) × (left ≡ Some rest) × (later ≡ come ++ rest)
  come_split None later come h = absurd h
  come_split (Some rest) later come h = (rest, refl, h)

  -- the messages before these bytes are served, which were read of the input
  pub record HasRead (input : List ℕ) (served : List Exchange) (state : ServerState) (bytes : List ℕ)
      (left : Option (List ℕ)) : Type 0 where
    pub read : List ℕ
    pub later : List ℕ
    pub left_is : left ≡ Some later
    pub input_is : input ≡ read ++ later
    pub are_served : AreServed (fresh on) served read bytes state

  -- between two messages: those before are served, and what is said to them is written
  pub record IsBetween (input : List ℕ) (start : Stream) (state : ServerState) (reader : FrameReading)
      (left : Option (List ℕ)) (pen : Inked) (now : Stream) : Type 0 where
    pub served : List Exchange
    pub has_read : HasRead input served state reader.unread left
    pub alive : end_of state.life ≡ None
    pub writes : Writes start (written_of served) pen now
    pub goes : pen.stopped ≡ false
    pub empty : pen.pending ≡ []

  pub at_start : (input : List ℕ) (start : Stream) (state : ServerState) (reader : FrameReading)
      (left : Option (List ℕ)) (pen : Inked)
      → state ≡ fresh on → reader ≡ record { body = []; unread = [] } → left ≡ Some input
      → pen ≡ record { pending = []; written = 0; stopped = false }
      → IsBetween input start state reader left pen start
  at_start input start state reader left pen state_is reader_is left_is pen_is = record {
    served = [];
    has_read = record {
      read = [];
      later = input;
      left_is = left_is;
      input_is = refl;
      are_served =
          (ap (λ (r : FrameReading). r.unread) reader_is, state_is);
    };
    alive = ap (λ (s : ServerState). end_of s.life) state_is;
    writes = subst (λ (p : Inked). Writes start [] p start) (sym pen_is) (writes_none start);
    goes = ap (λ (p : Inked). p.stopped) pen_is;
    empty = ap (λ (p : Inked). p.pending) pen_is;
  }

  -- more came
  read_more : (input : List ℕ) (served : List Exchange) (state : ServerState) (bytes come : List ℕ)
      (left left' : Option (List ℕ)) → HasRead input served state bytes left → Consumes left left' come
      → HasRead input served state (bytes ++ come) left'
  read_more input served state bytes come left left' h from =
      let split = come_split left' h.later come (subst (λ b. Consumes b left' come) h.left_is from) in
      record {
        read = h.read ++ come;
        later = split.0;
        left_is = split.1;
        input_is = h.input_is ∙ ap (λ l. h.read ++ l) split.2 ∙ sym (append_assoc h.read come split.0);
        are_served = served_more (fresh on) state served h.read bytes come h.are_served;
      }

  -- they are served of the whole input
  of_all : (input : List ℕ) (served : List Exchange) (state : ServerState) (bytes : List ℕ)
      (left : Option (List ℕ)) → (h : HasRead input served state bytes left)
      → AreServed (fresh on) served input (bytes ++ h.later) state
  of_all input served state bytes left h =
      subst (λ i. AreServed (fresh on) served i (bytes ++ h.later) state) (sym h.input_is)
      (served_more (fresh on) state served h.read bytes h.later h.are_served)

  -- ---- a message more

  -- a message is answered behind the others, and that is passed on, or the sink has failed
  pub record IsBehind (input : List ℕ) (start : Stream) (state : ServerState) (reader : FrameReading)
      (left : Option (List ℕ)) (pen : Inked) (now : Stream) : Type 0 where
    pub earlier : List Exchange
    pub last : Exchange
    pub state_is : state ≡ last.state
    pub has_read : HasRead input (earlier ++ last ∷ []) last.state reader.unread left
    pub writes : Writes start (written_of (earlier ++ last ∷ [])) pen now
    pub whole : counted (length (written_of earlier)) ≤ pen.written

  no_fewer_then : (a b c d : ℕ) → b ≡ a → b ≤ c → c ≤ d → a ≤ d
  no_fewer_then a b c d is first second = omega (arith, is, first, second)

  pub behind : (input : List ℕ) (start : Stream) (state state' : ServerState) (reader reader' : FrameReading)
      (left left' : Option (List ℕ)) (p q r : Inked) (now now' now'' : Stream)
      → IsBetween input start state reader left p now
      → IsAnswered reader reader' left left' state state' p now q now' → Adds q now' r now'' []
      → IsBehind input start state' reader' left' r now''
  behind input start state state' reader reader' left left' p q r now now' now'' h answered flushed =
      let x : Exchange = record { body = answered.body; said = answered.said; state = state' } in
      let read = read_more input h.served state reader.unread answered.come left left' h.has_read
      answered.from_tap in
      let writes = flushed.goes_on start (written_of h.served ++ framed_if answered.said)
      (answered.adds.goes_on start (written_of h.served) h.writes) in
      record {
        earlier = h.served;
        last = x;
        state_is = refl;
        has_read = record {
          read = read.read;
          later = read.later;
          left_is = read.left_is;
          input_is = read.input_is;
          are_served = served_then (fresh on) state h.served x read.read
              (reader.unread ++ answered.come) reader'.unread read.are_served h.alive answered.framed_is
              answered.served;
        };
        writes = subst (λ t. Writes start t r now'')
            (append-nil (written_of h.served ++ framed_if answered.said)
            ∙ sym (written_then h.served x)) writes;
        whole = no_fewer_then (counted (length (written_of h.served))) p.written q.written r.written
            (counted_all p start now
            (written_of h.served) h.goes h.empty h.writes) answered.adds.no_fewer flushed.no_fewer;
      }

  pub between : (input : List ℕ) (start : Stream) (state : ServerState) (reader : FrameReading)
      (left : Option (List ℕ)) (pen : Inked) (now : Stream)
      → IsBehind input start state reader left pen now → pen.stopped ≡ false → pen.pending ≡ []
      → end_of state.life ≡ None → IsBetween input start state reader left pen now
  between input start state reader left pen now h goes empty alive = record {
    served = h.earlier ++ h.last ∷ [];
    has_read = subst (λ l. HasRead input (h.earlier ++ h.last ∷ []) l reader.unread left)
        (sym h.state_is) h.has_read;
    alive = alive;
    writes = h.writes;
    goes = goes;
    empty = empty;
  }

  -- ---- how a conversation ends

  -- all that is said is written
  has_served : (input rest : List ℕ) (served : List Exchange) (state : ServerState) (start : Stream)
      (pen : Inked) (now : Stream) → AreServed (fresh on) served input rest state
      → Writes start (written_of served) pen now → pen.stopped ≡ false → pen.pending ≡ []
      → HasServed on served input rest state start now
  has_served input rest served state start pen now are writes goes empty = record
      { are_served = are; has = all_written pen start now (written_of served) goes empty writes }

  has_stopped : (input rest : List ℕ) (served : List Exchange) (state : ServerState) (start : Stream)
      (pen : Inked) (now : Stream) (count : ℕ) → AreServed (fresh on) served input rest state
      → Writes start (written_of served) pen now → pen.stopped ≡ false → pen.pending ≡ []
      → count ≡ pen.written → HasStopped on input rest start now count
  has_stopped input rest served state start pen now count are writes goes empty is = record {
    served = served;
    state = state;
    has = has_served input rest served state start pen now are writes goes empty;
    count_is = is ∙ counted_all pen start now (written_of served) goes empty writes;
  }

  -- behind the message that ends the server
  pub at_exit : (input : List ℕ) (start : Stream) (state : ServerState) (reader : FrameReading)
      (left : Option (List ℕ)) (pen : Inked) (now : Stream) (asked : Bool)
      → IsBehind input start state reader left pen now → pen.stopped ≡ false → pen.pending ≡ []
      → end_of state.life ≡ Some asked → Serves on input left start now (Ok asked)
  at_exit input start state reader left pen now asked h goes empty ends =
      let served = h.earlier ++ h.last ∷ [] in (
        served,
        reader.unread ++ h.has_read.later,
        h.last.state,
        has_served input (reader.unread ++ h.has_read.later) served h.last.state start pen now
            (of_all input served h.last.state reader.unread left h.has_read) h.writes goes empty,
        inl (ap (λ (s : ServerState). end_of s.life) (sym h.state_is) ∙ ends),
      )

  none_left : (bytes later : List ℕ) (left : Option (List ℕ)) → left ≡ Some later → bytes ≡ [] → IsAtEnd left
      → bytes ++ later ≡ []
  none_left bytes later left is none end = (λ i. none i ++ (subst IsAtEnd is end) i)

  -- where there are no more messages
  pub at_end : (input : List ℕ) (start : Stream) (state : ServerState) (reader reader' : FrameReading)
      (left left' : Option (List ℕ)) (pen : Inked) (now : Stream)
      → IsBetween input start state reader left pen now → ReadsFrame reader reader' left left' (Ok End)
      → Serves on input left' start now (Ok false)
  at_end input start state reader reader' left left' pen now h reads =
      let bytes = reader.unread ++ reads.come in
      let read = read_more input h.served state reader.unread reads.come left left' h.has_read
      reads.from_tap in (
        h.served,
        bytes ++ read.later,
        state,
        has_served input (bytes ++ read.later) h.served state start pen now
            (of_all input h.served state bytes left' read) h.writes h.goes h.empty,
        inr (h.alive, none_left bytes read.later left' read.left_is reads.found.0 reads.found.2, refl),
      )

  unframed_left : (bytes : List ℕ) (left : Option (List ℕ)) (later : List ℕ) → left ≡ Some later
      → IfSome left (λ l. IsUnframed (bytes ++ l)) → IsUnframed (bytes ++ later)
  unframed_left bytes left later is h = subst (λ o. IfSome o (λ l. IsUnframed (bytes ++ l))) is h

  -- where no message is found
  pub at_fault : (fault : FrameFault) (input : List ℕ) (start : Stream) (state : ServerState)
      (reader reader' : FrameReading) (left left' : Option (List ℕ)) (pen : Inked) (now : Stream) (count : ℕ)
      → IsBetween input start state reader left pen now → ReadsFrame reader reader' left left' (Err fault)
      → count ≡ pen.written → Serves on input left' start now (Err (stop_by fault count))
  at_fault frame.Read input start state reader reader' left left' pen now count h reads is =
      let bytes = reader.unread ++ reads.come in
      let read = read_more input h.served state reader.unread reads.come left left' h.has_read
      reads.from_tap in (
        read.read,
        bytes,
        subst (λ l. Consumes (Some input) l read.read) (sym read.left_is) read.input_is,
        has_stopped read.read bytes h.served state start pen now count read.are_served h.writes h.goes
            h.empty is,
        reads.found.1,
      )
  at_fault frame.NoMemory input start state reader reader' left left' pen now count h reads is =
      let bytes = reader.unread ++ reads.come in
      let read = read_more input h.served state reader.unread reads.come left left' h.has_read
      reads.from_tap in (
        bytes ++ read.later,
        has_stopped input (bytes ++ read.later) h.served state start pen now count
            (of_all input h.served state bytes left' read) h.writes h.goes h.empty is,
      )
  at_fault frame.Bad input start state reader reader' left left' pen now count h reads is =
      let bytes = reader.unread ++ reads.come in
      let read = read_more input h.served state reader.unread reads.come left left' h.has_read
      reads.from_tap in (
        bytes ++ read.later,
        has_stopped input (bytes ++ read.later) h.served state start pen now count
            (of_all input h.served state bytes left' read) h.writes h.goes h.empty is,
        unframed_left bytes left' read.later read.left_is reads.found,
      )

  -- between two messages, where the conversation goes no further
  pub so_far : (input : List ℕ) (start : Stream) (state : ServerState) (reader : FrameReading)
      (left : Option (List ℕ)) (pen : Inked) (now : Stream) (count : ℕ)
      → IsBetween input start state reader left pen now → count ≡ pen.written
      → Serves on input left start now (Err (NoMemory count))
  so_far input start state reader left pen now count h is =
      let bytes = reader.unread in
      let read = h.has_read in (
        bytes ++ read.later,
        has_stopped input (bytes ++ read.later) h.served state start pen now count
            (of_all input h.served state bytes left read) h.writes h.goes h.empty is,
      )

  -- where the sink failed
  pub at_stop : (input : List ℕ) (start : Stream) (state : ServerState) (reader : FrameReading)
      (left : Option (List ℕ)) (pen : Inked) (now : Stream) (count : ℕ)
      → IsBehind input start state reader left pen now → pen.stopped ≡ true → count ≡ pen.written
      → Serves on input left start now (Err (Write count))
  at_stop input start state reader left pen now count h stops is =
      let served = h.earlier ++ h.last ∷ [] in
      let front = front_written pen start now (written_of served) stops h.writes in
      subst (HasFailed on input start now) (sym is) (record {
        earlier = h.earlier;
        last = h.last;
        rest = reader.unread ++ h.has_read.later;
        are_served = of_all input served h.last.state reader.unread left h.has_read;
        front = front.front;
        whole = h.whole;
      })

  -- where nothing was done
  pub unserved : (input : List ℕ) (left : Option (List ℕ)) (start : Stream)
      → Serves on input left start start (Err (NoMemory 0))
  unserved input left start = (
    input,
    record {
      served = [];
      state = fresh on;
      has = record
          { are_served = (refl, refl); has = Appends-nil start.bytes };
      count_is = refl;
    },
  )

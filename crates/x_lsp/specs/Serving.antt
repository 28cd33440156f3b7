-- A conversation: the messages of an input, one behind another, and what is said to each.
use Rattle.std.specs.Prelude.{◌≡◌, ◌⊎◌, ◌≤◌, ℕ, Bool, true, false, List, [], ◌∷◌, ◌++◌, length}
use Rattle.std.specs.Prelude.{Option, None, Some, Result, Ok, Err, IfErr, MatchOption, codes}
use Rattle.std.specs.Io.KnownBytes.{Appends, Consumes}
use Rattle.x_streams.specs.Engines.{WorksOn}
use Rattle.x_streams.specs.Streams.{Stream}
use Rattle.x_streams.specs.Writing.{Adds, HasFront, Inked, counted}
use Rattle.x_args.specs.Telling.{Complains, IsTold}
use Rattle.x_args.specs.declared.status.Status.{Status}
use Rattle.x_args.specs.declared.status.Status.TheVariants.{Done, Faulty, Failed}
use Rattle.x_frames.specs.Answers.{framed_if}
use Rattle.x_frames.specs.Framing.{FrameReading, IsFramed, IsUnframed, ReadsFrame}
use Rattle.x_frames.specs.Lives.{end_of}
use Rattle.x_frames.specs.declared.framing.FrameFault.{FrameFault}
use Rattle.x_frames.specs.declared.framing.FrameFault.TheVariants as frame
use Rattle.x_frames.specs.declared.framing.FrameFound.TheVariants.{End}
use Rattle.x_frames.specs.declared.life.Life.{Life}
use Rattle.x_documents.specs.Grounds.{Ground}
use Rattle.x_lsp.specs.States.{IsServed, ServerState, fresh}
use Rattle.x_lsp.specs.declared.serving.Next.{Next}
use Rattle.x_lsp.specs.declared.serving.Next.TheVariants.{Answered, NoMore}
use Rattle.x_lsp.specs.declared.serving.ServeFault.{ServeFault}
use Rattle.x_lsp.specs.declared.serving.ServeFault.TheVariants.{Read, Bad, Write, NoMemory}

-- a message, what is said to it, and the server behind it
pub record Exchange : Type 0 where
  pub body : List ℕ
  pub said : Option (List ℕ)
  pub state : ServerState

-- The messages at the front of an input are those of the exchanges, one behind another, and to each of them
-- this is said by a server that was `state` before the first one, and had not ended before any: the rest of
-- the input follows them, and the server is `state'` then.
abbrev pub AreServed : ServerState → List Exchange → (input rest : List ℕ) → ServerState → Type 0
AreServed state [] input rest state' = (rest ≡ input) × (state' ≡ state)
AreServed state (x ∷ xs) input rest state' = (end_of state.life ≡ None) × (next : List ℕ)
    × IsFramed input x.body next × IsServed state x.body next x.said x.state
    × AreServed x.state xs next rest state'

-- what is written: what is said to each message, once, with its header
abbrev pub written_of : List Exchange → List ℕ
written_of [] = []
written_of (x ∷ xs) = framed_if x.said ++ written_of xs

-- A server that no client had initialized served the messages at the front of an input, the rest of which
-- follows them, and the sink has what is written.
pub record HasServed (on : Ground) (served : List Exchange) (input rest : List ℕ) (state : ServerState)
    (before after : Stream) : Type 0 where
  pub are_served : AreServed (fresh on) served input rest state
  pub has : Appends before.bytes after.bytes (written_of served)

-- messages at the front of an input are served, and so many bytes were written
pub record HasStopped (on : Ground) (input rest : List ℕ) (before after : Stream) (count : ℕ) : Type 0
  where
    pub served : List Exchange
    pub state : ServerState
    pub has : HasServed on served input rest state before after
    pub count_is : count ≡ counted (length (written_of served))

-- Messages at the front of an input are served, and the sink failed within what is said to the last of them:
-- it has the first bytes of what is written, so many.
pub record HasFailed (on : Ground) (input : List ℕ) (before after : Stream) (count : ℕ) : Type 0 where
  pub earlier : List Exchange
  pub last : Exchange
  pub rest : List ℕ
  pub are_served : AreServed (fresh on) (earlier ++ last ∷ []) input rest last.state
  pub front : HasFront before after (written_of (earlier ++ last ∷ [])) count
  pub whole : counted (length (written_of earlier)) ≤ count

-- A conversation ends behind the notification that ends the server, or where there are no more messages. It
-- tells whether the client had asked the server to shut down before it ended it.
abbrev pub Ends : Life → (rest : List ℕ) → (asked : Bool) → Type 0
Ends life rest asked =
    (end_of life ≡ Some asked) ⊎ ((end_of life ≡ None) × (rest ≡ []) × (asked ≡ false))

-- What a conversation does, where documents are compiled on a ground; the tap has `left` of the input then.
-- It is cut off where the input is no message; where a read fails, behind what is said to all messages that
-- are whole in what was read; for want of memory, behind what is said to some messages; and where a write
-- fails, within what is said to one.
abbrev pub Serves : Ground → (input : List ℕ) (left : Option (List ℕ)) (before after : Stream)
    → Result Bool ServeFault → Type 0
Serves on input left before after (Ok asked) = (served : List Exchange) × (rest : List ℕ)
    × (state : ServerState) × HasServed on served input rest state before after × Ends state.life rest asked
Serves on input left before after (Err (Read count)) =
    (read rest : List ℕ) × Consumes (Some input) left read × HasStopped on read rest before after count
    × IsUnframed rest
Serves on input left before after (Err (Bad count)) =
    (rest : List ℕ) × HasStopped on input rest before after count × IsUnframed rest
Serves on input left before after (Err (Write count)) = HasFailed on input before after count
Serves on input left before after (Err (NoMemory count)) =
    (rest : List ℕ) × HasStopped on input rest before after count

-- A conversation names its fault by what failed, and names one where something did.
abbrev pub NamesFault : Result Bool ServeFault → (tap tap' sink sink' : Bool) → Type 0
NamesFault (Err (Read count)) tap tap' sink sink' = (tap' ≡ true) × WorksOn sink sink'
NamesFault (Err (Write count)) tap tap' sink sink' = (tap' ≡ tap) × (sink' ≡ true)
NamesFault result tap tap' sink sink' = (tap' ≡ tap) × WorksOn sink sink'

-- the status of a run whose conversation came to this
abbrev pub status_of : Result Bool ServeFault → Status
status_of (Ok true) = Done
status_of (Ok false) = Faulty
status_of (Err fault) = Failed

-- what `rpcls` tells of the fault that ends its run: nothing where its output's reader has enough
abbrev pub TellsFault : (is_closed : Bool) → ServeFault → (before after : Stream) → Type 0
TellsFault is_closed (Read count) before after = IsTold before after (codes "rpcls: -: cannot be read\n")
TellsFault is_closed (Bad count) before after =
    IsTold before after (codes "rpcls: -: no message of the Language Server Protocol\n")
TellsFault is_closed (Write count) before after =
    Complains is_closed before after (codes "rpcls: output cannot be written\n")
TellsFault is_closed (NoMemory count) before after = IsTold before after (codes "rpcls: out of memory\n")

-- A run of this status is a conversation, and its fault is told.
pub record IsRun (on : Ground) (tap tap' sink sink' : Stream) (is_closed : Bool) (before after : Stream)
    (status : Status) : Type 0 where
  pub ended : Result Bool ServeFault
  pub status_is : status ≡ status_of ended
  pub serves : MatchOption tap.bytes (Unit {0}) (λ input. Serves on input tap'.bytes sink sink' ended)
  pub fault : NamesFault ended tap.failed tap'.failed sink.failed sink'.failed
  pub told : IfErr ended (λ fault. TellsFault is_closed fault before after)

-- the fault that stops a conversation where no message is found
abbrev pub stop_by : FrameFault → ℕ → ServeFault
stop_by frame.Read count = Read count
stop_by frame.NoMemory count = NoMemory count
stop_by frame.Bad count = Bad count

-- the next message is answered, over a tap that had `left` and has `left'`
pub record IsAnswered (reader reader' : FrameReading) (left left' : Option (List ℕ))
    (state state' : ServerState) (p : Inked) (now : Stream) (q : Inked) (now' : Stream) : Type 0 where
  pub come : List ℕ
  pub from_tap : Consumes left left' come
  pub body : List ℕ
  pub framed_is : IsFramed (reader.unread ++ come) body reader'.unread
  pub said : Option (List ℕ)
  pub served : IsServed state body reader'.unread said state'
  pub adds : Adds p now q now' (framed_if said)

-- nothing is done where there is none
abbrev pub IsNotAnswered : (state state' : ServerState) (p : Inked) (now : Stream) (q : Inked) (now' : Stream)
    → Type 0
IsNotAnswered state state' p now q now' = (state' ≡ state) × (q ≡ p) × (now' ≡ now)

abbrev pub AnswersNext : Result Next FrameFault → (reader reader' : FrameReading)
    → (left left' : Option (List ℕ)) → (state state' : ServerState) (p : Inked) (now : Stream) (q : Inked)
    (now' : Stream) → Type 0
AnswersNext (Ok Answered) reader reader' left left' state state' p now q now' =
    IsAnswered reader reader' left left' state state' p now q now'
AnswersNext (Ok NoMore) reader reader' left left' state state' p now q now' =
    ReadsFrame reader reader' left left' (Ok End) × IsNotAnswered state state' p now q now'
AnswersNext (Err fault) reader reader' left left' state state' p now q now' =
    ReadsFrame reader reader' left left' (Err fault) × IsNotAnswered state state' p now q now'

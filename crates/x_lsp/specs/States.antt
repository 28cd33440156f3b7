-- A server as a state, and what a message makes of it. It has a place in its life, a client, what it compiles
-- documents on, and the documents that are open.
use Rattle.std.specs.Prelude.{◌≡◌, ◌⊎◌, ℕ, Bool, true, false, MatchBool, List, [], length, map, codes}
use Rattle.std.specs.Prelude.{IsUtf8, nat_lt}
use Rattle.std.specs.Prelude.{Option, None, Some}
use Rattle.serde_json.specs.Data.{Data, null}
use Rattle.serde_json.specs.Find.{get}
use Rattle.serde_json.specs.Read.{read}
use Rattle.x_frames.specs.Answers.{IsRefused, IsSaid, IsToNotification}
use Rattle.x_frames.specs.Cancelling.{IsCancelledIn}
use Rattle.x_frames.specs.Framing.{most_body}
use Rattle.x_frames.specs.KeptSaid.{no_memory_answer}
use Rattle.x_frames.specs.Lives.{method_named}
use Rattle.x_frames.specs.Messages.{Asked, asked_by, request, notification, response, invalid}
use Rattle.x_frames.specs.Halves.{mended}
use Rattle.x_frames.specs.Notes.{Noted, misread_by, noted_by}
use Rattle.x_frames.specs.declared.answers.ErrorCode.TheVariants.{ParseError, RequestCancelled, TooLong}
use Rattle.x_frames.specs.declared.life.Life.{Life}
use Rattle.x_frames.specs.declared.life.Life.TheVariants.{Fresh, Running, ShutDown, Ended}
use Rattle.x_frames.specs.declared.method.Method.{Method}
use Rattle.x_frames.specs.declared.method.Method.TheVariants.{Ask}
use Rattle.x_frames.specs.declared.method.Question.{Question}
use Rattle.x_positions.specs.declared.encoding.Encoding.TheVariants.{Utf16}
use Rattle.x_published.specs.Clients.{client_of}
use Rattle.x_published.specs.declared.client.Client.{Client}
use Rattle.x_documents.specs.Documents.{Document, lost}
use Rattle.x_documents.specs.Grounds.{Ground, asked_on, ground_of}
use Rattle.x_documents.specs.Noting.{Notes}
use Rattle.x_documents.specs.Views.{documents_of}
use Rattle.x_lsp.specs.Answering.{IsAnsweredBy, asked_document}
use Rattle.x_lsp.specs.declared.server.Server.{Server}

pub record ServerState : Type 0 where
  pub life : Life
  pub client : Client
  pub on : Ground
  pub documents : List Document

-- no client has initialized it
abbrev pub fresh : Ground → ServerState
fresh on = record {
  life = Fresh;
  client = record { encoding = Utf16; shows_related = false };
  on = on;
  documents = [];
}

abbrev pub is_running : Life → Bool
is_running Fresh = false
is_running Running = true
is_running ShutDown = false
is_running (Ended asked) = false

-- it goes by the same client, and compiles on the same ground
abbrev pub GoesBySame : ServerState → ServerState → Type 0
GoesBySame s s' = (s'.client ≡ s.client) × (s'.on ≡ s.on)

-- it goes by what a client says and asks for with these parameters
abbrev pub GoesBy : (params : Option Data) → ServerState → ServerState → Type 0
GoesBy params s s' = (s'.client ≡ client_of params) × (s'.on ≡ asked_on s.on params)

-- a client initializes it with these parameters
abbrev pub IsInitialized : ServerState → (params : Option Data) → ServerState → Type 0
IsInitialized s params s' = (s.life ≡ Fresh) × (s'.life ≡ Running) × GoesBy params s s'

-- a request of this name is a question about a document
abbrev pub IsQuestion : (name : List ℕ) → Type 0
IsQuestion name = (question : Question) × (method_named name ≡ Some (Ask question))

-- a question is answered of the document that it names
abbrev pub IsAskedOf : Data → Option Method → List Document → (params : Option Data)
    → (said : Option (List ℕ)) → Type 0
IsAskedOf id (Some (Ask question)) docs params said =
    IsAnsweredBy id question (asked_document docs params) params said
IsAskedOf id method docs params said = Unit {0}

-- What a message makes of a server beside its life. A request leaves the documents as they are. A
-- notification makes of them what it asks for, where the server runs.
abbrev pub MakesOf : ServerState → Asked → (params : Option Data) → (said : Option (List ℕ)) → ServerState
    → Type 0
MakesOf s (request id name) params said s' =
    (s'.documents ≡ s.documents) × (GoesBySame s s' ⊎ IsInitialized s params s')
    × (s.life ≡ Running → IsAskedOf id (method_named name) s.documents params said)
MakesOf s (notification name) params said s' = GoesBySame s s' × MatchBool (is_running s.life)
    (Notes s.client s.on s.documents (noted_by name params) said s'.documents)
    ((said ≡ None) × (s'.documents ≡ s.documents))
MakesOf s response params said s' = GoesBySame s s' × (s'.documents ≡ s.documents)
MakesOf s invalid params said s' = GoesBySame s s' × (s'.documents ≡ s.documents)

-- what was not read may have been a change of any document
abbrev pub LosesAll : ServerState → ServerState → Type 0
LosesAll s s' = GoesBySame s s' × (s'.documents ≡ map lost s.documents)

-- A notification that opens, changes or closes a document is misread: it is taken for one that is not
-- understood.
pub record IsMisread (s : ServerState) (message : Data) (said : Option (List ℕ)) (s' : ServerState) : Type 0
  where
    pub noted : Noted
    pub noted_is : misread_by (asked_by message) (get (codes "params") message) ≡ Some noted
    pub running : s.life ≡ Running
    pub life_stays : s'.life ≡ s.life
    pub goes : GoesBySame s s'
    pub notes : Notes s.client s.on s.documents noted said s'.documents
    pub is_note : IsToNotification said

-- What a body makes of a server beside its life. It is a message; or it is none, but with question marks for
-- halves of pairs of surrogates it is a notification about a document; or it is no JSON; or there was no
-- memory to read it.
pub data Makes (s : ServerState) (body : List ℕ) (said : Option (List ℕ)) (s' : ServerState) : Type 0 where
  by_message : (message : Data) → read body ≡ Some message
      → MakesOf s (asked_by message) (get (codes "params") message) said s' → Makes s body said s'
  by_misread : (message : Data) → (IsUtf8 body → read body ≡ None) → read (mended body) ≡ Some message
      → IsMisread s message said s' → Makes s body said s'
  by_no_json : (IsUtf8 body → read body ≡ None) → IsRefused null ParseError said → LosesAll s s'
      → Makes s body said s'
  by_no_memory : said ≡ Some no_memory_answer → LosesAll s s' → Makes s body said s'

-- what is said to a body that is read, and what it makes of a server
pub record IsTaken (s : ServerState) (body : List ℕ) (said : Option (List ℕ)) (s' : ServerState) : Type 0
  where
    pub is_said : IsSaid s.life body said s'.life
    pub makes : Makes s body said s'

-- a body that is too long to be read is refused
pub record IsPassedOver (s : ServerState) (said : Option (List ℕ)) (s' : ServerState) : Type 0 where
  pub is_refused : IsRefused null TooLong said
  pub life_stays : s'.life ≡ s.life
  pub loses : LosesAll s s'

-- a question is refused that a message cancels which comes later
abbrev pub IsRefusedAs : Asked → (later : List ℕ) → (said : Option (List ℕ)) → Type 0
IsRefusedAs (request id name) later said = IsQuestion name × IsCancelledIn id later
    × IsRefused id RequestCancelled said
IsRefusedAs asked later said = ⊥

pub record IsCancelled (s : ServerState) (body later : List ℕ) (said : Option (List ℕ)) (s' : ServerState)
    : Type 0 where
  pub message : Data
  pub body_is : read body ≡ Some message
  pub is_running : s.life ≡ Running
  pub is_refused : IsRefusedAs (asked_by message) later said
  pub same : s' ≡ s

-- what is said to a body that is read, with these bytes behind it, and what it makes of a server
abbrev pub IsTakenBefore : ServerState → (body later : List ℕ) → (said : Option (List ℕ)) → ServerState
    → Type 0
IsTakenBefore s body later said s' = IsTaken s body said s' ⊎ IsCancelled s body later said s'

-- what is said to a body with these bytes behind it, and what it makes of a server
abbrev pub IsServed : ServerState → (body later : List ℕ) → (said : Option (List ℕ)) → ServerState → Type 0
IsServed s body later said s' =
    MatchBool (nat_lt most_body (length body)) (IsPassedOver s said s') (IsTakenBefore s body later said s')

-- the server of the program
abbrev pub state_of : Server → ServerState
state_of s = record {
  life = s.life;
  client = s.client;
  on = ground_of s.setting;
  documents = documents_of s.documents;
}

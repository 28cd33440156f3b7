-- What a server says: answers to requests, and notes (JSON-RPC 2.0, LSP 3.17).
use Rattle.std.specs.Prelude.{◌≡◌, ◌⊎◌, ℕ, ℤ, negsuc, List, [], ◌++◌, length, codes, decimal}
use Rattle.std.specs.Prelude.{Option, None, Some, true}
use Rattle.std.specs.Prelude.{IfSome, IsUtf8, MatchResult}
use Rattle.serde_json.specs.Data.{Data, null, number, string, object, Members, member, no_members, unsigned}
use Rattle.serde_json.specs.Find.{get, of_integer}
use Rattle.serde_json.specs.Read.{read}
use Rattle.serde_json.specs.Written.{compact_text}
use Rattle.x_frames.specs.declared.answers.ErrorCode.{ErrorCode}
use Rattle.x_frames.specs.declared.answers.ErrorCode.TheVariants.{ParseError, InvalidRequest, MethodNotFound}
use Rattle.x_frames.specs.declared.answers.ErrorCode.TheVariants.{InvalidParams, InternalError, RequestFailed}
use Rattle.x_frames.specs.declared.answers.ErrorCode.TheVariants.{NotInitialized, ContentModified}
use Rattle.x_frames.specs.declared.answers.ErrorCode.TheVariants.{RequestCancelled}
use Rattle.x_frames.specs.declared.answers.ErrorCode.TheVariants.{NameUnparsed, NameLifted, TooLong}
use Rattle.x_frames.specs.declared.life.Life.{Life}
use Rattle.x_frames.specs.declared.method.Method.{Method}
use Rattle.x_frames.specs.Lives.{admitted, is_of_request, life_behind, life_noted, method_named}
use Rattle.x_frames.specs.Halves.{mended}
use Rattle.x_frames.specs.Messages.{Asked, asked_by, request, notification, response, invalid}
use Rattle.x_frames.specs.Notes.{Noted, misread_by}

-- the number of an error
abbrev pub error_number : ErrorCode → ℤ
error_number ParseError = negsuc 32699
error_number InvalidRequest = negsuc 32599
error_number TooLong = negsuc 32599
error_number MethodNotFound = negsuc 32600
error_number InvalidParams = negsuc 32601
error_number InternalError = negsuc 32602
error_number RequestFailed = negsuc 32802
error_number (NameUnparsed line) = negsuc 32802
error_number NameLifted = negsuc 32802
error_number ContentModified = negsuc 32800
error_number RequestCancelled = negsuc 32799
error_number NotInitialized = negsuc 32001

-- the name of an error
abbrev pub error_name : ErrorCode → List ℕ
error_name ParseError = codes "the message is no JSON"
error_name InvalidRequest = codes "the message is no request"
error_name TooLong = codes "the message has over 64 MiB"
error_name MethodNotFound = codes "the method is not known"
error_name InvalidParams = codes "the parameters are wrong"
error_name InternalError = codes "out of memory"
error_name RequestFailed = codes "the new name is none, or is declared"
error_name (NameUnparsed line) = codes "the name stands in a definition that does not parse"
error_name NameLifted = codes "an inline type has that name too"
error_name ContentModified = codes "the document is out of step"
error_name RequestCancelled = codes "the request is cancelled"
error_name NotInitialized = codes "the server is not initialized"

-- what is said of an error: its name, and the line that it tells
abbrev pub error_text : ErrorCode → List ℕ
error_text (NameUnparsed line) = error_name (NameUnparsed line) ++ codes ", in line " ++ decimal line
error_text code = error_name code

abbrev pub version_member : Members → Members
version_member more = member (codes "jsonrpc") (string (codes "2.0")) more

-- the answer to a request with this id
abbrev pub answer_data : Data → Data → Data
answer_data id result =
    object (member (codes "id") id (version_member (member (codes "result") result no_members)))

-- the text of that answer, by the texts of the id and of the result: what stands in front of the result, the
-- result, and a closing brace
abbrev pub answer_front : (id : List ℕ) → List ℕ
answer_front id = codes "{\"id\":" ++ id ++ codes ",\"jsonrpc\":\"2.0\",\"result\":"

abbrev pub answer_text : (id result : List ℕ) → List ℕ
answer_text id result = answer_front id ++ result ++ codes "}"

-- it is the text of a value
abbrev pub IsText : List ℕ → Type 0
IsText text = (d : Data) × (text ≡ compact_text d)

-- the answer that refuses a request
abbrev pub refusal_data : Data → ErrorCode → Data
refusal_data id code = object (member (codes "error") (object
    (member (codes "code") (number (of_integer (error_number code)))
    (member (codes "message") (string (error_text code)) no_members)))
    (member (codes "id") id (version_member no_members)))

-- a note: a notification of the server
abbrev pub note_data : List ℕ → Data → Data
note_data method params = object (version_member
    (member (codes "method") (string method) (member (codes "params") params no_members)))

-- the note that shows a text to the user, as that of a fault
abbrev pub shown_data : List ℕ → Data
shown_data text = note_data (codes "window/showMessage")
    (object (member (codes "message") (string text) (member (codes "type") (number (unsigned 1)) no_members)))

-- the text refuses a request with this id
abbrev pub IsRefusal : Data → ErrorCode → List ℕ → Type 0
IsRefusal id code text = text ≡ compact_text (refusal_data id code)

-- the text is a note
abbrev pub IsNote : List ℕ → Type 0
IsNote text = (method : List ℕ) × (params : Data) × (text ≡ compact_text (note_data method params))

-- a notification gets no answer; a note may follow it
abbrev pub IsToNotification : Option (List ℕ) → Type 0
IsToNotification said = IfSome said IsNote

-- a note that shows a text to the user
abbrev pub IsShown : Option (List ℕ) → Type 0
IsShown said = (shown : List ℕ) × (said ≡ Some (compact_text (shown_data shown)))

-- a refusal for this reason, or for want of memory
abbrev pub IsRefused : Data → ErrorCode → Option (List ℕ) → Type 0
IsRefused id code said =
    (text : List ℕ) × (said ≡ Some text) × (IsRefusal id code text ⊎ IsRefusal null InternalError text)

-- A request that is carried out gets one answer, with its id, and leaves this life: a result; or an error, as
-- its parameters are wrong, it asks for what may not be, or memory ran out, and then the life stays.
pub data IsToMethod (life : Life) (id : Data) (method : Method) (said : Option (List ℕ))
    (life' : Life) : Type 0 where
  answered : (result : Data) → said ≡ Some (compact_text (answer_data id result))
      → life' ≡ life_behind life method → IsToMethod life id method said life'
  failed : (code : ErrorCode) → is_of_request code ≡ true → IsRefused id code said → life' ≡ life
      → IsToMethod life id method said life'

-- what is said to a request in a server's life, and the life behind it
abbrev pub IsToRequest : Life → Data → List ℕ → Option (List ℕ) → Life → Type 0
IsToRequest life id name said life' =
    MatchResult (admitted life (method_named name)) (λ method. IsToMethod life id method said life')
    (λ code. IsRefused id code said × (life' ≡ life))

-- what is said to a message in a server's life, and the life behind it
abbrev pub IsSaidTo : Life → Asked → Option (List ℕ) → Life → Type 0
IsSaidTo life (request id name) said life' = IsToRequest life id name said life'
IsSaidTo life (notification name) said life' = IsToNotification said × (life' ≡ life_noted life name)
IsSaidTo life response said life' = (said ≡ None) × (life' ≡ life)
IsSaidTo life invalid said life' = IsRefused null InvalidRequest said × (life' ≡ life)

-- What is said to a body, and the life behind it: to the message that it is, or that it is no JSON; a note,
-- where it is a notification about a document but for halves of pairs of surrogates; or there was no memory
-- to read it.
pub data IsSaid (life : Life) (body : List ℕ) (said : Option (List ℕ)) (life' : Life) : Type 0 where
  to_message : (message : Data) → read body ≡ Some message → IsSaidTo life (asked_by message) said life'
      → IsSaid life body said life'
  to_no_json : (IsUtf8 body → read body ≡ None) → IsRefused null ParseError said → life' ≡ life
      → IsSaid life body said life'
  to_misread : (message : Data) (noted : Noted) → (IsUtf8 body → read body ≡ None)
      → read (mended body) ≡ Some message
      → misread_by (asked_by message) (get (codes "params") message) ≡ Some noted
      → IsToNotification said → life' ≡ life → IsSaid life body said life'
  no_memory : (text : List ℕ) → said ≡ Some text → IsRefusal null InternalError text → life' ≡ life
      → IsSaid life body said life'

-- a text with its header
abbrev pub framed : List ℕ → List ℕ
framed text = codes "Content-Length: " ++ decimal (length text) ++ codes "\r\n\r\n" ++ text

-- what is written where this is said
abbrev pub framed_if : Option (List ℕ) → List ℕ
framed_if None = []
framed_if (Some text) = framed text

-- What a client says (JSON-RPC 2.0, LSP 3.17): requests, which have an id, and notifications, which have
-- none.
use Rattle.std.specs.Prelude.{◌≡◌, ℕ, List, Bool, true, false, not, ◌||◌, Option, None, Some, is_some, codes}
use Rattle.std.specs.Prelude.{option_and_then, if◌then◌else◌}
use Rattle.serde_json.specs.Data.{Data, null, boolean, number, string, array, object}
use Rattle.serde_json.specs.Find.{as_str, get, is_float}
use Rattle.serde_json.specs.View.{view}
use Rattle.serde_json.specs.Written.{has_float}
use Rattle.x_frames.specs.declared.messages.Incoming.{Incoming}
use Rattle.x_frames.specs.declared.messages.Incoming.TheVariants.{Request, Notification, Response, Invalid}

-- a message: a request with its id, a notification, an answer to a request of the server, or none of these
pub data Asked : Type 0 where
  request : (id : Data) (method : List ℕ) → Asked
  notification : (method : List ℕ) → Asked
  response : Asked
  invalid : Asked

-- an id is a number without a fraction, or a string
abbrev pub is_id : Data → Bool
is_id null = false
is_id (boolean b) = false
is_id (number n) = not (is_float n)
is_id (string s) = true
is_id (array ds) = false
is_id (object ms) = false

abbrev pub method_of : Data → Option (List ℕ)
method_of message = option_and_then as_str (get (codes "method") message)

-- the message has a result or an error, as answers do
abbrev pub is_answer : Data → Bool
is_answer message = is_some (get (codes "result") message) || is_some (get (codes "error") message)

-- what a message with this method and this id is
abbrev pub asked_as : Data → Option (List ℕ) → Option Data → Asked
asked_as message (Some method) (Some id) = if is_id id then request id method else invalid
asked_as message (Some method) None = notification method
asked_as message None id = if is_answer message then response else invalid

-- what a message is
abbrev pub asked_by : Data → Asked
asked_by message = asked_as message (method_of message) (get (codes "id") message)

-- what the program says that a message is
abbrev pub asked_of : Incoming → Asked
asked_of (Request id method) = request (view id.now) method.now
asked_of (Notification method) = notification method.now
asked_of Response = response
asked_of Invalid = invalid

-- the id of a request has no fraction
abbrev pub HasPlainId : Incoming → Type 0
HasPlainId (Request id method) = has_float (view id.now) ≡ false
HasPlainId _ = Unit {0}

-- Requests that a client cancels (LSP 3.17, "Cancellation Support").
use Rattle.std.specs.Prelude.{◌≡◌, ℕ, ℤ, Bool, true, false, ◌||◌, List, [], ◌∷◌, Option, None, Some, codes}
use Rattle.std.specs.Prelude.{bytes_eq, if◌then◌else◌}
use Rattle.std.specs.Ordering.{int_eq}
use Rattle.serde_json.specs.Data.{Data}
use Rattle.serde_json.specs.Find.{as_str, get}
use Rattle.serde_json.specs.Read.{read}
use Rattle.x_frames.specs.Framing.{IsFramed}
use Rattle.x_frames.specs.Messages.{Asked, asked_by, notification}
use Rattle.x_frames.specs.Params.{integer_of, member_of}

-- the id of the request that a message cancels, if it cancels one
abbrev pub cancelled_of : Asked → (params : Option Data) → Option Data
cancelled_of (notification name) params =
    if bytes_eq name (codes "$/cancelRequest") then member_of (codes "id") params else None
cancelled_of asked params = None

abbrev pub cancelled_by : Data → Option Data
cancelled_by message = cancelled_of (asked_by message) (get (codes "params") message)

-- two ids are one text, or one number
abbrev pub is_same_text : Option (List ℕ) → Option (List ℕ) → Bool
is_same_text None other = false
is_same_text (Some text) None = false
is_same_text (Some text) (Some other) = bytes_eq text other

abbrev pub is_same_number : Option ℤ → Option ℤ → Bool
is_same_number None other = false
is_same_number (Some number) None = false
is_same_number (Some number) (Some other) = int_eq number other

abbrev pub is_same_id : Data → Data → Bool
is_same_id id other =
    is_same_text (as_str id) (as_str other) || is_same_number (integer_of id) (integer_of other)

abbrev pub is_of : (other : Option Data) → (id : Data) → Bool
is_of None id = false
is_of (Some other) id = is_same_id other id

-- the body is a message that cancels the request with this id
abbrev pub Cancels : (id : Data) → (body : List ℕ) → Type 0
Cancels id body = (message : Data) × (read body ≡ Some message) × (is_of (cancelled_by message) id ≡ true)

-- messages with these bodies are at the front of the bytes, one behind another, and the rest follows them
abbrev pub AreFramed : List (List ℕ) → (bytes rest : List ℕ) → Type 0
AreFramed [] bytes rest = rest ≡ bytes
AreFramed (body ∷ bodies) bytes rest =
    (next : List ℕ) × IsFramed bytes body next × AreFramed bodies next rest

-- a message that is whole in the bytes cancels the request with this id
pub record IsCancelledIn (id : Data) (bytes : List ℕ) : Type 0 where
  pub before : List (List ℕ)
  pub next : List ℕ
  pub body : List ℕ
  pub rest : List ℕ
  pub are_framed : AreFramed before bytes next
  pub is_framed : IsFramed next body rest
  pub cancels : Cancels id body

-- Headers of messages and their bytes (RFC 5531, sections 8 and 9).
use Rattle.std.specs.Prelude.{◌≡◌, ℕ, ◌^◌, ◌<◌, ◌≤◌, List, [], ◌∷◌, ◌++◌, length}
use Rattle.x_value.specs.Readings.{IsByteList}
use Rattle.x_units.specs.Units.{word, copies, padding}
use Rattle.x_wire.specs.Limits.{most_auth_bytes}

-- ---- headers

-- an authentication field (section 8.2)
pub record Auth : Type 0 where
  pub flavor : ℕ
  pub body : List ℕ

-- what became of a call that was accepted (section 9, accept_stat)
pub data Accept : Type 0 where
  Success : Accept
  ProgUnavail : Accept
  -- the lowest and the highest version
  ProgMismatch : ℕ → ℕ → Accept
  ProcUnavail : Accept
  GarbageArgs : Accept
  SystemErr : Accept

-- why a call was denied (section 9, reject_stat)
pub data Reject : Type 0 where
  -- the lowest and the highest version
  RpcMismatch : ℕ → ℕ → Reject
  -- an auth_stat
  AuthError : ℕ → Reject

pub data Header : Type 0 where
  -- xid, rpcvers, prog, vers, proc, cred and verf
  Call : ℕ → ℕ → ℕ → ℕ → ℕ → Auth → Auth → Header
  -- xid, verf, and what became of the call
  Accepted : ℕ → Auth → Accept → Header
  -- xid and the reason
  Denied : ℕ → Reject → Header

-- ---- their fields

pub data HeaderField : Type 0 where
  -- any number
  Number : ℕ → HeaderField
  -- of an enum of so many, numbered from 0, this one
  State : ℕ → ℕ → HeaderField
  -- the length of a body
  Length : ℕ → HeaderField
  -- a body, and zeros that fill its last unit up
  Body : List ℕ → HeaderField

abbrev pub auth_fields : Auth → List HeaderField
auth_fields a = Number a.flavor ∷ (Length (length a.body) ∷ (Body a.body ∷ []))

-- msg_type, reply_stat, accept_stat and reject_stat, in this order
abbrev pub message_type : ℕ → HeaderField
message_type n = State 2 n

abbrev pub reply_state : ℕ → HeaderField
reply_state n = State 2 n

abbrev pub accept_state : ℕ → HeaderField
accept_state n = State 6 n

abbrev pub reject_state : ℕ → HeaderField
reject_state n = State 2 n

abbrev pub accept_fields : Accept → List HeaderField
accept_fields Success = accept_state 0 ∷ []
accept_fields ProgUnavail = accept_state 1 ∷ []
accept_fields (ProgMismatch low high) = accept_state 2 ∷ (Number low ∷ (Number high ∷ []))
accept_fields ProcUnavail = accept_state 3 ∷ []
accept_fields GarbageArgs = accept_state 4 ∷ []
accept_fields SystemErr = accept_state 5 ∷ []

abbrev pub reject_fields : Reject → List HeaderField
reject_fields (RpcMismatch low high) = reject_state 0 ∷ (Number low ∷ (Number high ∷ []))
reject_fields (AuthError stat) = reject_state 1 ∷ (Number stat ∷ [])

-- the fields of a header in their order
abbrev pub header_fields : Header → List HeaderField
header_fields (Call xid rpcvers prog vers proc cred verf) =
    Number xid ∷ (message_type 0 ∷ (Number rpcvers ∷ (Number prog ∷ (Number vers ∷ (Number proc ∷
    (auth_fields cred ++ auth_fields verf))))))
header_fields (Accepted xid verf accept) =
    Number xid ∷ (message_type 1 ∷ (reply_state 0 ∷ (auth_fields verf ++ accept_fields accept)))
header_fields (Denied xid reject) =
    Number xid ∷ (message_type 1 ∷ (reply_state 1 ∷ reject_fields reject))

-- ---- their bytes

abbrev pub IsHeaderField : HeaderField → Type 0
IsHeaderField (Number n) = n < 2 ^ 32
IsHeaderField (State count n) = n < count
IsHeaderField (Length n) = n ≤ most_auth_bytes
IsHeaderField (Body bs) = IsByteList bs

abbrev pub AreHeaderFields : List HeaderField → Type 0
AreHeaderFields [] = Unit {0}
AreHeaderFields (f ∷ fs) = IsHeaderField f × AreHeaderFields fs

-- the numbers and bytes in it fit their places
abbrev pub IsHeader : Header → Type 0
IsHeader h = AreHeaderFields (header_fields h)

abbrev pub field_bytes : HeaderField → List ℕ
field_bytes (Number n) = word n
field_bytes (State count n) = word n
field_bytes (Length n) = word n
field_bytes (Body bs) = bs ++ copies (padding (length bs)) 0

abbrev pub fields_bytes : List HeaderField → List ℕ
fields_bytes [] = []
fields_bytes (f ∷ fs) = field_bytes f ++ fields_bytes fs

abbrev pub header_bytes : Header → List ℕ
header_bytes h = fields_bytes (header_fields h)

-- ---- messages

-- a reply that is no success: nothing stands behind its header
abbrev pub IsBare : Header → Type 0
IsBare (Call xid rpcvers prog vers proc cred verf) = ⊥
IsBare (Accepted xid verf Success) = ⊥
IsBare _ = Unit {0}

-- the bytes are a header, and behind it arguments or results
pub record IsMessage (bytes : List ℕ) (header : Header) (body : List ℕ) : Type 0 where
  pub fits : IsHeader header
  pub parts : bytes ≡ header_bytes header ++ body
  pub whole : IsBare header → body ≡ []

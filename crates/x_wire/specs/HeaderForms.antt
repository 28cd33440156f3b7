-- What is still to be read of a header, and what reading a part of it answers.
use Rattle.std.specs.Prelude.{◌≡◌, ℕ, zero, suc, ◌*◌, ◌^◌, ◌<◌, ◌≤◌, List, [], ◌∷◌, ◌++◌, length, Some}
use Rattle.x_value.specs.declared.fault.ReadCode.{ReadCode}
use Rattle.x_value.specs.declared.fault.ReadCode.TheVariants as codes
use Rattle.x_value.specs.Readings.{IsByteList}
use Rattle.x_wire.specs.Limits.{most_auth_bytes}
use Rattle.x_wire.specs.Headers.{Auth, Success, ProgUnavail, ProgMismatch, ProcUnavail, GarbageArgs}
use Rattle.x_wire.specs.Headers.{SystemErr, RpcMismatch, AuthError, Header, Call, Accepted, Denied}
use Rattle.x_wire.specs.Headers.{HeaderField, Number, State, Length, Body, fields_bytes, IsBare}
use Rattle.x_wire.specs.HeaderFaults.{UnitKind, unit_fault, fields_units}

-- ---- forms

pub data FieldKind : Type 0 where
  AnyNumber : FieldKind
  -- of an enum that is numbered from 0 to this number
  AnyState : ℕ → FieldKind
  AnyLength : FieldKind
  -- of so many bytes
  BodyOf : ℕ → FieldKind

abbrev pub IsOfKind : FieldKind → HeaderField → Type 0
IsOfKind AnyNumber (Number n) = n < 2 ^ 32
IsOfKind (AnyState last) (State count n) = (count ≡ suc last) × (n < count) × (n < 2 ^ 32)
IsOfKind AnyLength (Length n) = n ≤ most_auth_bytes
IsOfKind (BodyOf n) (Body bs) = (length bs ≡ n) × IsByteList bs
IsOfKind _ _ = ⊥

pub data HeaderForm : Type 0 where
  -- the header is whole
  Whole : Header → HeaderForm
  -- a field, and what stands behind it
  Next : FieldKind → (HeaderField → HeaderForm) → HeaderForm

-- the fields lead from the one form to the other
abbrev pub Path : HeaderForm → List HeaderField → HeaderForm → Type 0
Path form [] on = form ≡ on
Path (Whole h) (g ∷ gs) on = ⊥
Path (Next kind f) (g ∷ gs) on = IsOfKind kind g × Path (f g) gs on

abbrev pub number_in : HeaderField → ℕ
number_in (Number n) = n
number_in (State count n) = n
number_in (Length n) = n
number_in (Body bs) = 0

abbrev pub bytes_in : HeaderField → List ℕ
bytes_in (Body bs) = bs
bytes_in _ = []

abbrev pub number_form : (ℕ → HeaderForm) → HeaderForm
number_form on = Next AnyNumber (λ f. on (number_in f))

abbrev pub state_form : ℕ → (ℕ → HeaderForm) → HeaderForm
state_form last on = Next (AnyState last) (λ f. on (number_in f))

abbrev pub length_form : (ℕ → HeaderForm) → HeaderForm
length_form on = Next AnyLength (λ f. on (number_in f))

abbrev pub body_form : ℕ → (List ℕ → HeaderForm) → HeaderForm
body_form n on = Next (BodyOf n) (λ f. on (bytes_in f))

abbrev pub auth : ℕ → List ℕ → Auth
auth flavor bs = record { flavor = flavor; body = bs }

abbrev pub auth_form : (Auth → HeaderForm) → HeaderForm
auth_form on = number_form (λ flavor. length_form (λ n. body_form n (λ bs. on (auth flavor bs))))

-- the lowest and the highest version end a header
abbrev pub bounds_form : (ℕ → ℕ → Header) → HeaderForm
bounds_form header = number_form (λ low. number_form (λ high. Whole (header low high)))

-- ---- what stands in a header

abbrev pub call_form : ℕ → HeaderForm
call_form xid =
    number_form (λ rpcvers. number_form (λ prog. number_form (λ vers. number_form (λ proc.
    auth_form (λ cred. auth_form (λ verf. Whole (Call xid rpcvers prog vers proc cred verf)))))))

abbrev pub accept_form : ℕ → Auth → ℕ → HeaderForm
accept_form xid verf zero = Whole (Accepted xid verf Success)
accept_form xid verf (suc zero) = Whole (Accepted xid verf ProgUnavail)
accept_form xid verf (suc (suc zero)) = bounds_form (λ low high. Accepted xid verf (ProgMismatch low high))
accept_form xid verf (suc (suc (suc zero))) = Whole (Accepted xid verf ProcUnavail)
accept_form xid verf (suc (suc (suc (suc zero)))) = Whole (Accepted xid verf GarbageArgs)
accept_form xid verf (suc (suc (suc (suc (suc n))))) = Whole (Accepted xid verf SystemErr)

abbrev pub accepted_form : ℕ → HeaderForm
accepted_form xid = auth_form (λ verf. state_form 5 (λ n. accept_form xid verf n))

abbrev pub reject_form : ℕ → ℕ → HeaderForm
reject_form xid zero = bounds_form (λ low high. Denied xid (RpcMismatch low high))
reject_form xid (suc n) = number_form (λ stat. Whole (Denied xid (AuthError stat)))

abbrev pub denied_form : ℕ → HeaderForm
denied_form xid = state_form 1 (λ n. reject_form xid n)

abbrev pub reply_form : ℕ → ℕ → HeaderForm
reply_form xid zero = accepted_form xid
reply_form xid (suc n) = denied_form xid

abbrev pub kind_form : ℕ → ℕ → HeaderForm
kind_form xid zero = call_form xid
kind_form xid (suc n) = state_form 1 (λ n. reply_form xid n)

abbrev pub header_form : HeaderForm
header_form = number_form (λ xid. state_form 1 (λ n. kind_form xid n))

-- ---- answers

-- the front of the bytes was read, and the rest is still to be read
pub record Reads (form : HeaderForm) (bytes : List ℕ) (on : HeaderForm) (rest : List ℕ) : Type 0 where
  pub fields : List HeaderField
  pub path : Path form fields on
  pub parts : bytes ≡ fields_bytes fields ++ rest

-- the bytes are a proper front of what is to be read
pub record BegunForm (form : HeaderForm) (front : List ℕ) : Type 0 where
  pub rest : List ℕ
  pub some : 0 < length rest
  pub fields : List HeaderField
  pub header : Header
  pub path : Path form fields (Whole header)
  pub parts : front ++ rest ≡ fields_bytes fields

-- the first unit that nothing of the form goes on with; so many bytes are left from its start on
pub record BadForm (form : HeaderForm) (bytes : List ℕ) (left : ℕ) (code : ReadCode) : Type 0 where
  pub front : List ℕ
  pub unit : List ℕ
  pub rest : List ℕ
  pub parts : bytes ≡ front ++ (unit ++ rest)
  pub place : left ≡ length (unit ++ rest)
  pub wide : length unit ≡ 4
  pub begun : BegunForm form front
  pub ended : (x : List ℕ) (fs : List HeaderField) (h : Header) → Path form fs (Whole h) →
      front ++ (unit ++ x) ≡ fields_bytes fs → ⊥
  pub cause : (x : List ℕ) (fs : List HeaderField) (h : Header) → Path form fs (Whole h) →
      front ++ x ≡ fields_bytes fs →
      (before : List UnitKind) × (kind : UnitKind) × (after : List UnitKind) ×
      (fields_units fs ≡ before ++ (kind ∷ after)) ×
      (length front ≡ 4 * length before) × (unit_fault kind unit ≡ Some code)

-- the bytes end too early
pub record CutForm (form : HeaderForm) (bytes : List ℕ) : Type 0 where
  pub front : List ℕ
  pub tail : List ℕ
  pub parts : bytes ≡ front ++ tail
  pub units : ℕ
  pub whole : length front ≡ 4 * units
  pub part : length tail < 4
  pub begun : BegunForm form front

-- why the bytes are refused, with so many bytes left from the place on
pub data FormFault (form : HeaderForm) (bytes : List ℕ) (left : ℕ) (code : ReadCode) : Type 0 where
  ends : code ≡ codes.Short → left ≡ 0 → CutForm form bytes → FormFault form bytes left code
  stops : BadForm form bytes left code → FormFault form bytes left code
  trails : code ≡ codes.Trailing → (h : Header) → (rest : List ℕ) → Reads form bytes (Whole h) rest →
      IsBare h → 0 < length rest → left ≡ length rest → FormFault form bytes left code

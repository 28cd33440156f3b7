-- Which bytes are refused as no message, where and why.
use Rattle.std.specs.Prelude.{◌≡◌, ℕ, zero, suc, ◌*◌, ◌<◌, List, [], ◌∷◌, ◌++◌, length, drop, nat_lt}
use Rattle.std.specs.Prelude.{if◌then◌else◌, Option, Some, None}
use Rattle.std.specs.Int.{from_be_bytes, w32}
use Rattle.x_value.specs.declared.fault.ReadCode.{ReadCode}
use Rattle.x_value.specs.declared.fault.ReadCode.TheVariants as codes
use Rattle.x_units.specs.Units.{are_zeros}
use Rattle.x_wire.specs.Limits.{most_auth_bytes}
use Rattle.x_wire.specs.Headers.{Header, HeaderField, Number, State, Length, Body, header_fields}
use Rattle.x_wire.specs.Headers.{header_bytes, IsHeader, IsBare}

-- ---- what each unit of four bytes in a header is

pub data UnitKind : Type 0 where
  -- a number, or bytes of a body
  AnyUnit : UnitKind
  -- a number of an enum of so many
  StateUnit : ℕ → UnitKind
  -- the length of a body
  LengthUnit : UnitKind
  -- so many bytes of a body, and zeros
  PaddedUnit : ℕ → UnitKind

-- the units of a body of n bytes
abbrev pub body_units : ℕ → List UnitKind
body_units zero = []
body_units (suc zero) = PaddedUnit 1 ∷ []
body_units (suc (suc zero)) = PaddedUnit 2 ∷ []
body_units (suc (suc (suc zero))) = PaddedUnit 3 ∷ []
body_units (suc (suc (suc (suc n)))) = AnyUnit ∷ body_units n

abbrev pub field_units : HeaderField → List UnitKind
field_units (Number n) = AnyUnit ∷ []
field_units (State count n) = StateUnit count ∷ []
field_units (Length n) = LengthUnit ∷ []
field_units (Body bs) = body_units (length bs)

abbrev pub fields_units : List HeaderField → List UnitKind
fields_units [] = []
fields_units (f ∷ fs) = field_units f ++ fields_units fs

abbrev pub header_units : Header → List UnitKind
header_units h = fields_units (header_fields h)

-- why four bytes may not be such a unit, if they may not
abbrev pub unit_fault : UnitKind → List ℕ → Option ReadCode
unit_fault AnyUnit bytes = None
unit_fault (StateUnit count) bytes =
    if nat_lt (from_be_bytes w32 bytes) count then None else Some codes.BadEnum
unit_fault LengthUnit bytes =
    if nat_lt most_auth_bytes (from_be_bytes w32 bytes) then Some codes.TooMany else None
unit_fault (PaddedUnit k) bytes = if are_zeros (drop k bytes) then None else Some codes.BadPad

-- ---- faults

abbrev pub BeginsHeader : List ℕ → Type 0
BeginsHeader front = (rest : List ℕ) × (h : Header) × IsHeader h × (front ++ rest ≡ header_bytes h)

abbrev pub NoFrontIsHeader : List ℕ → Type 0
NoFrontIsHeader bytes = (h : Header) (rest : List ℕ) → IsHeader h → bytes ≡ header_bytes h ++ rest → ⊥

-- in each header that begins with the front, the unit behind it would be refused for this reason
abbrev pub IsHeaderCause : List ℕ → List ℕ → ReadCode → Type 0
IsHeaderCause front unit code =
    (h : Header) (y : List ℕ) → IsHeader h → front ++ y ≡ header_bytes h →
    (before : List UnitKind) × (kind : UnitKind) × (after : List UnitKind) ×
    (header_units h ≡ before ++ (kind ∷ after)) ×
    (length front ≡ 4 * length before) ×
    (unit_fault kind unit ≡ Some code)

-- the first whole unit to whose end the bytes begin no header
pub record IsBadHeaderUnit (bytes : List ℕ) (at : ℕ) (code : ReadCode) : Type 0 where
  pub none : NoFrontIsHeader bytes
  pub front : List ℕ
  pub unit : List ℕ
  pub rest : List ℕ
  pub parts : bytes ≡ front ++ (unit ++ rest)
  pub place : at ≡ length front
  pub wide : length unit ≡ 4
  pub begins : BeginsHeader front
  pub ended : BeginsHeader (front ++ unit) → ⊥
  pub cause : IsHeaderCause front unit code

-- all whole units begin a header, and no front of the bytes is one
pub record IsCutHeader (bytes : List ℕ) (at : ℕ) : Type 0 where
  pub none : NoFrontIsHeader bytes
  pub place : at ≡ length bytes
  pub front : List ℕ
  pub tail : List ℕ
  pub parts : bytes ≡ front ++ tail
  pub units : ℕ
  pub whole : length front ≡ 4 * units
  pub part : length tail < 4
  pub begins : BeginsHeader front

-- bytes stand behind a reply that is no success
pub record HasBytesBehind (bytes : List ℕ) (at : ℕ) : Type 0 where
  pub header : Header
  pub more : List ℕ
  pub fits : IsHeader header
  pub bare : IsBare header
  pub parts : bytes ≡ header_bytes header ++ more
  pub some : 0 < length more
  pub place : at ≡ length (header_bytes header)

-- the one fault of bytes that are no message
pub data IsHeaderFault (bytes : List ℕ) (at : ℕ) (code : ReadCode) : Type 0 where
  trailing : code ≡ codes.Trailing → HasBytesBehind bytes at → IsHeaderFault bytes at code
  bad_unit : IsBadHeaderUnit bytes at code → IsHeaderFault bytes at code
  cut_short : code ≡ codes.Short → IsCutHeader bytes at → IsHeaderFault bytes at code

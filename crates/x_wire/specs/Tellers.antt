-- What a teller keeps of calls, and what it tells of a message.
use Rattle.std.specs.Prelude.{◌≡◌, ℕ, Bool, List, Option, Some, None, MatchOption, codes}
use Rattle.std.specs.Prelude.{option_map, option_and_then}
use Rattle.x_streams.specs.Streams.{Stream}
use Rattle.x_streams.specs.Writing.{Inked, Adds}
use Rattle.x_schema.specs.Schema.{Schema, IsShownAs, IsTypeId, kept_at}
use Rattle.x_schema.specs.declared.procedure.CompactProcedure.{CompactProcedure}
use Rattle.x_schema.specs.declared.procedure.Procedure.{Procedure}
use Rattle.x_schema.specs.declared.schema.TypeId.{TypeId}
use Rattle.x_wire.specs.Calls.{CallOfXid, Calls, call_of, calls_behind, procedure_called}
use Rattle.x_wire.specs.Headers.{Header}
use Rattle.x_wire.specs.MessageTexts.{Told, plain, then_told, head_text, IsBehindHead, IsMessageText}
use Rattle.x_wire.specs.declared.telling.calls.LastCall.{LastCall}

-- ---- procedures

-- a procedure of the schema as it is shown
pub record IsKnown (s : Schema) (procedure : Option CompactProcedure) (p : Procedure) : Type 0 where
  pub shown : IsShownAs s procedure p.name.now p.arg p.res
  pub arg_known : IsTypeId s p.arg
  pub res_known : IsTypeId s p.res

-- this procedure of the schema is shown, or none
abbrev pub IsFound : Schema → Option CompactProcedure → Option Procedure → Type 0
IsFound s procedure found = MatchOption found (procedure ≡ None) (λ p. IsKnown s procedure p)

-- what stands at an index of the schema, if there is one
abbrev pub kept_by : Schema → Option ℕ → Option CompactProcedure
kept_by s index = option_and_then (kept_at s) index

abbrev pub name_found : Option Procedure → List ℕ
name_found None = codes "?"
name_found (Some p) = p.name.now

abbrev pub arg_found : Option Procedure → Option TypeId
arg_found found = option_map (λ p. p.arg) found

abbrev pub res_found : Option Procedure → Option TypeId
res_found found = option_map (λ p. p.res) found

-- ---- messages

-- the last call of each xid
abbrev pub LastCalls : Type 0
LastCalls = ℕ → Option LastCall

-- a call, as the lines of its replies need it
pub record Heard : Type 0 where
  pub number : ℕ
  pub procedure : Option CompactProcedure

abbrev pub heard_kept : Schema → LastCall → Heard
heard_kept s kept = record { number = kept.number; procedure = kept_by s kept.procedure }

abbrev pub heard_call : Schema → CallOfXid → Heard
heard_call s call = record { number = call.number; procedure = procedure_called s call.procedure }

-- the call that was kept is this one
abbrev pub IsHeardAs : Schema → Option LastCall → Option CallOfXid → Type 0
IsHeardAs s kept call = option_map (heard_kept s) kept ≡ option_map (heard_call s) call

-- of each xid the last of these calls is kept
abbrev pub Knows : Schema → LastCalls → Calls → Type 0
Knows s last calls = (xid : ℕ) → IsHeardAs s (last xid) (call_of calls xid)

-- the procedure of a call that was kept
abbrev pub procedure_heard : Schema → Option LastCall → Option CompactProcedure
procedure_heard s kept = option_and_then (λ h. kept_by s h.procedure) kept

-- its number
abbrev pub number_kept : Option LastCall → Option ℕ
number_kept kept = option_map (λ h. h.number) kept

-- lines were added, and it was answered whether a fault is among them
pub record IsAdded (t : Told) (refused : Bool) (p : Inked) (now : Stream) (q : Inked)
    (now' : Stream) : Type 0 where
  pub added : Adds p now q now' t.text
  pub refused_is : refused ≡ t.refused

-- Behind any calls that are known, the text of the message of this number was added, and the calls behind it
-- are known.
abbrev pub TellsMessage : Schema → ℕ → LastCalls → List ℕ → Bool → LastCalls
    → Inked → Stream → Inked → Stream → Type 0
TellsMessage s number old bytes refused new p now q now' =
    (calls : Calls) → Knows s old calls
    → (t : Told) × (calls' : Calls) × IsMessageText s number calls bytes t calls' × Knows s new calls'
    × IsAdded t refused p now q now'

-- the same of a message that is this header and this body
abbrev pub TellsHeader : Schema → ℕ → LastCalls → Header → List ℕ → Bool → LastCalls
    → Inked → Stream → Inked → Stream → Type 0
TellsHeader s number old h body refused new p now q now' =
    (calls : Calls) → Knows s old calls
    → (behind : Told) × IsBehindHead s calls h body behind × Knows s new (calls_behind number calls h)
    × IsAdded (then_told (plain (head_text s number calls h)) behind) refused p now q now'

-- the same of a reply, whose xid was last that of this call
abbrev pub TellsReply : Schema → ℕ → ℕ → Option LastCall → Header → List ℕ → Bool → Inked → Stream → Inked
    → Stream → Type 0
TellsReply s number xid heard h body refused p now q now' =
    (calls : Calls) → IsHeardAs s heard (call_of calls xid)
    → (behind : Told) × IsBehindHead s calls h body behind
    × IsAdded (then_told (plain (head_text s number calls h)) behind) refused p now q now'

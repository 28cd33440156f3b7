-- Calls as their replies need them.
use Rattle.std.specs.Prelude.{ℕ, ◌==◌, nat_eq, List, ◌∷◌, Option, Some, None, option_map, option_and_then}
use Rattle.std.specs.Prelude.{if◌then◌else◌, codes}
use Rattle.std.specs.Map.{lookup}
use Rattle.x_schema.specs.Schema.{Schema, arguments_id, name_at, procedure_at, results_id}
use Rattle.x_schema.specs.declared.schema.TypeId.{TypeId}
use Rattle.x_schema.specs.declared.procedure.CompactProcedure.{CompactProcedure}
use Rattle.x_schema.specs.declared.procedure.ProcedureNumbers.{ProcedureNumbers}
use Rattle.x_wire.specs.Headers.{Header, Call, Accepted, Denied}

-- a call: its number among the messages, from 1, and the procedure that it names
pub record CallOfXid : Type 0 where
  pub number : ℕ
  pub procedure : Option ProcedureNumbers

-- The calls so far by their xids, the last one first.
abbrev pub Calls : Type 0
Calls = List (ℕ × CallOfXid)

-- a reply belongs to the last earlier call with its xid
abbrev pub call_of : Calls → ℕ → Option CallOfXid
call_of calls xid = lookup (nat_eq xid) calls

-- the procedure that a call names; what stands in a call of another version of the protocol (RFC 5531,
-- section 9), is not said
abbrev pub numbers_called : (rpcvers prog vers proc : ℕ) → Option ProcedureNumbers
numbers_called rpcvers prog vers proc =
    if rpcvers == 2 then Some (record { program = prog; version = vers; procedure = proc }) else None

-- the calls behind the message of this number
abbrev pub calls_behind : ℕ → Calls → Header → Calls
calls_behind number calls (Call xid rpcvers prog vers proc cred verf) =
    (xid, record { number = number; procedure = numbers_called rpcvers prog vers proc }) ∷ calls
calls_behind number calls (Accepted xid verf accept) = calls
calls_behind number calls (Denied xid reject) = calls

-- ---- the procedure that was called

abbrev pub procedure_called : Schema → Option ProcedureNumbers → Option CompactProcedure
procedure_called s numbers = option_and_then (procedure_at s) numbers

abbrev pub number_heard : Option CallOfXid → Option ℕ
number_heard heard = option_map (λ h. h.number) heard

abbrev pub numbers_heard : Option CallOfXid → Option ProcedureNumbers
numbers_heard heard = option_and_then (λ h. h.procedure) heard

-- its name, or `?`
abbrev pub name_called : Schema → Option CompactProcedure → List ℕ
name_called s None = codes "?"
name_called s (Some kept) = name_at s kept.name

abbrev pub arguments_called : Option CompactProcedure → Option TypeId
arguments_called procedure = option_map arguments_id procedure

abbrev pub results_called : Option CompactProcedure → Option TypeId
results_called procedure = option_map results_id procedure

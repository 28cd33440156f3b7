-- The last call of each xid, as it is kept.
use Rattle.std.specs.Prelude.{ℕ, ◌+◌, ◌*◌, ◌^◌, nat_eq, cond, List, [], ◌∷◌, ◌++◌, map, Option, Some, None}
use Rattle.std.specs.Map.{lookup}
use Rattle.std.specs.BTreeMap.{BTreeMap}
use Rattle.x_wire.specs.declared.telling.calls.CompactCall.{CompactCall}
use Rattle.x_wire.specs.declared.telling.calls.LastCall.{LastCall}

-- how many messages there were, and their calls by xids: of those with one xid the first one here counts
pub record CountedCalls : Type 0 where
  pub count : ℕ
  pub calls : List (ℕ × LastCall)

-- the last call of an xid
abbrev pub last_call : CountedCalls → ℕ → Option LastCall
last_call counted xid = lookup (nat_eq xid) counted.calls

-- the place of a procedure, of which this is kept
abbrev pub procedure_kept : ℕ → Option ℕ
procedure_kept kept = cond (nat_eq kept 4294967295) None (Some kept)

-- the call of which this is kept in the generation of this upper half
abbrev pub call_kept : ℕ → CompactCall → LastCall
call_kept generation kept = record {
  number = generation * 2 ^ 32 + kept.number;
  procedure = procedure_kept kept.procedure;
}

-- the calls of generations, the first of which has this upper half: those of a later one come first
abbrev pub calls_in : ℕ → List (BTreeMap ℕ CompactCall) → List (ℕ × LastCall)
calls_in generation [] = []
calls_in generation (m ∷ ms) =
    calls_in (generation + 1) ms ++ map (λ e. (e.0, call_kept generation e.1)) m.entries

-- the last call of an xid in generations
abbrev pub last_in : ℕ → List (BTreeMap ℕ CompactCall) → ℕ → Option LastCall
last_in generation ms xid = lookup (nat_eq xid) (calls_in generation ms)

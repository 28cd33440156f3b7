-- What is printed of a message.
use Rattle.std.specs.Prelude.{◌≡◌, ℕ, Bool, true, false, ◌||◌, List, [], ◌++◌, Option, Some, None, codes}
use Rattle.std.specs.Fmt.{decimal}
use Rattle.x_schema.specs.Schema.{Schema}
use Rattle.x_schema.specs.declared.schema.TypeId.{TypeId}
use Rattle.x_value.specs.Dumps.{IsReadFault, IsShown}
use Rattle.x_value.specs.FaultTexts.{fault_line}
use Rattle.x_value.specs.Lines.{hex_text, node_lines}
use Rattle.x_value.specs.Shown.{Node}
use Rattle.x_value.specs.declared.fault.ReadCode.{ReadCode}
use Rattle.x_value.specs.declared.fault.ReadCode.TheVariants.{NoMemory}
use Rattle.x_wire.specs.Calls.{CallOfXid, Calls, call_of, calls_behind, number_heard, numbers_called}
use Rattle.x_wire.specs.Calls.{numbers_heard, procedure_called, name_called, arguments_called, results_called}
use Rattle.x_wire.specs.HeaderFaults.{IsHeaderFault}
use Rattle.x_wire.specs.Headers.{Auth, Accept, Success, ProgUnavail, ProgMismatch, ProcUnavail, GarbageArgs}
use Rattle.x_wire.specs.Headers.{SystemErr, Reject, RpcMismatch, AuthError, Header, Call, Accepted, Denied}
use Rattle.x_wire.specs.Headers.{IsMessage}

-- Lines, and whether a fault is among them.
pub record Told : Type 0 where
  pub text : List ℕ
  pub refused : Bool

abbrev pub plain : List ℕ → Told
plain text = record { text = text; refused = false }

abbrev pub refused : List ℕ → Told
refused text = record { text = text; refused = true }

abbrev pub then_told : Told → Told → Told
then_told first rest = record { text = first.text ++ rest.text; refused = first.refused || rest.refused }

-- ---- arguments and results

-- `raw HEX`
abbrev pub raw_line : List ℕ → List ℕ
raw_line bytes = codes "raw " ++ hex_text bytes ++ codes "\n"

-- Arguments or results are read by their type; where it is not known they stand as they are, and behind their
-- fault where the type refuses them.
pub data IsBodyText (s : Schema) (type : Option TypeId) (bytes : List ℕ) (t : Told) : Type 0 where
  unread : type ≡ None → t ≡ plain (raw_line bytes) → IsBodyText s type bytes t
  shown : (id : TypeId) (nodes : List Node) → type ≡ Some id → IsShown s id bytes nodes
      → t ≡ plain (node_lines nodes)
      → IsBodyText s type bytes t
  stuck : (id : TypeId) (at : ℕ) (code : ReadCode) → type ≡ Some id → IsReadFault s id bytes at code
      → (code ≡ NoMemory → ⊥)
      → t ≡ refused (fault_line at code ++ raw_line bytes) → IsBodyText s type bytes t

-- ---- headers

-- `WORD F HEX`
abbrev pub auth_line : List ℕ → Auth → List ℕ
auth_line word a = word ++ codes " " ++ decimal a.flavor ++ codes " " ++ hex_text a.body ++ codes "\n"

-- `# K call xid=X rpcvers=R prog=P vers=V proc=Q NAME`
abbrev pub call_line : (number xid rpcvers prog vers proc : ℕ) → List ℕ → List ℕ
call_line number xid rpcvers prog vers proc name =
    (codes "# " ++ decimal number ++ codes " call xid=" ++ decimal xid)
    ++ (codes " rpcvers=" ++ decimal rpcvers ++ codes " prog=" ++ decimal prog)
    ++ (codes " vers=" ++ decimal vers ++ codes " proc=" ++ decimal proc)
    ++ (codes " " ++ name ++ codes "\n")

-- the number of the call
abbrev pub call_number : Option ℕ → List ℕ
call_number None = codes "none"
call_number (Some number) = decimal number

-- `# K reply xid=X STATE call=J NAME`
abbrev pub reply_line : (number xid : ℕ) → (state : List ℕ) → (call : Option ℕ) → (name : List ℕ) → List ℕ
reply_line number xid state call name =
    (codes "# " ++ decimal number ++ codes " reply xid=" ++ decimal xid)
    ++ (codes " " ++ state ++ codes " call=" ++ call_number call)
    ++ (codes " " ++ name ++ codes "\n")

-- what became of a call, by the names of RFC 5531, section 9
abbrev pub accept_name : Accept → List ℕ
accept_name Success = codes "SUCCESS"
accept_name ProgUnavail = codes "PROG_UNAVAIL"
accept_name (ProgMismatch low high) = codes "PROG_MISMATCH"
accept_name ProcUnavail = codes "PROC_UNAVAIL"
accept_name GarbageArgs = codes "GARBAGE_ARGS"
accept_name SystemErr = codes "SYSTEM_ERR"

abbrev pub reject_name : Reject → List ℕ
reject_name (RpcMismatch low high) = codes "RPC_MISMATCH"
reject_name (AuthError stat) = codes "AUTH_ERROR"

-- `low L high H`
abbrev pub bounds_line : ℕ → ℕ → List ℕ
bounds_line low high = codes "low " ++ decimal low ++ codes " high " ++ decimal high ++ codes "\n"

abbrev pub accept_details : Accept → List ℕ
accept_details (ProgMismatch low high) = bounds_line low high
accept_details _ = []

-- `auth_stat N`, where it isn't the version of the protocol
abbrev pub reject_details : Reject → List ℕ
reject_details (RpcMismatch low high) = bounds_line low high
reject_details (AuthError stat) = codes "auth_stat " ++ decimal stat ++ codes "\n"

-- the lines of a reply that belongs to this call, if to any
abbrev pub reply_text : Schema → (number xid : ℕ) → (state : List ℕ) → Option CallOfXid → List ℕ
reply_text s number xid state heard =
    reply_line number xid state (number_heard heard)
    (name_called s (procedure_called s (numbers_heard heard)))

-- the lines of a header
abbrev pub head_text : Schema → ℕ → Calls → Header → List ℕ
head_text s number calls (Call xid rpcvers prog vers proc cred verf) =
    call_line number xid rpcvers prog vers proc
    (name_called s (procedure_called s (numbers_called rpcvers prog vers proc)))
    ++ auth_line (codes "cred") cred ++ auth_line (codes "verf") verf
head_text s number calls (Accepted xid verf accept) =
    reply_text s number xid (codes "accepted " ++ accept_name accept) (call_of calls xid)
    ++ auth_line (codes "verf") verf ++ accept_details accept
head_text s number calls (Denied xid reject) =
    reply_text s number xid (codes "denied " ++ reject_name reject) (call_of calls xid)
    ++ reject_details reject

-- ---- messages

-- what stands behind a header: the arguments of a call, the results of a success, and else nothing
abbrev pub IsBehindHead : Schema → Calls → Header → List ℕ → Told → Type 0
IsBehindHead s calls (Call xid rpcvers prog vers proc cred verf) body t =
    IsBodyText s (arguments_called (procedure_called s (numbers_called rpcvers prog vers proc))) body t
IsBehindHead s calls (Accepted xid verf Success) body t =
    IsBodyText s (results_called (procedure_called s (numbers_heard (call_of calls xid)))) body t
IsBehindHead s calls _ body t = t ≡ plain []

-- `# K fault CODE WORD at N`
abbrev pub bad_header_line : (number at : ℕ) → ReadCode → List ℕ
bad_header_line number at code = codes "# " ++ decimal number ++ codes " " ++ fault_line at code

-- The text of the message of this number behind these calls, and the calls behind it.
pub data IsMessageText (s : Schema) (number : ℕ) (calls : Calls) (bytes : List ℕ) (t : Told)
    (calls' : Calls) : Type 0 where
  read : (h : Header) (body : List ℕ) (behind : Told) → IsMessage bytes h body
      → IsBehindHead s calls h body behind
      → t ≡ then_told (plain (head_text s number calls h)) behind → calls' ≡ calls_behind number calls h
      → IsMessageText s number calls bytes t calls'
  stuck : (at : ℕ) (code : ReadCode) → IsHeaderFault bytes at code
      → t ≡ refused (bad_header_line number at code ++ raw_line bytes) → calls' ≡ calls
      → IsMessageText s number calls bytes t calls'

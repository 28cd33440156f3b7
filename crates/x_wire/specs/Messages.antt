-- The messages that are read, as headers with a body, and the names of what became of a call.
use Rattle.std.specs.Prelude.{ℕ, List, [], codes}
use Rattle.x_wire.specs.declared.messages.parts.Auth.{Auth as RustAuth}
use Rattle.x_wire.specs.declared.messages.parts.AcceptStat.{AcceptStat}
use Rattle.x_wire.specs.declared.messages.parts.AcceptStat.TheVariants as accepts
use Rattle.x_wire.specs.declared.messages.parts.RejectStat.{RejectStat}
use Rattle.x_wire.specs.declared.messages.parts.RejectStat.TheVariants as rejects
use Rattle.x_wire.specs.declared.messages.parts.Reply.{Reply}
use Rattle.x_wire.specs.declared.messages.parts.Reply.TheVariants as replies
use Rattle.x_wire.specs.declared.messages.parts.MessageKind.{MessageKind}
use Rattle.x_wire.specs.declared.messages.parts.MessageKind.TheVariants as kinds
use Rattle.x_wire.specs.declared.messages.parts.Message.{Message}
use Rattle.x_wire.specs.Headers.{Auth, Accept, Success, ProgUnavail, ProgMismatch, ProcUnavail, GarbageArgs}
use Rattle.x_wire.specs.Headers.{SystemErr, Reject, RpcMismatch, AuthError, Header, Call, Accepted, Denied}

abbrev pub auth_of : RustAuth → Auth
auth_of a = record { flavor = a.flavor; body = a.body.now }

abbrev pub accept_of : AcceptStat → Accept
accept_of (accepts.Success body) = Success
accept_of accepts.ProgUnavail = ProgUnavail
accept_of (accepts.ProgMismatch low high) = ProgMismatch low high
accept_of accepts.ProcUnavail = ProcUnavail
accept_of accepts.GarbageArgs = GarbageArgs
accept_of accepts.SystemErr = SystemErr

abbrev pub reject_of : RejectStat → Reject
reject_of (rejects.RpcMismatch low high) = RpcMismatch low high
reject_of (rejects.AuthError stat) = AuthError stat

abbrev pub header_of_reply : ℕ → Reply → Header
header_of_reply xid (replies.Accepted verf stat) = Accepted xid (auth_of verf) (accept_of stat)
header_of_reply xid (replies.Denied stat) = Denied xid (reject_of stat)

abbrev pub header_of_kind : ℕ → MessageKind → Header
header_of_kind xid (kinds.Call c) = Call xid c.rpcvers c.prog c.vers c.proc (auth_of c.cred) (auth_of c.verf)
header_of_kind xid (kinds.Reply reply) = header_of_reply xid reply

-- the header of a message
abbrev pub header_of : Message → Header
header_of m = header_of_kind m.xid m.kind

abbrev pub results_of : AcceptStat → List ℕ
results_of (accepts.Success body) = body.now
results_of _ = []

abbrev pub body_of_reply : Reply → List ℕ
body_of_reply (replies.Accepted verf stat) = results_of stat
body_of_reply (replies.Denied stat) = []

abbrev pub body_of_kind : MessageKind → List ℕ
body_of_kind (kinds.Call c) = c.body.now
body_of_kind (kinds.Reply reply) = body_of_reply reply

-- its arguments or results
abbrev pub body_of : Message → List ℕ
body_of m = body_of_kind m.kind

-- ---- names

abbrev pub accept_text : AcceptStat → List ℕ
accept_text (accepts.Success body) = codes "SUCCESS"
accept_text accepts.ProgUnavail = codes "PROG_UNAVAIL"
accept_text (accepts.ProgMismatch low high) = codes "PROG_MISMATCH"
accept_text accepts.ProcUnavail = codes "PROC_UNAVAIL"
accept_text accepts.GarbageArgs = codes "GARBAGE_ARGS"
accept_text accepts.SystemErr = codes "SYSTEM_ERR"

abbrev pub reject_text : RejectStat → List ℕ
reject_text (rejects.RpcMismatch low high) = codes "RPC_MISMATCH"
reject_text (rejects.AuthError stat) = codes "AUTH_ERROR"

-- What is told of messages: the parts put together.
use Rattle.std.proofs.Common.{◌≡◌, ℕ, nat_eq, Bor, Bool, true, false, cond, IfOk, Result, Ok, Err, List, []}
use Rattle.std.proofs.Common.{◌∷◌, ◌++◌, Option, Some, None, codes, refl, sym, ap, subst, ◌∙◌, append-nil}
use Rattle.std.proofs.Common.{arith, MatchOption}
use Rattle.std.proofs.lemmas.Bool.Decides.{nat_tests}
use Rattle.std.specs.Prelude.{option_map, option_and_then}
use Rattle.x_streams.specs.Streams.{Stream}
use Rattle.x_streams.specs.Writing.{Inked, Adds}
use Rattle.x_streams.proofs.Pens.{adds_trans}
use Rattle.x_schema.specs.Schema.{Schema, IsTypeId}
use Rattle.x_schema.specs.declared.procedure.CompactProcedure.{CompactProcedure}
use Rattle.x_schema.specs.declared.schema.TypeId.{TypeId}
use Rattle.x_schema.specs.declared.procedure.Procedure.{Procedure}
use Rattle.x_schema.specs.declared.procedure.ProcedureNumbers.{ProcedureNumbers}
use Rattle.x_value.specs.declared.fault.ReadCode.{ReadCode}
use Rattle.x_lists.specs.declared.no_memory.NoMemory.{NoMemory}
use Rattle.x_wire.specs.Messages.{accept_of, body_of_reply, header_of_reply, results_of}
use Rattle.x_wire.specs.declared.messages.parts.AcceptStat.{AcceptStat}
use Rattle.x_wire.specs.declared.messages.parts.AcceptStat.TheVariants as accepts
use Rattle.x_wire.specs.MessageTexts as texts
use Rattle.x_wire.specs.declared.messages.parts.Reply.{Reply}
use Rattle.x_wire.specs.declared.messages.parts.Reply.TheVariants as replies
use Rattle.x_wire.specs.Bodies.{IsReadAs, told_of}
use Rattle.x_wire.specs.Calls.{CallOfXid, Calls, arguments_called, call_of, calls_behind, name_called}
use Rattle.x_wire.specs.Calls.{number_heard, numbers_called, numbers_heard, procedure_called, results_called}
use Rattle.x_wire.specs.HeaderFaults.{IsHeaderFault}
use Rattle.x_wire.specs.Headers.{Auth, Accept, Success, Reject, Header, Call, Accepted, Denied, IsMessage}
use Rattle.x_wire.specs.MessageTexts.{IsBehindHead, IsBodyText, accept_details, accept_name, auth_line}
use Rattle.x_wire.specs.MessageTexts.{bad_header_line, call_line, head_text, plain, raw_line, then_told}
use Rattle.x_wire.specs.MessageTexts.{reject_details, reject_name, reply_line, reply_text, unread, shown}
use Rattle.x_wire.specs.MessageTexts.{stuck}
use Rattle.x_wire.specs.Tellers.{Heard, IsFound, IsHeardAs, Knows, LastCalls, TellsHeader, TellsMessage}
use Rattle.x_wire.specs.Tellers.{TellsReply, arg_found, heard_call, heard_kept, kept_by, name_found}
use Rattle.x_wire.specs.Tellers.{number_kept, procedure_heard, res_found}
use Rattle.x_wire.specs.declared.telling.body.Body.{Body}
use Rattle.x_wire.specs.declared.telling.body.Body.TheVariants.{Unread, Value, Refused}
use Rattle.x_wire.specs.declared.telling.calls.LastCall.{LastCall}

-- ---- the procedure that was called

pub name_is : (s : Schema) (kept : Option CompactProcedure) (found : Option Procedure) → IsFound s kept found
    → name_found found ≡ name_called s kept
name_is s kept None h = ap (name_called s) (sym h)
name_is s kept (Some p) h = h.shown.name_is ∙ ap (name_called s) (sym h.shown.is_kept)

pub arg_is : (s : Schema) (kept : Option CompactProcedure) (found : Option Procedure) → IsFound s kept found
    → arg_found found ≡ arguments_called kept
arg_is s kept None h = ap arguments_called (sym h)
arg_is s kept (Some p) h = ap Some h.shown.arg_is ∙ ap arguments_called (sym h.shown.is_kept)

pub res_is : (s : Schema) (kept : Option CompactProcedure) (found : Option Procedure) → IsFound s kept found
    → res_found found ≡ results_called kept
res_is s kept None h = ap results_called (sym h)
res_is s kept (Some p) h = ap Some h.shown.res_is ∙ ap results_called (sym h.shown.is_kept)

pub arg_known : (s : Schema) (kept : Option CompactProcedure) (found : Option Procedure)
    → IsFound s kept found
    → MatchOption (arg_found found) (Unit {0}) (λ id. IsTypeId s id)
arg_known s kept None h = tt
arg_known s kept (Some p) h = h.arg_known

pub res_known : (s : Schema) (kept : Option CompactProcedure) (found : Option Procedure)
    → IsFound s kept found
    → MatchOption (res_found found) (Unit {0}) (λ id. IsTypeId s id)
res_known s kept None h = tt
res_known s kept (Some p) h = h.res_known

-- ---- arguments and results

-- what was read is the text of the body
pub body_text : (s : Schema) (type : Option TypeId) (bytes : List ℕ) (b : Body) → IsReadAs s type bytes b
    → IsBodyText s type bytes (told_of b bytes)
body_text s type bytes Unread h = unread h refl
body_text s type bytes (Value dump) h = shown h.0 dump h.1 h.2 refl
body_text s type bytes (Refused fault) h = stuck h.0 fault.at fault.code h.1 h.2 h.3 refl

-- ---- calls

flip_by : (a b : ℕ) (there back : Bool) → nat_eq a b ≡ there → nat_eq b a ≡ back → there ≡ back
flip_by a b true true h k = refl
flip_by a b false false h k = refl
flip_by a b true false h k = absurd (grind (arith, nat_tests))
flip_by a b false true h k = absurd (grind (arith, nat_tests))

flip : (a b : ℕ) → nat_eq a b ≡ nat_eq b a
flip a b = flip_by a b (nat_eq a b) (nat_eq b a) refl refl

-- nothing is known where nothing was told
pub knows_none : (s : Schema) (last : LastCalls) → ((xid : ℕ) → last xid ≡ None) → Knows s last []
knows_none s last none xid = ap (option_map (heard_kept s)) (none xid)

heard_by : (s : Schema) (b : Bool) (kept : LastCall) (heard : CallOfXid) (old : Option LastCall)
    (call : Option CallOfXid)
    → heard_kept s kept ≡ heard_call s heard → IsHeardAs s old call
    → IsHeardAs s (cond b (Some kept) old) (cond b (Some heard) call)
heard_by s true kept heard old call is before = ap Some is
heard_by s false kept heard old call is before = before

-- a call that was put in is known
pub knows_call : (s : Schema) (old new : LastCalls) (xid : ℕ) (kept : LastCall) (heard : CallOfXid)
    (calls : Calls)
    → ((q : ℕ) → new q ≡ cond (nat_eq xid q) (Some kept) (old q)) → heard_kept s kept ≡ heard_call s heard
    → Knows s old calls → Knows s new ((xid, heard) ∷ calls)
knows_call s old new xid kept heard calls updates is knows q =
    subst (λ o. IsHeardAs s o (call_of ((xid, heard) ∷ calls) q))
    (sym (updates q ∙ ap (λ b. cond b (Some kept) (old q)) (flip xid q)))
    (heard_by s (nat_eq q xid) kept heard (old q) (call_of calls q) is (knows q))

-- the lines of a call and of its arguments, and the calls that it was put in among
pub tells_call : (s : Schema) (number xid rpcvers prog vers proc : ℕ) (cred verf : Auth) (body : List ℕ)
    (numbers : Option ProcedureNumbers)
    (index : Option ℕ) (found : Option Procedure) (b : Body) (name : List ℕ) (old new : LastCalls)
    (refused : Bool) (p q r : Inked) (start mid end : Stream)
    → numbers ≡ numbers_called rpcvers prog vers proc → kept_by s index ≡ procedure_called s numbers
    → IsFound s (kept_by s index) found
    → IsReadAs s (arg_found found) body b
    → ((x : ℕ) → new x ≡ cond (nat_eq xid x) (Some (record { number = number; procedure = index })) (old x))
    → name ≡ name_found found
    → Adds p start q mid (call_line number xid rpcvers prog vers proc name ++ auth_line (codes "cred") cred
    ++ auth_line (codes "verf") verf)
    → Adds q mid r end (told_of b body).text → refused ≡ (told_of b body).refused
    → TellsHeader s number old (Call xid rpcvers prog vers proc cred verf) body refused new p start r end
tells_call s number xid rpcvers prog vers proc cred verf body numbers index found b name old new refused p q r
    start mid end is kept_is is_found is_read updates named head lines refused_is calls knows =
    let called : kept_by s index ≡ procedure_called s (numbers_called rpcvers prog vers proc) = kept_is
    ∙ ap (procedure_called s) is in
    let named : name ≡ name_called s (procedure_called s (numbers_called rpcvers prog vers proc)) =
    named ∙ name_is s (kept_by s index) found is_found ∙ ap (name_called s) called in
    let typed : arg_found found
    ≡ arguments_called (procedure_called s (numbers_called rpcvers prog vers proc)) =
    arg_is s (kept_by s index) found is_found ∙ ap arguments_called called in
    let text = λ (n : List ℕ). call_line number xid rpcvers prog vers proc n ++ auth_line (codes "cred") cred
    ++ auth_line (codes "verf") verf in (
      told_of b body,
      body_text s (arguments_called (procedure_called s (numbers_called rpcvers prog vers proc))) body b
          (subst (λ t. IsReadAs s t body b) typed is_read),
      knows_call s old new xid (record { number = number; procedure = index })
          (record { number = number; procedure = numbers_called rpcvers prog vers proc }) calls
          updates (ap (λ (kept : Option CompactProcedure). record { number = number; procedure = kept })
          called) knows,
      record {
        added = adds_trans p q r start mid end
            (text (name_called s (procedure_called s (numbers_called rpcvers prog vers proc))))
            (told_of b body).text
            (subst (λ n. Adds p start q mid (text n)) named head) lines;
        refused_is = refused_is;
      },
    )

-- ---- replies

number_is : (s : Schema) (heard : Option LastCall) (call : Option CallOfXid) → IsHeardAs s heard call
    → number_kept heard ≡ number_heard call
number_is s None None h = refl
number_is s None (Some call) h = ap (option_map (λ (o : Heard). o.number)) h
number_is s (Some kept) None h = ap (option_map (λ (o : Heard). o.number)) h
number_is s (Some kept) (Some call) h = ap (option_map (λ (o : Heard). o.number)) h

heard_is : (s : Schema) (heard : Option LastCall) (call : Option CallOfXid) → IsHeardAs s heard call
    → procedure_heard s heard ≡ procedure_called s (numbers_heard call)
heard_is s None None h = refl
heard_is s None (Some call) h = ap (option_and_then (λ (o : Heard). o.procedure)) h
heard_is s (Some kept) None h = ap (option_and_then (λ (o : Heard). o.procedure)) h
heard_is s (Some kept) (Some call) h = ap (option_and_then (λ (o : Heard). o.procedure)) h

reply_is : (s : Schema) (number xid : ℕ) (state : List ℕ) (heard : Option LastCall) (found : Option Procedure)
    (name : List ℕ) (calls : Calls)
    → IsFound s (procedure_heard s heard) found → name ≡ name_found found
    → IsHeardAs s heard (call_of calls xid)
    → reply_line number xid state (number_kept heard) name ≡ reply_text s number xid state (call_of calls xid)
reply_is s number xid state heard found name calls is_found named is =
    ap (λ n. reply_line number xid state (number_kept heard) n)
    (named ∙ name_is s (procedure_heard s heard) found is_found
    ∙ ap (name_called s) (heard_is s heard (call_of calls xid) is))
    ∙ ap (λ c. reply_line number xid state c
    (name_called s (procedure_called s (numbers_heard (call_of calls xid)))))
    (number_is s heard (call_of calls xid) is)

-- a reply that was denied
pub tells_denied : (s : Schema) (number xid : ℕ) (heard : Option LastCall) (found : Option Procedure)
    (name : List ℕ) (reject : Reject) (p q : Inked) (start end : Stream)
    → IsFound s (procedure_heard s heard) found → name ≡ name_found found
    → Adds p start q end (reply_line number xid (codes "denied " ++ reject_name reject) (number_kept heard)
    name ++ reject_details reject)
    → TellsReply s number xid heard (Denied xid reject) [] false p start q end
tells_denied s number xid heard found name reject p q start end is_found named added calls is =
    let line = reply_is s number xid (codes "denied " ++ reject_name reject) heard found name calls is_found
    named is in (
      plain [],
      refl,
      record {
        added = subst (λ t. Adds p start q end t) (ap (λ l. l ++ reject_details reject) line
            ∙ sym (append-nil (head_text s number calls (Denied xid reject)))) added;
        refused_is = refl;
      },
    )

accepted_is : (s : Schema) (number xid : ℕ) (heard : Option LastCall) (found : Option Procedure)
    (name : List ℕ) (verf : Auth) (accept : Accept) (calls : Calls)
    → IsFound s (procedure_heard s heard) found → name ≡ name_found found
    → IsHeardAs s heard (call_of calls xid)
    → reply_line number xid (codes "accepted " ++ accept_name accept) (number_kept heard) name
    ++ auth_line (codes "verf") verf ++ accept_details accept
    ≡ head_text s number calls (Accepted xid verf accept)
accepted_is s number xid heard found name verf accept calls is_found named is =
    ap (λ l. l ++ auth_line (codes "verf") verf ++ accept_details accept)
    (reply_is s number xid (codes "accepted " ++ accept_name accept) heard found name calls is_found named is)

-- a reply that was accepted and is no success
pub tells_bare : (s : Schema) (number xid : ℕ) (heard : Option LastCall) (found : Option Procedure)
    (name : List ℕ) (verf : Auth) (accept : Accept) (body : List ℕ)
    (p q : Inked) (start end : Stream)
    → IsFound s (procedure_heard s heard) found → name ≡ name_found found
    → ((calls : Calls) → IsBehindHead s calls (Accepted xid verf accept) body (plain []))
    → Adds p start q end (reply_line number xid (codes "accepted " ++ accept_name accept) (number_kept heard)
    name ++ auth_line (codes "verf") verf ++ accept_details accept)
    → TellsReply s number xid heard (Accepted xid verf accept) body false p start q end
tells_bare s number xid heard found name verf accept body p q start end is_found named behind added
    calls is = (
      plain [],
      behind calls,
      record {
        added = subst (λ t. Adds p start q end t)
            (accepted_is s number xid heard found name verf accept calls is_found named is
            ∙ sym (append-nil (head_text s number calls (Accepted xid verf accept)))) added;
        refused_is = refl;
      },
    )

-- nothing stands behind a state other than a success
pub bare_behind : (s : Schema) (calls : Calls) (xid : ℕ) (verf : Auth) (stat : AcceptStat)
    → ((body : Bor (List ℕ)) → stat ≡ accepts.Success body → ⊥)
    → IsBehindHead s calls (Accepted xid verf (accept_of stat)) (results_of stat) (plain [])
bare_behind s calls xid verf (accepts.Success body) other = absurd (other body refl)
bare_behind s calls xid verf accepts.ProgUnavail other = refl
bare_behind s calls xid verf (accepts.ProgMismatch low high) other = refl
bare_behind s calls xid verf accepts.ProcUnavail other = refl
bare_behind s calls xid verf accepts.GarbageArgs other = refl
bare_behind s calls xid verf accepts.SystemErr other = refl

-- a success with its results
pub tells_success : (s : Schema) (number xid : ℕ) (heard : Option LastCall) (found : Option Procedure)
    (name : List ℕ) (verf : Auth) (body : List ℕ) (b : Body)
    (refused : Bool) (p q r : Inked) (start mid end : Stream)
    → IsFound s (procedure_heard s heard) found → name ≡ name_found found
    → IsReadAs s (res_found found) body b
    → Adds p start q mid (reply_line number xid (codes "accepted " ++ accept_name Success) (number_kept heard)
    name ++ auth_line (codes "verf") verf ++ accept_details Success)
    → Adds q mid r end (told_of b body).text → refused ≡ (told_of b body).refused
    → TellsReply s number xid heard (Accepted xid verf Success) body refused p start r end
tells_success s number xid heard found name verf body b refused p q r start mid end is_found named is_read
    head lines refused_is calls is =
    let typed : res_found found ≡ results_called (procedure_called s (numbers_heard (call_of calls xid))) =
    res_is s (procedure_heard s heard) found is_found
    ∙ ap results_called (heard_is s heard (call_of calls xid) is) in (
      told_of b body,
      body_text s (results_called (procedure_called s (numbers_heard (call_of calls xid)))) body b
          (subst (λ t. IsReadAs s t body b) typed is_read),
      record {
        added = adds_trans p q r start mid end (head_text s number calls (Accepted xid verf Success))
            (told_of b body).text
            (subst (λ t. Adds p start q mid t)
            (accepted_is s number xid heard found name verf Success calls is_found named is) head) lines;
        refused_is = refused_is;
      },
    )

-- ---- messages

-- a reply, as a message behind the calls that a map knows
pub tells_reply : (s : Schema) (number xid : ℕ) (last : LastCalls) (heard : Option LastCall) (reply : Reply)
    (result : Result Bool NoMemory)
    (p q : Inked) (start end : Stream)
    → heard ≡ last xid
    → IfOk result (λ refused. TellsReply s number xid heard (header_of_reply xid reply) (body_of_reply reply)
    refused p start q end)
    → IfOk result (λ refused. TellsHeader s number last (header_of_reply xid reply) (body_of_reply reply)
    refused last p start q end)
tells_reply s number xid last heard (replies.Accepted verf stat) (Ok refused) p q start end found told =
    λ calls knows.
    let t = told calls (subst (λ o. IsHeardAs s o (call_of calls xid)) (sym found) (knows xid)) in
    (t.0, t.1, knows, t.2)
tells_reply s number xid last heard (replies.Denied stat) (Ok refused) p q start end found told =
    λ calls knows.
    let t = told calls (subst (λ o. IsHeardAs s o (call_of calls xid)) (sym found) (knows xid)) in
    (t.0, t.1, knows, t.2)
tells_reply s number xid last heard reply (Err e) p q start end found told = tt

-- a message whose header is read
pub tells_read : (s : Schema) (number : ℕ) (old new : LastCalls) (bytes body : List ℕ) (h : Header)
    (result : Result Bool NoMemory)
    (p q : Inked) (start end : Stream)
    → IsMessage bytes h body
    → IfOk result (λ refused. TellsHeader s number old h body refused new p start q end)
    → IfOk result (λ refused. TellsMessage s number old bytes refused new p start q end)
tells_read s number old new bytes body h (Ok refused) p q start end is told = λ calls knows.
    let t = told calls knows in (
      then_told (plain (head_text s number calls h)) t.0,
      calls_behind number calls h,
      texts.read h body t.0 is t.1 refl refl,
      t.2,
      t.3,
    )
tells_read s number old new bytes body h (Err e) p q start end is told = tt

-- a message whose header is refused
pub tells_refused : (s : Schema) (number : ℕ) (last : LastCalls) (bytes : List ℕ) (at : ℕ) (code : ReadCode)
    (p q : Inked) (start end : Stream)
    → IsHeaderFault bytes at code → Adds p start q end (bad_header_line number at code ++ raw_line bytes)
    → TellsMessage s number last bytes true last p start q end
tells_refused s number last bytes at code p q start end is added calls knows = (
  texts.refused (bad_header_line number at code ++ raw_line bytes),
  calls,
  texts.stuck at code is refl refl,
  knows,
  record { added = added; refused_is = refl },
)

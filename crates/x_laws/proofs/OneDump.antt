-- Two schemas of the same definitions print the same of messages and of a stream.
use Rattle.std.specs.Prelude.{codes}
use Rattle.std.proofs.Common.{◌≡◌, ℕ, ◌+◌, List, [], ◌∷◌, ◌++◌, Option, None, Some, refl, ap, subst, ◌∙◌}
use Rattle.x_trees.specs.Tree.{Definition}
use Rattle.x_schema.specs.Schema.{Schema, arguments_id, procedure_at, results_id}
use Rattle.x_schema.specs.Schemas.{IsSchemaOf}
use Rattle.x_schema.specs.declared.procedure.CompactProcedure.{CompactProcedure}
use Rattle.x_schema.specs.declared.procedure.ProcedureNumbers.{ProcedureNumbers}
use Rattle.x_schema.specs.declared.schema.TypeId.{TypeId}
use Rattle.x_wire.specs.Calls.{Calls, arguments_called, call_of, name_called, number_heard, numbers_called}
use Rattle.x_wire.specs.Calls.{numbers_heard, procedure_called, results_called}
use Rattle.x_wire.specs.Headers.{Accepted, Call, Denied, GarbageArgs, Header, ProcUnavail, ProgMismatch}
use Rattle.x_wire.specs.Headers.{ProgUnavail, Success, SystemErr}
use Rattle.x_wire.specs.MessageTexts.{Told, IsBehindHead, IsBodyText, IsMessageText, head_text, plain}
use Rattle.x_wire.specs.MessageTexts.{then_told, read, shown, unread}
use Rattle.x_wire.specs.MessageTexts as texts
use Rattle.x_wire.specs.StreamTexts.{AreTold, IsStreamText, IsTextOf}
use Rattle.x_wire.proofs.OneText.{one_stream_text, one_text_of}
use Rattle.x_laws.specs.Showing.{ShowsAlike}
use Rattle.x_laws.proofs.AlikeProcedures.{AlikeFound, procedure_alike}
use Rattle.x_laws.proofs.AlikeValues.{AreTypesAlike}
use Rattle.x_laws.proofs.OneShowing.{all_alike, ids_show}

-- two schemas whose types and procedures are alike either way
record AreOne (s t : Schema) : Type 0 where
  all : AreTypesAlike s t
  back : AreTypesAlike t s
  procedures : (n : ProcedureNumbers) → AlikeFound s t (procedure_at s n) (procedure_at t n)
  procedures_back : (n : ProcedureNumbers) → AlikeFound t s (procedure_at t n) (procedure_at s n)

are_one : (ds : List (Option Definition)) (s t : Schema) → IsSchemaOf ds s → IsSchemaOf ds t → AreOne s t
are_one ds s t h k = record {
  all = all_alike ds s t h k;
  back = all_alike ds t s k h;
  procedures = λ n. procedure_alike ds s t n h k;
  procedures_back = λ n. procedure_alike ds t s n k h;
}

-- ---- bodies

-- both have no type, or types that show alike
abbrev ShowAlike : (s t : Schema) → Option TypeId → Option TypeId → Type 0
ShowAlike s t None None = Unit {0}
ShowAlike s t None (Some b) = ⊥
ShowAlike s t (Some a) None = ⊥
ShowAlike s t (Some a) (Some b) = ShowsAlike s t a b

none_some : {X : Type 0} (x : Option TypeId) (id : TypeId) → x ≡ None → x ≡ Some id → X
none_some x id e f = absurd cc

body_other : (s t : Schema) (x y : Option TypeId) (bytes : List ℕ) (told : Told) → ShowAlike s t x y
    → IsBodyText s x bytes told → IsBodyText t y bytes told
body_other s t None None bytes told h (unread e k) = unread refl k
body_other s t None None bytes told h (shown id nodes e v k) = none_some None id refl e
body_other s t None None bytes told h (texts.IsBodyText.stuck id at code e v m k) = none_some None id refl e
body_other s t None (Some b) bytes told h k = absurd h
body_other s t (Some a) None bytes told h k = absurd h
body_other s t (Some a) (Some b) bytes told h (unread e k) = none_some (Some a) a e refl
body_other s t (Some a) (Some b) bytes told h (shown id nodes e v k) =
    let same : a ≡ id = cc in
    shown b nodes refl ((subst (λ i. ShowsAlike s t i b) same h).nodes bytes nodes v) k
body_other s t (Some a) (Some b) bytes told h (texts.IsBodyText.stuck id at code e v m k) =
    let same : a ≡ id = cc in
    texts.IsBodyText.stuck b at code refl ((subst
    (λ i. ShowsAlike s t i b) same h).refusals bytes at code v) m k

-- ---- the procedure that was called

called_other : (s t : Schema) (n : Option ProcedureNumbers) → AreOne s t
    → AlikeFound s t (procedure_called s n) (procedure_called t n)
called_other s t None h = tt
called_other s t (Some n) h = h.procedures n

called_back : (s t : Schema) (n : Option ProcedureNumbers) → AreOne s t
    → AlikeFound t s (procedure_called t n) (procedure_called s n)
called_back s t None h = tt
called_back s t (Some n) h = h.procedures_back n

same_called : (s t : Schema) (x y : Option CompactProcedure) → AlikeFound s t x y
    → name_called s x ≡ name_called t y
same_called s t None None h = refl
same_called s t None (Some b) h = absurd h
same_called s t (Some a) None h = absurd h
same_called s t (Some a) (Some b) h = h.name

arguments_other : (s t : Schema) (x y : Option CompactProcedure) → AreOne s t → AlikeFound s t x y
    → AlikeFound t s y x → ShowAlike s t (arguments_called x) (arguments_called y)
arguments_other s t None None one h k = tt
arguments_other s t None (Some b) one h k = absurd h
arguments_other s t (Some a) None one h k = absurd h
arguments_other s t (Some a) (Some b) one h k =
    ids_show s t (arguments_id a) (arguments_id b)
    (record {
      all = one.all;
      back = one.back;
      form = h.arguments;
      form_back = k.arguments;
      labels = refl;
    })

results_other : (s t : Schema) (x y : Option CompactProcedure) → AreOne s t → AlikeFound s t x y
    → AlikeFound t s y x → ShowAlike s t (results_called x) (results_called y)
results_other s t None None one h k = tt
results_other s t None (Some b) one h k = absurd h
results_other s t (Some a) None one h k = absurd h
results_other s t (Some a) (Some b) one h k =
    ids_show s t (results_id a) (results_id b) (record
    { all = one.all; back = one.back; form = h.results; form_back = k.results; labels = refl })

-- ---- messages

name_other : (s t : Schema) (n : Option ProcedureNumbers) → AreOne s t
    → name_called s (procedure_called s n) ≡ name_called t (procedure_called t n)
name_other s t n one = same_called s t (procedure_called s n) (procedure_called t n) (called_other s t n one)

same_head : (s t : Schema) (number : ℕ) (calls : Calls) (h : Header) → AreOne s t
    → head_text s number calls h ≡ head_text t number calls h
same_head s t number calls (Call xid rpcvers prog vers proc cred verf) one =
    ap (λ name. texts.call_line number xid rpcvers prog vers proc name ++ texts.auth_line (codes "cred") cred
    ++ texts.auth_line (codes "verf") verf)
    (name_other s t (numbers_called rpcvers prog vers proc) one)
same_head s t number calls (Accepted xid verf accept) one =
    ap (λ name. texts.reply_line number xid (codes "accepted " ++ texts.accept_name accept)
    (number_heard (call_of calls xid)) name ++ texts.auth_line (codes "verf") verf
    ++ texts.accept_details accept)
    (name_other s t (numbers_heard (call_of calls xid)) one)
same_head s t number calls (Denied xid reject) one =
    ap (λ name. texts.reply_line number xid (codes "denied " ++ texts.reject_name reject)
    (number_heard (call_of calls xid)) name ++ texts.reject_details reject)
    (name_other s t (numbers_heard (call_of calls xid)) one)

behind_other : (s t : Schema) (calls : Calls) (h : Header) (body : List ℕ) (told : Told) → AreOne s t
    → IsBehindHead s calls h body told → IsBehindHead t calls h body told
behind_other s t calls (Call xid rpcvers prog vers proc cred verf) body told one k =
    let n = numbers_called rpcvers prog vers proc in
    body_other s t (arguments_called (procedure_called s n))
    (arguments_called (procedure_called t n)) body told
    (arguments_other s t (procedure_called s n) (procedure_called t n) one (called_other s t n one)
    (called_back s t n one)) k
behind_other s t calls (Accepted xid verf Success) body told one k =
    let n = numbers_heard (call_of calls xid) in
    body_other s t (results_called (procedure_called s n)) (results_called (procedure_called t n)) body told
    (results_other s t (procedure_called s n) (procedure_called t n) one (called_other s t n one)
    (called_back s t n one)) k
behind_other s t calls (Accepted xid verf ProgUnavail) body told one k = k
behind_other s t calls (Accepted xid verf (ProgMismatch low high)) body told one k = k
behind_other s t calls (Accepted xid verf ProcUnavail) body told one k = k
behind_other s t calls (Accepted xid verf GarbageArgs) body told one k = k
behind_other s t calls (Accepted xid verf SystemErr) body told one k = k
behind_other s t calls (Denied xid reject) body told one k = k

message_other : (s t : Schema) (number : ℕ) (calls : Calls) (bytes : List ℕ) (told : Told) (after : Calls)
    → AreOne s t → IsMessageText s number calls bytes told after
    → IsMessageText t number calls bytes told after
message_other s t number calls bytes told after one (read h body behind m v e k) =
    read h body behind m (behind_other s t calls h body behind one v)
    (e ∙ ap (λ l. then_told (plain l) behind) (same_head s t number calls h one)) k
message_other s t number calls bytes told after one
    (texts.IsMessageText.stuck at code f e k) = texts.IsMessageText.stuck at code f e k

told_other : (s t : Schema) (messages : List (List ℕ)) (number : ℕ) (calls : Calls) (told : Told)
    (after : Calls) → AreOne s t → AreTold s number calls messages told after
    → AreTold t number calls messages told after
told_other s t [] number calls told after one h = h
told_other s t (bytes ∷ rest) number calls told after one h = (
  h.0,
  h.1,
  h.2,
  message_other s t number calls bytes h.0 h.1 one h.3,
  told_other s t rest
      (number + 1) h.1 h.2 after one h.4,
  h.5,
)

text_other : (s t : Schema) (messages : List (List ℕ)) (told : Told) → AreOne s t → IsTextOf s messages told
    → IsTextOf t messages told
text_other s t messages told one h = (h.0, told_other s t messages 1 [] told h.0 one h.1)

-- ---- the law

pub one_messages : (ds : List (Option Definition)) (s t : Schema) → IsSchemaOf ds s → IsSchemaOf ds t
    → (messages : List (List ℕ)) (a b : Told) → IsTextOf s messages a → IsTextOf t messages b → a ≡ b
one_messages ds s t h k messages a b x y = one_text_of t messages a b
    (text_other s t messages a (are_one ds s t h k) x) y

pub one_stream : (ds : List (Option Definition)) (s t : Schema) → IsSchemaOf ds s → IsSchemaOf ds t
    → (stream : List ℕ) (a b : Told) → IsStreamText s stream a → IsStreamText t stream b → a ≡ b
one_stream ds s t h k stream a b x y = one_stream_text t stream a b
    (x.0, text_other s t _ x.0 (are_one ds s t h k) x.1, x.2) y

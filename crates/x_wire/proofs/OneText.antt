-- What is told of messages and of a stream is one text.
use Rattle.std.proofs.Common.{◌≡◌, ℕ, ◌+◌, List, [], ◌∷◌, ◌++◌, sym, ap, subst, ◌∙◌}
use Rattle.std.specs.Prelude.{Option, Some, None}
use Rattle.x_schema.specs.Schema.{Schema}
use Rattle.x_schema.specs.declared.schema.TypeId.{TypeId}
use Rattle.x_value.specs.Dumps.{IsShown, IsEncoding, IsReadFault}
use Rattle.x_value.specs.FaultTexts.{fault_line}
use Rattle.x_value.specs.Lines.{node_lines}
use Rattle.x_wire.specs.Calls.{Calls, calls_behind, numbers_called, numbers_heard, procedure_called}
use Rattle.x_wire.specs.Calls.{arguments_called, results_called, call_of}
use Rattle.x_wire.specs.Headers.{Success, ProgUnavail, ProgMismatch, ProcUnavail, GarbageArgs, SystemErr}
use Rattle.x_wire.specs.Headers.{Header, Call, Accepted, Denied}
use Rattle.x_wire.specs.MessageTexts.{Told, plain, refused, then_told, raw_line, head_text, bad_header_line}
use Rattle.x_wire.specs.MessageTexts.{IsBodyText, unread, shown, stuck, IsBehindHead, IsMessageText, read}
use Rattle.x_wire.specs.MessageTexts as texts
use Rattle.x_wire.specs.RecordFaults.{end_fault}
use Rattle.x_wire.specs.Records.{left, records}
use Rattle.x_wire.specs.StreamTexts.{AreTold, IsTextOf, IsStreamText, end_told}
use Rattle.x_wire.proofs.HeaderLemmas.{one_message_lem, one_answer_lem}
use Rattle.x_wire.proofs.OneFault.{one_fault_lem}
use Rattle.x_value.proofs.OneReading.{one_refusal, one_showing, not_both}

none_some : (id : TypeId) (type : Option TypeId) → type ≡ None → type ≡ Some id → ⊥
none_some id type e f = cc

same_id : (id id' : TypeId) (type : Option TypeId) → type ≡ Some id → type ≡ Some id' → id ≡ id'
same_id id id' type e f = cc

-- what stands at a value is an encoding
encoded : (s : Schema) (id : TypeId) (bytes : List ℕ) (n : List _) → IsShown s id bytes n
    → IsEncoding s id bytes
encoded s id bytes n x = (x.0, x.1, x.2)

one_body : (s : Schema) (type : Option TypeId) (bytes : List ℕ) (t u : Told) → IsBodyText s type bytes t
    → IsBodyText s type bytes u → t ≡ u
one_body s type bytes t u (unread e x) (unread f y) = x ∙ sym y
one_body s type bytes t u (unread e x) (shown id nodes f v y) = absurd (none_some id type e f)
one_body s type bytes t u (unread e x) (texts.IsBodyText.stuck id at code f v m y) =
    absurd (none_some id type e f)
one_body s type bytes t u (shown id nodes e v x) (unread f y) = absurd (none_some id type f e)
one_body s type bytes t u (shown id nodes e v x) (shown id' nodes' f w y) =
    let w' = subst (λ i. IsShown s i bytes nodes') (sym (same_id id id' type e f)) w in
    x ∙ ap (λ n. plain (node_lines n)) (one_showing s id bytes nodes nodes' v w') ∙ sym y
one_body s type bytes t u (shown id nodes e v x) (texts.IsBodyText.stuck id' at code f w m y) =
    absurd (not_both s id bytes at code m (encoded s id bytes nodes v)
    (subst (λ i. IsReadFault s i bytes at code) (sym (same_id id id' type e f)) w))
one_body s type bytes t u (texts.IsBodyText.stuck id at code e v m x) (unread f y) =
    absurd (none_some id type f e)
one_body s type bytes t u (texts.IsBodyText.stuck id at code e v m x) (shown id' nodes f w y) =
    absurd (not_both s id bytes at code m
    (encoded s id bytes nodes (subst (λ i. IsShown s i bytes nodes) (sym (same_id id id' type e f)) w)) v)
one_body s type bytes t u (texts.IsBodyText.stuck id at code e v m x)
    (texts.IsBodyText.stuck id' at' code' f w n y) =
    let w' = subst (λ i. IsReadFault s i bytes at' code') (sym (same_id id id' type e f)) w in
    let one = one_refusal s id bytes at at' code code' m n v w' in
    x ∙ ap (λ a. refused (fault_line a code ++ raw_line bytes)) one.0
    ∙ ap (λ c. refused (fault_line at' c ++ raw_line bytes)) one.1 ∙ sym y

one_behind : (s : Schema) (calls : Calls) (h : Header) (body : List ℕ) (t u : Told)
    → IsBehindHead s calls h body t → IsBehindHead s calls h body u → t ≡ u
one_behind s calls (Call xid rpcvers prog vers proc cred verf) body t u x y =
    one_body s (arguments_called (procedure_called s (numbers_called rpcvers prog vers proc))) body t u x y
one_behind s calls (Accepted xid verf Success) body t u x y =
    one_body s (results_called (procedure_called s (numbers_heard (call_of calls xid)))) body t u x y
one_behind s calls (Accepted xid verf ProgUnavail) body t u x y = x ∙ sym y
one_behind s calls (Accepted xid verf (ProgMismatch low high)) body t u x y = x ∙ sym y
one_behind s calls (Accepted xid verf ProcUnavail) body t u x y = x ∙ sym y
one_behind s calls (Accepted xid verf GarbageArgs) body t u x y = x ∙ sym y
one_behind s calls (Accepted xid verf SystemErr) body t u x y = x ∙ sym y
one_behind s calls (Denied xid reject) body t u x y = x ∙ sym y

one_message_text : (s : Schema) (number : ℕ) (calls : Calls) (bytes : List ℕ) (t u : Told) (a b : Calls)
    → IsMessageText s number calls bytes t a → IsMessageText s number calls bytes u b → (t ≡ u) × (a ≡ b)
one_message_text s number calls bytes t u a b (read h body behind m v x p) (read h' body' behind' m' v' y q) =
    let one = one_message_lem bytes h h' body body' m m' in
    let w = subst (λ d. IsBehindHead s calls h d behind') (sym one.1)
    (subst (λ g. IsBehindHead s calls g body' behind') (sym one.0) v') in
    let same = one_behind s calls h body behind behind' v w in (
      x ∙ ap (λ g. then_told (plain (head_text s number calls g)) behind) one.0
          ∙ ap (λ d. then_told (plain (head_text s number calls h')) d) same ∙ sym y,
      p ∙ ap (λ g. calls_behind number calls g) one.0 ∙ sym q,
    )
one_message_text s number calls bytes t u a b (read h body behind m v x p)
    (texts.IsMessageText.stuck at code f y q) = absurd (one_answer_lem bytes h body at code m f)
one_message_text s number calls bytes t u a b (texts.IsMessageText.stuck at code f x p)
    (read h body behind m v y q) = absurd (one_answer_lem bytes h body at code m f)
one_message_text s number calls bytes t u a b (texts.IsMessageText.stuck at code f x p)
    (texts.IsMessageText.stuck at' code' g y q) =
    let one = one_fault_lem bytes at at' code code' f g in (
      x ∙ ap (λ n. refused (bad_header_line number n code ++ raw_line bytes)) one.0
          ∙ ap (λ c. refused (bad_header_line number at' c ++ raw_line bytes)) one.1 ∙ sym y,
      p ∙ sym q,
    )

one_telling : (s : Schema) (messages : List (List ℕ)) (number : ℕ) (calls : Calls) (t u : Told) (a b : Calls)
    → AreTold s number calls messages t a → AreTold s number calls messages u b → (t ≡ u) × (a ≡ b)
one_telling s [] number calls t u a b x y = (x.0 ∙ sym y.0, x.1 ∙ sym y.1)
one_telling s (bytes ∷ rest) number calls t u a b x y =
    let first = one_message_text s number calls bytes x.0 y.0 x.1 y.1 x.3 y.3 in
    let others = one_telling s rest (number + 1) x.1 x.2 y.2 a b x.4
    (subst (λ c. AreTold s (number + 1) c rest y.2 b) (sym first.1) y.4) in
    (x.5 ∙ ap (λ f. then_told f x.2) first.0 ∙ ap (λ o. then_told y.0 o) others.0 ∙ sym y.5, others.1)

pub one_text_of : (s : Schema) (messages : List (List ℕ)) (t u : Told) → IsTextOf s messages t
    → IsTextOf s messages u → t ≡ u
one_text_of s messages t u x y = (one_telling s messages 1 [] t u x.0 y.0 x.1 y.1).0

pub one_stream_text : (s : Schema) (stream : List ℕ) (t u : Told) → IsStreamText s stream t
    → IsStreamText s stream u → t ≡ u
one_stream_text s stream t u x y =
    x.2 ∙ ap (λ a. then_told a (end_told (end_fault (left stream))))
    (one_text_of s (records stream) x.0 y.0 x.1 y.1) ∙ sym y.2

-- Messages behind one another, and one of them that cancels a request.
use Rattle.std.proofs.Common.{◌≡◌, ℕ, ◌+◌, ◌-◌, ◌≤◌, List, [], ◌∷◌, ◌++◌, None, ap, append_assoc, arith, drop}
use Rattle.std.proofs.Common.{length, refl, slice_range, subst, sym, take}
use Rattle.std.proofs.lemmas.List.{length-drop, take_all}
use Rattle.serde_json.specs.Data.{Data}
use Rattle.httparse.specs.Grammar.{ReadsSection}
use Rattle.httparse.proofs.GrammarLemmas.{ReadsSection-append}
use Rattle.x_frames.specs.Cancelling.{AreFramed, IsCancelledIn}
use Rattle.x_frames.specs.Framing.{IsFramed}
use Rattle.x_frames.specs.FrameSteps.{IsHeadOf}
use Rattle.x_frames.specs.declared.head.Head.{Head}
use Rattle.x_frames.proofs.FrameLemmas.{come_none, whole_message}

-- the message at the front, where all of it has come
pub whole_front : (bytes : List ℕ) (head : Head) (end : ℕ) → IsHeadOf bytes head
    → head.length + head.body ≤ length bytes → end ≡ head.length + head.body
    → IsFramed bytes (slice_range bytes head.length end) (slice_range bytes end (length bytes))
whole_front bytes head end h enough is =
    let len = length-drop end bytes in
    let all : take (length bytes - end) (drop end bytes) ≡ drop end bytes =
    take_all (length bytes - end) (drop end bytes) (omega (arith, len)) in
    subst (λ rest. IsFramed bytes (slice_range bytes head.length end) rest) (sym all)
    (subst (λ e. IsFramed bytes (slice_range bytes head.length e) (drop e bytes)) (sym is)
    (whole_message bytes bytes None None head h (come_none bytes None) enough).0)

-- one message more
pub framed_then : (before : List (List ℕ)) (bytes next body rest : List ℕ) → AreFramed before bytes next
    → IsFramed next body rest → AreFramed (before ++ body ∷ []) bytes rest
framed_then [] bytes next body rest are is = (rest, subst (λ b. IsFramed b body rest) are is, refl)
framed_then (b ∷ before) bytes next body rest are is =
    (are.0, are.1, framed_then before are.0 next body rest are.2 is)

-- a message is one whatever follows
pub framed_more : (bytes body rest more : List ℕ) → IsFramed bytes body rest
    → IsFramed (bytes ++ more) body (rest ++ more)
framed_more bytes body rest more f = record {
  fields = f.fields;
  last = f.last;
  reads = subst (ReadsSection (bytes ++ more) f.fields f.last) (append_assoc body rest more)
      (ReadsSection-append bytes f.fields f.last (body ++ rest) more f.reads);
  length_is = f.length_is;
  few = f.few;
  short_head = f.short_head;
}

all_more : (bodies : List (List ℕ)) (bytes rest more : List ℕ) → AreFramed bodies bytes rest
    → AreFramed bodies (bytes ++ more) (rest ++ more)
all_more [] bytes rest more are = ap (λ l. l ++ more) are
all_more (body ∷ bodies) bytes rest more are =
    (are.0 ++ more, framed_more bytes body are.0 more are.1, all_more bodies are.0 rest more are.2)

-- and so a request is cancelled whatever follows
pub cancelled_more : (id : Data) (bytes more : List ℕ) → IsCancelledIn id bytes
    → IsCancelledIn id (bytes ++ more)
cancelled_more id bytes more c = record {
  before = c.before;
  next = c.next ++ more;
  body = c.body;
  rest = c.rest ++ more;
  are_framed = all_more c.before bytes c.next more c.are_framed;
  is_framed = framed_more c.next c.body c.rest more c.is_framed;
  cancels = c.cancels;
}

-- What a framer took, by the move that it made.
use Rattle.std.proofs.Common.{◌≡◌, ℕ, zero, suc, ◌+◌, ◌-◌, ◌<◌, ◌≤◌, Bool, true, false, List, [], ◌∷◌, ◌++◌}
use Rattle.std.proofs.Common.{length, take, refl, sym, ap, subst, ◌∙◌, append_assoc, arith, drop, inl, inr}
use Rattle.std.proofs.Common.{◌⊎◌, take-add}
use Rattle.std.specs.Prelude.{slice_set, if◌then◌else◌, Some, None}
use Rattle.std.specs.Int.{from_be_bytes, w32}
use Rattle.std.proofs.lemmas.List.{length-take, length-set, length-append, take-append-le, take_rest}
use Rattle.std.proofs.Math.Seq.{take-append-add}
use Rattle.std.proofs.lemmas.Bool.{cases_lt}
use Rattle.x_wire.specs.declared.records.framer.Phase.{Phase}
use Rattle.x_wire.specs.declared.records.framer.Phase.TheVariants.{InHeader, InData}
use Rattle.x_wire.specs.declared.records.framer.Framer.{Framer}
use Rattle.x_wire.specs.Records.{Left, Moved, count_after, in_fragment, behind_header, quiet, step, after}
use Rattle.x_wire.specs.Records.{told}
use Rattle.x_wire.specs.Framers.{left_by, phase_by, IsOpen, IsClear, IsReady, MadeMove, TookBytes, HasGrown}
use Rattle.x_wire.proofs.Moves.{run, run_one, run_data, told_short, step_begun, step_whole}

-- no byte makes a record whole
first_of_one : (l : Left) (byte k : ℕ) → k < 1 → told l (take k (byte ∷ [])) ≡ []
first_of_one l byte zero h = refl
first_of_one l byte (suc k) h = absurd (omega arith)

pub after_append : (l : Left) (a b : List ℕ) → after l (a ++ b) ≡ after (after l a) b
after_append l [] b = refl
after_append l (x ∷ a) b = after_append (step l x).left a b

pub told_append : (l : Left) (a b : List ℕ) → told l (a ++ b) ≡ told l a ++ told (after l a) b
told_append l [] b = refl
told_append l (x ∷ a) b =
    ap (λ t. (step l x).told ++ t) (told_append (step l x).left a b)
    ∙ sym (append_assoc (step l x).told (told (step l x).left a) (told (after (step l x).left a) b))

first_of_both : (l : Left) (a b : List ℕ) → told l a ≡ [] →
    ((k : ℕ) → k < length a → told l (take k a) ≡ []) → ((k : ℕ) → k < length b → told (after l a) (take k b)
    ≡ []) →
    (k : ℕ) → k < length (a ++ b) → (k < length a) ⊎ (length a ≤ k) → told l (take k (a ++ b)) ≡ []
first_of_both l a b none one two k lt (inl h) = ap (told l) (take-append-le k a b (omega arith)) ∙ one k h
first_of_both l a b none one two k lt (inr h) =
    let short : k - length a < length b = omega (arith, length-append a b) in
    let at : k ≡ length a + (k - length a) = omega arith in
    ap (λ t. told l (take t (a ++ b))) at ∙ ap (told l) (take-append-add a b (k - length a))
    ∙ told_append l a (take (k - length a) b)
    ∙ ap (λ t. t ++ told (after l a) (take (k - length a) b)) none ∙ two (k - length a) short

-- one byte was taken by the move that it makes
pub took_byte : (old new : Framer) (byte : ℕ) (move : Moved) (whole : Bool) → step (left_by old) byte ≡ move →
    MadeMove move new whole → TookBytes old (byte ∷ []) new whole
took_byte old new byte move whole e made = record {
  left_is = made.left_is ∙ sym (ap (λ (m : Moved). m.left) e);
  told_is = ap (λ (m : Moved). m.told) (run_one (left_by old) byte ∙ e) ∙ made.told_is;
  first = first_of_one (left_by old) byte;
  is_open = made.is_open;
  clear = made.clear;
  sound = made.sound;
}

-- what a framer leaves, where its phase is known
left_at : (old : Framer) (phase : Phase) → old.phase ≡ phase → left_by old
    ≡ record { taken = old.taken; phase = phase_by phase old.joined.items }
left_at old phase e = ap (λ (s : Phase). record { taken = old.taken; phase = phase_by s old.joined.items }) e

clear_of : (bytes : List ℕ) (count : ℕ) (is_open : Bool) (joined : List ℕ) →
    IsClear (InHeader bytes count is_open) joined → is_open ≡ false → joined ≡ []
clear_of bytes count true joined h e = absurd (cc)
clear_of bytes count false joined h e = h

-- the last byte of a header
pub took_header : (old new : Framer) (bytes : List ℕ) (count byte taken number : ℕ) (is_open whole : Bool) →
    old.phase ≡ InHeader bytes count is_open → IsReady old → count + 1 ≡ 4 →
    taken ≡ count_after old.taken 1 → number ≡ from_be_bytes w32 (slice_set bytes count byte) →
    MadeMove (behind_header taken number old.joined.items) new whole → TookBytes old (byte ∷ []) new whole
took_header old new bytes count byte taken number is_open whole phase ready at t n made =
    let in_header : IsOpen (InHeader bytes count is_open) = subst IsOpen phase ready.is_open in
    let clear : IsClear (InHeader bytes count is_open) old.joined.items =
    subst (λ s. IsClear s old.joined.items) phase ready.clear in
    took_byte old new byte (behind_header taken number old.joined.items) whole
    (ap (λ l. step l byte) (left_at old (InHeader bytes count is_open) phase)
    ∙ step_whole old.taken byte count bytes old.joined.items is_open in_header.1 at
    (clear_of bytes count is_open old.joined.items clear)
    ∙ ap (λ t'. behind_header t' (from_be_bytes w32 (slice_set bytes count byte)) old.joined.items) (sym t)
    ∙ ap (λ n'. behind_header taken n' old.joined.items) (sym n))
    made

clear_by : (bytes bytes' : List ℕ) (count count' : ℕ) (is_open : Bool) (joined : List ℕ) →
    IsClear (InHeader bytes count is_open) joined → IsClear (InHeader bytes' count' is_open) joined
clear_by bytes bytes' count count' true joined h = tt
clear_by bytes bytes' count count' false joined h = h

-- a byte of a header that is not its last
pub took_begun : (old new : Framer) (bytes : List ℕ) (count byte : ℕ) (is_open : Bool) → old.phase
    ≡ InHeader bytes count is_open → IsReady old → (count + 1 ≡ 4 → ⊥) →
    new.taken ≡ count_after old.taken 1 → new.phase ≡ InHeader (slice_set bytes count byte) (count + 1)
    is_open → new.joined.items ≡ old.joined.items → TookBytes old (byte ∷ []) new false
took_begun old new bytes count byte is_open phase ready more t s e =
    let in_header : IsOpen (InHeader bytes count is_open) = subst IsOpen phase ready.is_open in
    let clear : IsClear (InHeader bytes count is_open) old.joined.items =
    subst (λ s. IsClear s old.joined.items) phase ready.clear in
    let clear' : IsClear (InHeader (slice_set bytes count byte) (count + 1) is_open) old.joined.items =
    clear_by bytes (slice_set bytes count byte) count (count + 1) is_open old.joined.items clear in
    let len : length (slice_set bytes count byte) ≡ 4 = length-set bytes count byte ∙ in_header.1 in
    let open' : IsOpen (InHeader (slice_set bytes count byte) (count + 1) is_open) = (omega arith, len) in
    let clear_new : IsClear new.phase old.joined.items = subst (λ v. IsClear v old.joined.items) (sym s)
    clear' in
    took_byte old new byte (quiet (count_after old.taken 1)
    (phase_by (InHeader (slice_set bytes count byte) (count + 1) is_open) old.joined.items)) false
    (ap (λ l. step l byte) (left_at old (InHeader bytes count is_open) phase)
    ∙ step_begun old.taken byte count bytes (if is_open then Some old.joined.items else None) in_header.1
    (omega arith))
    (record {
      left_is = left_at new (InHeader (slice_set bytes count byte) (count + 1) is_open) s
          ∙ ap (λ n. record {
            taken = n;
            phase = phase_by (InHeader (slice_set bytes count byte) (count + 1)
                is_open) new.joined.items;
          }) t
          ∙ ap (λ v. record {
            taken = count_after old.taken 1;
            phase =
                phase_by (InHeader (slice_set bytes count byte) (count + 1) is_open) v;
          }) e;
      told_is = refl;
      is_open = subst IsOpen (sym s) open';
      clear = λ _. subst (IsClear new.phase) (sym e) clear_new;
      sound = λ h. absurd (cc);
    })

-- bytes of the open fragment
pub took_data : (old new : Framer) (lacks taken : ℕ) (last whole : Bool) (bytes items : List ℕ) → old.phase
    ≡ InData lacks last → 0 < length bytes → length bytes ≤ lacks →
    taken ≡ count_after old.taken (length bytes) → items ≡ old.joined.items ++ bytes →
    MadeMove (in_fragment taken (lacks - length bytes) last items) new whole → TookBytes old bytes new whole
took_data old new lacks taken last whole [] items phase some within t e made = absurd (omega arith)
took_data old new lacks taken last whole (b ∷ bs) items phase some within t e made =
    let ran : run (left_by old) (b ∷ bs) ≡ in_fragment taken (lacks - suc (length bs)) last items =
    ap (λ l. run l (b ∷ bs)) (left_at old (InData lacks last) phase)
    ∙ run_data old.taken lacks (lacks - suc (length bs)) last old.joined.items b bs (omega arith)
    ∙ ap (λ t'. in_fragment t' (lacks - suc (length bs)) last (old.joined.items ++ (b ∷ bs))) (sym t)
    ∙ ap (in_fragment taken (lacks - suc (length bs)) last) (sym e) in
    record {
      left_is = made.left_is ∙ sym (ap (λ (m : Moved). m.left) ran);
      told_is = ap (λ (m : Moved). m.told) ran ∙ made.told_is;
      first = λ k lt. ap (λ l. told l (take k (b ∷ bs))) (left_at old (InData lacks last) phase)
          ∙ told_short old.taken lacks last old.joined.items (take k (b ∷ bs))
          (simp length-take (omega arith));
      is_open = made.is_open;
      clear = made.clear;
      sound = made.sound;
    }

-- nothing was taken
pub took_none : (old : Framer) → IsReady old → TookBytes old [] old false
took_none old ready =
    record {
      left_is = refl;
      told_is = refl;
      first = λ k lt. absurd (omega arith);
      is_open =
          ready.is_open;
      clear = λ _. ready.clear;
      sound = λ h. absurd (cc);
    }

pub ready_of : (old new : Framer) (bytes : List ℕ) → TookBytes old bytes new false → IsReady new
ready_of old new bytes took = record { is_open = took.is_open; clear = took.clear refl }

-- bytes were taken, and then more
pub took_both : (old mid new : Framer) (a b : List ℕ) (whole : Bool) → TookBytes old a mid false →
    TookBytes mid b new whole → TookBytes old (a ++ b) new whole
took_both old mid new a b whole one two =
    let l : Left = left_by old in
    record {
      left_is = two.left_is ∙ ap (λ t. after t b) one.left_is ∙ sym (after_append (left_by old) a b);
      told_is = told_append (left_by old) a b ∙ ap (λ t. t ++ told (after (left_by old) a) b) one.told_is
          ∙ ap (λ t. told t b) (sym one.left_is) ∙ two.told_is;
      first = λ k lt. first_of_both (left_by old) a b one.told_is one.first (λ j h.
          ap (λ t. told t (take j b)) (sym one.left_is) ∙ two.first j h) k lt (cases_lt k (length a));
      is_open = two.is_open;
      clear = two.clear;
      sound = two.sound;
    }

-- a front of a piece was taken, and then one of the rest
pub took_more : (old mid new : Framer) (piece : List ℕ) (i n : ℕ) (found whole : Bool) → found ≡ whole →
    i ≤ length piece → TookBytes old (take i piece) mid false →
    TookBytes mid (take n (take (length piece - i) (drop i piece))) new found →
    TookBytes old (take (i + n) piece) new whole
took_more old mid new piece i n found whole e le one two =
    let rest : take n (take (length piece - i) (drop i piece))
    ≡ take n (drop i piece) = ap (take n) (take_rest piece i) in
    let two' : TookBytes mid (take n (drop i piece)) new found =
    subst (λ t. TookBytes mid t new found) rest two in
    let both : TookBytes old (take i piece ++ take n (drop i piece)) new found =
    took_both old mid new (take i piece) (take n (drop i piece)) found one two' in
    subst (λ w. TookBytes old (take (i + n) piece) new w) e
    (subst (λ t. TookBytes old t new found) (sym (take-add i n piece)) both)

-- data grows and grows
pub grown_more : (a b c : List ℕ) → HasGrown a b → HasGrown b c → HasGrown a c
grown_more a b c (x, p) (y, q) = (x ++ y, q ∙ ap (λ t. t ++ y) p ∙ append_assoc a x y)

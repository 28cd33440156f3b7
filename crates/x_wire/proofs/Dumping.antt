-- How a dumper goes on.
use Rattle.std.proofs.Common.{◌≡◌, ℕ, ◌+◌, ◌-◌, Bool, true, false, ◌||◌, List, [], ◌∷◌, ◌++◌, length, take}
use Rattle.std.proofs.Common.{drop, refl, sym, ap, subst, ◌∙◌, append_assoc, append-nil, arith}
use Rattle.std.specs.Prelude.{Option, Some, None, Result, Ok, Err, OnErr}
use Rattle.std.proofs.lemmas.List.{length-append, take_rest, take-append-drop}
use Rattle.x_streams.specs.Streams.{Stream}
use Rattle.x_streams.specs.Writing.{Inked, Adds, Writes}
use Rattle.x_streams.proofs.Pens.{adds_none, adds_trans, writes_none}
use Rattle.x_schema.specs.Schema.{Schema}
use Rattle.x_wire.specs.Calls.{Calls}
use Rattle.x_wire.specs.Dumpers.{HasTold, TellsMore, IsAt, Tells, TellsFront, front_taken}
use Rattle.x_wire.specs.Framers.{left_by, whole_in, FedBytes, RefusedBytes}
use Rattle.x_wire.specs.LastCalls.{last_call}
use Rattle.x_wire.specs.MessageTexts.{Told, plain, then_told, IsMessageText}
use Rattle.x_wire.specs.RecordFaults.{fault_at}
use Rattle.x_wire.specs.Records.{Left, left, records, after, told}
use Rattle.x_wire.specs.StreamTexts.{AreTold, IsTextOf, IsFrontText}
use Rattle.x_wire.specs.Tellers.{Knows, LastCalls, TellsMessage}
use Rattle.x_wire.specs.declared.records.framer.Framer.{Framer}
use Rattle.x_wire.specs.declared.records.RecordCode.{RecordCode}
use Rattle.x_wire.specs.declared.records.RecordCode.TheVariants.{NoMemory, RecordTooLong, Truncated}
use Rattle.x_wire.specs.declared.telling.dumper.Dumper.{Dumper}
use Rattle.x_wire.specs.declared.telling.teller.Teller.{Teller}
use Rattle.x_wire.proofs.Composing.{fault_stays}
use Rattle.x_wire.proofs.Feeding.{left_append, records_append}

-- ---- texts

or_assoc : (a b c : Bool) → (a || b || c) ≡ (a || (b || c))
or_assoc false b c = refl
or_assoc true b c = refl

pub or_false : (a : Bool) → (a || false) ≡ a
or_false false = refl
or_false true = refl

pub or_true : (a : Bool) → true ≡ (a || true)
or_true false = refl
or_true true = refl

pub then_assoc : (a b c : Told) → then_told (then_told a b) c ≡ then_told a (then_told b c)
then_assoc a b c = λ i.
    record { text = append_assoc a.text b.text c.text i; refused = or_assoc a.refused b.refused c.refused i }

pub then_none : (a : Told) → then_told a (plain []) ≡ a
then_none a = λ i. record { text = append-nil a.text i; refused = or_false a.refused i }

-- one message more
pub told_more : (s : Schema) (number at : ℕ) (calls : Calls) (rs : List (List ℕ)) (r : List ℕ) (t last : Told)
    (between behind : Calls)
    → at ≡ number + length rs → AreTold s number calls rs t between → IsMessageText s at between r last behind
    → AreTold s number calls (rs ++ r ∷ []) (then_told t last) behind
told_more s number at calls [] r t last between behind is are text = (
  last,
  behind,
  plain [],
  subst (λ c. IsMessageText s number c r last behind) are.1
      (let same : at ≡ number = omega (arith, is) in
      subst (λ n. IsMessageText s n between r last behind) same text),
  (refl, refl),
  ap (λ a. then_told a last) are.0 ∙ sym (then_none last),
)
told_more s number at calls (q ∷ rs) r t last between behind is are text = (
  are.0,
  are.1,
  then_told are.2 last,
  are.3,
  told_more s (number + 1) at are.1 rs r are.2 last between behind (omega (arith, is)) are.4 text,
  ap (λ a. then_told a last) are.5 ∙ then_assoc are.0 are.2 last,
)

-- ---- what was told

-- the next message was told
pub tells_more : (s : Schema) (rs : List (List ℕ)) (r bytes : List ℕ) (t : Told) (old new : Teller)
    (refused refuses refused' : Bool)
    (p q : Inked) (now now' : Stream) → HasTold s rs t old refused → bytes ≡ r
    → TellsMessage s (old.calls.count + 1) (last_call old.calls) bytes refuses (last_call new.calls)
    p now q now'
    → new.calls.count ≡ old.calls.count + 1 → refused' ≡ (refused || refuses)
    → TellsMore s rs (r ∷ []) t new refused' p now q now'
tells_more s rs r bytes t old new refused refuses refused' p q now now' h same tells count is =
    let k = tells h.calls h.knows in
    record {
      text = k.0;
      has_told = record {
        calls = k.1;
        are = told_more s 1 (old.calls.count + 1) [] rs r t k.0 h.calls k.1 (let c = h.count_is in
            omega (arith, c)) h.are
            (subst (λ b. IsMessageText s (old.calls.count + 1) h.calls b k.0 k.1) same k.2);
        knows = k.3;
        count_is = (let c = h.count_is in omega (arith, c, count, length-append rs (r ∷ [])));
        refused_is = is ∙ (λ i. h.refused_is i || k.4.refused_is i);
      };
      added = k.4.added;
    }

-- nothing was read
pub at_start : (s : Schema) (d : Dumper) → left_by d.framer ≡ left [] → Knows s (last_call d.teller.calls) []
    → d.teller.calls.count ≡ 0 → d.refused ≡ false
    → IsAt s [] (plain []) d
at_start s d left_is knows count refused = record {
  left_is = sym left_is;
  has_told = record { calls = []; are = (refl, refl); knows = knows; count_is = count; refused_is = refused };
}

-- a record became whole, and was told
pub at_whole : (s : Schema) (read piece : List ℕ) (t : Told) (old new : Dumper) (mid : Framer) (used : ℕ)
    (whole : Bool) (p q : Inked) (now now' : Stream)
    → IsAt s read t old → FedBytes old.framer piece used mid whole → whole ≡ true → new.framer ≡ mid
    → TellsMore s (records read) (mid.joined.items ∷ []) t new.teller new.refused p now q now'
    → Tells s read t (take used piece) new p now q now'
at_whole s read piece t old new mid used whole p q now now' h fed is same more =
    let records_are : records (read ++ take used piece) ≡ records read ++ mid.joined.items ∷ [] =
    records_append read (take used piece) ∙ ap (λ l. records read ++ told l (take used piece)) h.left_is
    ∙ ap (λ rs. records read ++ rs) (fed.took.told_is ∙ ap (whole_in mid) is) in
    record {
      more = more.text;
      is_at = record {
        left_is = left_append read (take used piece) ∙ ap (λ l. after l (take used piece)) h.left_is
            ∙ sym fed.took.left_is ∙ ap left_by (sym same);
        has_told = subst (λ rs. HasTold s rs (then_told t more.text) new.teller new.refused)
            (sym records_are) more.has_told;
      };
      added = more.added;
    }

-- nothing was told
untold : (s : Schema) (read taken : List ℕ) (t : Told) (new : Dumper) (p : Inked) (now : Stream)
    → left (read ++ taken) ≡ left_by new.framer → records (read ++ taken) ≡ records read
    → HasTold s (records read) t new.teller new.refused
    → Tells s read t taken new p now p now
untold s read taken t new p now left_is same h = record {
  more = plain [];
  is_at = record {
    left_is = left_is;
    has_told = subst (λ rs. HasTold s rs (then_told t (plain [])) new.teller new.refused) (sym same)
        (subst (λ a. HasTold s (records read) a new.teller new.refused) (sym (then_none t)) h);
  };
  added = adds_none p now;
}

-- bytes came that make no record whole
pub at_piece : (s : Schema) (read piece : List ℕ) (t : Told) (old : Dumper) (new : Framer) (used : ℕ)
    (whole : Bool) (p : Inked) (now : Stream)
    → IsAt s read t old → FedBytes old.framer piece used new whole → whole ≡ false
    → Tells s read t (take used piece) (record old { framer = new }) p now p now
at_piece s read piece t old new used whole p now h fed is =
    untold s read (take used piece) t (record old { framer = new }) p now
    (left_append read (take used piece) ∙ ap (λ l. after l (take used piece)) h.left_is
    ∙ sym fed.took.left_is)
    (records_append read (take used piece) ∙ ap (λ l. records read ++ told l (take used piece)) h.left_is
    ∙ ap (λ rs. records read ++ rs) (fed.took.told_is ∙ ap (whole_in new) is) ∙ append-nil (records read))
    h.has_told

-- a header took its record over the limit
pub at_refused : (s : Schema) (read piece : List ℕ) (t : Told) (old : Dumper) (new : Framer)
    (code : RecordCode) (at : ℕ) (p : Inked) (now : Stream)
    → IsAt s read t old → RefusedBytes code old.framer piece at new → (code ≡ NoMemory → ⊥)
    → Tells s read t piece (record old { framer = new }) p now p now
at_refused s read piece t old new NoMemory at p now h refused not = absurd (not refl)
at_refused s read piece t old new Truncated at p now h refused not = absurd refused
at_refused s read piece t old new RecordTooLong at p now h refused not =
    let front = take refused.used piece in
    let left_is : left (read ++ take refused.used piece) ≡ left_by new =
    left_append read (take refused.used piece) ∙ ap (λ l. after l (take refused.used piece)) h.left_is
    ∙ sym refused.left_is in
    let records_are : records (read ++ take refused.used piece) ≡ records read =
    records_append read (take refused.used piece)
    ∙ ap (λ l. records read ++ told l (take refused.used piece)) h.left_is
    ∙ ap (λ rs. records read ++ rs) refused.told_is ∙ append-nil (records read) in
    let stays = fault_stays (read ++ take refused.used piece) (drop refused.used piece) at
    (ap (λ (l : Left). fault_at l.phase) left_is ∙ refused.fault_is) in
    let all : (read ++ take refused.used piece) ++ drop refused.used piece ≡ read ++ piece =
    append_assoc read (take refused.used piece) (drop refused.used piece)
    ∙ ap (λ r. read ++ r) (take-append-drop refused.used piece) in
    untold s read piece t (record old { framer = new }) p now
    (ap left (sym all) ∙ stays.0 ∙ left_is)
    (ap records (sym all) ∙ stays.1 ∙ records_are)
    h.has_told

pub over_refused : (old new : Framer) (piece : List ℕ) (code : RecordCode) (at : ℕ)
    → RefusedBytes code old piece at new → (code ≡ NoMemory → ⊥)
    → (place : ℕ) × (fault_at (left_by new).phase ≡ Some place)
over_refused old new piece NoMemory at refused not = absurd (not refl)
over_refused old new piece Truncated at refused not = absurd refused
over_refused old new piece RecordTooLong at refused not = (at, refused.fault_is)

-- ---- one piece after another

tells_none : (s : Schema) (read : List ℕ) (t : Told) (d : Dumper) (p : Inked) (now : Stream) → IsAt s read t d
    → Tells s read t [] d p now p now
tells_none s read t d p now h = untold s read [] t d p now (ap left (append-nil read) ∙ h.left_is)
    (ap records (append-nil read)) h.has_told

at_same : (s : Schema) (read read' : List ℕ) (t t' : Told) (d : Dumper) → read ≡ read' → t ≡ t'
    → IsAt s read t d → IsAt s read' t' d
at_same s read read' t t' d e f h = subst (λ r. IsAt s r t' d) e (subst (λ a. IsAt s read a d) f h)

tells_then : (s : Schema) (read a b : List ℕ) (t : Told) (mid new : Dumper) (p q r : Inked)
    (now now' now'' : Stream)
    → (h : Tells s read t a mid p now q now') → Tells s (read ++ a) (then_told t h.more) b new q now' r now''
    → Tells s read t (a ++ b) new p now r now''
tells_then s read a b t mid new p q r now now' now'' h k = record {
  more = then_told h.more k.more;
  is_at = at_same s ((read ++ a) ++ b) (read ++ (a ++ b)) (then_told (then_told t h.more) k.more)
      (then_told t (then_told h.more k.more)) new
      (append_assoc read a b) (then_assoc t h.more k.more) k.is_at;
  added = adds_trans p q r now now' now'' h.more.text k.more.text h.added k.added;
}

-- of a block a front was taken, and the rest is left
pub record HasTaken (s : Schema) (old : Dumper) (block rest : List ℕ) (new : Dumper) (p : Inked)
    (now : Stream) (q : Inked) (now' : Stream) : Type 0 where
  pub front : List ℕ
  pub block_is : block ≡ front ++ rest
  pub tells : (read : List ℕ) (t : Told) → IsAt s read t old → Tells s read t front new p now q now'

pub taken_none : (s : Schema) (d : Dumper) (block : List ℕ) (p : Inked) (now : Stream)
    → HasTaken s d block block d p now p now
taken_none s d block p now =
    record { front = []; block_is = refl; tells = λ read t h. tells_none s read t d p now h }

pub taken_more : (s : Schema) (old mid new : Dumper) (block rest : List ℕ) (answer : Option ℕ) (used : ℕ)
    (p q r : Inked) (now now' now'' : Stream)
    → HasTaken s old block rest mid p now q now' → answer ≡ Some used
    → ((read : List ℕ) (t : Told) → IsAt s read t mid
    → Tells s read t (front_taken rest answer) new q now' r now'')
    → HasTaken s old block (take (length rest - used) (drop used rest)) new p now r now''
taken_more s old mid new block rest answer used p q r now now' now'' h is tells = record {
  front = h.front ++ take used rest;
  block_is = h.block_is ∙ ap (λ l. h.front ++ l) (sym (take-append-drop used rest)
      ∙ ap (λ l. take used rest ++ l) (sym (take_rest rest used)))
      ∙ sym (append_assoc h.front (take used rest) (take (length rest - used) (drop used rest)));
  tells = λ read t at.
      let k = h.tells read t at in
      tells_then s read h.front (take used rest) t mid new p q r now now' now'' k
      (subst (λ a. Tells s (read ++ h.front) (then_told t k.more) (front_taken rest a) new q now' r now'') is
      (tells (read ++ h.front) (then_told t k.more) k.is_at));
}

-- all was taken
pub taken_all : (s : Schema) (old new : Dumper) (block rest read : List ℕ) (t : Told) (p q : Inked)
    (now now' : Stream)
    → HasTaken s old block rest new p now q now' → rest ≡ [] → IsAt s read t old
    → Tells s read t block new p now q now'
taken_all s old new block rest read t p q now now' h empty at =
    subst (λ b. Tells s read t b new p now q now')
    (sym (h.block_is ∙ ap (λ r. h.front ++ r) empty ∙ append-nil h.front)) (h.tells read t at)

-- the rest was taken with it
pub taken_rest : (s : Schema) (old mid new : Dumper) (block rest read : List ℕ) (t : Told) (answer : Option ℕ)
    (p q r : Inked) (now now' now'' : Stream)
    → HasTaken s old block rest mid p now q now' → answer ≡ None
    → ((read : List ℕ) (t : Told) → IsAt s read t mid
    → Tells s read t (front_taken rest answer) new q now' r now'')
    → IsAt s read t old → Tells s read t block new p now r now''
taken_rest s old mid new block rest read t answer p q r now now' now'' h is tells at =
    let k = h.tells read t at in
    subst (λ b. Tells s read t b new p now r now'') (sym h.block_is)
    (tells_then s read h.front rest t mid new p q r now now' now'' k
    (subst (λ a. Tells s (read ++ h.front) (then_told t k.more) (front_taken rest a) new q now' r now'') is
    (tells (read ++ h.front) (then_told t k.more) k.is_at)))

-- the texts of what was read are those of a front of what may follow
pub front_text : (s : Schema) (read more : List ℕ) (t : Told) (d : Dumper) → IsAt s read t d
    → IsFrontText s (read ++ more) t
front_text s read more t d h = record {
  told = records read;
  rest = told (left read) more;
  parts = records_append read more;
  are = (h.has_told.calls, h.has_told.are);
}

-- memory ran out behind a front
pub taken_front : (s : Schema) (old mid : Dumper) (block rest read : List ℕ) (t : Told) (p q r : Inked)
    (now now' now'' : Stream)
    → HasTaken s old block rest mid p now q now' → r ≡ q → now'' ≡ now' → IsAt s read t old
    → TellsFront s read t block p now r now''
taken_front s old mid block rest read t p q r now now' now'' h pen_same sink_same at =
    let k = h.tells read t at in
    let whole : (read ++ h.front) ++ rest ≡ read ++ block = append_assoc read h.front rest
    ∙ ap (λ b. read ++ b) (sym h.block_is) in
    let long = ap length (records_append read h.front)
    ∙ length-append (records read) (told (left read) h.front) in
    record {
      more = k.more;
      is_front = record {
        front = record {
          told = records (read ++ h.front);
          rest = told (left (read ++ h.front)) rest;
          parts = sym (ap records whole) ∙ records_append (read ++ h.front) rest;
          are = (k.is_at.has_told.calls, k.is_at.has_told.are);
        };
        all_before = omega (arith, long);
      };
      added = subst (λ a. Adds p now a now'' k.more.text) (sym pen_same)
          (subst (λ a. Adds p now q a k.more.text) (sym sink_same) k.added);
    }

pub on_err : {T E : Type 0} (r : Result T E) (P : Type 0) → P → OnErr r P
on_err (Ok x) P p = tt
on_err (Err e) P p = p

-- ---- one message alone

-- the text of the first message was given to a pen that was given nothing before
pub record IsAlone (s : Schema) (bytes : List ℕ) (refused : Bool) (start : Stream) (pen : Inked)
    (now : Stream) : Type 0 where
  pub text : Told
  pub are : IsTextOf s (bytes ∷ []) text
  pub writes : Writes start text.text pen now
  pub refused_is : refused ≡ text.refused

pub told_alone : (s : Schema) (bytes : List ℕ) (old : Teller) (last : LastCalls) (refused : Bool)
    (start : Stream) (p q : Inked) (now : Stream)
    → Knows s (last_call old.calls) [] → old.calls.count ≡ 0
    → p ≡ record { pending = []; written = 0; stopped = false }
    → TellsMessage s (old.calls.count + 1) (last_call old.calls) bytes refused last p start q now
    → IsAlone s bytes refused start q now
told_alone s bytes old last refused start p q now knows count is tells =
    let k = tells [] knows in
    record {
      text = k.0;
      are = (
        k.1,
        told_more s 1 (old.calls.count + 1) [] [] bytes (plain []) k.0 [] k.1 (omega (arith, count))
            (refl, refl) k.2,
      );
      writes = k.4.added.goes_on start []
          (subst (λ (p : Inked). Writes start [] p start) (sym is) (writes_none start));
      refused_is = k.4.refused_is;
    }

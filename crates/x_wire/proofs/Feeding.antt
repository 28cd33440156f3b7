-- What a call of `feed` makes of the streams that it may have taken before.
use Rattle.std.proofs.Common.{◌≡◌, ℕ, zero, suc, ◌<◌, Bool, true, false, List, [], ◌∷◌, ◌++◌, length}
use Rattle.std.proofs.Common.{take, refl, sym, ap, ◌∙◌, arith}
use Rattle.std.specs.Prelude.{Option, Some, None, Result, Ok, Err, MatchOption}
use Rattle.std.proofs.lemmas.List.{append-nil}
use Rattle.x_wire.specs.declared.records.framer.Framer.{Framer}
use Rattle.x_wire.specs.declared.records.RecordCode.{RecordCode}
use Rattle.x_wire.specs.declared.records.RecordCode.TheVariants.{NoMemory, RecordTooLong, Truncated}
use Rattle.x_wire.specs.declared.records.RecordFault.{RecordFault}
use Rattle.x_wire.specs.declared.records.Fed.{Fed}
use Rattle.x_wire.specs.Records.{Left, after, told, left, records, nothing_left}
use Rattle.x_wire.specs.Framers.{left_by, whole_in, FedBytes, RefusedBytes}
use Rattle.x_wire.specs.Framing.{Leads, IsFirst, in_list, Feeds, Refuses}
use Rattle.x_wire.proofs.Framed.{after_append, told_append}

-- what more bytes leave
pub left_append : (stream bytes : List ℕ) → left (stream ++ bytes) ≡ after (left stream) bytes
left_append stream bytes = after_append nothing_left stream bytes

-- the records that more bytes make whole come behind
pub records_append : (stream bytes : List ℕ) → records (stream ++ bytes)
    ≡ records stream ++ told (left stream) bytes
records_append stream bytes = told_append nothing_left stream bytes

leads_of : (old new : Left) (bytes : List ℕ) (whole : List (List ℕ)) → new ≡ after old bytes → told old bytes
    ≡ whole → Leads old bytes new whole
leads_of old new bytes whole l t stream e = (
  left_append stream bytes ∙ ap (λ s. after s bytes) e ∙ sym l,
  records_append stream bytes ∙ ap (λ s. records stream ++ told s bytes) e
      ∙ ap (λ r. records stream ++ r) t,
)

first_of : (old : Left) (bytes : List ℕ) → ((k : ℕ) → k < length bytes → told old (take k bytes) ≡ []) →
    IsFirst old bytes
first_of old bytes h k lt stream e =
    records_append stream (take k bytes) ∙ ap (λ s. records stream ++ told s (take k bytes)) e
    ∙ ap (λ r. records stream ++ r) (h k lt) ∙ append-nil (records stream)

-- what `feed` answers of bytes that it took
pub fed_of : (old new : Framer) (l : Left) (piece : List ℕ) (used : ℕ) (whole : Bool)
    (answer : Option (List ℕ)) → left_by old ≡ l → FedBytes old piece used new whole →
    whole_in new whole ≡ in_list answer → (answer ≡ None → whole ≡ false) →
    Feeds l piece used answer (left_by new)
fed_of old new l piece used whole answer e fed told_is none = record {
  within = fed.within;
  leads = leads_of l (left_by new) (take used piece) (in_list answer) (fed.took.left_is
      ∙ ap (λ s. after s (take used piece)) e)
      (ap (λ s. told s (take used piece)) (sym e) ∙ fed.took.told_is ∙ told_is);
  first = first_of l (take used piece) (λ k lt. ap (λ s. told s (take k (take used piece))) (sym e)
      ∙ fed.took.first k lt);
  all = λ h. fed.all (none h);
  sound = fed.sound;
}

-- what `feed` refuses
pub refused_of : (code : RecordCode) (old new : Framer) (l : Left) (piece : List ℕ) (at : ℕ) → left_by old
    ≡ l → RefusedBytes code old piece at new → Refuses code l piece at (left_by new)
refused_of NoMemory old new l piece at e h = (h.0, h.1 ∙ e)
refused_of RecordTooLong old new l piece at e h = record {
  used = h.used;
  within = h.within;
  leads = leads_of l (left_by new) (take h.used piece) [] (h.left_is
      ∙ ap (λ s. after s (take h.used piece)) e) (ap (λ s. told s (take h.used piece)) (sym e) ∙ h.told_is);
  fault = h.fault_is;
}
refused_of Truncated old new l piece at e h = h

-- what `feed` answers of bytes that make a record whole
pub fed_whole : (old new : Framer) (l : Left) (piece : List ℕ) (used : ℕ) (whole : Bool) (joined : List ℕ) →
    left_by old ≡ l → FedBytes old piece used new whole →
    whole ≡ true → joined ≡ new.joined.items → Feeds l piece used (Some joined) (left_by new)
fed_whole old new l piece used whole joined e fed is joined_is =
    fed_of old new l piece used whole (Some joined) e fed (ap (whole_in new) is
    ∙ ap (λ t. t ∷ []) (sym joined_is)) (λ h. absurd (cc))

-- bytes are taken where there are some
pub some_used : (old new : Framer) (piece : List ℕ) (used : ℕ) (whole : Bool) →
    FedBytes old piece used new whole → 0 < length piece → 0 < used
some_used old new piece (suc used) whole fed some = omega arith
some_used old new piece zero true fed some =
    absurd (let h : [] ≡ new.joined.items ∷ [] = fed.took.told_is in cc)
some_used old new piece zero false fed some = absurd (let h = fed.all refl in omega arith)

-- an answer of the inner call says the same of the outer one's
pub same_fault : (o p : Option ℕ) (fault : RecordFault) → o ≡ p →
    MatchOption o (Unit {0}) (λ at. ◌≡◌ {A = Result (ℕ × Bool) RecordFault} (Err fault)
    (Err (record { at = at; code = RecordTooLong }))) →
    MatchOption p (Unit {0}) (λ at. ◌≡◌ {A = Result Fed RecordFault} (Err fault)
    (Err (record { at = at; code = RecordTooLong })))
same_fault o None fault e h = tt
same_fault o (Some at) fault e h =
    let k : ◌≡◌ {A = Result (ℕ × Bool) RecordFault} (Err fault)
    (Err (record { at = at; code = RecordTooLong })) = rw e at h in
    let same : fault ≡ record { at = at; code = RecordTooLong } = cc in
    ap Err same

pub no_fault : (o p : Option ℕ) (x : ℕ × Bool) (y : Fed) → o ≡ p →
    MatchOption o (Unit {0}) (λ at. ◌≡◌ {A = Result (ℕ × Bool) RecordFault} (Ok x)
    (Err (record { at = at; code = RecordTooLong }))) →
    MatchOption p (Unit {0}) (λ at. ◌≡◌ {A = Result Fed RecordFault} (Ok y)
    (Err (record { at = at; code = RecordTooLong })))
no_fault o None x y e h = tt
no_fault o (Some at) x y e h =
    let k : ◌≡◌ {A = Result (ℕ × Bool) RecordFault} (Ok x) (Err (record { at = at; code = RecordTooLong })) =
    rw e at h in
    absurd (cc)

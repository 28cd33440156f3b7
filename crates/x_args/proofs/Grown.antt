-- What a sink has of a text that was written as well as it could be.
use Rattle.std.proofs.Common.{◌≡◌, ℕ, Bool, true, false, List, length, take, Option, Some, None, Result, Ok}
use Rattle.std.proofs.Common.{Err, arith, sym, subst, ◌∙◌}
use Rattle.std.proofs.lemmas.List.{take_all}
use Rattle.std.specs.Prelude.{MatchBool}
use Rattle.std.specs.Io.KnownBytes.{Appends, Keeps}
use Rattle.x_streams.specs.declared.pen.WriteFault.{WriteFault}
use Rattle.x_streams.specs.Streams.{Stream}
use Rattle.x_streams.specs.Writing.{IsWritten}
use Rattle.x_args.specs.Telling.{Grows, IsTold}

pub grows_all : (before after : Stream) (text : List ℕ) → Appends before.bytes after.bytes text
    → Grows before after text
grows_all before after text h = (
  length text,
  omega arith,
  subst (λ t. Appends before.bytes after.bytes t) (sym (take_all (length text) text (omega arith))) h,
)

pub grows : {T : Type 0} (result : Result T WriteFault) (before after : Stream) (text : List ℕ)
    → IsWritten result before after text → Grows before after text
grows (Ok _) before after text h = grows_all before after text h
grows (Err fault) before after text h = let front = h.front in (front.count, front.within, front.taken)

pub told : {T : Type 0} (result : Result T WriteFault) (before after : Stream) (text : List ℕ)
    → IsWritten result before after text → IsTold before after text
told (Ok _) before after text h = on after.failed
  where
    on : (failed : Bool) → MatchBool failed (Grows before after text) (Appends before.bytes after.bytes text)
    on true = grows_all before after text h
    on false = h
told (Err fault) before after text h = on after.failed h.failed
  where
    on : (failed : Bool) → failed ≡ true
        → MatchBool failed (Grows before after text) (Appends before.bytes after.bytes text)
    on true fails = (h.front.count, h.front.within, h.front.taken)
    on false fails = absurd (cc)

-- what was written stays
pub stays : (a b c : Option (List ℕ)) (bs : List ℕ) → Appends a b bs → Keeps b c → Appends a c bs
stays None b c bs p q = tt
stays (Some x) None c bs p q = absurd p
stays (Some x) (Some y) None bs p q = absurd q
stays (Some x) (Some y) (Some z) bs p q = q ∙ p

pub grown_kept : {T : Type 0} (result : Result T WriteFault) (before mid after : Stream) (text : List ℕ)
    → IsWritten result before mid text → Keeps mid.bytes after.bytes → Grows before after text
grown_kept result before mid after text written kept =
    let so = grows result before mid text written in
    (so.0, so.1, stays before.bytes mid.bytes after.bytes (take so.0 text) so.2 kept)

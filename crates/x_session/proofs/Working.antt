-- What has failed where a loop reads of a tap and writes to a sink through a pen.
use Rattle.std.proofs.Common.{◌≡◌, ℕ, Bool, true, false, List, [], ◌++◌, refl, sym, ap, subst, ◌∙◌}
use Rattle.x_streams.specs.Streams.{Stream}
use Rattle.x_streams.specs.Writing.{Inked, Writes, Adds}
use Rattle.x_streams.specs.Engines.{WorksOn}
use Rattle.x_streams.proofs.Pens.{writes_none, front_written}

-- between two answers the pen works, and the sink and the tap have failed no more than at the start
pub record IsWorking (start : Stream) (pen : Inked) (now : Stream) (tap tap' : Bool) : Type 0 where
  pub text : List ℕ
  pub writes : Writes start text pen now
  pub goes : pen.stopped ≡ false
  pub works : WorksOn start.failed now.failed
  pub tap_is : tap' ≡ tap

pub works_at_start : (start : Stream) (pen : Inked) (tap : Bool)
    → pen ≡ record { pending = []; written = 0; stopped = false } → IsWorking start pen start tap tap
works_at_start start pen tap is = record {
  text = [];
  writes = subst (λ (p : Inked). Writes start [] p start) (sym is) (writes_none start);
  goes = ap (λ (p : Inked). p.stopped) is;
  works = λ e. e;
  tap_is = refl;
}

-- what was added and passed on
passed : (start : Stream) (p q r : Inked) (now now' now'' : Stream) (tap tap' : Bool)
    → (h : IsWorking start p now tap tap')
    → (added : (told : List ℕ) × Adds p now q now' told) → Adds q now' r now'' []
    → Writes start (h.text ++ added.0 ++ []) r now''
passed start p q r now now' now'' tap tap' h added flushed =
    flushed.goes_on start (h.text ++ added.0) (added.1.goes_on start h.text h.writes)

pub works_on : (start : Stream) (p q r : Inked) (now now' now'' : Stream) (tap tap' tap'' : Bool)
    → (h : IsWorking start p now tap tap')
    → ((told : List ℕ) × Adds p now q now' told) → Adds q now' r now'' [] → r.stopped ≡ false
    → (r.stopped ≡ false → now''.failed ≡ false) → tap'' ≡ tap' → IsWorking start r now'' tap tap''
works_on start p q r now now' now'' tap tap' tap'' h added flushed goes works same = record {
  text = h.text ++ added.0 ++ [];
  writes = passed start p q r now now' now'' tap tap' h added flushed;
  goes = goes;
  works = λ e. works goes;
  tap_is = same ∙ h.tap_is;
}

pub fails_at_stop : (start : Stream) (p q r : Inked) (now now' now'' : Stream) (tap tap' : Bool)
    → (h : IsWorking start p now tap tap')
    → ((told : List ℕ) × Adds p now q now' told) → Adds q now' r now'' [] → r.stopped ≡ true
    → now''.failed ≡ true
fails_at_stop start p q r now now' now'' tap tap' h added flushed stops =
    (front_written r start now'' (h.text ++ added.0 ++ []) stops
    (passed start p q r now now' now'' tap tap' h added flushed)).failed

-- What a run of `rpcedit` does, by what the run of its script does.
use Rattle.std.proofs.Common.{◌≡◌, ◌<◌, ◌≤◌, ℕ, Bool, true, false, List, length, Option, Some, None}
use Rattle.std.proofs.Common.{Ok, Err, refl, sym, subst, ◌∙◌}
use Rattle.std.specs.Prelude.{MatchOption, IsErrOf}
use Rattle.x_streams.specs.Streams.{Stream}
use Rattle.x_text.specs.declared.text.fault.TextFault.{TextFault}
use Rattle.x_text.specs.declared.text.fault.TextFault.TheVariants as faults
use Rattle.x_text.specs.declared.text.source.TheConstants.{MAX_TEXT}
use Rattle.x_lines.specs.Lines.{script_lines}
use Rattle.x_script.specs.Script.{HasRun, Runs, script_run}
use Rattle.x_streams.specs.Engines.{is_refused, NamesCause}
use Rattle.x_streams.specs.declared.outcome.Outcome.{Outcome}
use Rattle.x_streams.specs.declared.outcome.EngineFault.{EngineFault}
use Rattle.x_explain.specs.KnownFiles.{KnownPlaces, no_places}
use Rattle.x_prelude.specs.declared.followed.FollowedText.{FollowedText}
use Rattle.x_script.specs.Situations.{Situation}
use Rattle.rpcx.specs.Course.{course}
use Rattle.x_opening.specs.declared.opening.Opening.{Opening}
use Rattle.rpcx.specs.Editing.{Answers, AnswersBy, EndsBy, EndsEarly, found_by, found_over, status_of}
use Rattle.x_args.specs.BaseNames.{base_of}
use Rattle.x_opening.specs.Opening.{HavePlaces}
use Rattle.x_opening.proofs.Unopened.{fits}
use Rattle.x_args.specs.declared.status.Status.{Status}

one_status : (a b : Bool) → status_of a ≡ status_of b → a ≡ b
one_status true true e = refl
one_status true false e = absurd (cc)
one_status false true e = absurd (cc)
one_status false false e = refl

-- a run without a fault answers its script
pub answers_all : (tap : Option (List ℕ)) (left : Option (List ℕ)) (old new : Situation)
    (before after : Stream)
    (outcome : Outcome) (status : Status) → status ≡ status_of (is_refused outcome)
    → MatchOption tap (Unit {0}) (λ script. Runs script left (script_run old new before after) (Ok outcome))
    → MatchOption tap (Unit {0}) (λ script. Answers script old before after status)
answers_all None left old new before after outcome status is run = tt
answers_all (Some script) left old new before after outcome status is run = λ refused e. (
  new,
  subst (λ r. HasRun (script_lines script) (script_run old new before after) r)
      (one_status (is_refused outcome) refused (sym is ∙ e)) run,
)

-- what a script finds in a text that was opened
pub found_is : (how : Opening) (file text : List ℕ) (places : KnownPlaces) (t : FollowedText)
    → t.session.base ≡ base_of file → t.files.items ≡ how.known.now.text.items → t.from_c ≡ how.from_c
    → t.session.text ≡ text
    → found_over how file places t ≡ found_by how file places text
found_is how file text places t base files from own = λ i. record {
  how = record {
    file = file;
    base = base i;
    files = files i;
    from = from i;
    places = places;
    is_plain = how.known.now.is_plain;
  };
  text = own i;
}

-- the same over the text of a file
pub answers_by : (how : Opening) (tap : Option (List ℕ)) (file text : List ℕ) (places : KnownPlaces)
    (old : Situation) (before after : Stream) (status : Status)
    → HavePlaces no_places how.known.now.files.items places → old ≡ found_by how file places text
    → MatchOption tap (Unit {0}) (λ script. Answers script old before after status)
    → MatchOption tap (Unit {0}) (λ script. AnswersBy how script file text before after status)
answers_by how None file text places old before after status have is h = tt
answers_by how (Some script) file text places old before after status have is h = λ refused e. (
  places,
  have,
  subst (λ s. (new : Situation) × HasRun (script_lines script) (script_run s new before after) refused)
      is (h refused e),
)

-- a fault ended a run
pub ends_by : (tap tap' out out' : Stream) (old new : Situation) (fault : EngineFault)
    → NamesCause (Err fault) tap.failed tap'.failed out.failed out'.failed
    → MatchOption tap.bytes (Unit {0})
    (λ script. Runs script tap'.bytes (script_run old new out out') (Err fault))
    → EndsBy fault old (course tap tap' out out')
ends_by tap tap' out out' old new fault cause run = record { cause = cause; run = go tap.bytes run }
  where
    go : (at : Option (List ℕ))
        → MatchOption at (Unit {0})
        (λ script. Runs script tap'.bytes (script_run old new out out') (Err fault))
        → MatchOption at (Unit {0}) (λ script. EndsEarly script tap'.bytes old out out' fault)
    go None h = h
    go (Some script) h = (new, h)

-- a search through all that is known where this is used would take far longer
opened_is_not_large : (t : FollowedText) → IsErrOf {E = TextFault} (Ok t) faults.TooLarge → ⊥
opened_is_not_large t h = cc

-- a text that was opened is not too large
pub opened_fits : (text : List ℕ) (t : FollowedText)
    → (MAX_TEXT < length text → IsErrOf {E = TextFault} (Ok t) faults.TooLarge) → length text ≤ MAX_TEXT
opened_fits text t large = fits (length text) (λ more. opened_is_not_large t (large more))

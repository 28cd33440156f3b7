use Rattle.std.proofs.Common.{◌≡◌, ◌∙◌, ◌<◌, ◌≤◌, ◌⊎◌, ℕ, List, [], ◌∷◌, length, codes, ap, subst, refl}
use Rattle.std.proofs.Common.{arith, inr}
use Rattle.std.specs.Prelude.{IsErrOf, Ok, Err}
use Rattle.x_text.specs.declared.text.fault.TextFault.TheVariants as fault
use Rattle.x_session.specs.Session.{Compiles, Document}
use Rattle.x_session.specs.declared.session.Session.{Session}
use Rattle.x_compile.specs.Compile.{faults_of}
use Rattle.x_compile.specs.Known.{KnownText}
use Rattle.x_compile.specs.declared.fault.Fault.{Fault}
use Rattle.x_args.specs.declared.status.Status.TheVariants as status
use Rattle.x_streams.specs.Streams.{Stream}
use Rattle.x_text.specs.Limits.{most_text}
use Rattle.x_args.specs.declared.status.Status.{Status}
use Rattle.x_args.specs.Telling.{IsTold, told_of}
use Rattle.x_opening.specs.declared.opening.Opening.{Opening}
use Rattle.x_opening.specs.Opening.{CompilesBy}
use Rattle.x_opening.specs.Opened.{IsOpened, NoRoom, TellsFaults}
use Rattle.x_compile.proofs.Compiled.{one_compilation}
use Rattle.x_opening.proofs.Unopened.{fits, not_opened}
use Rattle.x_opening.proofs.opening.open_text.Goals as goal

no_fault : (fs : List Fault) (n : ℕ) → n ≡ length fs → n ≤ 0 → fs ≡ []
no_fault [] n is none = refl
no_fault (f ∷ fs) n is none = absurd (omega (arith, is, none))

-- a search through all that is known here would take far longer
no_error : {T E : Type 0} (v : T) (e : E) → IsErrOf (Ok v) e → ⊥
no_error v e h = cc

-- a text that has faults, all of which were told
some_faults : (how : Opening) (known : KnownText) (text file : List ℕ) (before after : Stream) (n : ℕ) → 0 < n
    → Compiles known text (λ items. n ≡ length (faults_of text items))
    → Compiles known text (λ items. TellsFaults how file text items before after)
    → Compiles known text (λ items. (0 < length (faults_of text items))
    × TellsFaults how file text items before after)
some_faults how known text file before after n more count all =
    let same : count.1 ≡ all.1 = (one_compilation known text count.0 all.0 count.1 all.1 count.2 all.2).1 in
    let long : n ≡ length (faults_of text all.1) = count.3 ∙ ap (λ is. length (faults_of text is)) same in
    (all.0, all.1, all.2, (omega (arith, long, more), all.3))

pub returns-else-fault_count-gt0-clause-opened : goal.returns-else-fault_count-gt0-clause-opened
returns-else-fault_count-gt0-clause-opened g c =
    let h = c.fault_count.ensures in
    let session = c.in-Ok.session in
    let opens = c.in-Ok.ensures in
    let none = no_fault (faults_of session.text h.1) c.fault_count.result h.3 c.if-fault_count-gt0.false in
    record {
      base = opens.base_is ∙ c.base_of_file.ensures;
      known = opens.known_is;
      text = opens.text_is;
      clean = (
        session.known,
        opens.known_is,
        subst (λ t. Compiles session.known t (λ items. faults_of t items ≡ [])) opens.text_is
            (h.0, h.1, h.2, none),
      );
      faultless = (h.0, h.1, h.2, none);
      faulty = λ e. absurd (no_error session status.Faulty e);
      too_large = λ more. absurd (no_error session fault.TooLarge (opens.too_large more));
      failed = λ e. absurd (no_error session status.Failed e);
      others = tt;
    }

-- what a text with faults comes to, by the status of their report
reported : (how : Opening) (program file text : List ℕ) (before after : Stream) (status' : Status)
    → (most_text < length text → ⊥)
    → (status' ≡ status.Faulty → CompilesBy how text (λ items. (0 < length (faults_of text items))
    × TellsFaults how file text items before after))
    → (status' ≡ status.Failed → IsTold before after (told_of program (codes "out of memory")))
    → (status' ≡ status.Faulty) ⊎ (status' ≡ status.Failed)
    → IsOpened how program file text before after (Err status')
reported how program file text before after status' few faulty failed others = record {
  base = tt;
  known = tt;
  text = tt;
  clean = tt;
  faultless = tt;
  faulty = λ e. faulty (same_error e);
  too_large = λ more. absurd (few more);
  failed = λ e. NoRoom (fits (length text) few) (failed (same_error e));
  others = others;
}
  where
    same_error : {s t : Status} → IsErrOf {T = Document} (Err s) t → s ≡ t
    same_error e = cc

pub returns-then-fault_count-gt0-clause-opened : goal.returns-then-fault_count-gt0-clause-opened
returns-then-fault_count-gt0-clause-opened g c =
    let session = c.in-Ok.session in
    let opens = c.in-Ok.ensures in
    let how = c.args.how.now in
    let file = c.args.file.now in
    let before = g.E.Sink.state c.args.err.now in
    let after = g.E.Sink.state c.report_faults.new.err in
    let few : most_text < length c.args.bytes.now → ⊥ =
    λ more. no_error session fault.TooLarge (opens.too_large more) in
    let found = λ (e : c.report_faults.result ≡ status.Faulty).
    some_faults how session.known session.text file before after
    c.fault_count.result c.if-fault_count-gt0.true c.fault_count.ensures (c.report_faults.ensures.faulty e) in
    reported how c.args.program.now file c.args.bytes.now before after c.report_faults.result few
    (λ e. (
      session.known,
      opens.known_is,
      subst (λ t. Compiles session.known t (λ items. (0 < length (faults_of t items))
          × TellsFaults how file t items before after)) opens.text_is (found e),
    ))
    c.report_faults.ensures.failed c.report_faults.ensures.others

pub returns-in-Err-clause-opened : goal.returns-in-Err-clause-opened
returns-in-Err-clause-opened g c = record {
  base = tt;
  known = tt;
  text = tt;
  clean = tt;
  faultless = tt;
  faulty = λ e. absurd (cc);
  too_large = λ more. refl;
  failed = λ e. not_opened Session c.args.how.now c.args.program.now c.args.file.now c.args.bytes.now
      (g.E.Sink.state c.args.err.now) (g.E.Sink.state c.tell_unopened.new.err)
      c.in-Err.fault c.in-Err.ensures.too_large c.in-Err.ensures.large c.in-Err.ensures.in_range
      c.tell_unopened.ensures;
  others = inr refl;
}

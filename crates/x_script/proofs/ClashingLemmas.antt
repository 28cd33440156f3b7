-- What is told of names that clash in C.
use Rattle.std.proofs.Common.{◌≡◌, ◌<◌, ◌≤◌, ◌++◌, ℕ, List, [], length, codes, true, false, Ok, arith, refl}
use Rattle.std.proofs.Common.{subst}
use Rattle.std.specs.List.{flat_map}
use Rattle.std.proofs.lemmas.List.{nil_from_length}
use Rattle.x_streams.specs.Streams.{Stream}
use Rattle.x_streams.specs.Writing.{Inked, Adds}
use Rattle.x_streams.proofs.Pens.{adds_trans}
use Rattle.x_compile.specs.Compile.{faults_of}
use Rattle.x_compile.specs.Known.{KnownText}
use Rattle.x_session.proofs.DeclaredLemmas.{of_each}
use Rattle.x_session.specs.Session.{Compiles}
use Rattle.x_prelude.specs.Before.{IsBefore}
use Rattle.x_warnings.specs.WarningLines.{warning_line}
use Rattle.x_warnings.specs.Warnings.{AreWarnings, Warning}
use Rattle.x_script.specs.Answers.{answered, counted_line, refused_by}
use Rattle.x_script.specs.Clashing.{IsClashAnswer, clashes_answer, faulty, faultless}
use Rattle.x_script.specs.Giving.{GivesBy}
use Rattle.x_script.specs.Refusals.{refusal_line}
use Rattle.x_script.specs.Situations.{Over, Situation}
use Rattle.x_script.specs.declared.script.refusal.LineRefusal.TheVariants.{Faulty}

module _ (s : Situation) (known : KnownText) (before : IsBefore s.how.files s.how.from s.text known) where
  -- a text with a fault is refused
  pub clashes_refused : (count : ℕ) (p q : Inked) (a b : Stream) → 0 < count
      → Compiles known s.text (λ items. count ≡ length (faults_of s.text items))
      → Adds p a q b (refusal_line Faulty)
      → GivesBy (λ how here x. Over how here (λ known items. IsClashAnswer how here items x)) s s (Ok true)
      p a q b
  clashes_refused count p q a b some counted added =
      let many = counted.3 in (
        refused_by s.text Faulty,
        (
          known,
          before,
          (counted.0, counted.1, counted.2, faulty (omega (arith, some, many)) refl),
        ),
        record { added = added; refused_is = refl; session_is = record { text_is = refl; how_is = refl } },
      )

  -- how many names clash, and their lines
  pub clashes_given : (count many : ℕ) (ws : List Warning) (p q r : Inked) (a b c : Stream) → count ≤ 0
      → Compiles known s.text (λ items. count ≡ length (faults_of s.text items))
      → Compiles known s.text (λ items. AreWarnings s.text items ws) → many ≡ length ws
      → Adds p a q b (counted_line (codes "clashes") many)
      → Adds q b r c (flat_map (warning_line s.how.file) ws)
      → GivesBy (λ how here x. Over how here (λ known items. IsClashAnswer how here items x)) s s (Ok false)
      p a r c
  clashes_given count many ws p q r a b c none counted are is one all =
      let items = are.1 in
      let few = of_each s.text counted are.0 items are.2 in
      let free = nil_from_length (faults_of s.text items) (omega (arith, none, few)) in
      let lines = flat_map (warning_line s.how.file) ws in
      let added = adds_trans p q r a b c (counted_line (codes "clashes") many) lines one all in (
        answered s.text (clashes_answer s.how.file ws),
        (known, before, (are.0, items, are.2, faultless ws free are.3 refl)),
        record {
          added = subst (λ k. Adds p a r c (counted_line (codes "clashes") k ++ lines)) is added;
          refused_is = refl;
          session_is = record { text_is = refl; how_is = refl };
        },
      )

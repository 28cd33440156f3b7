-- What is told of the faults of a text.
use Rattle.std.proofs.Common.{◌≡◌, ℕ, List, length, codes, false, Ok, refl, ap, subst, ◌∙◌}
use Rattle.x_streams.specs.Streams.{Stream}
use Rattle.x_streams.specs.Writing.{Inked, Adds}
use Rattle.x_streams.proofs.Pens.{adds_trans}
use Rattle.x_compile.specs.Compile.{faults_of}
use Rattle.x_compile.specs.Known.{KnownText}
use Rattle.x_compile.proofs.Compiled.{one_compilation}
use Rattle.x_explain.specs.Explained.{AreExplained}
use Rattle.x_session.specs.Foreign.{ForeignName}
use Rattle.x_session.proofs.DeclaredLemmas.{of_each}
use Rattle.x_session.specs.Session.{Compiles}
use Rattle.x_prelude.specs.Before.{IsBefore}
use Rattle.x_prelude.specs.Foreign.{AreForeign}
use Rattle.x_script.specs.Answers.{answered, counted_line}
use Rattle.x_script.specs.Explaining.{IsExplainAnswer, explained_answer, telling_of}
use Rattle.x_script.specs.Giving.{GivesBy}
use Rattle.x_script.specs.Situations.{Over, Situation}

-- how many faults there are, and what explains them
pub explained_given : (s : Situation) (known : KnownText) (foreign : List ForeignName) (count : ℕ)
    (p q r : Inked)
    (a b c : Stream) → IsBefore s.how.files s.how.from s.text known
    → Compiles known s.text (λ items. count ≡ length (faults_of s.text items))
    → Compiles known s.text (λ items. AreForeign s.how.files s.how.from s.text items foreign)
    → Adds p a q b (counted_line (codes "explained") count)
    → Compiles known s.text (λ items. (said : List ℕ)
    × AreExplained s.how.places foreign (telling_of s.how.file s.text) items said × Adds q b r c said)
    → GivesBy (λ how here x. Over how here (λ known items. IsExplainAnswer how here items x)) s s
    (Ok false) p a r c
explained_given s known foreign count p q r a b c before many are one all =
    let text = s.text in
    let items = all.1 in
    let said = all.3.0 in
    let same : many.1 ≡ items = (one_compilation known text many.0 all.0 many.1 items many.2 all.2).1 in
    let is : count ≡ length (faults_of text items) = many.3 ∙ ap (λ is. length (faults_of text is)) same in
    let added = adds_trans p q r a b c (counted_line (codes "explained") count) said one all.3.2 in
    let told = explained_answer (length (faults_of text items)) said in (
      answered text told,
      (
        known,
        before,
        (
          all.0,
          items,
          all.2,
          record {
            said = said;
            foreign = foreign;
            are_foreign = of_each text are all.0 items all.2;
            are_explained = all.3.1;
            answer_is = refl;
          },
        ),
      ),
      record {
        added = subst (λ t. Adds p a r c t) (ap (λ n. explained_answer n said) is) added;
        refused_is = refl;
        session_is = record { text_is = refl; how_is = refl };
      },
    )

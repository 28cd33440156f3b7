-- Texts that end whole, by the laws before.
use Rattle.std.proofs.Common.{◌≡◌, ℕ, ◌≤◌, List, [], ◌++◌, length, refl, sym, subst}
use Rattle.std.specs.Prelude.{codes}
use Rattle.std.proofs.lemmas.List.{append_assoc}
use Rattle.x_text.specs.Limits.{most_text}
use Rattle.x_compile.specs.Compile.{faults_of}
use Rattle.x_compile.specs.Known.{KnownText}
use Rattle.x_session.specs.Session.{Compiles}
use Rattle.x_prelude.specs.Before.{IsPrelude}
use Rattle.x_prelude.specs.declared.definition.FromC.{FromC}
use Rattle.x_prelude_laws.specs.Wholes.{EndsWhole}
use Rattle.x_prelude_laws.proofs.Ended.{faultless_ended}
use Rattle.x_prelude_laws.proofs.Lined.{ended_whole}
use Rattle.x_prelude_laws.proofs.Nothing.{before_whole}
use Rattle.x_prelude_laws.proofs.Wholes.{ends_whole, whole_both, whole_from, words_before}

pub both_whole : (first second : List ℕ) → EndsWhole first → EndsWhole second → EndsWhole (first ++ second)
both_whole first second h k =
    ends_whole (first ++ second) (words_before first h ++ words_before second k)
    (whole_both first second (words_before first h) (words_before second k) (whole_from first h)
    (whole_from second k))

pub faultless_whole : (known : KnownText) (text : List ℕ)
    → Compiles known text (λ items. faults_of text items ≡ []) → EndsWhole (text ++ codes "\n")
faultless_whole known text h =
    let ended = faultless_ended known text h.0 h.1 h.2 h.3 in
    ends_whole (text ++ codes "\n") ended.all (ended_whole text ended)

pub next_whole : (files : List ℕ) (from : FromC) (known : KnownText) (text prelude : List ℕ) → EndsWhole files
    → length text ≤ most_text → IsPrelude files from text prelude
    → Compiles known text (λ items. faults_of text items ≡ [])
    → EndsWhole (files ++ prelude ++ text ++ codes "\n")
next_whole files from known text prelude ends fits is faultless =
    subst EndsWhole (sym (append_assoc (files ++ prelude) text (codes "\n")))
    (both_whole (files ++ prelude) (text ++ codes "\n")
    (before_whole files from text (files ++ prelude) ends fits (prelude, is, refl))
    (faultless_whole known text faultless))

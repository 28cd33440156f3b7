use Rattle.std.proofs.Common.{◌∙◌, subst}
use Rattle.x_compile.specs.Compile.{places_of}
use Rattle.x_explain.specs.Found.{AreFound}
use Rattle.x_explain.specs.Suggestions.{sought}
use Rattle.x_session.proofs.DeclaredLemmas.{ok_then}
use Rattle.x_explain.proofs.suggestions.unknown_words.Goals as goal

pub returns : goal.returns
returns c =
    let h = c.in_ok-places.ensures in
    ok_then c.found_at.result
    (λ found are. (
      h.0,
      h.1,
      h.2,
      subst (λ t. AreFound t (sought (places_of h.1)) found.items) c.bytes.ensures
          (subst (λ l. AreFound c.bytes.result.now l found.items) (c.deref.ensures.value ∙ h.3) are),
    )) c.found_at.ensures

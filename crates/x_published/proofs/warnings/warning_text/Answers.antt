use Rattle.std.proofs.Common.{◌++◌, ◌∙◌, ap, codes}
use Rattle.std.specs.Str.Lossy.{utf8_lossy}
use Rattle.x_published.specs.Warned.{other_text}
use Rattle.x_published.proofs.warnings.warning_text.Goals as goal

pub returns : goal.returns
returns c =
    let other = other_text c.args.shown.now c.args.warning.now.other in
    let name = c.as_str.ensures.value ∙ c.in_ok-name.ensures.lossy ∙ ap utf8_lossy c.deref.ensures.value in
    c.in_ok-add_other.ensures
    ∙ ap (λ l. l ++ other) (c.in_ok-push_str-2.ensures.bytes
    ∙ ap (λ l. l ++ codes "' ") (c.in_ok-push_str.ensures.bytes
    ∙ (λ i. c.in_ok-text.ensures.ok i ++ name i)))

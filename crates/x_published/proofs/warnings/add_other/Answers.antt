use Rattle.std.proofs.Common.{◌≡◌, ◌++◌, codes, subst, sym}
use Rattle.std.specs.Prelude.{OnOk, string_bytes}
use Rattle.x_published.specs.Warned.{line_text, other_text}
use Rattle.x_published.proofs.WarningLemmas.{adds_more}
use Rattle.x_published.proofs.warnings.add_other.Goals as goal

pub returns-in_ok-push_str-in-OfText : goal.returns-in_ok-push_str-in-OfText
returns-in_ok-push_str-in-OfText c =
    let r = c.add_line.result in
    let shown = c.args.shown.now in
    let old = string_bytes c.args.text.now in
    let new = string_bytes c.add_line.new.text in
    subst (λ o. OnOk r (new ≡ old ++ other_text shown o)) (sym c.in-OfText.is)
    (adds_more r old (string_bytes c.push_str-in-OfText.new.self) new (codes "has two meanings in C")
    (line_text shown c.in-OfText.spot) c.in_ok-push_str-in-OfText.ensures.bytes c.add_line.ensures)

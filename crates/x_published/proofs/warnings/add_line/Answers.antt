use Rattle.std.proofs.Common.{◌≡◌, ◌++◌, ◌∙◌, ap, append_assoc, codes, subst, sym}
use Rattle.std.specs.Prelude.{string_bytes}
use Rattle.std.specs.Fmt.{decimal}
use Rattle.x_published.specs.Warned.{line_text}
use Rattle.x_published.proofs.warnings.add_line.Goals as goal

pub returns : goal.returns
returns c =
    let old = string_bytes c.args.text.now in
    let front = codes "; the other is in line " in
    let line = c.format.result.now in
    subst (λ s. string_bytes c.push_str-2.new.self ≡ old ++ line_text c.args.shown.now s) (sym c.in-Some.is)
    (c.in_ok-push_str-2.ensures.bytes ∙ ap (λ l. l ++ line) c.in_ok-push_str.ensures.bytes
    ∙ append_assoc old front line
    ∙ ap (λ l. old ++ (front ++ l)) (c.format.ensures.text ∙ ap decimal c.line_of.ensures))

use Rattle.std.proofs.Common.{◌++◌, ap, ◌∙◌}
use Rattle.std.specs.Prelude.{codes, decimal}
use Rattle.x_contents.specs.Folds.{kind_text}
use Rattle.x_contents.proofs.FoldLemmas.{seven_behind}
use Rattle.x_contents.proofs.folds.write_fold.Goals as goal

pub returns : goal.returns
returns c =
    let f = c.args.fold in
    let one = c.in_ok-extend_from_slice.ensures.items in
    let two = c.in_ok-write_number.ensures ∙ ap (λ l. l ++ decimal f.lines.last) one in
    let three = c.in_ok-write_kind.ensures ∙ ap (λ l. l ++ kind_text f.comment) two in
    let four = c.in_ok-extend_from_slice-2.ensures.items ∙ ap (λ l. l ++ codes ",\"startLine\":") three in
    let five = c.in_ok-write_number-2.ensures ∙ ap (λ l. l ++ decimal f.lines.first) four in
    let six = c.in_ok-extend_from_slice-3.ensures.items ∙ ap (λ l. l ++ codes "}") five in
    c.in_ok-extend_from_slice-4.ensures.items ∙ ap (λ l. l ++ codes ",") six
    ∙ seven_behind c.args.text.now.items (codes "{\"endLine\":") (decimal f.lines.last) (kind_text f.comment)
    (codes ",\"startLine\":") (decimal f.lines.first) (codes "}") (codes ",")

use Rattle.std.proofs.Common.{◌≡◌, ap, arith, ◌∙◌}
use Rattle.x_positions.specs.Positions.{EncodedText, lines_before}
use Rattle.x_positions.specs.declared.positions.Position.{Position}
use Rattle.x_questions.proofs.LineLemmas.{lines_few}
use Rattle.x_questions.proofs.locations.name_unparsed.Goals as goal

pub overflow_add-result : goal.overflow_add-result
overflow_add-result c =
    let text = c.bytes.result.now in
    let start = c.args.token.now.start in
    let line : c.position.result.line ≡ lines_before text start =
    ap (λ (p : Position). p.line) c.position.ensures.position
    ∙ ap (λ (p : EncodedText). lines_before p.text start) c.of-places.ensures in
    let few = lines_few text start in
    omega (arith, line, few, c.bytes.ensures.small)

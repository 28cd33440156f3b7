use Rattle.std.proofs.Common.{◌≡◌, ◌∙◌, sym, ap, arith, drop, length}
use Rattle.x_positions.specs.Positions.{first_line, units_before}
use Rattle.x_positions.proofs.PassedLineLemmas.{content_of}
use Rattle.x_positions.proofs.places.Places.units_in.Goals as goal

pub units_behind-requires-clause-units : goal.units_behind-requires-clause-units
units_behind-requires-clause-units c =
    let e = c.self.inside.encoding in
    let text = c.self.inside.text.now in
    let same : c.self.inside.line.start ≡ c.args.line.start = omega arith in
    c.self.invariant.2.units_are
    ∙ ap (λ n. units_before e (first_line (drop n text)) c.self.inside.bytes) same
    ∙ ap (λ l. units_before e l c.self.inside.bytes)
    (sym (content_of text c.args.line.start c.args.line.length (c.requires.line.length_is
    ∙ ap (λ v. length (first_line (drop c.args.line.start v.text))) (sym c.self.view_is))))

pub returns-then-self-bytes-clause-units : goal.returns-then-self-bytes-clause-units
returns-then-self-bytes-clause-units c =
    let e = c.self.inside.encoding in
    let text = c.self.inside.text.now in
    c.units_behind.ensures.units
    ∙ ap (λ l. units_before e l c.args.bytes)
    (content_of text c.args.line.start c.args.line.length (c.requires.line.length_is
    ∙ ap (λ v. length (first_line (drop c.args.line.start v.text))) (sym c.self.view_is)))
    ∙ ap (λ v. units_before v.encoding (first_line (drop c.args.line.start v.text)) c.args.bytes)
    c.self.view_is

pub returns-else-line-self-clause-units : goal.returns-else-line-self-clause-units
returns-else-line-self-clause-units c =
    let e = c.self.inside.encoding in
    let text = c.self.inside.text.now in
    c.units_behind-else-line-self.ensures.units
    ∙ ap (λ l. units_before e l c.args.bytes)
    (content_of text c.args.line.start c.args.line.length (c.requires.line.length_is
    ∙ ap (λ v. length (first_line (drop c.args.line.start v.text))) (sym c.self.view_is)))
    ∙ ap (λ v. units_before v.encoding (first_line (drop c.args.line.start v.text)) c.args.bytes)
    c.self.view_is

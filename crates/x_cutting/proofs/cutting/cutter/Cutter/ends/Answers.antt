use Rattle.std.proofs.Common.{◌+◌, ◌-◌, ap, sym, ◌∙◌}
use Rattle.std.specs.Prelude.{◌==◌}
use Rattle.x_cutting.specs.Cutting.{depth_after, ends_at}
use Rattle.x_cutting.proofs.RoleLemmas.{is_opening, is_closing, is_semicolon, is_plain}
use Rattle.x_cutting.proofs.cutting.cutter.Cutter.ends.Goals as goal

pub returns-then-is_punct-clause-ends : goal.returns-then-is_punct-clause-ends
returns-then-is_punct-clause-ends c =
    ap (ends_at c.args.self.now)
    (sym (is_opening c.args.kind c.args.text.now c.is_punct.result c.is_punct.ensures c.if-is_punct.true))

pub returns-then-is_punct-clause-moved : goal.returns-then-is_punct-clause-moved
returns-then-is_punct-clause-moved c =
    ap (λ d. d + 1) c.self.view_is
    ∙ ap (depth_after c.args.self.now)
    (sym (is_opening c.args.kind c.args.text.now c.is_punct.result c.is_punct.ensures c.if-is_punct.true))

pub returns-then-is_punct-2-clause-ends : goal.returns-then-is_punct-2-clause-ends
returns-then-is_punct-2-clause-ends c =
    ap (ends_at c.args.self.now)
    (sym (is_closing c.args.kind c.args.text.now c.is_punct.result c.is_punct-2.result c.is_punct.ensures
    c.if-is_punct.false c.is_punct-2.ensures c.if-is_punct-2.true))

pub returns-then-is_punct-2-clause-moved : goal.returns-then-is_punct-2-clause-moved
returns-then-is_punct-2-clause-moved c =
    c.depth_closed-self-inside.ensures
    ∙ ap (λ d. d - 1) c.self.view_is
    ∙ ap (depth_after c.args.self.now)
    (sym (is_closing c.args.kind c.args.text.now c.is_punct.result c.is_punct-2.result c.is_punct.ensures
    c.if-is_punct.false c.is_punct-2.ensures c.if-is_punct-2.true))

pub returns-then-is_punct-3-clause-ends : goal.returns-then-is_punct-3-clause-ends
returns-then-is_punct-3-clause-ends c =
    ap (λ d. d == 0) c.self.view_is
    ∙ ap (ends_at c.args.self.now)
    (sym (is_semicolon c.args.kind c.args.text.now c.is_punct.result c.is_punct-2.result c.is_punct-3.result
    c.is_punct.ensures c.if-is_punct.false c.is_punct-2.ensures c.if-is_punct-2.false c.is_punct-3.ensures
    c.if-is_punct-3.true))

pub returns-then-is_punct-3-clause-moved : goal.returns-then-is_punct-3-clause-moved
returns-then-is_punct-3-clause-moved c =
    ap (depth_after c.args.self.now)
    (sym (is_semicolon c.args.kind c.args.text.now c.is_punct.result c.is_punct-2.result c.is_punct-3.result
    c.is_punct.ensures c.if-is_punct.false c.is_punct-2.ensures c.if-is_punct-2.false c.is_punct-3.ensures
    c.if-is_punct-3.true))

pub returns-clause-ends : goal.returns-clause-ends
returns-clause-ends c =
    ap (ends_at c.args.self.now)
    (sym (is_plain c.args.kind c.args.text.now c.is_punct.result c.is_punct-2.result c.is_punct-3.result
    c.is_punct.ensures c.if-is_punct.false c.is_punct-2.ensures c.if-is_punct-2.false c.is_punct-3.ensures
    c.if-is_punct-3.false))

pub returns-clause-moved : goal.returns-clause-moved
returns-clause-moved c =
    ap (depth_after c.args.self.now)
    (sym (is_plain c.args.kind c.args.text.now c.is_punct.result c.is_punct-2.result c.is_punct-3.result
    c.is_punct.ensures c.if-is_punct.false c.is_punct-2.ensures c.if-is_punct-2.false c.is_punct-3.ensures
    c.if-is_punct-3.false))

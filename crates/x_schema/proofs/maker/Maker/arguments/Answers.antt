use Rattle.std.proofs.Common.{map, sym, ◌∙◌}
use Rattle.std.proofs.lemmas.List.{length-map}
use Rattle.std.proofs.lemmas.Result.{IfOk-weaker}
use Rattle.x_trees.specs.View.{view_argument, view_passed}
use Rattle.x_schema.specs.ProcedureMaking.{PutsFields}
use Rattle.x_schema.proofs.ProcedureLemmas.{arguments_one, arguments_several}
use Rattle.x_schema.proofs.maker.Maker.arguments.Goals as goal

pub returns-then-is_empty : goal.returns-then-is_empty
returns-then-is_empty c =
    let others = c.args.procedure.now.others in
    IfOk-weaker c.passed.result _ _
    (λ place x. arguments_one c.args.known.now c.args.self.now c.passed.new.self
    (view_passed c.args.procedure.now.first) (map view_argument others.items) place others.len
    (others.ok.0 ∙ sym (length-map others.items view_argument)) (sym c.is_empty.ensures
    ∙ c.if-is_empty.true) x)
    c.passed.ensures

pub returns : goal.returns
returns c =
    let known = c.args.known.now in
    let first = view_passed c.args.procedure.now.first in
    let others = c.args.procedure.now.others in
    let put : PutsFields known c.args.self.now c.argument_fields.new.self first
    (map view_argument others.items) c.in_ok-fields.fields.items =
    rw c.deref.ensures.value at c.in_ok-fields.ensures in
    IfOk-weaker c.form.result _ _
    (λ place x. arguments_several known c.args.self.now c.argument_fields.new.self c.form.new.self first
    (map view_argument others.items) c.in_ok-fields.fields place others.len
    (others.ok.0 ∙ sym (length-map others.items view_argument)) (sym c.is_empty.ensures
    ∙ c.if-is_empty.false) put x)
    c.form.ensures

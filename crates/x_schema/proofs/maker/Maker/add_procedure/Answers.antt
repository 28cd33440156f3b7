use Rattle.std.proofs.Common.{ap, ◌∙◌}
use Rattle.std.proofs.lemmas.Result.{on_ok_weaker}
use Rattle.x_trees.specs.View.{view_procedure}
use Rattle.x_schema.specs.ProceduresOf.{Numbered, with_procedure}
use Rattle.x_schema.proofs.ProcedureLemmas.{grows_one}
use Rattle.x_schema.proofs.maker.Maker.add_procedure.Goals as goal

pub returns : goal.returns
returns c =
    let p : Numbered =
    record {
      program = c.args.program.now;
      version = c.args.version.now;
      procedure = view_procedure c.args.procedure.now;
    } in
    on_ok_weaker c.put_procedure.result
    (λ x. grows_one c.args.known.now c.args.self.now c.procedure.new.self c.args.table.now.entries
    c.put_procedure.new.table.entries p c.in_ok-kept.kept c.in_ok-kept.ensures
    (x ∙ ap (λ o. with_procedure c.args.table.now.entries o c.in_ok-kept.kept) c.numbers_by.ensures))
    c.put_procedure.ensures

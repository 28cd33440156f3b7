use Rattle.x_trees.specs.View.{view_procedure}
use Rattle.x_schema.specs.declared.procedure.CompactProcedure.{CompactProcedure}
use Rattle.x_schema.proofs.ProcedureLemmas.{procedure_put}
use Rattle.x_schema.proofs.maker.Maker.procedure.Goals as goal

pub returns : goal.returns
returns c =
    let kept : CompactProcedure =
    record {
      name = c.in_ok-name.name;
      arguments = c.in_ok-arguments.arguments;
      results = c.in_ok-results.results;
    } in
    procedure_put c.args.known.now c.args.self.now c.arguments.new.self c.passed.new.self c.name.new.self
    (view_procedure c.args.procedure.now) c.deref.result.now kept
    c.deref.ensures c.in_ok-arguments.ensures c.in_ok-results.ensures c.in_ok-name.ensures

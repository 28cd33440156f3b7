use Rattle.std.proofs.Common.{◌+◌, ◌∙◌}
use Rattle.std.specs.Prelude.{Some}
use Rattle.std.proofs.lemmas.List.{take_rest}
use Rattle.x_args.proofs.BaseNameLemmas.{behind_last}
use Rattle.x_args.proofs.bases.file_name.Goals as goal

pub returns-in-Some : goal.returns-in-Some
returns-in-Some c = take_rest c.args.path.now (c.in-Some.slash + 1)
    ∙ behind_last c.args.path.now (Some c.in-Some.slash) c.in-Some.ensures

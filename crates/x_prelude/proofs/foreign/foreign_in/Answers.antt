use Rattle.std.proofs.Common.{◌∙◌}
use Rattle.std.specs.List.{flat_map}
use Rattle.x_compile.specs.Compile.{definitions_of}
use Rattle.x_compile.specs.Known.{known_names}
use Rattle.x_session.proofs.DeclaredLemmas.{of_each, ok_then}
use Rattle.x_prelude.specs.Foreign.{foreign_at}
use Rattle.x_prelude.specs.Lacking.{first_of_each, lacking}
use Rattle.x_prelude.proofs.ForeignLemmas.{if_taken}
use Rattle.x_prelude.proofs.foreign.foreign_in.Goals as goal

pub returns : goal.returns
returns c =
    let text = c.args.session.now.text in
    let from = c.args.from_c in
    let table = c.in_ok-declared.ensures in
    let items = table.1 in
    let names = of_each text c.in_ok-lacks.ensures table.0 items table.2 in
    let all = lacking (known_names c.args.known.now) (definitions_of items) in
    ok_then c.placed.result (λ found are. (
      table.0,
      items,
      table.2,
      are text items all table.3 names
          ∙ if_taken from.foreign (flat_map (foreign_at from text items) (first_of_each all))
          c.if-not-from_c.false,
    )) c.placed.ensures

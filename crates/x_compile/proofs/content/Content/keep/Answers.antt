use Rattle.std.proofs.Common.{rules}
use Rattle.x_compile.proofs.KeepingLemmas.{found_in}
use Rattle.x_compile.proofs.content.Content.keep.Goals.{in_default, in-Sound2}
use Rattle.x_compile.proofs.content.Content.keep.Goals as goal

pub returns-clause-pieces : goal.returns-clause-pieces
returns-clause-pieces c =
    elim c.match-replace.branch [
      | in_default w ↦ search rules
      | in-Sound2 w ↦ (let in_box = found_in c.replace.result w.in-Sound.body w.in-Sound.is in search rules)
    ]

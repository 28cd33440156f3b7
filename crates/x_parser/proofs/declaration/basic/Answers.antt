use Rattle.std.proofs.Common.{ap}
use Rattle.x_trees.specs.Words.{Fixed}
use Rattle.x_trees.specs.View.{view_type}
use Rattle.x_trees.specs.Spell.{spell_type}
use Rattle.x_parser.proofs.LoopLemmas.{read_unsigned, stuck_unsigned}
use Rattle.x_parser.proofs.declaration.basic.Goals as goal

pub returns-in-Unsigned-clause-read : goal.returns-in-Unsigned-clause-read
returns-in-Unsigned-clause-read c =
    read_unsigned c.requires.first (ap Fixed c.in-Unsigned.is) c.unsigned.result
    (λ x. spell_type (view_type x.0)) (λ x. x.1.now) c.unsigned.ensures.read

pub returns-in-Unsigned-clause-stuck : goal.returns-in-Unsigned-clause-stuck
returns-in-Unsigned-clause-stuck c =
    stuck_unsigned c.requires.first (ap Fixed c.in-Unsigned.is) c.unsigned.result c.unsigned.ensures.stuck

use Rattle.std.proofs.Common.{◌≡◌, ◌++◌, drop}
use Rattle.std.specs.Prelude.{codes}
use Rattle.std.specs.List.{flat_map}
use Rattle.x_contents.specs.Tokens.{number_text}
use Rattle.x_contents.proofs.tokens.list_text.Given as goal

abbrev pub invariant-loop-number : goal.invariant-loop-number
invariant-loop-number l = l.text.items ++ flat_map number_text (drop l.number-index l.numbers) ≡ codes "["
    ++ flat_map number_text l.numbers

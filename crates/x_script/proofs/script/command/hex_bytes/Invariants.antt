use Rattle.std.proofs.Common.{◌≡◌, ◌*◌, ◌++◌, drop}
use Rattle.x_script.specs.Commands.{bytes_of}
use Rattle.x_script.proofs.script.command.hex_bytes.Given as goal

abbrev pub invariant-loop-at : goal.invariant-loop-at
invariant-loop-at l = l.bytes.items ++ bytes_of (drop (2 * l.at) l.word) ≡ bytes_of l.word

use Rattle.std.proofs.Common.{◌≡◌, ◌<◌, ◌^◌, drop}
use Rattle.x_numbers.specs.Numbers.{value_behind}
use Rattle.x_numbers.proofs.value_in.Given as goal

-- the digits so far stand for the value
abbrev pub invariant-loop-byte : goal.invariant-loop-byte
invariant-loop-byte l =
    record {
      value_is : value_behind l.base 0 l.digits ≡ value_behind l.base l.value (drop l.byte-index l.digits);
      fits : l.value < 2 ^ 64;
    }

use Rattle.std.specs.List.{list_any}
use Rattle.std.specs.Ordering.{int_eq}
use Rattle.std.proofs.Common.{◌++◌, take, drop}
use Rattle.x_rules.specs.Found.{repeated_numbers}
use Rattle.x_rules.proofs.NumberLemmas.{Counted}
use Rattle.x_rules.proofs.rules.repeats.add_repeated_numbers.Given as goal

abbrev pub invariant-loop-place : goal.invariant-loop-place
invariant-loop-place l =
    Counted (λ z. list_any (λ n. int_eq z n.number) (take l.place l.numbers)) l.code l.faults.items
    (l.fn.faults.items ++ repeated_numbers l.code l.numbers) (drop l.place l.numbers)

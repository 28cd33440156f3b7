use Rattle.std.specs.Prelude.{nat_lt}
use Rattle.std.proofs.Common.{rules}
use Rattle.std.proofs.lemmas.List.Sorted.{IsPartitionedBy-ltb, IsPartitionPoint-from_clause}
use Rattle.x_rules.proofs.SortedFaults.{words_rise, IsFirstFrom, fault_there, no_fault_there}
use Rattle.x_rules.proofs.rules.cases.has_fault.Goals as goal

pub returns-in-Some : goal.returns-in-Some
returns-in-Some c up =
    let fs = c.args.faults.now in
    let from = c.args.from in
    let first : IsFirstFrom fs from c.partition_point-place.result =
    IsPartitionPoint-from_clause (λ f. nat_lt f.word from) fs _ c.partition_point-place.ensures.partitioned
    (IsPartitionedBy-ltb (λ f. f.word) fs from (words_rise fs up)) (λ a r q k. search rules) in
    let l = c.in-Some.ensures.lookup in
    fault_there fs from c.args.to c.partition_point-place.result c.in-Some.fault.now up first l.3.0 l.3.1

pub returns-in-None : goal.returns-in-None
returns-in-None c up =
    let fs = c.args.faults.now in
    let from = c.args.from in
    let first : IsFirstFrom fs from c.partition_point-place.result =
    IsPartitionPoint-from_clause (λ f. nat_lt f.word from) fs _ c.partition_point-place.ensures.partitioned
    (IsPartitionedBy-ltb (λ f. f.word) fs from (words_rise fs up)) (λ a r q k. search rules) in
    let l = c.in-None.ensures.lookup in
    no_fault_there fs from c.args.to c.partition_point-place.result first l.3

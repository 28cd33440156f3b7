use Rattle.std.proofs.Common.{length, ap, arith}
use Rattle.x_compile.specs.Definitions.{numbered}
use Rattle.x_compile.specs.KeptView.{entry_definitions, kept_definition}
use Rattle.x_compile.proofs.NumberedLemmas.{count_none, count_some}
use Rattle.x_compile.proofs.item_table.ItemTable.definition_count.Goals as goal

pub loop-entry-preserved : goal.loop-entry-preserved
loop-entry-preserved c =
    let next = c.next.new.self in
    let few = c.loop-entry.invariant.few in
    let all = c.loop-entry.invariant.all in
    let one = ap length c.in-Some.ensures.steps in
    let here = ap (λ l. length (numbered 0 (entry_definitions l))) c.in-Some.ensures.steps in
    let none = count_none (kept_definition c.in-Some.entry.now.kept) (entry_definitions next)
    c.definition.result c.definition.ensures c.if-is_some.ensures in
    record { few = omega (arith, few, one); all = omega (arith, all, here, none) }

pub loop-entry-preserved-then-is_some : goal.loop-entry-preserved-then-is_some
loop-entry-preserved-then-is_some c =
    let next = c.next.new.self in
    let few = c.loop-entry.invariant.few in
    let all = c.loop-entry.invariant.all in
    let one = ap length c.in-Some.ensures.steps in
    let here = ap (λ l. length (numbered 0 (entry_definitions l))) c.in-Some.ensures.steps in
    let some = count_some (kept_definition c.in-Some.entry.now.kept) (entry_definitions next)
    c.definition.result c.definition.ensures c.if-is_some.ensures in
    record { few = omega (arith, few, one); all = omega (arith, all, here, some) }

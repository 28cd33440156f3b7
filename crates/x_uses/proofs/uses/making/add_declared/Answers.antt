use Rattle.std.proofs.Common.{cond, None, Some, subst}
use Rattle.std.specs.Str.{bytes_eq}
use Rattle.x_uses.specs.Occurrences.{declarer_of}
use Rattle.x_uses.specs.Slots.{Notes}
use Rattle.x_uses.proofs.NotedLaws.{declared_next}
use Rattle.x_uses.proofs.uses.making.add_declared.Goals as goal

pub loop-place-preserved : goal.loop-place-preserved
loop-place-preserved c =
    let all = c.args.declared.now in
    let at = c.loop-place.place in
    let x = c.index-declared-place.result in
    let d = c.in_ok-declarer.declarer in
    declared_next c.args.table.now.entries c.loop-place.table.entries c.note_declarer.new.table.entries
    c.args.item all at x d c.loop-place-test.true c.index-declared-place.is c.in_ok-declarer.ensures
    c.loop-place.invariant
    (subst (λ n. Notes c.loop-place.table.entries c.note_declarer.new.table.entries
    (λ other. cond (bytes_eq other n) (Some (declarer_of d)) None) (λ other. bytes_eq other n) d.item)
    c.deref.ensures.value c.in_ok-note_declarer.ensures)

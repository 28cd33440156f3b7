use Rattle.x_lookups.specs.Unparsed.{is_wanted}
use Rattle.x_lookups.proofs.UnparsedLemmas.{HasNone}
use Rattle.x_lookups.proofs.unparsed.first_unparsed.Given as goal

abbrev pub invariant-loop-item : goal.invariant-loop-item
invariant-loop-item l = HasNone l.session.known l.session.text (is_wanted l.wanted) l.item l.walk

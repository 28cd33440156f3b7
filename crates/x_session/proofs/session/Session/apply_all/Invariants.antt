use Rattle.std.proofs.Common.{◌≡◌, drop, take}
use Rattle.x_session.specs.Work.{IsWorkOfAll}
use Rattle.x_session.proofs.EditLists.{HasTaken}
use Rattle.x_session.proofs.session.Session.apply_all.Given as goal

abbrev pub invariant-loop-index : goal.invariant-loop-index
invariant-loop-index l = HasTaken l.fn.self.text l.edits (drop l.index l.edits) l.self.text l.index
    × (l.self.base ≡ l.fn.self.base)
    × (l.self.known ≡ l.fn.self.known) × IsWorkOfAll l.fn.self (take l.index l.edits) l.self l.total

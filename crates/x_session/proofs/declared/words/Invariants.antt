use Rattle.std.proofs.Common.{◌≡◌, map}
use Rattle.x_session.proofs.DeclaredLemmas.{HasWords}
use Rattle.x_session.proofs.declared.words.Given as goal

abbrev pub invariant-loop : goal.invariant-loop
invariant-loop l = (l.lines ≡ l.session.text)
    × HasWords l.session.known l.session.text l.counter l.walk (map (λ v. v.items) l.list.items)

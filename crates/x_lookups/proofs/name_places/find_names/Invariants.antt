use Rattle.std.proofs.Common.{[], map}
use Rattle.x_lex.specs.Places.{lexeme}
use Rattle.x_lookups.specs.Sought.{is_sought}
use Rattle.x_session.proofs.ItemWalking.{HasWalked}
use Rattle.x_lookups.proofs.NamePlaceLemmas.{found_by}
use Rattle.x_lookups.proofs.name_places.find_names.Given as goal

abbrev pub invariant-loop-item : goal.invariant-loop-item
invariant-loop-item l = HasWalked l.session.known l.session.text (found_by (is_sought l.sought)) [] l.item
    l.walk (map lexeme l.found.items)

use Rattle.std.proofs.Common.{◌≡◌}
use Rattle.x_session.proofs.ItemWalking.{HasWalked}
use Rattle.x_contents.specs.Kept.{spelt}
use Rattle.x_contents.specs.SymbolTexts.{no_text}
use Rattle.x_contents.proofs.SymbolLemmas.{item_text}
use Rattle.x_contents.proofs.symbols.symbols.Given as goal

abbrev pub invariant-loop-item : goal.invariant-loop-item
invariant-loop-item l = record {
  walked : HasWalked l.session.known l.session.text (item_text l.fn.encoding l.shown) no_text l.item l.walk
      (spelt l.text);
  places : l.places ≡ record { encoding = l.fn.encoding; text = l.shown };
}

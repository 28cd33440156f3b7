use Rattle.std.proofs.Common.{◌≡◌}
use Rattle.x_names.specs.DeclarerTable.{first_in}
use Rattle.x_session.proofs.ItemWalking.{HasWalked}
use Rattle.x_contents.specs.Reading.{told_of}
use Rattle.x_contents.specs.Tokens.{with_item_tokens}
use Rattle.x_contents.proofs.tokens.ToldTokens.add_items.Given as goal

abbrev pub invariant-loop-item : goal.invariant-loop-item
invariant-loop-item l = record {
  walked : HasWalked l.session.known l.session.text
      (with_item_tokens l.fn.self.places.encoding l.shown (first_in l.names))
      (told_of l.fn.self) l.item l.walk (told_of l.self);
  places : l.self.places ≡ l.fn.self.places;
}

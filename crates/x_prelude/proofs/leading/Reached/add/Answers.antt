use Rattle.std.proofs.Common.{◌≡◌, false, length, refl, sym, ◌∙◌}
use Rattle.std.proofs.lemmas.List.{get_or_read_under}
use Rattle.x_prelude.specs.Reaching.{is_marked}
use Rattle.x_prelude.proofs.ReachingLemmas.{one_more}
use Rattle.x_prelude.proofs.leading.Reached.add.Goals as goal

pub returns-in_ok-push-clause-on : goal.returns-in_ok-push-clause-on
returns-in_ok-push-clause-on c count h =
    let marks = c.args.self.now.marks.items in
    let free : is_marked marks c.args.item ≡ false = sym (get_or_read_under marks c.args.item (length marks)
    c.index.result.now false c.index.ensures c.requires refl) ∙ c.if-not-index.true in
    one_more count c.args.item c.args.self.now _ c.requires free refl c.in_ok-push.ensures.items h

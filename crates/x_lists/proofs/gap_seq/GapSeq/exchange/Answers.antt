use Rattle.std.proofs.Common.{◌++◌, reverse, sym, ap, ◌∙◌, arith}
use Rattle.std.specs.Prelude.{slice_set}
use Rattle.x_lists.proofs.SeqLemmas.{HasExchanged, has_exchanged, set_front}
use Rattle.x_lists.proofs.gap_seq.GapSeq.exchange.Goals as goal

pub returns-then-at-len-clause-list : goal.returns-then-at-len-clause-list
returns-then-at-len-clause-list g c =
    let front = c.seek-moved.new.front.items in
    let rear = reverse c.seek-moved.new.rear.items in
    let whole = c.seek-moved.ensures.entries ∙ ap (λ v. v.list) c.self.view_is in
    ap (λ x. slice_set front c.args.at x ++ rear) c.replace-out.ensures.after
    ∙ sym
    (
    set_front front rear c.args.at c.args.new
    (
    let n = c.seek-moved.ensures.front in
    let ok = c.seek-moved.new.front.ok.0 in
    omega (arith, n, ok)
    )
    )
    ∙ ap (λ l. slice_set l c.args.at c.args.new) whole

exchanged : (g : _) (c : goal.After-push_in_room g)
    → HasExchanged c.args.self.now.list c.seek-moved-2.new.front.items c.pop.new.self.items c.args.at
    c.in-Some.out c.args.new
exchanged g c =
    let whole = c.seek-moved-2.ensures.entries ∙ ap (λ v. v.list) c.self.view_is in
    let seat = c.seek-moved-2.ensures.front in
    let ok = c.seek-moved-2.new.front.ok.0 in
    has_exchanged c.args.self.now.list c.seek-moved-2.new.front.items c.seek-moved-2.new.rear.items
    c.pop.new.self.items c.args.at c.in-Some.out c.args.new whole (omega (arith, seat, ok))
    c.in-Some.ensures.items

pub returns-clause-list : goal.returns-clause-list
returns-clause-list g c =
    ap (λ x. x ++ reverse c.pop.new.self.items) c.push_in_room.ensures.items ∙ (exchanged g c).put_is

pub returns-clause-out : goal.returns-clause-out
returns-clause-out g c = (exchanged g c).out_is

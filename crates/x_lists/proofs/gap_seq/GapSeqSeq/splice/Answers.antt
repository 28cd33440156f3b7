use Rattle.std.proofs.Common.{◌≡◌, ◌+◌, ◌++◌, length, ap, ◌∙◌, arith}
use Rattle.x_lists.proofs.SeqLemmas.{spliced}
use Rattle.x_lists.proofs.gap_seq.GapSeqSeq.splice.Goals as goal

pub returns-clause-list : goal.returns-clause-list
returns-clause-list g c =
    let front : length c.seek-moved.new.front.items ≡ c.clamp-middle.result =
    omega (arith, c.seek-moved.new.front.ok.0) in
    let rear : c.len.result ≡ length c.seek-moved.new.rear.items =
    omega (arith, c.seek-moved.new.rear.ok.0) in
    spliced c.seek-moved.new.front.items c.seek-moved.new.rear.items c.append_in_room.new.entries.items
    c.truncate-2.new.self.items c.args.new.items c.args.self.now.list c.args.at (c.args.at + c.args.remove)
    c.clamp-middle.result
    (c.seek-moved.ensures.entries ∙ ap (λ v. v.list) c.self.view_is)
    front
    (omega arith)
    (omega arith)
    c.requires.within
    (c.append_in_room.ensures.items ∙ ap (λ t. t ++ c.args.new.items) c.truncate.ensures.items)
    (rw (← rear) c.truncate-2.ensures.items)

use Rattle.std.proofs.Common.{◌-◌, length, drop, true, false, arith}
use Rattle.std.proofs.lemmas.List.{length-take, length-drop}
use Rattle.x_wire.proofs.Framed.{took_more, grown_more}
use Rattle.x_wire.proofs.records.framer.Framer.take.Goals as goal

pub returns-then-whole-clause-took : goal.returns-then-whole-clause-took
returns-then-whole-clause-took c =
    took_more c.args.self.now c.loop-used.self c.advance.new.self c.args.piece.now c.loop-used.used
    c.in_ok-count.count c.in_ok-count.whole true c.if-whole.true
    c.loop-used.invariant.within c.loop-used.invariant.took c.in_ok-count.ensures.took

pub loop-used-preserved : goal.loop-used-preserved
loop-used-preserved c = record {
  took = took_more c.args.self.now c.loop-used.self c.advance.new.self c.args.piece.now c.loop-used.used
      c.in_ok-count.count c.in_ok-count.whole false c.if-whole.false
      c.loop-used.invariant.within c.loop-used.invariant.took c.in_ok-count.ensures.took;
  within = (let le = c.in_ok-count.ensures.within in let h = c.loop-used.invariant.within in
      omega (
        arith,
        le,
        length-take (length c.args.piece.now - c.loop-used.used)
            (drop c.loop-used.used c.args.piece.now),
        length-drop c.loop-used.used c.args.piece.now,
      ));
  grown = grown_more c.args.self.now.joined.items c.loop-used.self.joined.items
      c.advance.new.self.joined.items c.loop-used.invariant.grown c.in_ok-count.ensures.grown;
}

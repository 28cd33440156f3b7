use Rattle.std.proofs.Common.{◌-◌, ◌∙◌, length, sym, arith}
use Rattle.std.proofs.lemmas.Bool.Decides.{Decides-eqb}
use Rattle.std.proofs.lemmas.Slice.Eq.{slice_eq-Decides}
use Rattle.x_directives.proofs.BetweenLemmas.{more_at_rear, one_same}
use Rattle.x_directives.proofs.between.rear_length.Goals as goal

pub by_block-preserved : goal.by_block-preserved
by_block-preserved c =
    let kept = c.by_block.invariant in
    let old = c.args.old.now in
    let new = c.args.new.now in
    let blocks = (slice_eq-Decides Decides-eqb _ _ _ c.eq.ensures).0 c.if-eq.true in
    record {
      in_old = kept.in_old;
      in_new = kept.in_new;
      within = omega arith;
      same = more_at_rear old new c.by_block.same 4096 (omega arith) (omega arith) kept.same
          (sym c.block.ensures ∙ blocks ∙ c.block-in-by_block.ensures);
    }

pub by_byte-preserved : goal.by_byte-preserved
by_byte-preserved c =
    let kept = c.by_byte.invariant in
    let old = c.args.old.now in
    let new = c.args.new.now in
    let same = c.by_byte.same in
    record {
      in_old = kept.in_old;
      in_new = kept.in_new;
      within = omega arith;
      same = more_at_rear old new same 1 (omega arith) (omega arith) kept.same
          (one_same old new (length old - same - 1) (length new - same - 1) (omega arith) (omega arith)
          c.if-old-old_end.true);
    }

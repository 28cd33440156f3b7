use Rattle.std.proofs.Common.{◌∙◌, sym, arith}
use Rattle.std.proofs.lemmas.Bool.Decides.{Decides-eqb}
use Rattle.std.proofs.lemmas.Slice.Eq.{slice_eq-Decides}
use Rattle.x_directives.proofs.BetweenLemmas.{more_in_front}
use Rattle.x_directives.proofs.between.front_length.Goals as goal

pub by_block-preserved : goal.by_block-preserved
by_block-preserved c =
    let kept = c.by_block.invariant in
    let blocks = (slice_eq-Decides Decides-eqb _ _ _ c.eq.ensures).0 c.if-eq.true in
    record {
      in_old = kept.in_old;
      in_new = kept.in_new;
      within = omega arith;
      same = more_in_front c.args.old.now c.args.new.now c.by_block.same 4096 kept.same
          (sym c.block.ensures ∙ blocks ∙ c.block-in-by_block.ensures);
    }

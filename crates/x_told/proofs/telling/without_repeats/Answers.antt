use Rattle.std.proofs.Common.{◌≡◌, ◌++◌, ◌+◌, ap, drop, sym, subst, ◌∙◌}
use Rattle.std.specs.Prelude.{not}
use Rattle.std.specs.List.{filter}
use Rattle.x_told.proofs.ToldLemmas.{is_free_by, is_kept, is_left_out}
use Rattle.x_told.proofs.telling.without_repeats.Goals as goal
use Rattle.x_told.proofs.telling.without_repeats.Goals.{then-not-is_of_branch+in_ok-push}
use Rattle.x_told.proofs.telling.without_repeats.Goals.{else-not-is_of_branch}

pub loop-fault-preserved : goal.loop-fault-preserved
loop-fault-preserved c =
    let turns = c.args.branches.now in
    let found = c.args.found.now in
    let told = c.loop-fault.told.items in
    let i = c.loop-fault.fault-index in
    elim c.if-not-is_of_branch.branch [
      | then-not-is_of_branch+in_ok-push w ↦
          subst (λ v. v.items ++ filter (is_free_by turns) (drop (i + 1) found)
          ≡ filter (is_free_by turns) found)
          (sym w.told-is)
          (is_kept turns told w.push.new.self.items found i _ c.loop-fault-test.true
          (ap not (sym c.is_of_branch.ensures ∙ w.if-not-is_of_branch.true)) w.in_ok-push.ensures.items
          c.loop-fault.invariant)
      | else-not-is_of_branch w ↦
          subst (λ v. v.items ++ filter (is_free_by turns) (drop (i + 1) found)
          ≡ filter (is_free_by turns) found)
          (sym w.told-is)
          (is_left_out turns told found i _ c.loop-fault-test.true
          (ap not (sym c.is_of_branch.ensures ∙ w.if-not-is_of_branch.false))
          c.loop-fault.invariant)
    ]

use Rattle.x_recheck.specs.inside.Deciding.{text_edit}
use Rattle.x_recheck.proofs.CandidateLemmas.{ready_first}
use Rattle.x_recheck.proofs.rechecking.candidates.first_candidates.Goals as goal

pub returns : goal.returns
returns g c =
    ready_first (text_edit g.L.CheckedItems.text c.args.items.now) c.new-queue.result c.add_all_gone.new.queue
    c.add_all_fresh.new.queue c.requires.edit
    c.new-queue.ensures c.in_ok-add_all_gone.ensures.adds c.in_ok-add_all_fresh.ensures.adds
    c.in_ok-add_all_gone.ensures.covered c.in_ok-add_all_fresh.ensures.covered
    c.in_ok-add_all_fresh.ensures.kept

use Rattle.std.proofs.Common.{inl}
use Rattle.std.proofs.lemmas.Result.{on_ok_weaker}
use Rattle.x_trees.specs.View.{view_definition}
use Rattle.x_recheck.specs.inside.Deciding.{IsCovered, text_edit, is_waiting}
use Rattle.x_recheck.proofs.CandidateLemmas.{listed_first, short_at}
use Rattle.x_recheck.proofs.rechecking.candidates.add_gone.Goals as goal

pub returns-clause-covered : goal.returns-clause-covered
returns-clause-covered g c =
    let e = text_edit g.L.CheckedItems.text c.args.items.now in
    let view = view_definition c.in-Some.definition.now in
    on_ok_weaker c.add_candidates_of.result
    (λ each. listed_first (IsCovered e (is_waiting c.add_candidates_of.new.queue)) e.old c.args.item view
    c.deref.result.now c.read.new.self.declared.items
    c.in-Some.ensures (short_at e.old c.args.item view c.requires.edit.short) c.in_ok-read.ensures.declared
    c.deref.ensures.value (λ name f first here named. each name f (inl first) here named))
    c.add_candidates_of.ensures.covered

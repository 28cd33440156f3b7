use Rattle.std.proofs.Common.{◌≡◌, ◌+◌, ◌∷◌, drop, ap, sym, ◌∙◌}
use Rattle.std.proofs.lemmas.List.{drop_more}
use Rattle.x_rules.specs.Found.{repeated_members}
use Rattle.x_outline.specs.Parts.{view_members}
use Rattle.x_lists.proofs.ListLemmas.{drop_none, listed_more, listed_all}
use Rattle.x_rules.proofs.rules.repeats.add_repeated_members.Goals as goal

pub loop-group-preserved : goal.loop-group-preserved
loop-group-preserved c =
    let at = c.loop-group.group-index in
    let ms = c.args.members.now in
    let here = c.group-item.result in
    let is : drop at ms ≡ here ∷ drop (at + 1) ms = drop_more ms at _ c.loop-group-test.true
    ∙ ap (λ x. x ∷ drop (at + 1) ms) (sym c.group-item.is) in
    listed_more (λ m. repeated_members (view_members m)) c.loop-group.faults.items
    c.add_repeats_of.new.faults.items (drop at ms) here (drop (at + 1) ms) _ is c.in_ok-add_repeats_of.ensures
    c.loop-group.invariant

pub returns : goal.returns
returns c =
    listed_all (λ m. repeated_members (view_members m)) c.loop-group.faults.items _ _
    (drop_none c.args.members.now c.loop-group.group-index c.loop-group-test.false) c.loop-group.invariant

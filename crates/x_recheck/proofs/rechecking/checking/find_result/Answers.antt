use Rattle.std.proofs.Common.{◌+◌, map, sym, subst, ◌∙◌}
use Rattle.x_outline.specs.Outlines.{outlined}
use Rattle.x_rules.specs.Results.{IsOutcome}
use Rattle.x_rules.specs.RustViews.{view_view}
use Rattle.x_trees.specs.Seen.{names_of}
use Rattle.x_recheck.specs.Editing.{definitions_after}
use Rattle.x_recheck.specs.inside.Deciding.{text_edit}
use Rattle.x_recheck.specs.Staleness.{result_after}
use Rattle.x_recheck.proofs.FoundLemmas.{counted_next, found_result, outdated_fresh, outdated_kept}
use Rattle.x_recheck.proofs.FoundLemmas.{unchanged_by}
use Rattle.x_recheck.proofs.rechecking.checking.find_result.Goals as goal
use Rattle.x_recheck.proofs.rechecking.checking.find_result.Goals.{in-Some+else-sees_same, in_default}

pub returns-then-sees_same-clause-found : goal.returns-then-sees_same-clause-found
returns-then-sees_same-clause-found g c after are so_far o has =
    let e = text_edit g.L.CheckedItems.text c.args.items.now in
    unchanged_by e (result_after e c.args.rechecked.now) after c.args.item c.in-Some.was
    (outlined c.args.outline.now) so_far (sym c.old_number.ensures ∙ c.in-Some.is) has
    (c.sees_same.ensures.same c.if-sees_same.true o)

pub returns-in_err-checked-clause-counts : goal.returns-in_err-checked-clause-counts
returns-in_err-checked-clause-counts g c base n so =
    (n + 1, counted_next base c.args.meter.now c.check_outline.new.meter n so c.check_outline.ensures.counted)

pub returns-clause-counts : goal.returns-clause-counts
returns-clause-counts g c base n so =
    (n + 1, counted_next base c.args.meter.now c.check_outline.new.meter n so c.check_outline.ensures.counted)

pub returns-clause-found : goal.returns-clause-found
returns-clause-found g c after are so_far o has =
    let e = text_edit g.L.CheckedItems.text c.args.items.now in
    let results = result_after e c.args.rechecked.now in
    let d = outlined c.args.outline.now in
    let views = map view_view c.in_ok-views.views.items in
    let is = subst (λ vs. IsOutcome d (map view_view vs) c.in_ok-checked.checked) c.deref.ensures.value
    (c.in_ok-checked.ensures.checked o) in (
      record {
        definition = d;
        has = has;
        outdated = elim c.match-old_number.branch [
          | in-Some+else-sees_same w ↦ outdated_kept e results after c.args.item w.in-Some.was
              (names_of d) so_far (sym c.old_number.ensures ∙ w.in-Some.is)
              (w.sees_same.ensures.other w.if-sees_same.false o)
          | in_default w ↦ outdated_fresh e after c.args.item (names_of d)
              (sym c.old_number.ensures ∙ w.in_default.is)
        ];
      },
      found_result e.known (definitions_after e) results after c.args.item d views c.in_ok-checked.checked are
          so_far has (c.in_ok-views.ensures o) is,
    )

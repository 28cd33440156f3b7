use Rattle.std.proofs.Common.{◌≡◌, ◌<◌, ◌^◌, ap, map, nat_eq, ◌∙◌, arith}
use Rattle.x_trees.specs.View.{tree_at}
use Rattle.x_session.proofs.DeclaredLemmas.{ok_then}
use Rattle.x_taken.specs.TakenNames.{taken_in}
use Rattle.x_warnings.specs.Warnings.{view_warning}
use Rattle.x_warnings.proofs.WarningLemmas.{clashes_are, empty_is, none_are, placed_are}
use Rattle.x_warnings.proofs.finding.warnings.Goals as goal

pub returns-then-is_empty : goal.returns-then-is_empty
returns-then-is_empty c =
    let few : c.token_count.result < 2 ^ 64 = omega arith in
    let d = c.in_ok-definitions.ensures in
    let found = c.in_ok-found.found.items in
    let text = c.args.session.now.text in
    let are = clashes_are text (map tree_at c.deref.result.now) (taken_in c.in_ok-taken.taken) found
    c.token_count.result few c.token_count.ensures
    (d.0, d.1, d.2, ap (map tree_at) c.deref.ensures.value ∙ d.3) c.in_ok-taken.ensures
    c.in_ok-found.ensures in
    none_are text found (map view_warning c.new.result.items)
    (empty_is found c.is_empty.result (c.is_empty.ensures ∙ ap (λ n. nat_eq n 0) c.in_ok-found.found.ok.0)
    c.if-is_empty.true)
    (ap (map view_warning) c.new.ensures.items) are

pub returns : goal.returns
returns c =
    let few : c.token_count.result < 2 ^ 64 = omega arith in
    let d = c.in_ok-definitions.ensures in
    let found = c.in_ok-found.found.items in
    let text = c.args.session.now.text in
    let are = clashes_are text (map tree_at c.deref.result.now) (taken_in c.in_ok-taken.taken) found
    c.token_count.result few c.token_count.ensures
    (d.0, d.1, d.2, ap (map tree_at) c.deref.ensures.value ∙ d.3) c.in_ok-taken.ensures
    c.in_ok-found.ensures in
    ok_then c.placed.result
    (λ list is. placed_are text found c.in_ok-table.table (map view_warning list.items) are
    c.in_ok-table.ensures is) c.placed.ensures

use Rattle.std.proofs.Common.{◌+◌, [], ◌++◌, map, drop, get_or, ap, ◌∙◌}
use Rattle.x_numbers.specs.Numbers.{number_spelled}
use Rattle.x_rules.specs.Found.{numbered}
use Rattle.x_outline.specs.Parts.{view_number_at}
use Rattle.x_outline.specs.declared.parts.NumberAt.{NumberAt}
use Rattle.x_lists.proofs.ListLemmas.{drop_one, drop_none, listed_more, listed_all}
use Rattle.x_rules.proofs.NumberLemmas.{spelled}
use Rattle.x_rules.proofs.rules.repeats.numbers_of.Goals as goal

pub loop-spelled-preserved : goal.loop-spelled-preserved
loop-spelled-preserved c =
    let at = c.loop-spelled.spelled-index in
    let ns = c.args.numbers.now in
    let d : NumberAt = record { word = 0; text = record { ref_ptr = (0, 0); now = [] } } in
    let here = get_or ns at d in
    listed_more (λ n. numbered n.word (number_spelled n.text)) c.loop-spelled.list.items
    c.add_number.new.list.items
    (map view_number_at (drop at ns)) (view_number_at here) (map view_number_at (drop (at + 1) ns)) _
    (ap (map view_number_at) (drop_one ns at d c.loop-spelled-test.true))
    (c.in_ok-add_number.ensures ∙ ap (λ n. c.loop-spelled.list.items ++ numbered here.word n)
    (spelled here.text.now c.number_value.result c.number_value.ensures))
    c.loop-spelled.invariant

pub returns : goal.returns
returns c =
    listed_all (λ n. numbered n.word (number_spelled n.text)) c.loop-spelled.list.items _ _
    (ap (map view_number_at) (drop_none c.args.numbers.now c.loop-spelled.spelled-index
    c.loop-spelled-test.false)) c.loop-spelled.invariant

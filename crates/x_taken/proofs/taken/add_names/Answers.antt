use Rattle.std.proofs.Common.{Some, cond, lit<, ap, ◌∙◌}
use Rattle.std.proofs.lemmas.Iterator.Consumers.{YieldsList-end}
use Rattle.std.proofs.lemmas.Iterator.Splits.{YieldsList-from_str_split}
use Rattle.std.specs.Str.Iter.{split_has_more, split_pattern, split_text}
use Rattle.x_taken.specs.TakenNames.{entry_in, is_among, words}
use Rattle.x_taken.proofs.TakenLemmas.{name_more}
use Rattle.x_taken.proofs.taken.add_names.Goals as goal

pub loop-name-preserved : goal.loop-name-preserved
loop-name-preserved c name =
    name_more c.args.kind name c.loop-name.yielded c.in-Some.name c.as_bytes.result.now
    (entry_in c.args.table.now.entries name) (entry_in c.loop-name.table.entries name)
    (entry_in c.add_name.new.table.entries name) c.as_bytes.ensures.value (c.loop-name.invariant name)
    (c.in_ok-add_name.ensures name)

pub returns : goal.returns
unfolding words
returns c name =
    let same = c.into_iter-name-iterator.ensures.into_iter_gives in
    let made = c.split-name-items.ensures in
    let road = YieldsList-from_str_split {s = c.into_iter-name-iterator.result} 32 c.args.names.now (lit< tt)
    (ap split_text same ∙ made.text) (ap split_has_more same ∙ made.has_more)
    (ap split_pattern same ∙ made.pattern) in
    let end = YieldsList-end road c.loop-name.yielded _ c.loop-name.yielded_by _ _ c.in-None.is
    c.next.ensures.steps in
    c.loop-name.invariant name
    ∙ ap (λ ns. cond (is_among name ns) (Some c.args.kind) (entry_in c.args.table.now.entries name)) end.0

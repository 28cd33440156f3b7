use Rattle.std.proofs.Common.{◌+◌, [], ◌++◌, None, map, drop, get_or, ap, ◌∙◌}
use Rattle.x_trees.specs.declared.names.mention.Mention.{Mention}
use Rattle.x_trees.specs.declared.names.mention.Use.TheVariants as uses
use Rattle.x_trees.specs.Collected.{view_mention}
use Rattle.x_rules.specs.Mentioned.{mention_fault}
use Rattle.x_rules.specs.Tables.{seen_by}
use Rattle.x_rules.specs.Found.{fault_at}
use Rattle.x_lists.proofs.ListLemmas.{drop_one, drop_none, listed_more, listed_all}
use Rattle.x_rules.proofs.rules.mentioned.add_mentioned.Goals as goal

pub loop-mention-preserved : goal.loop-mention-preserved
loop-mention-preserved c all known h =
    let at = c.loop-mention.mention-index in
    let ms = c.args.mentions.now in
    let d : Mention =
    record { name = record { ref_ptr = (0, 0); now = [] }; word = 0; usage = uses.Value; tag = None } in
    listed_more (λ m. fault_at m.word (mention_fault (seen_by c.args.sights.now) all m))
    c.loop-mention.faults.items c.add_fault.new.faults.items
    (map view_mention (drop at ms)) (view_mention (get_or ms at d)) (map view_mention (drop (at + 1) ms)) _
    (ap (map view_mention) (drop_one ms at d c.loop-mention-test.true))
    (c.in_ok-add_fault.ensures
    ∙ ap (λ code. c.loop-mention.faults.items ++ fault_at (get_or ms at d).word code)
    (c.mention_fault-code.ensures all known h))
    (c.loop-mention.invariant all known h)

pub returns : goal.returns
returns c all known h =
    listed_all (λ m. fault_at m.word (mention_fault (seen_by c.args.sights.now) all m))
    c.loop-mention.faults.items _ _
    (ap (map view_mention) (drop_none c.args.mentions.now c.loop-mention.mention-index
    c.loop-mention-test.false)) (c.loop-mention.invariant all known h)

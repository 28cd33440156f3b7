use Rattle.std.proofs.Common.{[], None, map, take, get_or, subst, sym}
use Rattle.std.specs.List.{list_any}
use Rattle.std.specs.Str.{bytes_eq}
use Rattle.x_trees.specs.declared.names.mention.Mention.{Mention}
use Rattle.x_trees.specs.declared.names.mention.Use.TheVariants as uses
use Rattle.x_uses.specs.Slots.{Notes}
use Rattle.x_uses.proofs.NotedLaws.{mentioned_more, map_more}
use Rattle.x_uses.proofs.uses.making.add_mentioned.Goals as goal

pub loop-mention-preserved : goal.loop-mention-preserved
loop-mention-preserved c =
    let at = c.loop-mention.mention-index in
    let ms = c.args.mentioned.now in
    let d : Mention =
    record { name = record { ref_ptr = (0, 0); now = [] }; word = 0; usage = uses.Value; tag = None } in
    subst (λ ns. Notes c.args.table.now.entries c.note_user.new.table.entries (λ _. None)
    (λ name. list_any (bytes_eq name) ns) c.args.item)
    (sym (map_more (λ m. m.name.now) ms at d c.loop-mention-test.true))
    (mentioned_more c.args.table.now.entries c.loop-mention.table.entries c.note_user.new.table.entries
    c.args.item (map (λ m. m.name.now) (take at ms)) (get_or ms at d).name.now c.loop-mention.invariant
    c.in_ok-note_user.ensures)

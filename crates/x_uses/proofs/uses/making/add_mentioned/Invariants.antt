use Rattle.std.proofs.Common.{None, map, take}
use Rattle.std.specs.List.{list_any}
use Rattle.std.specs.Str.{bytes_eq}
use Rattle.x_uses.specs.Slots.{Notes}
use Rattle.x_uses.proofs.uses.making.add_mentioned.Given as goal

-- the names so far are taken in
abbrev pub invariant-loop-mention : goal.invariant-loop-mention
invariant-loop-mention l = Notes l.fn.table.entries l.table.entries (λ _. None)
    (λ name. list_any (bytes_eq name) (map (λ m. m.name.now) (take l.mention-index l.mentioned))) l.item

use Rattle.std.proofs.Common.{[], ◌∷◌, ◌++◌, ap, ◌∙◌}
use Rattle.x_rules.proofs.PackedLemmas.{packed_more}
use Rattle.x_rules.proofs.rules.packed_numbers.PackedNumbers.push.Goals as goal

pub returns : goal.returns
returns c =
    packed_more c.self.inside.large.items c.pack.new.large.items c.self.inside.list.items
    c.push.new.self.items c.in_ok-packed.packed c.args.number c.self.invariant c.in_ok-packed.ensures.grows
    c.in_ok-packed.ensures.number
    c.in_ok-push.ensures.items
    ∙ ap (λ ns. ns ++ c.args.number ∷ []) c.self.view_is

use Rattle.std.proofs.Common.{map, ap, refl}
use Rattle.x_outline.specs.Parts.{view_enumerator_at}
use Rattle.x_rules.proofs.rules.constants.Constants.of.Goals as goal

pub returns : goal.returns
returns c = c.in_ok-number.ensures (map view_enumerator_at c.args.list.now)
    record { list = ap (map view_enumerator_at) c.in_ok-of.ensures; numbers = c.new.ensures; front = refl }

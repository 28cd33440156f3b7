use Rattle.std.proofs.Common.{ap, sym, ◌∙◌}
use Rattle.std.specs.Prelude.{nat_eq}
use Rattle.std.specs.Option.{option_copied}
use Rattle.x_uses.proofs.NoteLemmas.{ends_with}
use Rattle.x_uses.proofs.uses.places.ends_at.Goals as goal

pub returns-in-Some : goal.returns-in-Some
returns-in-Some g c =
    ap (λ k. nat_eq k c.args.item) c.item.ensures
    ∙ sym (ends_with g.T.AtItem.item_of c.args.item c.args.places.now c.in-Some.last.now
    (sym c.last.ensures.value ∙ ap option_copied c.in-Some.is))

use Rattle.std.proofs.Common.{Some, refl, sym, ap, ◌∙◌}
use Rattle.std.specs.Option.{option_or}
use Rattle.x_clash.proofs.FirstLemmas.{with_member}
use Rattle.x_clash.proofs.firsts.Firsts.with_member.Goals as goal

pub returns : goal.returns
returns c things t place sort are =
    with_member t.given.name things t c.args.self c.or.result refl sort
    (c.or.ensures ∙ ap (λ p. option_or c.args.self.member (Some p)) (sym place)) are

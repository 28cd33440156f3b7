use Rattle.std.proofs.Common.{Some, refl, sym, ap, ◌∙◌}
use Rattle.std.specs.Option.{option_or}
use Rattle.x_clash.proofs.FirstLemmas.{with_name}
use Rattle.x_clash.proofs.firsts.Firsts.with_name.Goals as goal

pub returns : goal.returns
returns c things t place sort are =
    with_name t.given.name things t c.args.self c.or.result refl sort
    (c.or.ensures ∙ ap (λ p. option_or c.args.self.at_file_scope (Some p)) (sym place)) are

use Rattle.std.proofs.Common.{sym, ◌∙◌}
use Rattle.std.specs.Str.{bytes_eq}
use Rattle.x_rules.proofs.FirstLemmas.{first_mapped}
use Rattle.x_rules.proofs.rules.sights.Sights.place.Goals as goal

pub returns : goal.returns
returns c = c.get.ensures ∙ sym (first_mapped (bytes_eq c.args.name.now) (λ x. x.now) 0 c.args.self.now.names)

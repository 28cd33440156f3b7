use Rattle.std.proofs.Common.{◌<◌, ap, sym, subst, ◌∙◌}
use Rattle.x_cutting.proofs.CountLemmas.{before_as}
use Rattle.x_cutting.proofs.cutting.items.Items.advance.Goals as goal

pub advance-requires-clause-place : goal.advance-requires-clause-place
advance-requires-clause-place g c = c.requires.tokens
    ∙ sym (before_as c.self.inside.entries.list c.args.self.now.list c.args.from
    (ap (λ v. v.list) c.self.view_is))

pub returns-clause-tokens : goal.returns-clause-tokens
returns-clause-tokens g c = c.advance.ensures.place
    ∙ before_as c.self.inside.entries.list c.args.self.now.list c.advance.result.0
    (ap (λ v. v.list) c.self.view_is)

pub returns-clause-below : goal.returns-clause-below
returns-clause-below g c j from lt =
    subst (λ n. n < c.args.target) (before_as c.self.inside.entries.list c.args.self.now.list j
    (ap (λ v. v.list) c.self.view_is)) (c.advance.ensures.below j from lt)

use Rattle.std.specs.Prelude.{slice_get, option_and_then}
use Rattle.std.proofs.Common.{ap, map, ◌∙◌}
use Rattle.x_rules.proofs.PlaceLemmas.{first_listed, number_there, number_named_is}
use Rattle.x_rules.proofs.rules.constants.Constants.number_named.Goals as goal

pub returns-in-Some : goal.returns-in-Some
returns-in-Some c all known h =
    c.number_in.ensures
    ∙ ap (λ numbers. option_and_then (λ n. n) (slice_get numbers c.in-Some.place)) h.numbers
    ∙ ap (number_there (map (λ k. k.number) known)) (c.in-Some.ensures
    ∙ first_listed c.args.self.now all known c.args.name.now h)
    ∙ number_named_is all known c.args.name.now h.front

pub returns-in-None : goal.returns-in-None
returns-in-None c all known h =
    ap (number_there (map (λ k. k.number) known))
    (c.in-None.ensures ∙ first_listed c.args.self.now all known c.args.name.now h)
    ∙ number_named_is all known c.args.name.now h.front

use Rattle.std.specs.Prelude.{slice_get, option_and_then}
use Rattle.std.proofs.Common.{None, cond, ap, sym, map, ◌∙◌}
use Rattle.x_rules.proofs.PlaceLemmas.{first_listed, number_before_there, number_before_is}
use Rattle.x_rules.proofs.rules.constants.Constants.own_number.Goals as goal

pub returns-then-is_before : goal.returns-then-is_before
returns-then-is_before c all known h =
    let there = ap (λ numbers. option_and_then (λ n. n) (slice_get numbers c.in-Some.place)) h.numbers in
    c.number_in.ensures ∙ there
    ∙ sym (ap (λ b. cond b (option_and_then (λ n. n) (slice_get (map (λ k. k.number) known) c.in-Some.place))
    None) (sym (c.is_before.ensures all known h) ∙ c.if-is_before.true))
    ∙ ap (number_before_there all c.args.limit (map (λ k. k.number) known)) (c.in-Some.ensures
    ∙ first_listed c.args.self.now all known c.args.name.now h)
    ∙ number_before_is all known c.args.limit c.args.name.now h.front

pub returns-else-is_before : goal.returns-else-is_before
returns-else-is_before c all known h =
    sym (ap (λ b. cond b (option_and_then (λ n. n) (slice_get (map (λ k. k.number) known) c.in-Some.place))
    None) (sym (c.is_before.ensures all known h) ∙ c.if-is_before.false))
    ∙ ap (number_before_there all c.args.limit (map (λ k. k.number) known)) (c.in-Some.ensures
    ∙ first_listed c.args.self.now all known c.args.name.now h)
    ∙ number_before_is all known c.args.limit c.args.name.now h.front

pub returns-in-None : goal.returns-in-None
returns-in-None c all known h =
    ap (number_before_there all c.args.limit (map (λ k. k.number) known))
    (c.in-None.ensures ∙ first_listed c.args.self.now all known c.args.name.now h)
    ∙ number_before_is all known c.args.limit c.args.name.now h.front

use Rattle.std.proofs.Common.{◌≡◌, ◌∙◌, ◌-◌, suc, sym, ap, length, arith}
use Rattle.std.proofs.lemmas.List.{length-drop}
use Rattle.x_positions.specs.Positions.{behind_lines}
use Rattle.x_positions.proofs.LineLemmas.{behind_next, behind_none, end_within}
use Rattle.x_positions.proofs.positions.behind_lines.Goals as goal

pub returns-in_default-clause-rest : goal.returns-in_default-clause-rest
returns-in_default-clause-rest c =
    let left : suc (c.lines.left - 1) ≡ c.lines.left = omega arith in
    sym (behind_none (c.lines.left - 1) c.lines.rest.now (sym c.in_default.ensures))
    ∙ ap (λ n. behind_lines n c.lines.rest.now) left ∙ c.lines.invariant.rest

pub behind-rest-requires : goal.behind-rest-requires
behind-rest-requires c = (end_within c.lines.rest.now c.in-Some.end (sym c.in-Some.ensures)).1

pub lines-preserved : goal.lines-preserved
lines-preserved c =
    let left : suc (c.lines.left - 1) ≡ c.lines.left = omega arith in
    let len = ap length c.behind-rest.ensures ∙ length-drop c.in-Some.end c.lines.rest.now in
    let within = c.lines.invariant.within in
    record {
      rest = ap (behind_lines (c.lines.left - 1)) c.behind-rest.ensures
          ∙ sym (behind_next (c.lines.left - 1) c.lines.rest.now c.in-Some.end (sym c.in-Some.ensures))
          ∙ ap (λ n. behind_lines n c.lines.rest.now) left ∙ c.lines.invariant.rest;
      within = omega (arith, len, within);
    }

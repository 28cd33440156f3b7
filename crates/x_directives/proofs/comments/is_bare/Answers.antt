use Rattle.std.proofs.Common.{◌∙◌, ◌&&◌, sym, ap, not, arith, drop}
use Rattle.std.proofs.lemmas.List.{take_rest}
use Rattle.x_directives.specs.Comments.{is_bare}
use Rattle.x_directives.proofs.CommentLemmas.{bare_turn, bare_other, bare_last, bare_none}
use Rattle.x_directives.proofs.comments.is_bare.Goals as goal

pub pairs-preserved-then-turns : goal.pairs-preserved-then-turns
pairs-preserved-then-turns c =
    let now = c.pairs.now in
    let rest = c.pairs.rest.now in
    ap (is_bare (not now)) (take_rest rest 2)
    ∙ bare_turn now rest c.in-len2-up.len_at_least (sym c.turns.ensures ∙ c.if-turns.true)
    ∙ c.pairs.invariant

pub pairs-preserved : goal.pairs-preserved
pairs-preserved c =
    let now = c.pairs.now in
    let rest = c.pairs.rest.now in
    let quiet = sym c.is_quiet.ensures ∙ c.if-is_quiet.true in
    ap (is_bare now) (take_rest rest 1)
    ∙ sym (ap (λ t. t && is_bare now (drop 1 rest)) quiet)
    ∙ bare_other now rest c.in-len2-up.len_at_least (sym c.turns.ensures ∙ c.if-turns.false)
    ∙ c.pairs.invariant

pub returns-else-is_quiet : goal.returns-else-is_quiet
returns-else-is_quiet c =
    let now = c.pairs.now in
    let rest = c.pairs.rest.now in
    let quiet = sym c.is_quiet.ensures ∙ c.if-is_quiet.false in
    sym (ap (λ t. t && is_bare now (drop 1 rest)) quiet)
    ∙ bare_other now rest c.in-len2-up.len_at_least (sym c.turns.ensures ∙ c.if-turns.false)
    ∙ c.pairs.invariant

pub returns-in-empty : goal.returns-in-empty
returns-in-empty c =
    sym (bare_none c.pairs.now c.pairs.rest.now (omega (arith, c.in-empty.len_below))) ∙ c.pairs.invariant

pub returns-in-len1-up : goal.returns-in-len1-up
returns-in-len1-up c =
    c.is_quiet-in-len1-up.ensures
    ∙ bare_last c.pairs.now c.pairs.rest.now
    (omega (arith, c.in-len1-up.len_at_least, c.in_default.len_below)) ∙ c.pairs.invariant

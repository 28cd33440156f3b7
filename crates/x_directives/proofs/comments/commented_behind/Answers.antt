use Rattle.std.proofs.Common.{◌∙◌, sym, ap, not}
use Rattle.std.proofs.lemmas.List.{take_rest}
use Rattle.x_directives.specs.Comments.{commented_behind}
use Rattle.x_directives.proofs.CommentLemmas.{behind_turn, behind_other, behind_all, behind_no_slash}
use Rattle.x_directives.proofs.CommentLemmas.{not_found}
use Rattle.x_directives.proofs.LineLemmas.{has_none}
use Rattle.x_directives.proofs.comments.commented_behind.Goals as goal

pub returns-then-is_none : goal.returns-then-is_none
returns-then-is_none c =
    let bytes = c.args.bytes.now in
    let found = c.memchr.result in
    sym (behind_no_slash c.args.commented bytes (has_none 47 bytes found c.memchr.ensures
    (not_found found c.is_none.result c.is_none.ensures c.if-is_none.true)))

pub pairs-preserved-then-turns : goal.pairs-preserved-then-turns
pairs-preserved-then-turns c =
    let now = c.pairs.now in
    let rest = c.pairs.rest.now in
    ap (commented_behind (not now)) (take_rest rest 2)
    ∙ behind_turn now rest c.in-len2-up.len_at_least (sym c.turns.ensures ∙ c.if-turns.true)
    ∙ c.pairs.invariant

pub pairs-preserved : goal.pairs-preserved
pairs-preserved c =
    let now = c.pairs.now in
    let rest = c.pairs.rest.now in
    ap (commented_behind now) (take_rest rest 1)
    ∙ behind_other now rest c.in-len2-up.len_at_least (sym c.turns.ensures ∙ c.if-turns.false)
    ∙ c.pairs.invariant

pub returns : goal.returns
returns c = sym (behind_all c.pairs.now c.pairs.rest.now c.in_default.len_below) ∙ c.pairs.invariant

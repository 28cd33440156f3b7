use Rattle.std.proofs.Common.{◌++◌, ◌∙◌, sym, ap, append-nil}
use Rattle.std.specs.Prelude.{option_to_list}
use Rattle.x_directives.specs.Conditionals.{conditionals}
use Rattle.x_directives.specs.Seen.{seen}
use Rattle.x_directives.proofs.ConditionLemmas.{one_more, no_more}
use Rattle.x_directives.proofs.PlainLemmas.{no_conditionals}
use Rattle.x_directives.proofs.conditions.conditionals.Goals as goal

pub lines-preserved-in-Continue-1 : goal.lines-preserved-in-Continue-1
lines-preserved-in-Continue-1 c =
    let now = c.lines.all.items in
    one_more now c.push.new.self.items (conditionals c.args.text.now) (seen c.in-Some.line) c.lines.lines
    c.next_line.new.self c.in-Some.ensures c.lines.invariant
    (c.in_ok-push.ensures.items ∙ ap (λ o. now ++ option_to_list o)
    (sym (sym c.conditional_in.ensures ∙ c.in-Some-conditional_in.is)))

pub lines-preserved : goal.lines-preserved
lines-preserved c =
    let now = c.lines.all.items in
    one_more now now (conditionals c.args.text.now) (seen c.in-Some.line) c.lines.lines
    c.next_line.new.self c.in-Some.ensures c.lines.invariant
    (sym (append-nil now) ∙ ap (λ o. now ++ option_to_list o)
    (sym (sym c.conditional_in.ensures ∙ c.in_default-conditional_in.is)))

pub returns : goal.returns
returns c =
    no_more c.lines.all.items (conditionals c.args.text.now) c.lines.lines c.in_default.ensures
    c.lines.invariant

pub returns-then-has_no_hash : goal.returns-then-has_no_hash
returns-then-has_no_hash c =
    c.new-all.ensures.items ∙ no_conditionals c.args.text.now (c.has_no_hash.ensures c.if-has_no_hash.true)

use Rattle.std.proofs.Common.{◌≡◌, ◌+◌, ◌∙◌, sym, ap, length, arith, length-append}
use Rattle.x_directives.specs.Directives.{marked_lines}
use Rattle.x_directives.specs.Seen.{seen}
use Rattle.x_directives.specs.Turns.{role_of}
use Rattle.x_directives.proofs.BranchLemmas.{turns_from, some_more, none_more, no_more, all_said, all_ascend}
use Rattle.x_directives.proofs.BranchLemmas.{one_deeper}
use Rattle.x_directives.proofs.PlainLemmas.{no_turns}
use Rattle.x_directives.proofs.branches.LaterBranches.of.Goals as goal

pub lines-preserved-in-Some-role_of : goal.lines-preserved-in-Some-role_of
lines-preserved-in-Some-role_of c =
    let was = c.lines in
    let role = c.in-Some-role_of.role in
    let deeper = one_deeper role was.deep in
    let more : length c.push.new.self.items ≡ length was.turns.items + 1 =
    ap length c.in_ok-push.ensures.items ∙ length-append was.turns.items _ in
    record {
      bound = omega (arith, deeper, more, c.deep_behind-deep.ensures, was.invariant.bound);
      so_far = some_more was.turns.items c.push.new.self.items (turns_from 0 (marked_lines c.args.text.now))
          (seen c.in-Some.line) was.lines c.next_line.new.self was.deep c.deep_behind-deep.result role
          c.is_later_behind.result c.in-Some.ensures
          (ap role_of (sym c.directive_word.ensures) ∙ sym c.role_of.ensures ∙ c.in-Some-role_of.is)
          c.deep_behind-deep.ensures c.is_later_behind.ensures was.invariant.so_far
          c.in_ok-push.ensures.items;
    }

pub lines-preserved : goal.lines-preserved
lines-preserved c =
    let was = c.lines in
    record {
      bound = was.invariant.bound;
      so_far = none_more was.turns.items (turns_from 0 (marked_lines c.args.text.now)) (seen c.in-Some.line)
          was.lines c.next_line.new.self was.deep c.in-Some.ensures
          (ap role_of (sym c.directive_word.ensures) ∙ sym c.role_of.ensures ∙ c.in_default-role_of.is)
          was.invariant.so_far;
    }

pub invariant_of-result-2 : goal.invariant_of-result-2
invariant_of-result-2 c =
    let was = c.lines in
    let all = turns_from 0 (marked_lines c.args.text.now) in
    all_ascend was.turns.items c.args.text.now
    (no_more was.turns.items all was.lines was.deep c.in_default.ensures was.invariant.so_far)

pub returns : goal.returns
returns c =
    let was = c.lines in
    let all = turns_from 0 (marked_lines c.args.text.now) in
    all_said was.turns.items c.args.text.now
    (no_more was.turns.items all was.lines was.deep c.in_default.ensures was.invariant.so_far)

pub returns-then-has_no_hash : goal.returns-then-has_no_hash
returns-then-has_no_hash c =
    all_said c.new-turns.result.items c.args.text.now
    (c.new-turns.ensures.items ∙ no_turns c.args.text.now (c.has_no_hash.ensures c.if-has_no_hash.true))

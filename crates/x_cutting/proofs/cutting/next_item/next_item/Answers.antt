use Rattle.std.proofs.Common.{map, sym, subst, arith}
use Rattle.std.proofs.lemmas.List.{length-map}
use Rattle.x_lex.specs.Places.{lexeme}
use Rattle.x_cutting.proofs.ItemListLemmas.{depth-le-length}
use Rattle.x_cutting.proofs.NextLemmas.{IsWithin, within_none, within_on, whole_here, last_here, pushed}
use Rattle.x_cutting.proofs.cutting.next_item.next_item.Goals as goal

pub loop-token-init : goal.loop-token-init
loop-token-init c =
    subst (λ d. IsWithin c.args.walk.now (map lexeme c.clear.new.self.items) c.args.walk.now d)
    (sym c.new-cutter.ensures)
    (subst (λ ts. IsWithin c.args.walk.now (map lexeme ts) c.args.walk.now 0) (sym c.clear.ensures.items)
    (within_none c.args.walk.now))

pub ends-requires : goal.ends-requires
ends-requires c =
    let deep = c.loop-token.invariant.reached_is in
    let less = depth-le-length (map lexeme c.loop-token.tokens.items) in
    let same = length-map c.loop-token.tokens.items lexeme in
    let small = c.loop-token.tokens.small in
    omega (arith, deep, less, same, small)

pub returns-then-ends : goal.returns-then-ends
returns-then-ends c =
    whole_here c.args.walk.now (map lexeme c.loop-token.tokens.items) (map lexeme c.push.new.self.items)
    c.loop-token.walk c.next.new.self (lexeme c.in-Some.token) c.loop-token.cutter c.ends.result
    c.in-Some.ensures.steps (pushed c.loop-token.tokens.items c.push.new.self.items c.in-Some.token
    c.in_ok-push.ensures.items) c.ends.ensures.ends c.if-ends.true c.loop-token.invariant

pub loop-token-preserved : goal.loop-token-preserved
loop-token-preserved c =
    within_on c.args.walk.now (map lexeme c.loop-token.tokens.items) (map lexeme c.push.new.self.items)
    c.loop-token.walk c.next.new.self (lexeme c.in-Some.token) c.loop-token.cutter c.ends.new.self
    c.ends.result
    c.in-Some.ensures.steps
    (pushed c.loop-token.tokens.items c.push.new.self.items c.in-Some.token c.in_ok-push.ensures.items)
    c.ends.ensures.ends c.ends.ensures.moved c.if-ends.false c.loop-token.invariant

pub returns : goal.returns
returns c = last_here c.args.walk.now (map lexeme c.loop-token.tokens.items) c.loop-token.walk c.next.new.self
    c.loop-token.cutter c.in_default.ensures.steps.0 c.in_default.ensures.steps.1 c.loop-token.invariant

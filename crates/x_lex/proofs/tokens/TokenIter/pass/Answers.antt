use Rattle.std.proofs.Common.{◌+◌, ap, sym, ◌∙◌, drop, arith}
use Rattle.x_lex.specs.Tiling.{span}
use Rattle.x_lex.specs.Places.{lexemes_from}
use Rattle.x_lex.proofs.SpanLemmas.{lexemes_drop, span-drop}
use Rattle.x_lex.proofs.tokens.TokenIter.pass.Goals as goal

pub pass-requires : goal.pass-requires
pass-requires c = let within = c.self.invariant in let small = c.self.told.0 in omega (arith, within, small)

pub overflow_add-self : goal.overflow_add-self
overflow_add-self c =
    let within = c.self.invariant in
    let small = c.self.told.0 in
    let passed = c.pass.ensures.length in
    let whole = span-drop c.self.inside.entries c.args.count in
    omega (arith, within, small, passed, whole)

pub invariant_of-self : goal.invariant_of-self
invariant_of-self c =
    let within = c.self.invariant in
    let passed = c.pass.ensures.length in
    let whole = span-drop c.self.inside.entries c.args.count in
    let left = ap span c.pass.ensures.left in
    omega (arith, within, passed, whole, left)

pub returns : goal.returns
returns c =
    (λ i. lexemes_from c.self.inside.text.now (c.self.inside.at + c.pass.ensures.length i)
    (c.pass.ensures.left i))
    ∙ sym (lexemes_drop c.self.inside.text.now c.self.inside.at c.self.inside.entries c.args.count)
    ∙ ap (drop c.args.count) c.self.view_is

use Rattle.std.proofs.Common.{◌∙◌, ap, sym, codes, arith}
use Rattle.std.specs.Str.{bytes_eq}
use Rattle.x_args.proofs.Checks.{at_end, at_word, ends, finds, goes_on, no_words}
use Rattle.x_args.proofs.checking_args.asks_check.Goals as goal

pub returns-in_default : goal.returns-in_default
returns-in_default g c = sym (no_words g.S.AsStr.text c.args.words.now c.in_default.ensures.cases)

pub returns-then-eq : goal.returns-then-eq
returns-then-eq g c =
    let others = c.in-Some.others.now in
    let same = ap (λ w. bytes_eq w (codes "--")) (sym c.as_str-word.ensures) ∙ sym c.eq.ensures
    ∙ c.if-eq.true in
    sym (at_word g.S.AsStr.text c.args.words.now others c.in-Some.field-0-0.now c.other-item.result
    c.loop-other.other-index c.in-Some.ensures.cases.0
    c.loop-other.invariant c.loop-other-test.true c.other-item.is ∙ ends _ _ same)

pub returns-then-eq-2 : goal.returns-then-eq-2
returns-then-eq-2 g c =
    let others = c.in-Some.others.now in
    let goes = ap (λ w. bytes_eq w (codes "--")) (sym c.as_str-word.ensures) ∙ sym c.eq.ensures
    ∙ c.if-eq.false in
    let same = ap (λ w. bytes_eq w (codes "--check")) (sym c.as_str-word.ensures)
    ∙ sym c.eq-in-loop-other.ensures ∙ c.if-eq-2.true in
    sym (at_word g.S.AsStr.text c.args.words.now others c.in-Some.field-0-0.now c.other-item.result
    c.loop-other.other-index c.in-Some.ensures.cases.0
    c.loop-other.invariant c.loop-other-test.true c.other-item.is ∙ finds _ _ goes same)

pub loop-other-preserved : goal.loop-other-preserved
loop-other-preserved g c =
    let goes = ap (λ w. bytes_eq w (codes "--")) (sym c.as_str-word.ensures) ∙ sym c.eq.ensures
    ∙ c.if-eq.false in
    let other = ap (λ w. bytes_eq w (codes "--check")) (sym c.as_str-word.ensures)
    ∙ sym c.eq-in-loop-other.ensures ∙ c.if-eq-2.false in
    goes_on g.S.AsStr.text c.in-Some.others.now c.other-item.result c.loop-other.other-index
    c.loop-other.invariant c.loop-other-test.true c.other-item.is goes other

pub returns : goal.returns
returns g c =
    let past = c.loop-other-test.false in
    sym (at_end g.S.AsStr.text c.args.words.now c.in-Some.others.now c.in-Some.field-0-0.now
    c.loop-other.other-index c.in-Some.ensures.cases.0
    c.loop-other.invariant (omega (arith, past)))

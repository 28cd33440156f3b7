use Rattle.std.proofs.Common.{◌≡◌, ◌+◌, ◌≤◌, ◌∷◌, drop, ap, sym, ◌∙◌, arith}
use Rattle.x_lex.specs.Tiling.{end_of}
use Rattle.x_lex.specs.TokenList.{patched}
use Rattle.x_lex.proofs.RelexEnds.{tokens_fit}
use Rattle.x_cutting.specs.Cutting.{roles, counts_from}
use Rattle.x_cutting.proofs.PatchedLemmas.{Found, found_at, counts_on, counts_end, counts_none, deep_after}
use Rattle.x_cutting.proofs.cutting.recut.item_from.Goals as goal
use Rattle.x_cutting.proofs.cutting.recut.item_from.Goals.{In-Some}

pub patched_get-requires-clause-of_text : goal.patched_get-requires-clause-of_text
patched_get-requires-clause-of_text c = tokens_fit c.args.text.now
    (patched c.args.tokens.now.list c.args.patch.now) c.requires.tokens c.requires.small

pub overflow_add-index : goal.overflow_add-index
overflow_add-index c =
    let f = tokens_fit c.args.text.now (patched c.args.tokens.now.list c.args.patch.now) c.requires.tokens
    c.requires.small in
    let few = f.few in
    let w = c.loop-kind.invariant.within in
    omega (arith, few, w)

-- the token that was read
found : (c : In-Some) → Found c.args.text.now (patched c.args.tokens.now.list c.args.patch.now)
    (c.args.index + c.loop-kind.count) c.loop-kind.place c.in-Some.kind c.in-Some.length
found c = found_at c.args.text.now (patched c.args.tokens.now.list c.args.patch.now)
    (c.args.index + c.loop-kind.count) c.loop-kind.place c.in-Some.kind c.in-Some.length c.requires.tokens
    c.loop-kind.invariant.place_is (sym c.patched_get.ensures ∙ c.in-Some.is)

-- there are fewer tokens than a machine's number
few : (c : In-Some) → c.args.index + c.loop-kind.count + 1 ≤ 16777216
few c =
    let f = tokens_fit c.args.text.now (patched c.args.tokens.now.list c.args.patch.now) c.requires.tokens
    c.requires.small in
    let n = f.few in
    let h = found c in
    let w = h.within in
    omega (arith, n, w)

pub overflow_add-end : goal.overflow_add-end
overflow_add-end c =
    let f = found c in let fits = f.fits in let s = c.requires.small in omega (arith, fits, s)

pub slice_bounds-ends-end : goal.slice_bounds-ends-end
slice_bounds-ends-end c =
    let f = found (goal.at.slice_bounds-ends-end c).In-Some in let fits = f.fits in omega (arith, fits)

pub ends-ends-requires : goal.ends-ends-requires
ends-ends-requires c =
    let n = few (goal.at.ends-ends-requires c).In-Some in let d = c.loop-kind.invariant.deep in
    omega (arith, n, d)

pub overflow_add-count : goal.overflow_add-count
overflow_add-count c = let n = few (goal.at.overflow_add-count c).In-Some in omega (arith, n)

pub returns-then-ends-clause-within : goal.returns-then-ends-clause-within
returns-then-ends-clause-within c =
    let f = found (goal.at.returns-then-ends-clause-within c).In-Some in let w = f.within in omega (arith, w)

pub returns-then-ends-clause-place : goal.returns-then-ends-clause-place
returns-then-ends-clause-place c =
    let f = found (goal.at.returns-then-ends-clause-place c).In-Some in
    let e : c.args.index + c.loop-kind.count + 1 ≡ c.args.index + (c.loop-kind.count + 1) = omega arith in
    f.ends ∙ ap (λ i. end_of (patched c.args.tokens.now.list c.args.patch.now) i) e

pub returns-then-ends-clause-counts : goal.returns-then-ends-clause-counts
returns-then-ends-clause-counts c =
    let text = c.args.text.now in
    let us = patched c.args.tokens.now.list c.args.patch.now in
    let f = found (goal.at.returns-then-ends-clause-counts c).In-Some in
    let e : c.args.index + c.loop-kind.count + 1 ≡ c.args.index + (c.loop-kind.count + 1) = omega arith in
    c.loop-kind.invariant.goes_on
    ∙ counts_end text us (c.args.index + c.loop-kind.count) c.loop-kind.place c.in-Some.kind c.in-Some.length
    c.loop-kind.cutter c.loop-kind.count f (sym c.ends-ends.ensures.ends ∙ c.if-ends.true)
    ∙ ap (λ i. (c.loop-kind.count + 1) ∷ counts_from 0 0 (drop i (roles text us))) e

pub returns-clause-counts : goal.returns-clause-counts
returns-clause-counts c =
    c.loop-kind.invariant.goes_on
    ∙ counts_none c.args.text.now (patched c.args.tokens.now.list c.args.patch.now)
    (c.args.index + c.loop-kind.count) c.loop-kind.cutter c.loop-kind.count
    (sym c.patched_get.ensures ∙ c.in_default.is)

pub loop-kind-smaller : goal.loop-kind-smaller
loop-kind-smaller c =
    let f = found (goal.at.loop-kind-smaller c).In-Some in let w = f.within in omega (arith, w)

pub loop-kind-preserved : goal.loop-kind-preserved
loop-kind-preserved c =
    let text = c.args.text.now in
    let us = patched c.args.tokens.now.list c.args.patch.now in
    let f = found (goal.at.loop-kind-preserved c).In-Some in
    let e : c.args.index + c.loop-kind.count + 1 ≡ c.args.index + (c.loop-kind.count + 1) = omega arith in
    record {
      goes_on =
          c.loop-kind.invariant.goes_on
          ∙ counts_on text us (c.args.index + c.loop-kind.count) c.loop-kind.place c.in-Some.kind
          c.in-Some.length c.loop-kind.cutter c.loop-kind.count f
          (sym c.ends-ends.ensures.ends ∙ c.if-ends.false)
          ∙ ap (λ d. counts_from d (c.loop-kind.count + 1)
          (drop (c.args.index + c.loop-kind.count + 1) (roles text us))) (sym c.ends-ends.ensures.moved)
          ∙ ap (λ i. counts_from c.ends-ends.new.self (c.loop-kind.count + 1) (drop i (roles text us))) e;
      within = let w = f.within in omega (arith, w);
      place_is = f.ends ∙ ap (λ i. end_of us i) e;
      deep = deep_after c.loop-kind.cutter c.loop-kind.count c.ends-ends.new.self _ c.ends-ends.ensures.moved
          c.loop-kind.invariant.deep;
    }

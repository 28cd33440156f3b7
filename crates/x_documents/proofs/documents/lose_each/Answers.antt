use Rattle.std.proofs.Common.{◌≡◌, ◌∙◌, ◌+◌, ◌<◌, ap, arith, length, length-set, suc, sym}
use Rattle.std.specs.Prelude.{◌||◌}
use Rattle.x_documents.specs.Views.{views}
use Rattle.x_documents.proofs.DocumentLemmas.{all_lost, any_before, any_of_all, any_then, lost_before}
use Rattle.x_documents.proofs.DocumentLemmas.{lost_then, step_seen, views_length}
use Rattle.x_documents.proofs.documents.lose_each.Goals as goal

pub loop-at-preserved : goal.loop-at-preserved
loop-at-preserved c =
    let at = c.loop-at.at in
    let items = c.loop-at.documents.items in
    let old = views c.args.documents.now.items in
    let x = c.index_mut.result.now in
    let next : suc at ≡ at + 1 = omega arith in
    let lt : at < length items = omega
    (arith, c.loop-at-test.true, c.len-at-end.ensures, c.loop-at.invariant.length) in
    let is = c.index_mut.ensures.value in
    let so = c.loop-at.invariant.lost in
    record {
      lost = lost_then at items x c.lose-fell.new.self old lt is so c.lose-fell.ensures.lost
          ∙ ap (λ k. lost_before k old) next;
      fell = (λ i. c.loop-at.invariant.fell i || (c.lose-fell.ensures.fell
          ∙ sym (step_seen x.in_step x.shown)) i) ∙ sym (any_then at items x old lt is so)
          ∙ ap (λ k. any_before k old) next;
      length = length-set items at c.lose-fell.new.self ∙ c.loop-at.invariant.length;
    }

pub returns-clause-lost : goal.returns-clause-lost
returns-clause-lost c =
    let old = c.args.documents.now.items in
    let all : c.loop-at.at ≡ length (views old) = omega
    (arith, c.loop-at-test.false, c.len-at-end.ensures, c.loop-at.auto.at-end, views_length old) in
    c.loop-at.invariant.lost ∙ ap (λ k. lost_before k (views old)) all ∙ all_lost (views old)

pub returns-clause-fell : goal.returns-clause-fell
returns-clause-fell c =
    let old = c.args.documents.now.items in
    let all : c.loop-at.at ≡ length (views old) = omega
    (arith, c.loop-at-test.false, c.len-at-end.ensures, c.loop-at.auto.at-end, views_length old) in
    c.loop-at.invariant.fell ∙ ap (λ k. any_before k (views old)) all ∙ any_of_all (views old)

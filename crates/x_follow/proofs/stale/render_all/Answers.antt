use Rattle.std.proofs.Common.{◌≡◌, ◌∷◌, [], ◌++◌, length, sym, ap, subst, ◌∙◌, append_assoc, append-nil}
use Rattle.std.proofs.Common.{arith}
use Rattle.std.specs.Vec.Iter.{into_iter_items}
use Rattle.x_cutting.specs.ItemList as items
use Rattle.x_follow.specs.Rendered.{AreRenderings, HaveDefinitions}
use Rattle.x_follow.proofs.StaleLemmas.{defined_among, nothing_left, rendered_more}
use Rattle.x_follow.proofs.stale.render_all.Goals as goal

pub render-requires-clause-defined : goal.render-requires-clause-defined
render-requires-clause-defined c =
    let at = c.loop-rechecked in
    let x = c.in-Some.rechecked in
    let steps : into_iter_items at.rechecked-iterator ≡ x ∷ into_iter_items c.next.new.self =
    c.in-Some.ensures.steps.0 in
    let whole = ap (λ l. at.yielded ++ l) (sym steps) ∙ at.invariant.all
    ∙ c.into_iter-rechecked-iterator.ensures.into_iter_gives.0 in
    let ks = items.kept (items.patched c.args.items.now.list c.args.patch.now) in
    defined_among ks at.yielded x (into_iter_items c.next.new.self)
    (subst (HaveDefinitions ks) (sym whole) c.requires.defined)

pub loop-rechecked-preserved : goal.loop-rechecked-preserved
loop-rechecked-preserved c =
    let at = c.loop-rechecked in
    let x = c.in-Some.rechecked in
    let steps : into_iter_items at.rechecked-iterator ≡ x ∷ into_iter_items c.next.new.self =
    c.in-Some.ensures.steps.0 in
    let ks = items.kept (items.patched c.args.items.now.list c.args.patch.now) in
    let was = at.invariant.many in
    let gone = c.in-Some.ensures.steps.1 in
    let short = ap length steps in
    record {
      all = append_assoc at.yielded (x ∷ []) (into_iter_items c.next.new.self)
          ∙ ap (λ l. at.yielded ++ l) (sym steps) ∙ at.invariant.all;
      many = omega (arith, was, gone, short);
      are = subst (AreRenderings ks (at.yielded ++ x ∷ [])) (sym c.in_ok-push.ensures.items)
          (rendered_more ks at.yielded at.found.items x c.in_ok-planned.planned at.invariant.are
          c.in_ok-planned.ensures);
    }

pub returns : goal.returns
returns c =
    let at = c.loop-rechecked in
    let none = c.in-None.ensures.steps in
    let empty : into_iter_items at.rechecked-iterator ≡ [] =
    nothing_left (into_iter_items at.rechecked-iterator) (sym at.invariant.many ∙ none.0) in
    let all = sym (append-nil at.yielded) ∙ ap (λ l. at.yielded ++ l) (sym empty) ∙ at.invariant.all
    ∙ c.into_iter-rechecked-iterator.ensures.into_iter_gives.0 in
    subst (λ l. AreRenderings (items.kept (items.patched c.args.items.now.list c.args.patch.now)) l
    at.found.items) all at.invariant.are

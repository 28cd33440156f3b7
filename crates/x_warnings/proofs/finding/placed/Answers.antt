use Rattle.std.proofs.Common.{◌≡◌, List, [], ◌∷◌, ◌++◌, map, refl, sym, ap, ◌∙◌, append_assoc, length, arith}
use Rattle.std.proofs.lemmas.List.{append-nil, map-append}
use Rattle.x_clash.specs.declared.clash.Clash.{Clash}
use Rattle.x_warnings.specs.Warnings.{spots_in, view_warning, warning_of}
use Rattle.x_warnings.proofs.finding.placed.Goals as goal

pub loop-clash-preserved : goal.loop-clash-preserved
loop-clash-preserved c =
    let so_far = c.loop-clash.yielded in
    let clash = c.in-Some.clash in
    let left = c.next.new.self.rest.items in
    let spots = warning_of (spots_in c.args.table.now) in
    let made = c.warning_at.result in
    record {
      split = c.loop-clash.invariant.split ∙ ap (λ l. so_far ++ l) c.in-Some.ensures.steps.0
          ∙ sym (append_assoc so_far (clash ∷ []) left);
      placed = ap (map view_warning) c.in_ok-push.ensures.items
          ∙ map-append view_warning c.loop-clash.list.items (made ∷ [])
          ∙ (λ i. c.loop-clash.invariant.placed i ++ c.warning_at.ensures i ∷ [])
          ∙ sym (map-append spots so_far (clash ∷ []));
    }

empty : (cs : List Clash) → length cs ≡ 0 → cs ≡ []
empty [] h = refl
empty (c ∷ cs) h = absurd (omega (arith, h))

all : (found so_far left : List Clash) → found ≡ so_far ++ left → left ≡ [] → so_far ≡ found
all found so_far left split none = sym (append-nil so_far) ∙ ap (λ l. so_far ++ l) (sym none) ∙ sym split

pub returns : goal.returns
returns c =
    let left = c.loop-clash.clash-iterator.rest in
    c.loop-clash.invariant.placed ∙ ap (map (warning_of (spots_in c.args.table.now)))
    (all c.args.found.items c.loop-clash.yielded left.items c.loop-clash.invariant.split
    (empty left.items (sym left.ok.0 ∙ c.in-None.ensures.steps.0)))

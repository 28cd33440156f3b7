use Rattle.std.proofs.Common.{◌≡◌, ◌<◌, ◌≤◌, length, ap, sym, arith, refl, ◌∙◌}
use Rattle.std.proofs.lemmas.List.{length-map}
use Rattle.x_outline.specs.Parts.{view_enumerator_at}
use Rattle.x_rules.specs.Tables.{seen_by}
use Rattle.x_rules.proofs.PlaceLemmas.{numbered_all, numbered_next}
use Rattle.x_rules.proofs.rules.constants.Constants.number.Goals as goal

pub loop-place-preserved : goal.loop-place-preserved
loop-place-preserved c all h =
    let test = c.loop-place-test.true in
    let value = c.items-count.ensures in
    let whole : length c.args.self.now.list ≡ length all =
    sym (length-map c.args.self.now.list view_enumerator_at) ∙ ap length h.list in
    let lt : c.loop-place.place < length all = omega (arith, test, ap length value, whole) in
    numbered_next c.loop-place.self _ all (seen_by c.args.sights.now) c.loop-place.before
    c.number_given-before.result c.loop-place.place
    (c.loop-place.invariant all h) lt (c.number_given-before.ensures all) refl c.in_ok-push.ensures

pub returns : goal.returns
returns c all h =
    let test = c.loop-place-test.false in
    let value = c.items-count.ensures in
    let whole : length c.args.self.now.list ≡ length all =
    sym (length-map c.args.self.now.list view_enumerator_at) ∙ ap length h.list in
    let le : length all ≤ c.loop-place.place = omega (arith, test, ap length value, whole) in
    numbered_all c.loop-place.self all (seen_by c.args.sights.now) c.loop-place.before c.loop-place.place
    (c.loop-place.invariant all h) le

use Rattle.std.proofs.Common.{◌≡◌, ◌+◌, ◌∷◌, drop, map, ap, sym, subst, ◌∙◌}
use Rattle.std.proofs.lemmas.List.{drop_all, drop_more}
use Rattle.x_trees.specs.View.{view_version}
use Rattle.x_outline.specs.MemberWalks.{AddsVersions, place}
use Rattle.x_outline.proofs.MemberWalkLemmas.{adds_none, versions_start, versions_all}
use Rattle.x_outline.proofs.programs.versions.Goals as goal

pub loop-version-init : goal.loop-version-init
loop-version-init c to h =
    versions_start 3 c.new-groups.result.items c.new-members.result to (map view_version c.args.list.now)
    c.new-groups.ensures.items c.new-members.ensures.names c.new-members.ensures.numbers h

pub loop-version-preserved : goal.loop-version-preserved
loop-version-preserved c to h =
    let item = c.version-item.result in
    let rest = drop (c.loop-version.version-index + 1) c.args.list.now in
    let front : drop c.loop-version.version-index c.args.list.now ≡ item ∷ rest =
    drop_more c.args.list.now c.loop-version.version-index _ c.loop-version-test.true
    ∙ ap (λ x. x ∷ rest) (sym c.version-item.is) in
    let before = place c.loop-version.walk.word c.loop-version.groups.items c.loop-version.members in
    c.loop-version.invariant to
    (subst (λ xs. AddsVersions before to (map view_version xs)) (sym front)
    (c.in_ok-add_version.ensures to (map view_version rest) h))

pub returns : goal.returns
returns c fits =
    let here = place c.loop-version.walk.word c.loop-version.groups.items c.loop-version.members in
    versions_all c.loop-version.walk.word c.loop-version.groups.items c.push.new.self.items
    c.loop-version.members (map view_version c.args.list.now)
    (c.loop-version.invariant here (subst (λ xs. AddsVersions here here (map view_version xs))
    (sym (drop_all _ _ c.loop-version-test.false)) (adds_none _)))
    c.in_ok-push.ensures.items fits

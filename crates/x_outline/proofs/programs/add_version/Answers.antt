use Rattle.std.proofs.Common.{[], map}
use Rattle.x_trees.specs.View.{view_procedure, view_version}
use Rattle.x_outline.specs.MemberWalks.{AddsName, AddsNumber, AddsProcedures, place, start}
use Rattle.x_outline.proofs.MemberWalkLemmas.{adds_version}
use Rattle.x_outline.proofs.programs.add_version.Goals as goal

pub returns : goal.returns
returns c =
    let version = c.args.version.now in
    let last = c.skip-3.new.self in
    let own = c.in_ok-procedures.field-0 in
    let name : AddsName c.skip.new.self.word c.args.members.now c.name.new.self version.name.items =
    rw c.deref.ensures at c.in_ok-name.ensures in
    let procedures : AddsProcedures (start c.skip-2.new.self.word) (place c.procedures.new.walk.word [] own)
    (map view_procedure version.procedures.items) =
    rw c.deref-2.ensures.value at c.in_ok-procedures.ensures in
    let number : AddsNumber last.word c.name.new.self c.number.new.self version.number.items =
    rw c.deref-3.ensures at c.in_ok-number.ensures in
    adds_version c.args.walk.now c.skip.new.self c.skip-2.new.self c.procedures.new.walk last
    c.skip-4.new.self c.args.groups.now.items c.push.new.self.items c.args.members.now c.name.new.self
    c.number.new.self own
    (view_version version) (c.skip.ensures [] []).bodies name (c.skip-2.ensures [] []).bodies procedures
    c.in_ok-push.ensures.items (c.skip-3.ensures [] []).bodies number (c.skip-4.ensures [] []).bodies

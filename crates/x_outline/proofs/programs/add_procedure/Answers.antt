use Rattle.std.proofs.Common.{[], map, length}
use Rattle.x_trees.specs.Spell.{spell_others}
use Rattle.x_trees.specs.View.{view_argument, view_procedure}
use Rattle.x_trees.proofs.CollectLemmas.{finds_then}
use Rattle.x_outline.specs.MemberWalks.{Skips, AddsName, AddsNumber}
use Rattle.x_outline.proofs.MemberWalkLemmas.{adds_procedure}
use Rattle.x_outline.proofs.programs.add_procedure.Goals as goal

pub returns : goal.returns
returns c =
    let others : Skips c.pass-2.new.walk c.pass_others.new.walk
    (length (spell_others (map view_argument c.args.procedure.now.others.items))) =
    rw c.deref-2.ensures.value at c.in_ok-pass_others.ensures in
    let name : AddsName c.pass.new.walk.word c.args.members.now c.name.new.self
    c.args.procedure.now.name.items = rw c.deref.ensures at c.in_ok-name.ensures in
    let number : AddsNumber c.skip-2.new.self.word c.name.new.self c.number.new.self
    c.args.procedure.now.number.items = rw c.deref-3.ensures at c.in_ok-number.ensures in
    adds_procedure c.args.walk.now c.pass.new.walk c.skip-2.new.self c.skip-3.new.self c.args.members.now
    c.name.new.self c.number.new.self (view_procedure c.args.procedure.now) c.in_ok-pass.ensures name
    (finds_then (c.skip.ensures [] []).bodies
    (finds_then c.in_ok-pass-2.ensures (finds_then others (c.skip-2.ensures [] []).bodies))) number
    (c.skip-3.ensures [] []).bodies

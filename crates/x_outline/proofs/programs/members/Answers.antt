use Rattle.std.proofs.Common.{◌≡◌, map, IfOk, sym, subst}
use Rattle.std.proofs.lemmas.Result.{IfOk-weaker}
use Rattle.x_trees.specs.View.{view_version, view_definition}
use Rattle.x_outline.specs.Bodies.{members}
use Rattle.x_trees.specs.Spell.{IsShort}
use Rattle.x_outline.specs.Parts.{view_members}
use Rattle.x_outline.proofs.MemberWalkLemmas.{versions_fit}
use Rattle.x_outline.proofs.programs.members.Goals as goal

pub returns-in-Program : goal.returns-in-Program
returns-in-Program c =
    let vs = map view_version c.in-Program.list.items in
    subst (λ x. IfOk c.versions.result (λ found. IsShort (view_definition x)
    → map view_members found.items ≡ members (view_definition x))) (sym c.in-Program.is)
    (IfOk-weaker c.versions.result _ _
    (λ found h short. (rw c.deref.ensures.value at h)
    (versions_fit c.in-Program.name.items vs c.in-Program.number.items short)) c.versions.ensures)

use Rattle.std.proofs.Common.{OnOk, sym, subst}
use Rattle.std.proofs.lemmas.Result.{on_ok_weaker}
use Rattle.x_trees.specs.View.{view_declaration, view_body, view_definition}
use Rattle.x_outline.specs.BodyWalks.{GoesDeclaration, FindsAll, stand}
use Rattle.x_outline.proofs.BodyWalkLemmas.{finds_typedef, finds_new_type}
use Rattle.x_outline.proofs.bodies.BodyWalk.definition.Goals as goal

pub returns-in-Typedef : goal.returns-in-Typedef
returns-in-Typedef c =
    let d = view_declaration c.in-Typedef.declaration.value in
    let empty = c.new-contents.result in
    subst (λ x. OnOk c.declaration.result
    (FindsAll c.args.self.now c.declaration.new.self (view_definition x))) (sym c.in-Typedef.is)
    (on_ok_weaker c.declaration.result
    (λ x. let inside : GoesDeclaration (stand c.skip.new.self empty)
    (stand c.declaration.new.self c.declaration.new.contents) d = rw c.deref.ensures at x in
    finds_typedef c.args.self.now c.skip.new.self c.declaration.new.self empty c.declaration.new.contents d
    c.skip.ensures inside)
    c.declaration.ensures)

pub returns-in-NewType : goal.returns-in-NewType
returns-in-NewType c =
    subst (λ x. OnOk c.own.result (FindsAll c.args.self.now c.own.new.self (view_definition x)))
    (sym c.in-NewType.is)
    (on_ok_weaker c.own.result
    (λ x. finds_new_type c.args.self.now c.skip-in-NewType.new.self c.own.new.self c.in-NewType.name.items
    (view_body c.in-NewType.body) c.skip-in-NewType.ensures x)
    c.own.ensures)

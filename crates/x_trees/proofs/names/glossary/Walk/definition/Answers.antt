use Rattle.std.proofs.Common.{◌∷◌, [], map, OnOk, Some, true, refl, sym, subst}
use Rattle.std.proofs.lemmas.Result.{on_ok_weaker}
use Rattle.x_trees.specs.Tree.{Typedef, NewType, Program}
use Rattle.x_trees.specs.View.{view_declaration, view_body, view_version, view_definition}
use Rattle.x_trees.specs.Words.{Number}
use Rattle.x_trees.specs.Gloss.{InTypedef, ProgramNumber, glossed, body_by, declaration_by, versions_by}
use Rattle.x_trees.specs.Collected.{Reads, ReadsAll}
use Rattle.x_trees.proofs.GlossaryLemmas.{reads, reads_next, reads_then, reads_all, reads_headed}
use Rattle.x_trees.proofs.GlossaryLemmas.{reads_program}
use Rattle.x_trees.proofs.names.glossary.Walk.definition.Goals as goal

pub returns-in-Typedef : goal.returns-in-Typedef
returns-in-Typedef c =
    let d = view_declaration c.in-Typedef.declaration.value in
    subst (λ x. OnOk c.declaration.result
    (ReadsAll c.args.self.now c.declaration.new.self (view_definition x))) (sym c.in-Typedef.is)
    (on_ok_weaker c.declaration.result
    (λ x. let inside : Reads c.skip-in-Typedef.new.self c.declaration.new.self
    (declaration_by glossed (Some InTypedef) d) = rw c.deref-in-Typedef.ensures at x in
    reads_all (Typedef d) (_ ∷ declaration_by glossed (Some InTypedef) d) _ refl
    (reads_next (reads c.skip-in-Typedef.ensures) inside))
    c.declaration.ensures)

pub returns-in_ok-head-in-NewType : goal.returns-in_ok-head-in-NewType
returns-in_ok-head-in-NewType c =
    let name = c.in-NewType.name.items in
    let body = view_body c.in-NewType.body in
    let own = reads_headed _ name _ c.deref-in-NewType.ensures c.of_body.ensures
    c.in_ok-head-in-NewType.ensures in
    subst (λ x. OnOk c.body.result (ReadsAll c.args.self.now c.body.new.self (view_definition x)))
    (sym c.in-NewType.is)
    (on_ok_weaker c.body.result
    (λ x. let inside : Reads c.head-in-NewType.new.self c.body.new.self (body_by glossed (Some name) body) =
    rw c.deref-in-NewType-2.ensures at x in
    reads_all (NewType name body) (_ ∷ _ ∷ body_by glossed (Some name) body) _ refl (reads_then own inside))
    c.body.ensures)

pub returns-in_ok-versions-in-Program : goal.returns-in_ok-versions-in-Program
returns-in_ok-versions-in-Program c =
    let name = c.in-Program.name.items in
    let versions = map view_version c.in-Program.versions.items in
    let text = c.in-Program.number.items in
    let own = reads_headed _ name _ c.deref-in-Program.ensures refl c.in_ok-head-in-Program.ensures in
    let inside : Reads c.skip-in-Program.new.self c.versions.new.self (versions_by glossed true versions) =
    rw c.deref-in-Program-2.ensures.value at c.in_ok-versions-in-Program.ensures in
    subst (λ x. OnOk c.number.result (ReadsAll c.args.self.now c.number.new.self (view_definition x)))
    (sym c.in-Program.is)
    (on_ok_weaker c.number.result
    (λ x. let number : Reads c.skip-in-Program-2.new.self c.number.new.self
    (glossed (Number text) (ProgramNumber text ∷ []) ∷ []) = reads (rw c.deref-in-Program-3.ensures at x) in
    reads_program (Program name versions text) _ _ _ (versions_by glossed true versions) _ _ _ _ refl
    (reads_then own (reads c.skip-in-Program.ensures)) inside (reads c.skip-in-Program-2.ensures) number)
    c.number.ensures)

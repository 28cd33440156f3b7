use Rattle.std.proofs.Common.{◌≡◌, ◌+◌, ◌∷◌, [], ◌++◌, drop, map, Some, true, refl, ap, sym, subst, ◌∙◌}
use Rattle.std.proofs.Common.{append_assoc}
use Rattle.std.proofs.lemmas.List.{drop_all, drop_more}
use Rattle.std.proofs.lemmas.Result.{on_ok_weaker}
use Rattle.x_trees.specs.Tree.{Of, Opaque, String, Struct, Union}
use Rattle.x_trees.specs.View.{view_type, view_shape, view_length, view_most, view_body, view_enumerator}
use Rattle.x_trees.specs.View.{view_value, view_declaration, view_declarations, view_arms, view_default}
use Rattle.x_trees.specs.View.{view_union}
use Rattle.x_trees.specs.Words.{Name, Fixed}
use Rattle.x_lex.specs.declared.mark.Mark.TheVariants as marks
use Rattle.x_trees.specs.Gloss.{Gloss, AsField, AsArm, Inside, glossed, use_by, name_inside, name_roles}
use Rattle.x_trees.specs.Gloss.{lifted_roles, enumerators_by, cases_by, type_by, named_by, body_by}
use Rattle.x_trees.specs.Gloss.{declaration_by, declarations_by, arms_by, default_by}
use Rattle.x_trees.specs.Collected.{Reads, site_in, roles_of_lifted}
use Rattle.x_trees.specs.declared.trees.declaration.Body.TheViews.{out-UnionBody}
use Rattle.x_trees.proofs.GlossaryLemmas.{reads, reads_then, reads_next, reads_two, reads_as, reads_start}
use Rattle.x_trees.proofs.GlossaryLemmas.{reads_over, reads_end, reads_typed, reads_declaration, reads_first}
use Rattle.x_trees.proofs.GlossaryLemmas.{reads_own, led_as}
use Rattle.x_trees.proofs.Rows.{struct_view, union_parts}
use Rattle.x_trees.proofs.names.glossary.Walk.+walk.Goals as goal

abbrev semicolon : Gloss
semicolon = glossed (Fixed marks.Semicolon) []

pub declarations-loop-declaration-init : goal.declarations-loop-declaration-init
declarations-loop-declaration-init t c = reads_start c.args.self.now _

pub declarations-loop-declaration-preserved : goal.declarations-loop-declaration-preserved
declarations-loop-declaration-preserved t c =
    let around = Some c.args.around.now in
    let item = c.declaration-item.result in
    let rest = drop (c.loop-declaration.declaration-index + 1) c.args.declarations.now in
    let front : drop c.loop-declaration.declaration-index c.args.declarations.now ≡ item ∷ rest =
    drop_more c.args.declarations.now c.loop-declaration.declaration-index _ c.loop-declaration-test.true
    ∙ ap (λ x. x ∷ rest) (sym c.declaration-item.is) in
    let words = declaration_by glossed (Some (Inside AsField c.args.around.now)) (view_declaration item) in
    reads_over (λ xs. declarations_by glossed around (view_declarations xs)) item _ rest front
    (sym (append_assoc words (semicolon ∷ []) (declarations_by glossed around (view_declarations rest))))
    c.loop-declaration.invariant
    (reads_then c.in_ok-declaration.ensures (reads c.skip.ensures))

pub declarations-returns : goal.declarations-returns
declarations-returns t c =
    reads_end (λ xs. declarations_by glossed (Some c.args.around.now) (view_declarations xs)) _
    (drop_all _ _ c.loop-declaration-test.false) refl c.loop-declaration.invariant

pub arms-loop-arm-init : goal.arms-loop-arm-init
arms-loop-arm-init t c = reads_start c.args.self.now _

pub arms-loop-arm-preserved : goal.arms-loop-arm-preserved
arms-loop-arm-preserved t c =
    let around = Some c.args.around.now in
    let item = c.arm-item.result in
    let rest = drop (c.loop-arm.arm-index + 1) c.args.arms.now in
    let front : drop c.loop-arm.arm-index c.args.arms.now ≡ item ∷ rest =
    drop_more c.args.arms.now c.loop-arm.arm-index _ c.loop-arm-test.true
    ∙ ap (λ x. x ∷ rest) (sym c.arm-item.is) in
    let cases = cases_by glossed true (map view_value item.cases.items) in
    let words = declaration_by glossed (Some (Inside AsArm c.args.around.now))
    (view_declaration item.declaration) in
    let behind = arms_by glossed around (view_arms rest) in
    let values : Reads c.loop-arm.self c.cases.new.self cases =
    rw c.deref.ensures.value at c.in_ok-cases.ensures in
    reads_over (λ xs. arms_by glossed around (view_arms xs)) item _ rest front
    (sym (append_assoc cases (words ++ semicolon ∷ []) behind
    ∙ ap (λ l. cases ++ l) (append_assoc words (semicolon ∷ []) behind))) c.loop-arm.invariant
    (reads_then values (reads_then c.in_ok-declaration.ensures (reads c.skip.ensures)))

pub arms-returns : goal.arms-returns
arms-returns t c =
    reads_end (λ xs. arms_by glossed (Some c.args.around.now) (view_arms xs)) _
    (drop_all _ _ c.loop-arm-test.false) refl c.loop-arm.invariant

pub body-returns-in_ok-enumerators-in-Enum : goal.body-returns-in_ok-enumerators-in-Enum
body-returns-in_ok-enumerators-in-Enum t c =
    let es = map view_enumerator c.in-Enum.enumerators.items in
    let inside : Reads c.skip.new.self c.enumerators.new.self (enumerators_by glossed true es) =
    rw c.deref.ensures.value at c.in_ok-enumerators-in-Enum.ensures in
    reads_as (reads_next (reads c.skip.ensures) (reads_then inside (reads c.skip-in-Enum.ensures)))
    (ap (λ b. body_by glossed (Some c.args.around.now) (view_body b)) (sym c.in-Enum.is))

pub body-returns-in_ok-declarations-in-Struct : goal.body-returns-in_ok-declarations-in-Struct
body-returns-in_ok-declarations-in-Struct t c =
    let around = Some c.args.around.now in
    let ds = view_declarations c.in-Struct.declarations.items in
    let is : view_body c.args.body.now ≡ Struct ds = ap view_body c.in-Struct.is
    ∙ struct_view c.in-Struct.declarations in
    let inside : Reads c.skip-in-Struct.new.self c.declarations.new.self (declarations_by glossed around ds) =
    rw c.deref-in-Struct.ensures.value at c.in_ok-declarations-in-Struct.ensures in
    reads_as (reads_next (reads c.skip-in-Struct.ensures)
    (reads_then inside (reads c.skip-in-Struct-2.ensures))) (ap (body_by glossed around) (sym is))

pub body-returns-in_ok-arms-in-Union : goal.body-returns-in_ok-arms-in-Union
body-returns-in_ok-arms-in-Union t c =
    let around = Some c.args.around.now in
    let u = out-UnionBody c.deref-body.result.now in
    let arms = view_arms u.arms.items in
    let is : view_body c.args.body.now
    ≡ Union (view_declaration u.discriminant) arms (view_default u.default) = ap view_body c.in-Union.is
    ∙ ap view_union (sym c.deref-body.ensures) ∙ union_parts c.deref-body.result.now in
    let inside : Reads c.skip-in-Union-2.new.self c.arms.new.self (arms_by glossed around arms) =
    rw c.deref-in-Union.ensures.value at c.in_ok-arms-in-Union.ensures in
    on_ok_weaker c.default.result
    (λ last. reads_as (reads_two (reads c.skip-in-Union.ensures)
    (reads_then c.in_ok-declaration-in-Union.ensures
    (reads_two (reads c.skip-in-Union-2.ensures) (reads_then inside last))))
    (ap (body_by glossed around) (sym is)))
    c.default.ensures

pub default-returns-in_ok-declaration-in-Some : goal.default-returns-in_ok-declaration-in-Some
default-returns-in_ok-declaration-in-Some t c =
    reads_as (reads_two (reads c.skip.ensures)
    (reads_then c.in_ok-declaration-in-Some.ensures (reads c.skip-in-Some.ensures)))
    (ap (λ d. default_by glossed (Some c.args.around.now) (view_default d)) (sym c.in-Some.is))

pub declaration-returns-in_ok-lifted-in-Of : goal.declaration-returns-in_ok-lifted-in-Of
declaration-returns-in_ok-lifted-in-Of t c =
    let site = site_in c.args.site c.args.around.now in
    let type = view_type c.in-Of.data in
    let shape = view_shape c.in-Of.shape in
    let name = c.in-Of.name.items in
    let lifted = roles_of_lifted c.in_ok-lifted-in-Of.lifted in
    let is : view_declaration c.args.declaration.now ≡ Of type name shape = ap view_declaration c.in-Of.is in
    let lifts : lifted ≡ lifted_roles (name_inside (Some site) name) type =
    subst (λ n. lifted ≡ lifted_roles (name_inside (Some site) n) type) c.deref.ensures
    c.in_ok-lifted-in-Of.ensures.lifted in
    let front : Reads c.leading.new.self c.data_type.new.self
    (type_by glossed [] (Some (use_by shape)) (name_inside (Some site) name) type) =
    subst (λ n. Reads c.leading.new.self c.data_type.new.self
    (type_by glossed [] (Some (use_by shape)) (name_inside (Some site) n) type)) c.deref.ensures
    (subst (λ u. Reads c.leading.new.self c.data_type.new.self
    (type_by glossed [] (Some u) (name_inside (Some site) c.deref.result.now) type)) c.of_type-usage.ensures
    c.in_ok-lifted-in-Of.ensures.reads) in
    on_ok_weaker c.declarator.result
    (λ last. let behind : Reads c.data_type.new.self c.declarator.new.self
    (named_by glossed true (name_roles (Some site) name ++ lifted) name shape) =
    subst (λ n. Reads c.data_type.new.self c.declarator.new.self
    (named_by glossed true (name_roles (Some site) n ++ lifted) n shape)) c.deref-in-Of.ensures
    (last c.args.around.now) in
    reads_declaration site is (reads_typed site type name shape lifted lifts
    (led_as site is (c.in_ok-leading-in-Of.ensures c.args.around.now)) front behind))
    c.declarator.ensures

pub declaration-returns-in_ok-name_word-in-Opaque : goal.declaration-returns-in_ok-name_word-in-Opaque
declaration-returns-in_ok-name_word-in-Opaque t c =
    let site = site_in c.args.site c.args.around.now in
    let name = c.in-Opaque.name.items in
    let d = Opaque name (view_length c.in-Opaque.length) in
    let is : view_declaration c.args.declaration.now ≡ d = ap view_declaration c.in-Opaque.is in
    let own : Reads c.skip.new.self c.name_word.new.self
    (glossed (Name name) (name_roles (Some site) name ++ []) ∷ []) =
    subst (λ n. Reads c.skip.new.self c.name_word.new.self (glossed (Name n) (name_roles (Some site) n ++ [])
    ∷ [])) c.deref-in-Opaque.ensures (c.in_ok-name_word-in-Opaque.ensures c.args.around.now) in
    on_ok_weaker c.brackets.result
    (λ last. reads_declaration site is
    (reads_next (reads_first site d _ (led_as site is (c.in_ok-leading-in-Opaque.ensures c.args.around.now))
    c.skip.ensures)
    (reads_next (reads_own site name own) last)))
    c.brackets.ensures

pub declaration-returns-in_ok-most-in-String : goal.declaration-returns-in_ok-most-in-String
declaration-returns-in_ok-most-in-String t c =
    let site = site_in c.args.site c.args.around.now in
    let name = c.in-String.name.items in
    let d = String name (view_most c.in-String.most) in
    let is : view_declaration c.args.declaration.now ≡ d = ap view_declaration c.in-String.is in
    let own : Reads c.skip-in-String.new.self c.name_word-in-String.new.self
    (glossed (Name name) (name_roles (Some site) name ++ []) ∷ []) =
    subst (λ n. Reads c.skip-in-String.new.self c.name_word-in-String.new.self
    (glossed (Name n) (name_roles (Some site) n ++ []) ∷ [])) c.deref-in-String.ensures
    (c.in_ok-name_word-in-String.ensures c.args.around.now) in
    reads_declaration site is
    (reads_next (reads_first site d _ (led_as site is (c.in_ok-leading-in-String.ensures c.args.around.now))
    c.skip-in-String.ensures)
    (reads_next (reads_own site name own)
    (reads_next (reads c.skip-in-String-2.ensures)
    (reads_then c.in_ok-most-in-String.ensures (reads c.skip-in-String-3.ensures)))))

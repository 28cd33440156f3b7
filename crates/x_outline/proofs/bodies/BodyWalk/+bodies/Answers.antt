use Rattle.std.proofs.Common.{◌≡◌, ◌+◌, ◌∷◌, drop, map, length, OnOk, refl, ap, sym, subst, ◌∙◌}
use Rattle.std.proofs.lemmas.List.{drop_all, drop_more}
use Rattle.std.proofs.lemmas.Result.{on_ok_weaker}
use Rattle.x_trees.specs.Tree.{Variable, Enum, Struct, Union}
use Rattle.x_outline.specs.Bodies.{star}
use Rattle.x_trees.specs.Spell.{spell_basic, spell_length, spell_enumerators}
use Rattle.x_trees.specs.View.{view_type, view_length, view_most, view_shape, view_body, view_enumerator}
use Rattle.x_trees.specs.View.{view_value, view_declaration, view_declarations, view_arms, view_default}
use Rattle.x_trees.specs.declared.trees.declaration.Body.TheViews.{out-UnionBody}
use Rattle.x_trees.proofs.Rows.{struct_view, union_parts}
use Rattle.x_outline.specs.BodyWalks.{GoesCases, GoesDeclaration, GoesFields, GoesArms, GoesDefault}
use Rattle.x_outline.specs.BodyWalks.{FindsType, FindsBody, GoesInside, GoesName, Passes, stand}
use Rattle.x_outline.specs.declared.bodies.BodyWalk.{BodyWalk}
use Rattle.x_outline.specs.declared.bodies.Contents.{Contents}
use Rattle.x_outline.proofs.BodyWalkLemmas.{goes_none, goes_past, goes_typed, goes_opaque, goes_string}
use Rattle.x_outline.proofs.BodyWalkLemmas.{goes_fields, goes_arms, goes_default, goes_enum, goes_struct}
use Rattle.x_outline.proofs.BodyWalkLemmas.{goes_union, behind_union, goes_inline, finds_body, inside_of}
use Rattle.x_outline.proofs.bodies.BodyWalk.+bodies.Goals as goal

pub arms-loop-arm-init : goal.arms-loop-arm-init
arms-loop-arm-init t c to h = h

pub arms-loop-arm-preserved : goal.arms-loop-arm-preserved
arms-loop-arm-preserved t c to h =
    let item = c.arm-item.result in
    let rest = drop (c.loop-arm.arm-index + 1) c.args.arms.now in
    let front : drop c.loop-arm.arm-index c.args.arms.now ≡ item ∷ rest =
    drop_more c.args.arms.now c.loop-arm.arm-index _ c.loop-arm-test.true
    ∙ ap (λ x. x ∷ rest) (sym c.arm-item.is) in
    let before = stand c.loop-arm.self c.loop-arm.contents in
    let values : GoesCases before (stand c.cases.new.self c.cases.new.contents)
    (map view_value item.cases.items) = rw c.deref.ensures.value at c.in_ok-cases.ensures in
    c.loop-arm.invariant to
    (subst (λ xs. GoesArms before to (view_arms xs)) (sym front)
    (goes_arms (map view_value item.cases.items) (view_declaration item.declaration) (view_arms rest) values
    c.in_ok-declaration.ensures (c.skip.ensures _ _) h))

pub arms-returns : goal.arms-returns
arms-returns t c =
    let here = stand c.loop-arm.self c.loop-arm.contents in
    c.loop-arm.invariant here (subst (λ xs. GoesArms here here (view_arms xs))
    (sym (drop_all _ _ c.loop-arm-test.false)) (goes_none _))

pub declarations-loop-declaration-init : goal.declarations-loop-declaration-init
declarations-loop-declaration-init t c to h = h

pub declarations-loop-declaration-preserved : goal.declarations-loop-declaration-preserved
declarations-loop-declaration-preserved t c to h =
    let item = c.declaration-item.result in
    let rest = drop (c.loop-declaration.declaration-index + 1) c.args.declarations.now in
    let front : drop c.loop-declaration.declaration-index c.args.declarations.now ≡ item ∷ rest =
    drop_more c.args.declarations.now c.loop-declaration.declaration-index _ c.loop-declaration-test.true
    ∙ ap (λ x. x ∷ rest) (sym c.declaration-item.is) in
    c.loop-declaration.invariant to
    (subst (λ xs. GoesFields (stand c.loop-declaration.self c.loop-declaration.contents) to
    (view_declarations xs)) (sym front)
    (goes_fields (view_declaration item) (view_declarations rest) c.in_ok-declaration.ensures
    (c.skip.ensures _ _) h))

pub declarations-returns : goal.declarations-returns
declarations-returns t c =
    let here = stand c.loop-declaration.self c.loop-declaration.contents in
    c.loop-declaration.invariant here (subst (λ xs. GoesFields here here (view_declarations xs))
    (sym (drop_all _ _ c.loop-declaration-test.false)) (goes_none _))

pub body-returns : goal.body-returns
body-returns t c =
    let to : BodyWalk = record { list = c.push.new.self; word = c.skip.new.self.word } in
    finds_body c.args.self.now c.inside.new.self c.skip.new.self to c.args.body c.in_ok-contents.contents
    c.args.before_name c.in_ok-contents.ensures c.skip.ensures refl c.in_ok-push.ensures.items

pub data_type-returns-in-Basic : goal.data_type-returns-in-Basic
data_type-returns-in-Basic t c =
    let words : Passes c.args.self.now c.skip.new.self (length (spell_basic c.in-Basic.basic)) =
    rw c.word_count.ensures at c.skip.ensures in
    subst (λ x. FindsType c.args.self.now c.skip-in-Basic.new.self c.args.before_name (view_type x))
    (sym c.in-Basic.is)
    (λ fields cases. goes_past (words fields cases) (c.skip-in-Basic.ensures fields cases))

pub data_type-returns-in-Named : goal.data_type-returns-in-Named
data_type-returns-in-Named t c =
    subst (λ x. FindsType c.args.self.now c.skip-in-Named-2.new.self c.args.before_name (view_type x))
    (sym c.in-Named.is)
    (λ fields cases. goes_past (c.skip-in-Named.ensures fields cases)
    (c.skip-in-Named-2.ensures fields cases))

pub data_type-returns-in-Tagged : goal.data_type-returns-in-Tagged
data_type-returns-in-Tagged t c =
    subst (λ x. FindsType c.args.self.now c.skip-in-Tagged-2.new.self c.args.before_name (view_type x))
    (sym c.in-Tagged.is)
    (λ fields cases. goes_past (c.skip-in-Tagged.ensures fields cases)
    (c.skip-in-Tagged-2.ensures fields cases))

pub data_type-returns-in-Inline : goal.data_type-returns-in-Inline
data_type-returns-in-Inline t c =
    subst (λ x. OnOk c.body.result
    (FindsType c.args.self.now c.body.new.self c.args.before_name (view_type x))) (sym c.in-Inline.is)
    (on_ok_weaker c.body.result
    (λ x. let inside : FindsBody c.skip-in-Inline.new.self c.body.new.self c.args.before_name
    (view_body c.in-Inline.body.value) = rw c.deref.ensures at x in
    λ fields cases. goes_inline c.args.before_name (view_body c.in-Inline.body.value)
    (c.skip-in-Inline.ensures fields cases) (inside fields cases))
    c.body.ensures)

pub declaration-returns-in-Void : goal.declaration-returns-in-Void
declaration-returns-in-Void t c =
    subst (λ x. GoesDeclaration (stand c.args.self.now c.args.contents.now)
    (stand c.skip.new.self c.args.contents.now) (view_declaration x)) (sym c.in-Void.is) (c.skip.ensures _ _)

pub declaration-returns-in_ok-field-in-Of : goal.declaration-returns-in_ok-field-in-Of
declaration-returns-in_ok-field-in-Of t c =
    let type : FindsType c.args.self.now c.data_type.new.self (star (view_shape c.in-Of.shape))
    (view_type c.in-Of.data) = rw c.words_before_name.ensures at c.in_ok-data_type-in-Of.ensures in
    let name : GoesName (stand c.data_type.new.self c.args.contents.now)
    (stand c.field.new.self c.field.new.contents) c.in-Of.name.items =
    rw c.deref.ensures at c.in_ok-field-in-Of.ensures in
    subst (λ x. GoesDeclaration (stand c.args.self.now c.args.contents.now)
    (stand c.skip-in-Of.new.self c.field.new.contents) (view_declaration x)) (sym c.in-Of.is)
    (goes_typed (view_type c.in-Of.data) c.in-Of.name.items (view_shape c.in-Of.shape)
    c.words_behind_name.result c.words_behind_name.ensures (type _ _) name (c.skip-in-Of.ensures _ _))

pub declaration-returns-in_ok-field-in-Opaque : goal.declaration-returns-in_ok-field-in-Opaque
declaration-returns-in_ok-field-in-Opaque t c =
    let name : GoesName (stand c.skip-in-Opaque.new.self c.args.contents.now)
    (stand c.field-in-Opaque.new.self c.field-in-Opaque.new.contents) c.in-Opaque.name.items =
    rw c.deref-in-Opaque.ensures at c.in_ok-field-in-Opaque.ensures in
    let size : Passes c.field-in-Opaque.new.self c.skip-in-Opaque-2.new.self
    (length (spell_length (view_length c.in-Opaque.length))) =
    rw c.words_of_length.ensures at c.skip-in-Opaque-2.ensures in
    subst (λ x. GoesDeclaration (stand c.args.self.now c.args.contents.now)
    (stand c.skip-in-Opaque-2.new.self c.field-in-Opaque.new.contents) (view_declaration x))
    (sym c.in-Opaque.is)
    (goes_opaque c.in-Opaque.name.items (view_length c.in-Opaque.length) (c.skip-in-Opaque.ensures _ _)
    name (size _ _))

pub declaration-returns-in_ok-field-in-String : goal.declaration-returns-in_ok-field-in-String
declaration-returns-in_ok-field-in-String t c =
    let name : GoesName (stand c.skip-in-String.new.self c.args.contents.now)
    (stand c.field-in-String.new.self c.field-in-String.new.contents) c.in-String.name.items =
    rw c.deref-in-String.ensures at c.in_ok-field-in-String.ensures in
    let size : Passes c.field-in-String.new.self c.skip-in-String-2.new.self
    (length (spell_length (Variable (view_most c.in-String.most)))) =
    rw c.words_of_most.ensures at c.skip-in-String-2.ensures in
    subst (λ x. GoesDeclaration (stand c.args.self.now c.args.contents.now)
    (stand c.skip-in-String-2.new.self c.field-in-String.new.contents) (view_declaration x))
    (sym c.in-String.is)
    (goes_string c.in-String.name.items (view_most c.in-String.most) (c.skip-in-String.ensures _ _)
    name (size _ _))

pub default-returns-in_ok-declaration-in-Some : goal.default-returns-in_ok-declaration-in-Some
default-returns-in_ok-declaration-in-Some t c =
    subst (λ x. GoesDefault (stand c.args.self.now c.args.contents.now)
    (stand c.skip-in-Some.new.self c.declaration.new.contents) (view_default x)) (sym c.in-Some.is)
    (goes_default (view_declaration c.in-Some.declaration) (c.skip.ensures _ _)
    c.in_ok-declaration-in-Some.ensures (c.skip-in-Some.ensures _ _))

pub default-returns-in-None : goal.default-returns-in-None
default-returns-in-None t c =
    subst (λ x. GoesDefault (stand c.args.self.now c.args.contents.now)
    (stand c.skip-in-None.new.self c.args.contents.now) (view_default x)) (sym c.in-None.is)
    (c.skip-in-None.ensures _ _)

pub inside-returns-in-Enum : goal.inside-returns-in-Enum
inside-returns-in-Enum t c =
    let es = map view_enumerator c.in-Enum.enumerators.items in
    let names : Passes c.skip.new.self c.enumerators.new.self (length (spell_enumerators es)) =
    rw c.deref.ensures.value at c.enumerators.ensures in
    subst (λ x. GoesInside c.args.self.now c.skip-in-Enum.new.self (view_body x) c.new.result)
    (sym c.in-Enum.is)
    (inside_of c.args.self.now c.skip-in-Enum.new.self (Enum es) c.new.result c.new.result
    c.new.ensures.fields c.new.ensures.cases
    (goes_enum es (c.skip.ensures _ _) (names _ _) (c.skip-in-Enum.ensures _ _)) (λ fits. tt))

pub inside-returns-in_ok-declarations-in-Struct : goal.inside-returns-in_ok-declarations-in-Struct
inside-returns-in_ok-declarations-in-Struct t c =
    let ds = view_declarations c.in-Struct.declarations.items in
    let is : view_body c.args.body.now ≡ Struct ds = ap view_body c.in-Struct.is
    ∙ struct_view c.in-Struct.declarations in
    let fields : GoesFields (stand c.skip-in-Struct.new.self c.new-contents.result)
    (stand c.declarations.new.self c.declarations.new.contents) ds =
    rw c.deref-in-Struct.ensures.value at c.in_ok-declarations-in-Struct.ensures in
    subst (λ x. GoesInside c.args.self.now c.skip-in-Struct-2.new.self x c.declarations.new.contents) (sym is)
    (inside_of c.args.self.now c.skip-in-Struct-2.new.self (Struct ds) c.new-contents.result
    c.declarations.new.contents c.new-contents.ensures.fields c.new-contents.ensures.cases
    (goes_struct ds (c.skip-in-Struct.ensures _ _) fields (c.skip-in-Struct-2.ensures _ _)) (λ fits. tt))

pub union-returns : goal.union-returns
union-returns t c =
    let u = out-UnionBody c.args.body.now in
    let d = view_declaration u.discriminant in
    let arms = view_arms u.arms.items in
    let other = view_default u.default in
    let made : Contents =
    record {
      fields = c.default.new.contents.fields;
      cases = c.default.new.contents.cases;
      behind_discriminant = c.declaration.new.self.word;
    } in
    let inside : GoesArms (stand c.skip-2.new.self c.declaration.new.contents)
    (stand c.arms.new.self c.arms.new.contents) arms = rw c.deref.ensures.value at c.in_ok-arms.ensures in
    let start : Passes c.args.self.now c.skip.new.self 2 = c.skip.ensures in
    subst (λ x. GoesInside c.args.self.now c.default.new.self x made) (sym (union_parts c.args.body.now))
    (inside_of c.args.self.now c.default.new.self (Union d arms other) c.new-contents.result made
    c.new-contents.ensures.fields c.new-contents.ensures.cases
    (goes_union d arms other (start _ _) c.in_ok-declaration.ensures (c.skip-2.ensures _ _) inside
    c.in_ok-default.ensures)
    (behind_union {a = stand c.args.self.now c.new-contents.result} d arms other
    (start _ _) c.in_ok-declaration.ensures))

use Rattle.std.proofs.Common.{◌≡◌, ◌+◌, ◌<◌, ◌∷◌, ◌++◌, [], Some, drop, length, map, ap, sym, subst, ◌∙◌}
use Rattle.std.proofs.lemmas.Result.{IfOk-weaker}
use Rattle.x_trees.specs.Tree as tree
use Rattle.x_trees.specs.Gloss.{lifted_name}
use Rattle.x_trees.specs.View.{view_type, view_shape, view_length, view_most, view_value, view_body}
use Rattle.x_trees.specs.View.{view_union, view_declaration, view_declarations, view_arms, view_default}
use Rattle.x_trees.specs.View.{view_enumerator}
use Rattle.x_trees.specs.declared.names.mention.Use.TheVariants as uses
use Rattle.x_trees.specs.declared.trees.declaration.Body.TheViews.{out-UnionBody}
use Rattle.x_trees.proofs.Rows.{struct_view, union_parts}
use Rattle.x_schema.specs.Schema.{form_at}
use Rattle.x_schema.specs.SchemaOf.{AreArms, AreFields, IsBody, IsDeclared, IsDefault, IsEnum, IsType}
use Rattle.x_schema.specs.SchemaOf.{as_typedef, basic_form, opaque_form, limit_in, place_named}
use Rattle.x_schema.specs.SchemaOf.{typedefs_inside, typedefs_of, typedefs_of_arms, typedefs_of_default}
use Rattle.x_schema.specs.SchemaOf.{typedefs_of_fields, typedefs_of_type, union_form}
use Rattle.x_schema.specs.SchemaMaking.{PutsAll, PutsPlace, PutsLink, AddsForm, AreSoundCases}
use Rattle.x_schema.specs.Sound.{AreSoundFields, IsSoundDefault}
use Rattle.x_schema.specs.declared.form.Form.TheVariants as forms
use Rattle.x_lists.proofs.ListLemmas.{drop_one, drop_none}
use Rattle.x_schema.proofs.MakerForms.{FieldsSoFar, held_basic, held_named, held_opaque, held_string, to_link}
use Rattle.x_schema.proofs.MakerForms.{to_named, optional, counted, fixed, plain, named_type, field_put}
use Rattle.x_schema.proofs.MakerForms.{fields_start, fields_more, fields_end, struct_put, arm_field}
use Rattle.x_schema.proofs.MakerArms.{ArmsSoFar, arms_start, arms_more, arms_end, default_some, union_put}
use Rattle.x_schema.proofs.maker.Maker.+maker.Goals as goal

pub arm-returns : goal.arm-returns
arm-returns t c =
    let known = c.args.known.now in
    let d = view_declaration c.args.declaration.now in
    arm_field known c.args.self.now c.field.new.self (typedefs_of c.args.around.now d) d c.in_ok-field.field-0
    (sym c.is_void.ensures ∙ c.if-is_void.false) c.in_ok-field.ensures

pub arms-loop-arm-init : goal.arms-loop-arm-init
arms-loop-arm-init t c lt g =
    let known = c.args.known.now in
    let all = view_arms c.args.arms.now in
    subst (λ es. ArmsSoFar known c.args.self.now c.args.self.now c.args.around.now c.args.discriminant es all
    all) (sym c.with_hasher-cases.ensures.empty)
    (arms_start known c.args.self.now c.args.around.now c.args.discriminant all g)

pub arms-loop-arm-preserved : goal.arms-loop-arm-preserved
arms-loop-arm-preserved t c lt g =
    let known = c.args.known.now in
    let i = c.loop-arm.arm-index in
    let all = c.args.arms.now in
    let item = c.arm-item.result in
    let rest = drop (i + 1) all in
    let front : drop i all ≡ item ∷ rest = drop_one all i item c.loop-arm-test.true
    ∙ ap (λ x. x ∷ rest) (sym c.arm-item.is) in
    let before : ArmsSoFar known c.args.self.now c.loop-arm.self c.args.around.now c.args.discriminant
    c.loop-arm.cases.entries
    (tree.arm (map view_value item.cases.items) (view_declaration item.declaration) (view_arms rest))
    (view_arms all) =
    subst (λ xs. ArmsSoFar known c.args.self.now c.loop-arm.self c.args.around.now c.args.discriminant
    c.loop-arm.cases.entries (view_arms xs) (view_arms all)) front (c.loop-arm.invariant lt g) in
    arms_more known c.args.self.now c.loop-arm.self c.arm.new.self c.args.around.now c.args.discriminant
    c.loop-arm.cases.entries c.cases-in-loop-arm.new.cases.entries
    (map view_value item.cases.items) (view_declaration item.declaration) c.in_ok-held.held (view_arms rest)
    (view_arms all) lt before c.in_ok-held.ensures
    (rw c.constants.ensures at (rw c.deref.ensures.value at c.in_ok-cases.ensures))

pub arms-returns : goal.arms-returns
arms-returns t c lt g =
    let known = c.args.known.now in
    let all = c.args.arms.now in
    arms_end known c.args.self.now c.loop-arm.self c.args.around.now c.args.discriminant
    c.loop-arm.cases.entries (view_arms all)
    (subst (λ xs. ArmsSoFar known c.args.self.now c.loop-arm.self c.args.around.now c.args.discriminant
    c.loop-arm.cases.entries (view_arms xs) (view_arms all))
    (drop_none all c.loop-arm.arm-index c.loop-arm-test.false) (c.loop-arm.invariant lt g))

pub body-returns-in-Enum : goal.body-returns-in-Enum
body-returns-in-Enum t c =
    let known = c.args.known.now in
    IfOk-weaker c.enum_body.result _ _
    (λ place x. let es : PutsPlace known c.args.self.now c.enum_body.new.self [] place
    (λ s at. IsEnum s known.numbers (map view_enumerator c.in-Enum.enumerators.items) at) =
    rw c.deref.ensures.value at x in
    subst (λ b. PutsPlace known c.args.self.now c.enum_body.new.self
    (typedefs_inside c.args.around.now (view_body b)) place (λ s at. IsBody s known (view_body b) at))
    (sym c.in-Enum.is) es)
    c.enum_body.ensures

pub body-returns-in_ok-fields-in-Struct : goal.body-returns-in_ok-fields-in-Struct
body-returns-in_ok-fields-in-Struct t c =
    let known = c.args.known.now in
    let around = c.args.around.now in
    let ds = view_declarations c.in-Struct.declarations.items in
    let fields = c.in_ok-fields-in-Struct.fields in
    let is : view_body c.args.body.now ≡ tree.Struct ds = ap view_body c.in-Struct.is
    ∙ struct_view c.in-Struct.declarations in
    let put : PutsAll known c.args.self.now c.fields.new.self (typedefs_of_fields around ds)
    (λ n i s. AreFields s known ds fields.items × AreSoundFields n i fields.items) =
    rw c.deref-in-Struct.ensures.value at c.in_ok-fields-in-Struct.ensures in
    IfOk-weaker c.form.result _ _
    (λ place x. subst (λ b. PutsPlace known c.args.self.now c.form.new.self (typedefs_inside around b) place
    (λ s at. IsBody s known b at)) (sym is)
    (struct_put known c.args.self.now c.fields.new.self c.form.new.self (typedefs_of_fields around ds) ds
    fields place put x))
    c.form.ensures

pub body-returns-in-Union : goal.body-returns-in-Union
body-returns-in-Union t c =
    let known = c.args.known.now in
    let around = c.args.around.now in
    IfOk-weaker c.union.result _ _
    (λ place x. let put : PutsPlace known c.args.self.now c.union.new.self
    (typedefs_inside around (view_union c.in-Union.body.value)) place
    (λ s at. IsBody s known (view_union c.in-Union.body.value) at) = rw c.deref-in-Union.ensures at x in
    subst (λ b. PutsPlace known c.args.self.now c.union.new.self (typedefs_inside around (view_body b)) place
    (λ s at. IsBody s known (view_body b) at)) (sym c.in-Union.is) put)
    c.union.ensures

pub declaration-returns-in-Of : goal.declaration-returns-in-Of
declaration-returns-in-Of t c =
    let known = c.args.known.now in
    let around = c.args.around.now in
    let type = view_type c.in-Of.data in
    let shape = view_shape c.in-Of.shape in
    IfOk-weaker c.shaped.result _ _
    (λ place x. let put : PutsPlace known c.args.self.now c.shaped.new.self
    (typedefs_of_type (lifted_name around c.in-Of.name.items) type) place
    (λ s at. IsDeclared s known (tree.Of type c.in-Of.name.items shape) at) = rw c.deref.ensures at x in
    subst (λ d. PutsPlace known c.args.self.now c.shaped.new.self (typedefs_of around (view_declaration d))
    place (λ s at. IsDeclared s known (view_declaration d) at)) (sym c.in-Of.is) put)
    c.shaped.ensures

pub declaration-returns-in-Opaque : goal.declaration-returns-in-Opaque
declaration-returns-in-Opaque t c =
    let known = c.args.known.now in
    let around = c.args.around.now in
    let size = view_length c.in-Opaque.length in
    IfOk-weaker c.form.result _ _
    (λ place x. let add : AddsForm c.args.self.now c.form.new.self (opaque_form known.numbers size) place =
    rw c.constants.ensures at (rw c.opaque_form.ensures at x) in
    subst (λ d. PutsPlace known c.args.self.now c.form.new.self (typedefs_of around (view_declaration d))
    place (λ s at. IsDeclared s known (view_declaration d) at)) (sym c.in-Opaque.is)
    (held_opaque known c.args.self.now c.form.new.self size place add))
    c.form.ensures

pub declaration-returns-in-String : goal.declaration-returns-in-String
declaration-returns-in-String t c =
    let known = c.args.known.now in
    let around = c.args.around.now in
    let most = view_most c.in-String.most in
    IfOk-weaker c.form-in-String.result _ _
    (λ place x. let add : AddsForm c.args.self.now c.form-in-String.new.self
    (forms.String (limit_in known.numbers most)) place =
    rw c.constants-in-String.ensures at (rw c.limit.ensures at x) in
    subst (λ d. PutsPlace known c.args.self.now c.form-in-String.new.self
    (typedefs_of around (view_declaration d)) place (λ s at. IsDeclared s known (view_declaration d) at))
    (sym c.in-String.is)
    (held_string known c.args.self.now c.form-in-String.new.self (limit_in known.numbers most) place add))
    c.form-in-String.ensures

pub default-returns-in_ok-arm-in-Some : goal.default-returns-in_ok-arm-in-Some
default-returns-in_ok-arm-in-Some t c =
    let known = c.args.known.now in
    let around = c.args.around.now in
    let d = view_declaration c.in-Some.declaration in
    subst (λ other. PutsAll known c.args.self.now c.arm.new.self
    (typedefs_of_default around (view_default other))
    (λ n i s. IsDefault s known (view_default other) (Some c.in_ok-arm-in-Some.field-0)
    × IsSoundDefault n i (Some c.in_ok-arm-in-Some.field-0)))
    (sym c.in-Some.is)
    (default_some known c.args.self.now c.arm.new.self (typedefs_of around d) d c.in_ok-arm-in-Some.field-0
    c.in_ok-arm-in-Some.ensures)

pub field-returns : goal.field-returns
field-returns t c =
    let known = c.args.known.now in
    let around = c.args.around.now in
    let d = view_declaration c.args.declaration.now in
    field_put known c.args.self.now c.declaration.new.self c.name-2.new.self (typedefs_of around d) d
    c.name.result.now c.in_ok-name.name c.in_ok-form.form c.name.ensures c.in_ok-form.ensures
    c.in_ok-name.ensures

pub fields-loop-declaration-init : goal.fields-loop-declaration-init
fields-loop-declaration-init t c g =
    let known = c.args.known.now in
    let ds = view_declarations c.args.declarations.now in
    subst (λ fs. FieldsSoFar known c.args.self.now c.args.self.now c.args.around.now fs ds ds)
    (sym c.in_ok-fields.ensures.items)
    (fields_start known c.args.self.now c.args.around.now ds g)

pub fields-loop-declaration-preserved : goal.fields-loop-declaration-preserved
fields-loop-declaration-preserved t c g =
    let known = c.args.known.now in
    let around = c.args.around.now in
    let i = c.loop-declaration.declaration-index in
    let all = c.args.declarations.now in
    let item = c.declaration-item.result in
    let rest = drop (i + 1) all in
    let front : drop i all ≡ item ∷ rest = drop_one all i item c.loop-declaration-test.true
    ∙ ap (λ x. x ∷ rest) (sym c.declaration-item.is) in
    let before : FieldsSoFar known c.args.self.now c.loop-declaration.self around
    c.loop-declaration.fields.items (tree.more (view_declaration item) (view_declarations rest))
    (view_declarations all) =
    subst (λ xs. FieldsSoFar known c.args.self.now c.loop-declaration.self around
    c.loop-declaration.fields.items (view_declarations xs) (view_declarations all)) front
    (c.loop-declaration.invariant g) in
    subst (λ fs. FieldsSoFar known c.args.self.now c.field.new.self around fs (view_declarations rest)
    (view_declarations all)) (sym c.in_ok-push.ensures.items)
    (fields_more known c.args.self.now c.loop-declaration.self c.field.new.self around
    c.loop-declaration.fields.items (view_declaration item) c.in_ok-field.field-0 (view_declarations rest)
    (view_declarations all) before c.in_ok-field.ensures)

pub fields-returns : goal.fields-returns
fields-returns t c g =
    let known = c.args.known.now in
    let around = c.args.around.now in
    let all = c.args.declarations.now in
    fields_end known c.args.self.now c.loop-declaration.self around c.loop-declaration.fields.items
    (view_declarations all)
    (subst (λ xs. FieldsSoFar known c.args.self.now c.loop-declaration.self around
    c.loop-declaration.fields.items (view_declarations xs) (view_declarations all))
    (drop_none all c.loop-declaration.declaration-index c.loop-declaration-test.false)
    (c.loop-declaration.invariant g))

pub inner_type-returns-in-Basic : goal.inner_type-returns-in-Basic
inner_type-returns-in-Basic t c =
    let known = c.args.known.now in
    let lifted = lifted_name c.args.around.now c.args.name.now in
    IfOk-weaker c.form.result _ _
    (λ place x. let add : AddsForm c.args.self.now c.form.new.self (basic_form c.in-Basic.basic) place =
    rw c.basic_form.ensures at x in
    subst (λ d. PutsPlace known c.args.self.now c.form.new.self (typedefs_of_type lifted (view_type d)) place
    (λ s at. IsType s known (view_type d) uses.ByValue at)) (sym c.in-Basic.is)
    (held_basic known c.args.self.now c.form.new.self c.in-Basic.basic place add))
    c.form.ensures

pub inner_type-returns-in-Named : goal.inner_type-returns-in-Named
inner_type-returns-in-Named t c =
    let known = c.args.known.now in
    let lifted = lifted_name c.args.around.now c.args.name.now in
    let name = c.in-Named.name.items in
    let is : c.place.result ≡ place_named known.types name = rw c.deref.ensures at c.place.ensures in
    subst (λ d. PutsPlace known c.args.self.now c.args.self.now (typedefs_of_type lifted (view_type d))
    c.place.result (λ s at. IsType s known (view_type d) uses.ByValue at)) (sym c.in-Named.is)
    (held_named known c.args.self.now name c.place.result is)

pub inner_type-returns-in-Tagged : goal.inner_type-returns-in-Tagged
inner_type-returns-in-Tagged t c =
    let known = c.args.known.now in
    let lifted = lifted_name c.args.around.now c.args.name.now in
    let name = c.in-Tagged.name.items in
    let is : c.place-in-Tagged.result ≡ place_named known.types name =
    rw c.deref-in-Tagged.ensures at c.place-in-Tagged.ensures in
    subst (λ d. PutsPlace known c.args.self.now c.args.self.now (typedefs_of_type lifted (view_type d))
    c.place-in-Tagged.result (λ s at. IsType s known (view_type d) uses.ByValue at)) (sym c.in-Tagged.is)
    (held_named known c.args.self.now name c.place-in-Tagged.result is)

pub inner_type-returns-in-Inline : goal.inner_type-returns-in-Inline
inner_type-returns-in-Inline t c =
    let known = c.args.known.now in
    let lifted = lifted_name c.args.around.now c.args.name.now in
    let body = view_body c.in-Inline.body.value in
    IfOk-weaker c.inline.result _ _
    (λ place x. let put : PutsPlace known c.args.self.now c.inline.new.self
    (typedefs_inside lifted body ++ as_typedef lifted body ∷ []) place (λ s at. IsBody s known body at) =
    rw c.deref-in-Inline.ensures at x in
    subst (λ d. PutsPlace known c.args.self.now c.inline.new.self (typedefs_of_type lifted (view_type d))
    place (λ s at. IsType s known (view_type d) uses.ByValue at)) (sym c.in-Inline.is) put)
    c.inline.ensures

pub inline-returns : goal.inline-returns
inline-returns t c =
    let known = c.args.known.now in
    let body = view_body c.args.body.now in
    IfOk-weaker c.named_body.result _ _
    (λ place x. subst (λ lifted. PutsPlace known c.args.self.now c.named_body.new.self
    (typedefs_inside lifted body ++ as_typedef lifted body ∷ []) place (λ s at. IsBody s known body at))
    (c.deref.ensures.value ∙ c.in_ok-lifted.ensures) x)
    c.named_body.ensures

pub linked-returns-in_ok-place-in-Basic : goal.linked-returns-in_ok-place-in-Basic
linked-returns-in_ok-place-in-Basic t c =
    let known = c.args.known.now in
    let lifted = lifted_name c.args.around.now c.args.name.now in
    let basic = c.in-Basic.basic in
    let place = c.in_ok-place-in-Basic.place in
    let add : AddsForm c.args.self.now c.form.new.self (basic_form basic) place =
    rw c.basic_form.ensures at c.in_ok-place-in-Basic.ensures in
    IfOk-weaker c.link.result _ _
    (λ link x. subst
    (λ d. PutsLink known c.args.self.now c.link.new.self (typedefs_of_type lifted (view_type d)) link
    (λ s at. IsType s known (view_type d) uses.Link at)) (sym c.in-Basic.is)
    (to_link known c.args.self.now c.form.new.self c.link.new.self []
    (λ s at. form_at s at ≡ basic_form basic) place link
    (held_basic known c.args.self.now c.form.new.self basic place add) x))
    c.link.ensures

pub linked-returns-in-Named : goal.linked-returns-in-Named
linked-returns-in-Named t c =
    let known = c.args.known.now in
    let lifted = lifted_name c.args.around.now c.args.name.now in
    IfOk-weaker c.link-in-Named.result _ _
    (λ link x. let put : PutsLink known c.args.self.now c.link-in-Named.new.self [] link
    (λ s at. IsType s known (tree.Name c.in-Named.name.items) uses.Link at) =
    rw c.deref.ensures at (to_named known c.args.self.now c.link-in-Named.new.self c.deref.result link x) in
    subst (λ d. PutsLink known c.args.self.now c.link-in-Named.new.self
    (typedefs_of_type lifted (view_type d)) link (λ s at. IsType s known (view_type d) uses.Link at))
    (sym c.in-Named.is) put)
    c.link-in-Named.ensures

pub linked-returns-in-Tagged : goal.linked-returns-in-Tagged
linked-returns-in-Tagged t c =
    let known = c.args.known.now in
    let lifted = lifted_name c.args.around.now c.args.name.now in
    IfOk-weaker c.link-in-Tagged.result _ _
    (λ link x. let put : PutsLink known c.args.self.now c.link-in-Tagged.new.self [] link
    (λ s at. IsType s known (tree.Tagged c.in-Tagged.tag c.in-Tagged.name.items) uses.Link at) =
    rw c.deref-in-Tagged.ensures at
    (to_named known c.args.self.now c.link-in-Tagged.new.self c.deref-in-Tagged.result link x) in
    subst (λ d. PutsLink known c.args.self.now c.link-in-Tagged.new.self
    (typedefs_of_type lifted (view_type d)) link (λ s at. IsType s known (view_type d) uses.Link at))
    (sym c.in-Tagged.is) put)
    c.link-in-Tagged.ensures

pub linked-returns-in_ok-place-in-Inline : goal.linked-returns-in_ok-place-in-Inline
linked-returns-in_ok-place-in-Inline t c =
    let known = c.args.known.now in
    let lifted = lifted_name c.args.around.now c.args.name.now in
    let body = view_body c.in-Inline.body.value in
    let place = c.in_ok-place-in-Inline.place in
    let put : PutsPlace known c.args.self.now c.inline.new.self
    (typedefs_inside lifted body ++ as_typedef lifted body ∷ []) place (λ s at. IsBody s known body at) =
    rw c.deref-in-Inline.ensures at c.in_ok-place-in-Inline.ensures in
    IfOk-weaker c.link-in-Inline.result _ _
    (λ link x. subst
    (λ d. PutsLink known c.args.self.now c.link-in-Inline.new.self (typedefs_of_type lifted (view_type d))
    link (λ s at. IsType s known (view_type d) uses.Link at)) (sym c.in-Inline.is)
    (to_link known c.args.self.now c.inline.new.self c.link-in-Inline.new.self (typedefs_inside lifted body
    ++ as_typedef lifted body ∷ []) (λ s at. IsBody s known body at) place link put x))
    c.link-in-Inline.ensures

pub named_body-returns : goal.named_body-returns
named_body-returns t c =
    named_type c.args.known.now c.args.self.now c.body.new.self c.add_named_type.new.self c.args.name.now
    (view_body c.args.body.now) c.in_ok-place.place c.in_ok-place.ensures c.in_ok-add_named_type.ensures

pub shaped-returns-in-Plain : goal.shaped-returns-in-Plain
shaped-returns-in-Plain t c =
    let known = c.args.known.now in
    let type = view_type c.args.held.now in
    let name = c.args.name.now in
    let N = typedefs_of_type (lifted_name c.args.around.now name) type in
    IfOk-weaker c.inner_type.result _ _
    (λ place x. subst (λ d. PutsPlace known c.args.self.now c.inner_type.new.self N place
    (λ s at. IsDeclared s known (tree.Of type name (view_shape d)) at)) (sym c.in-Plain.is)
    (plain known c.args.self.now c.inner_type.new.self N type name place x))
    c.inner_type.ensures

pub shaped-returns-in_ok-link-in-Optional : goal.shaped-returns-in_ok-link-in-Optional
shaped-returns-in_ok-link-in-Optional t c =
    let known = c.args.known.now in
    let type = view_type c.args.held.now in
    let name = c.args.name.now in
    let N = typedefs_of_type (lifted_name c.args.around.now name) type in
    IfOk-weaker c.form.result _ _
    (λ place x. subst (λ d. PutsPlace known c.args.self.now c.form.new.self N place
    (λ s at. IsDeclared s known (tree.Of type name (view_shape d)) at)) (sym c.in-Optional.is)
    (optional known c.args.self.now c.linked.new.self c.form.new.self N type name
    c.in_ok-link-in-Optional.link place c.in_ok-link-in-Optional.ensures x))
    c.form.ensures

pub shaped-returns-in_ok-of-in-Fixed : goal.shaped-returns-in_ok-of-in-Fixed
shaped-returns-in_ok-of-in-Fixed t c =
    let known = c.args.known.now in
    let type = view_type c.args.held.now in
    let name = c.args.name.now in
    let N = typedefs_of_type (lifted_name c.args.around.now name) type in
    let is : view_shape c.args.shape.now ≡ tree.Array (tree.Fixed (view_value c.in-Fixed.size)) =
    ap view_shape c.in-Array.is ∙ ap (λ l. tree.Array (view_length l)) c.in-Fixed.is in
    IfOk-weaker c.form-in-Fixed.result _ _
    (λ place x. subst (λ d. PutsPlace known c.args.self.now c.form-in-Fixed.new.self N place
    (λ s at. IsDeclared s known (tree.Of type name d) at)) (sym is)
    (fixed known c.args.self.now c.inner_type-in-Fixed.new.self c.form-in-Fixed.new.self N type name
    (view_value c.in-Fixed.size) c.in_ok-of-in-Fixed.of place c.size.result
    (rw c.constants.ensures at c.size.ensures) c.in_ok-of-in-Fixed.ensures x))
    c.form-in-Fixed.ensures

pub shaped-returns-in_ok-link-in-Variable : goal.shaped-returns-in_ok-link-in-Variable
shaped-returns-in_ok-link-in-Variable t c =
    let known = c.args.known.now in
    let type = view_type c.args.held.now in
    let name = c.args.name.now in
    let N = typedefs_of_type (lifted_name c.args.around.now name) type in
    let is : view_shape c.args.shape.now ≡ tree.Array (tree.Variable (view_most c.in-Variable.most)) =
    ap view_shape c.in-Array.is ∙ ap (λ l. tree.Array (view_length l)) c.in-Variable.is in
    IfOk-weaker c.form-in-Variable.result _ _
    (λ place x. subst (λ d. PutsPlace known c.args.self.now c.form-in-Variable.new.self N place
    (λ s at. IsDeclared s known (tree.Of type name d) at)) (sym is)
    (counted known c.args.self.now c.linked-in-Variable.new.self c.form-in-Variable.new.self N type name
    (view_most c.in-Variable.most) c.in_ok-link-in-Variable.link place c.limit.result
    (rw c.constants-in-Variable.ensures at c.limit.ensures) c.in_ok-link-in-Variable.ensures x))
    c.form-in-Variable.ensures

pub union-returns : goal.union-returns
union-returns t c =
    let known = c.args.known.now in
    let around = c.args.around.now in
    let u = out-UnionBody c.args.body.now in
    let d = view_declaration u.discriminant in
    let all = view_arms u.arms.items in
    let other = view_default u.default in
    let field = c.in_ok-discriminant.discriminant in
    let cases = c.in_ok-cases.cases.entries in
    let chosen : field.form < length c.field.new.self.forms.items
    → PutsAll known c.field.new.self c.arms.new.self (typedefs_of_arms around all)
    (λ n i s. AreArms s known (form_at s field.form) all [] cases
    × AreSoundCases n i (form_at s field.form) cases) =
    rw c.deref.ensures.value at c.in_ok-cases.ensures in
    IfOk-weaker c.form.result _ _
    (λ place x. let add : AddsForm c.default.new.self c.form.new.self
    (union_form field (record { cases = cases; default = c.in_ok-default.default })) place =
    rw c.union_form.ensures at x in
    subst (λ b. PutsPlace known c.args.self.now c.form.new.self (typedefs_inside around b) place
    (λ s at. IsBody s known b at)) (sym (union_parts c.args.body.now))
    (union_put known c.args.self.now c.field.new.self c.arms.new.self c.default.new.self c.form.new.self
    around d all other field cases c.in_ok-default.default place
    c.in_ok-discriminant.ensures chosen c.in_ok-default.ensures add))
    c.form.ensures

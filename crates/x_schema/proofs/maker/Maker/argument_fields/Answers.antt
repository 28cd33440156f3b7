use Rattle.std.proofs.Common.{◌≡◌, length, Some, ◌+◌, ◌∷◌, drop, map, ap, sym, subst, ◌∙◌}
use Rattle.x_trees.specs.View.{view_argument, view_passed}
use Rattle.x_schema.specs.ProcedureMaking.{PutsField}
use Rattle.x_schema.specs.ProceduresOf.{IsArgumentField}
use Rattle.x_lists.proofs.ListLemmas.{drop_one, drop_none}
use Rattle.x_schema.proofs.ProcedureLemmas.{FieldsPut, fields_end, fields_first, fields_more}
use Rattle.x_schema.proofs.maker.Maker.argument_fields.Goals as goal

pub loop-other-init : goal.loop-other-init
loop-other-init c =
    let known = c.args.known.now in
    let first = view_passed c.args.first.now in
    let all = map view_argument c.args.others.now in
    subst (λ fs. FieldsPut known c.args.self.now c.first_field.new.self first fs all all)
    (sym c.in_ok-fields.ensures)
    (fields_first known c.args.self.now c.first_field.new.self first c.in_ok-first_field.field-0 all
    c.in_ok-first_field.ensures)

pub loop-other-preserved : goal.loop-other-preserved
loop-other-preserved c =
    let known = c.args.known.now in
    let first = view_passed c.args.first.now in
    let i = c.loop-other.other-index in
    let all = c.args.others.now in
    let item = c.other-item.result in
    let rest = drop (i + 1) all in
    let front : drop i all ≡ item ∷ rest = drop_one all i item c.loop-other-test.true
    ∙ ap (λ x. x ∷ rest) (sym c.other-item.is) in
    let before : FieldsPut known c.args.self.now c.loop-other.self first c.loop-other.fields.items
    (view_argument item ∷ map view_argument rest) (map view_argument all) =
    subst (λ xs. FieldsPut known c.args.self.now c.loop-other.self first c.loop-other.fields.items
    (map view_argument xs) (map view_argument all)) front c.loop-other.invariant in
    let put : PutsField known c.loop-other.self c.other_field.new.self c.in_ok-other_field.field-0
    (λ s. IsArgumentField s (length c.loop-other.fields.items + 1) (Some (view_argument item))
    c.in_ok-other_field.field-0) =
    rw (c.len.ensures ∙ c.loop-other.fields.ok.0) at c.in_ok-other_field.ensures in
    subst (λ fs. FieldsPut known c.args.self.now c.other_field.new.self first fs (map view_argument rest)
    (map view_argument all)) (sym c.in_ok-push.ensures.items)
    (fields_more known c.args.self.now c.loop-other.self c.other_field.new.self first
    c.loop-other.fields.items (view_argument item) c.in_ok-other_field.field-0 (map view_argument rest)
    (map view_argument all)
    before put)

pub returns : goal.returns
returns c =
    let known = c.args.known.now in
    let first = view_passed c.args.first.now in
    let all = c.args.others.now in
    fields_end known c.args.self.now c.loop-other.self first c.loop-other.fields.items (map view_argument all)
    (subst (λ xs. FieldsPut known c.args.self.now c.loop-other.self first c.loop-other.fields.items
    (map view_argument xs) (map view_argument all))
    (drop_none all c.loop-other.other-index c.loop-other-test.false) c.loop-other.invariant)

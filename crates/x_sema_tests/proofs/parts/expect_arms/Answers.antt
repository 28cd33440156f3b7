use Rattle.std.proofs.Common.{◌<◌, Some, length, ap, sym, subst, ◌∙◌, arith}
use Rattle.x_schema.specs.Sound.{IsSoundForm, IsSoundField, IsSoundUnion}
use Rattle.x_schema.specs.declared.form.Arm.TheVariants as arms
use Rattle.x_sema_tests.proofs.parts.expect_arms.Goals as goal

pub name-requires-2 : goal.name-requires-2
name-requires-2 g c =
    let s = c.args.schema.now in
    let i = c.in-Some.id.form in
    let union : IsSoundUnion s i c.in-Union.discriminant c.in-Union.arms =
    subst (IsSoundForm s i) (sym c.form.ensures.form ∙ c.in-Union.is)
    (c.form.ensures.sound.forms i c.form.ensures.within) in
    let field : IsSoundField (length s.names) i c.in-Some-eq1-Of.next =
    union.arms _ (arms.Of c.in-Some-eq1-Of.next)
    (c.in-Some-eq1-Of.ensures.chosen ∙ ap Some c.in-Some-eq1-Of.field-0-1-is) in
    field.name

pub form_at-requires-2 : goal.form_at-requires-2
form_at-requires-2 g c =
    let s = c.args.schema.now in
    let i = c.in-Some.id.form in
    let within = c.form.ensures.within in
    let union : IsSoundUnion s i c.in-Union.discriminant c.in-Union.arms =
    subst (IsSoundForm s i) (sym c.form.ensures.form ∙ c.in-Union.is) (c.form.ensures.sound.forms i within) in
    let field : IsSoundField (length s.names) i c.in-Some-eq1-Of.next =
    union.arms _ (arms.Of c.in-Some-eq1-Of.next)
    (c.in-Some-eq1-Of.ensures.chosen ∙ ap Some c.in-Some-eq1-Of.field-0-1-is) in
    let inside = field.form in
    omega (arith, within, inside)

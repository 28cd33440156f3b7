use Rattle.std.proofs.Common.{◌≡◌, ◌<◌, ◌^◌, ◌∙◌, arith, map, subst, sym}
use Rattle.std.proofs.lemmas.Bool.{not-false}
use Rattle.std.proofs.lemmas.Result.{IfOk-weaker}
use Rattle.x_trees.specs.View.{tree_at}
use Rattle.x_names.specs.DeclarerTable.{first_in}
use Rattle.x_compile.specs.Compile.{definitions_of}
use Rattle.x_compile.specs.Known.{known_names}
use Rattle.x_session.specs.Session.{Compiles}
use Rattle.x_session.proofs.DeclaredLemmas.{of_each}
use Rattle.x_prelude.specs.Reaching.{AreNamesOf, IsFirstLed}
use Rattle.x_prelude.proofs.LeadingLemmas.{names_of, none_found, use_found, within_text}
use Rattle.x_prelude.proofs.leading.foreign_use.Goals as goal

pub first_led-requires-clause-within : goal.first_led-requires-clause-within
first_led-requires-clause-within c =
    let text = c.args.session.now.text in
    within_text text c.deref.result.now (first_in c.in_ok-names.names) c.in_ok-names.ensures
    (subst (λ l. Compiles c.args.session.now.known text (λ items. map tree_at l ≡ definitions_of items))
    (sym c.deref.ensures.value) c.in_ok-definitions.ensures)

pub first_led-requires-clause-from : goal.first_led-requires-clause-from
first_led-requires-clause-from c =
    let text = c.args.session.now.text in
    within_text text c.deref.result.now (first_in c.in_ok-names.names) c.in_ok-names.ensures
    (subst (λ l. Compiles c.args.session.now.known text (λ items. map tree_at l ≡ definitions_of items))
    (sym c.deref.ensures.value) c.in_ok-definitions.ensures) c.args.name.now c.in-Some.declarer
    (sym c.first.ensures ∙ c.in-Some.is)

pub returns : goal.returns
returns c =
    let text = c.args.session.now.text in
    let own = known_names c.args.known.now in
    let definitions = c.in_ok-definitions.definitions.items in
    let first = first_in c.in_ok-names.names in
    let at = c.in-Some.declarer in
    let few : c.token_count.result < 2 ^ 64 = omega arith in
    let all = c.in_ok-definitions.ensures in
    let named = names_of text definitions first c.token_count.result few c.token_count.ensures
    c.in_ok-names.ensures all in
    let led = subst (λ l. AreNamesOf (map tree_at l) first
    → IsFirstLed c.args.from_c own (map tree_at l) at.item c.in_ok-item.field-0)
    c.deref.ensures.value c.in_ok-item.ensures named in (
      all.0,
      all.1,
      all.2,
      none_found own c.args.from_c text all.1 c.args.name.now definitions first led.is_led at
          (not-false c.args.from_c.foreign c.if-not-from_c.false) (sym c.first.ensures ∙ c.in-Some.is) all.3
          (of_each text c.in_ok-names.ensures all.0 all.1 all.2) led.led (sym c.in-None.is ∙ led.first),
    )

pub returns-in-Some-2 : goal.returns-in-Some-2
returns-in-Some-2 c =
    let text = c.args.session.now.text in
    let own = known_names c.args.known.now in
    let definitions = c.in_ok-definitions.definitions.items in
    let first = first_in c.in_ok-names.names in
    let at = c.in-Some.declarer in
    let few : c.token_count.result < 2 ^ 64 = omega arith in
    let named = names_of text definitions first c.token_count.result few c.token_count.ensures
    c.in_ok-names.ensures c.in_ok-definitions.ensures in
    let led = subst (λ l. AreNamesOf (map tree_at l) first
    → IsFirstLed c.args.from_c own (map tree_at l) at.item c.in_ok-item.field-0)
    c.deref.ensures.value c.in_ok-item.ensures named in
    IfOk-weaker c.spot_in.result _ _ (λ spot table.
    let items = table.1 in
    let are = of_each text c.in_ok-definitions.ensures table.0 items table.2 in (
      table.0,
      items,
      table.2,
      use_found own c.args.from_c text items c.args.name.now definitions first led.is_led at
          c.in-Some-2.item c.in-Some-2.word spot (not-false c.args.from_c.foreign c.if-not-from_c.false)
          (sym c.first.ensures ∙ c.in-Some.is) are
          (of_each text c.in_ok-names.ensures table.0 items table.2) led.led
          (sym c.in-Some-2.is ∙ led.first) table.3,
    )) c.spot_in.ensures

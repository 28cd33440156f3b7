use Rattle.std.proofs.Common.{◌≡◌, false, [], ◌∷◌, ◌++◌, Option, Some, refl, sym, ap, subst, ◌∙◌}
use Rattle.std.specs.Option.{option_or}
use Rattle.std.specs.Str.{bytes_eq}
use Rattle.std.proofs.lemmas.Slice.Eq.{bytes_eq-Decides}
use Rattle.x_clash.specs.Given.{Macro}
use Rattle.x_clash.specs.Firsts.{AreFirsts}
use Rattle.x_clash.specs.declared.firsts.FirstMacro.{FirstMacro}
use Rattle.x_clash.specs.declared.firsts.Firsts.{Firsts}
use Rattle.x_clash.proofs.FirstLemmas.{with_first_macro, with_other_macro, with_same_macro}
use Rattle.x_clash.proofs.firsts.Firsts.with_macro.Goals as goal

pub returns-in-None : goal.returns-in-None
returns-in-None c things t place sort are =
    with_first_macro t.given.name things t c.args.self
    (record { place = c.args.place; text = c.args.text }) refl sort
    (sym place) c.in-None.is are

pub returns-in-Some : goal.returns-in-Some
returns-in-Some c things t place sort are =
    let same : c.in-Some.first.text.now ≡ c.args.text.now =
    (bytes_eq-Decides c.in-Some.first.text.now c.args.text.now).0
    (ap (λ (m : FirstMacro). bytes_eq m.text.now c.args.text.now) (sym c.in-Some.first-is) ∙ sym c.eq.ensures
    ∙ c.if-eq.true) in
    with_same_macro t.given.name things t c.args.self c.in-Some.first refl (sort ∙ ap Macro (sym same))
    c.in-Some.is are

pub returns-in-Some-2 : goal.returns-in-Some-2
returns-in-Some-2 c things t place sort are =
    let differs : bytes_eq c.in-Some.first.text.now c.args.text.now ≡ false =
    ap (λ (m : FirstMacro). bytes_eq m.text.now c.args.text.now) (sym c.in-Some.first-is) ∙ sym c.eq.ensures
    ∙ c.if-eq.false in
    let more : c.or.result
    ≡ option_or c.args.self.other_macro (Some (record { item = t.item; word = t.given.word })) =
    c.or.ensures ∙ ap (λ p. option_or c.args.self.other_macro (Some p)) (sym place) in
    let all = with_other_macro t.given.name things t c.args.self c.in-Some.first c.args.text.now
    c.or.result refl sort
    c.in-Some.is differs more are in
    let P : Option FirstMacro → Type 0 = λ x. AreFirsts t.given.name (things ++ t ∷ [])
    (record {
      first_macro = x;
      other_macro = c.or.result;
      at_file_scope = c.args.self.at_file_scope;
      member = c.args.self.member;
    }) in
    subst P c.in-Some-2.is all

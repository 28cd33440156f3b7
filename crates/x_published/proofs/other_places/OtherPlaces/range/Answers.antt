use Rattle.std.proofs.Common.{◌∙◌, sym, subst}
use Rattle.std.specs.Prelude.{IfSome}
use Rattle.x_session.specs.Session.{Compiles}
use Rattle.x_explain.specs.Facts.{AreNamesOf, name_of}
use Rattle.x_published.specs.Diagnostics.{IsRangeAt, declared_elsewhere}
use Rattle.x_published.proofs.PlaceTableLemmas.{is_beside}
use Rattle.x_published.proofs.other_places.OtherPlaces.range.Goals as goal

pub returns-in-Some-clause-range : goal.returns-in-Some-clause-range
returns-in-Some-clause-range c =
    let s = c.args.self.now in
    let e = s.marks.now.encoding in
    let front = s.text.now in
    let text = s.session.now.text in
    let start = c.args.start in
    let names = c.in-Some.names in
    let found = c.declared_range.result in
    let made : Compiles s.session.now.known text (λ items. AreNamesOf text items names) =
    subst (λ o. IfSome o (λ names. Compiles s.session.now.known text
    (λ items. AreNamesOf text items names))) c.in-Some.is c.requires.of_text in
    is_beside e front text s.shown c.args.code c.args.word.now start names found c.if-not-self.false
    (sym c.is_of_declarer.ensures ∙ c.if-not-is_of_declarer.false) made
    (λ items is.
    let named = c.name-name.ensures text items is in
    let ranged = c.declared_range.ensures items (subst (λ t. AreNamesOf t items names)
    (sym c.bytes.ensures) is) in
    subst (λ t. IsRangeAt e front t (declared_elsewhere items
    (name_of items c.args.code start c.args.word.now) start) found) c.bytes.ensures
    (subst (λ n. IsRangeAt e front c.bytes.result.now (declared_elsewhere items n start) found) named ranged))

pub returns-clause-range : goal.returns-clause-range
returns-clause-range c =
    let s = c.args.self.now in
    let e = s.marks.now.encoding in
    let front = s.text.now in
    let text = s.session.now.text in
    let start = c.args.start in
    let names = c.in_ok-names.names in
    let found = c.declared_range-range.result in
    is_beside e front text s.shown c.args.code c.args.word.now start names found c.if-not-self.false
    (sym c.is_of_declarer.ensures ∙ c.if-not-is_of_declarer.false) c.in_ok-names.ensures
    (λ items is.
    let named = c.name-name-2.ensures text items is in
    let ranged = c.declared_range-range.ensures items
    (subst (λ t. AreNamesOf t items names) (sym c.bytes-2.ensures) is) in
    subst (λ t. IsRangeAt e front t (declared_elsewhere items
    (name_of items c.args.code start c.args.word.now) start) found) c.bytes-2.ensures
    (subst (λ n. IsRangeAt e front c.bytes-2.result.now
    (declared_elsewhere items n start) found) named ranged))

use Rattle.std.proofs.Common.{◌≡◌, Ok, false, length, map, subst, sym, true, ◌∙◌}
use Rattle.std.proofs.lemmas.List.{length-map}
use Rattle.std.specs.List.{flat_map}
use Rattle.x_streams.specs.Writing.{Adds}
use Rattle.x_prelude.proofs.BeforeLemmas.{passed_on}
use Rattle.x_warnings.specs.WarningLines.{warning_line}
use Rattle.x_warnings.specs.Warnings.{view_warning}
use Rattle.x_script.specs.Clashing.{IsClashAnswer}
use Rattle.x_script.specs.Giving.{GivesBy}
use Rattle.x_script.specs.Situations.{Over, situation}
use Rattle.x_script.proofs.ClashingLemmas.{clashes_given, clashes_refused}
use Rattle.x_script.proofs.script.clashing.answer_clashes.Goals as goal

pub returns-then-fault_count-gt0-clause-given : goal.returns-then-fault_count-gt0-clause-given
returns-then-fault_count-gt0-clause-given g c =
    let file = c.args.file.now in
    let text = c.renew.new.text in
    let new = situation file text in
    let start = g.S.Sink.state c.args.sink.now in
    let end = g.S.Sink.state c.add_line.new.sink in
    subst (λ s. GivesBy (λ how here a. Over how here (λ known items. IsClashAnswer how here items a)) s new
    (Ok true) c.args.pen.now start c.add_line.new.pen end) (c.renew.ensures.same file)
    (clashes_refused new text.session.known c.in_ok-renew.ensures.before c.fault_count.result c.args.pen.now
    c.add_line.new.pen start end c.if-fault_count-gt0.true c.fault_count.ensures c.add_line.ensures)

pub returns-clause-given : goal.returns-clause-given
returns-clause-given g c =
    let file = c.args.file.now in
    let text = c.renew.new.text in
    let new = situation file text in
    let found = c.in_ok-found.found.items in
    let ws = map view_warning found in
    let start = g.S.Sink.state c.args.sink.now in
    let middle = g.S.Sink.state c.add_counted.new.sink in
    let end = g.S.Sink.state c.add_warnings.new.sink in
    let q = c.add_counted.new.pen in
    let r = c.add_warnings.new.pen in
    let lines = subst (λ l. Adds q middle r end (flat_map (warning_line file.name.now) (map view_warning l)))
    c.deref.ensures.value c.add_warnings.ensures in
    let many : c.len.result ≡ length ws =
    c.len.ensures ∙ c.in_ok-found.found.ok.0 ∙ sym (length-map found view_warning) in
    subst (λ s. GivesBy (λ how here a. Over how here (λ known items. IsClashAnswer how here items a)) s new
    (Ok false) c.args.pen.now start r end) (c.renew.ensures.same file)
    (clashes_given new text.session.known c.in_ok-renew.ensures.before c.fault_count.result c.len.result ws
    c.args.pen.now q r start middle end c.if-fault_count-gt0.false c.fault_count.ensures c.in_ok-found.ensures
    many c.add_counted.ensures lines)

pub returns-in_err-renew-clause-given : goal.returns-in_err-renew-clause-given
returns-in_err-renew-clause-given g c =
    let file = c.args.file.now in
    let now = g.S.Sink.state c.args.sink.now in
    passed_on (λ r. GivesBy (λ how here a. Over how here (λ known items. IsClashAnswer how here items a))
    (situation file c.args.text.now) (situation file c.renew.new.text) r c.args.pen.now now
    c.args.pen.now now)
    c.from_residual.result c.in_err-renew.field-0.0 c.from_residual.ensures.1 (c.renew.ensures.same file)

pub returns-in_err-found-clause-given : goal.returns-in_err-found-clause-given
returns-in_err-found-clause-given g c =
    let file = c.args.file.now in
    let now = g.S.Sink.state c.args.sink.now in
    passed_on (λ r. GivesBy (λ how here a. Over how here (λ known items. IsClashAnswer how here items a))
    (situation file c.args.text.now) (situation file c.renew.new.text) r c.args.pen.now now
    c.args.pen.now now)
    c.from_residual-in_err-found.result c.in_err-found.field-0.0 c.from_residual-in_err-found.ensures.1
    (c.renew.ensures.same file)

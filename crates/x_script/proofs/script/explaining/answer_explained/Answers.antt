use Rattle.std.proofs.Common.{ℕ, List, Ok, false, subst}
use Rattle.x_streams.specs.Writing.{Adds}
use Rattle.x_explain.specs.Explained.{AreExplained}
use Rattle.x_explain.specs.Facts.{before_in}
use Rattle.x_session.specs.Foreign.{view_all}
use Rattle.x_session.specs.Session.{Compiles}
use Rattle.x_script.specs.Explaining.{IsExplainAnswer, telling_of}
use Rattle.x_script.specs.Giving.{GivesBy}
use Rattle.x_script.specs.Situations.{Over, situation}
use Rattle.x_prelude.proofs.BeforeLemmas.{passed_on}
use Rattle.x_script.proofs.ExplainingLemmas.{explained_given}
use Rattle.x_script.proofs.script.explaining.answer_explained.Goals as goal

pub returns-clause-given : goal.returns-clause-given
returns-clause-given g c =
    let file = c.args.file.now in
    let text = c.renew.new.text in
    let new = situation file text in
    let known = text.session.known in
    let start = g.S.Sink.state c.args.sink.now in
    let middle = g.S.Sink.state c.add_counted.new.sink in
    let end = g.S.Sink.state c.add_explained_faults.new.sink in
    let q = c.add_counted.new.pen in
    let r = c.add_explained_faults.new.pen in
    let foreign = view_all c.in_ok-foreign.foreign.items in
    let told = subst (λ before. Compiles known new.text (λ items. (said : List ℕ)
    × AreExplained before foreign (telling_of new.how.file new.text) items said × Adds q middle r end said))
    c.in_ok-facts.ensures.files
    (subst (λ names. Compiles known new.text (λ items. (said : List ℕ)
    × AreExplained (before_in c.in_ok-facts.facts) names (telling_of new.how.file new.text) items said
    × Adds q middle r end said))
    c.in_ok-facts.ensures.foreign c.add_explained_faults.ensures) in
    subst (λ s. GivesBy (λ how here a. Over how here (λ known items. IsExplainAnswer how here items a)) s new
    (Ok false) c.args.pen.now start r end) (c.renew.ensures.same file)
    (explained_given new known foreign c.fault_count.result c.args.pen.now q r start middle end
    c.in_ok-renew.ensures.before
    c.fault_count.ensures (c.in_ok-foreign.ensures c.renew.ensures.over) c.add_counted.ensures told)

pub returns-in_err-renew-clause-given : goal.returns-in_err-renew-clause-given
returns-in_err-renew-clause-given g c =
    let file = c.args.file.now in
    let now = g.S.Sink.state c.args.sink.now in
    passed_on (λ r. GivesBy (λ how here a. Over how here (λ known items. IsExplainAnswer how here items a))
    (situation file c.args.text.now) (situation file c.renew.new.text) r c.args.pen.now now
    c.args.pen.now now)
    c.from_residual.result c.in_err-renew.field-0.0 c.from_residual.ensures.1 (c.renew.ensures.same file)

pub returns-in_err-foreign-clause-given : goal.returns-in_err-foreign-clause-given
returns-in_err-foreign-clause-given g c =
    let file = c.args.file.now in
    let now = g.S.Sink.state c.args.sink.now in
    passed_on (λ r. GivesBy (λ how here a. Over how here (λ known items. IsExplainAnswer how here items a))
    (situation file c.args.text.now) (situation file c.renew.new.text) r c.args.pen.now now
    c.args.pen.now now)
    c.from_residual-in_err-foreign.result c.in_err-foreign.field-0.0 c.from_residual-in_err-foreign.ensures.1
    (c.renew.ensures.same file)

pub returns-in_err-facts-clause-given : goal.returns-in_err-facts-clause-given
returns-in_err-facts-clause-given g c =
    let file = c.args.file.now in
    let now = g.S.Sink.state c.args.sink.now in
    passed_on (λ r. GivesBy (λ how here a. Over how here (λ known items. IsExplainAnswer how here items a))
    (situation file c.args.text.now) (situation file c.renew.new.text) r c.args.pen.now now
    c.args.pen.now now)
    c.from_residual-in_err-facts.result c.in_err-facts.field-0.0 c.from_residual-in_err-facts.ensures.1
    (c.renew.ensures.same file)

use Rattle.std.proofs.Common.{ap, subst, sym, ◌∙◌}
use Rattle.std.specs.Prelude.{option_map}
use Rattle.x_script.specs.Commands.{bytes_of}
use Rattle.x_session.proofs.DeclaredLemmas.{none_is}
use Rattle.x_script.specs.Giving.{GivesBy}
use Rattle.x_script.specs.LineAnswers.{IsCommandAnswer}
use Rattle.x_script.specs.Situations.{situation}
use Rattle.x_script.proofs.AskedLines.{clashes_told, dump_given, explain_given, other_given}
use Rattle.x_script.proofs.script.answer_line.Goals as goal

pub returns-in-Some-clause-given : goal.returns-in-Some-clause-given
returns-in-Some-clause-given g c =
    let file = c.args.file.now in
    dump_given (situation file c.args.text.now) (situation file c.answer_dump.new.text) c.args.line.now
    c.in-Some.name.now (bytes_of c.in-Some.hex.now) c.args.pen.now c.answer_dump.new.pen
    (g.S.Sink.state c.args.sink.now) (g.S.Sink.state c.answer_dump.new.sink) c.answer_dump.result
    c.requires.length
    (sym c.dump_words.ensures.asked ∙ ap (option_map (λ p. (p.0.now, bytes_of p.1.now))) c.in-Some.is)
    c.answer_dump.ensures.given

pub returns-then-asks_to_explain-clause-given : goal.returns-then-asks_to_explain-clause-given
returns-then-asks_to_explain-clause-given g c =
    let file = c.args.file.now in
    explain_given (situation file c.args.text.now) (situation file c.answer_explained.new.text)
    c.args.line.now
    c.args.pen.now c.answer_explained.new.pen (g.S.Sink.state c.args.sink.now)
    (g.S.Sink.state c.answer_explained.new.sink) c.answer_explained.result c.requires.length
    (sym c.asks_to_explain.ensures ∙ c.if-asks_to_explain.true) c.answer_explained.ensures.given

pub returns-then-asks_for_clashes-clause-given : goal.returns-then-asks_for_clashes-clause-given
returns-then-asks_for_clashes-clause-given g c =
    let file = c.args.file.now in
    clashes_told (situation file c.args.text.now) (situation file c.answer_clashes.new.text) c.args.line.now
    c.args.pen.now c.answer_clashes.new.pen (g.S.Sink.state c.args.sink.now)
    (g.S.Sink.state c.answer_clashes.new.sink) c.answer_clashes.result c.requires.length
    (sym c.asks_for_clashes.ensures ∙ c.if-asks_for_clashes.true) c.answer_clashes.ensures.given

pub returns-clause-given : goal.returns-clause-given
returns-clause-given g c =
    let file = c.args.file.now in
    other_given (situation file c.args.text.now) (situation file c.carry_out.new.text) c.args.line.now
    c.args.pen.now c.carry_out.new.pen (g.S.Sink.state c.args.sink.now) (g.S.Sink.state c.carry_out.new.sink)
    c.carry_out.result c.requires.length
    (sym c.dump_words.ensures.asked ∙ ap (option_map (λ p. (p.0.now, bytes_of p.1.now)))
    (none_is c.dump_words.result c.in_default.not-Some))
    (sym c.asks_to_explain.ensures ∙ c.if-asks_to_explain.false)
    (sym c.asks_for_clashes.ensures ∙ c.if-asks_for_clashes.false)
    (subst (λ k. GivesBy (λ how here a. IsCommandAnswer how here k a) (situation file c.args.text.now)
    (situation file c.carry_out.new.text) c.carry_out.result c.args.pen.now (g.S.Sink.state c.args.sink.now)
    c.carry_out.new.pen (g.S.Sink.state c.carry_out.new.sink)) c.in_ok-command.ensures.asks
    (c.carry_out.ensures.given file))

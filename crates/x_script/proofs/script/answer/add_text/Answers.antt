use Rattle.std.proofs.Common.{◌≡◌, ◌++◌, length, codes, ap, subst, ◌∙◌}
use Rattle.x_streams.specs.Writing.{Adds}
use Rattle.x_streams.proofs.Pens.{adds_trans}
use Rattle.x_compile.specs.Generated.{text_of}
use Rattle.x_script.specs.Answers.{counted_line, text_answer}
use Rattle.x_compile.proofs.Compiled.{one_compilation}
use Rattle.x_script.proofs.script.answer.add_text.Goals as goal

pub returns : goal.returns
returns g c =
    let one = c.text_length.ensures in
    let two = c.add_text.ensures in
    let same : one.1 ≡ two.1 =
    (one_compilation c.args.session.now.known c.args.session.now.text one.0 two.0 one.1 two.1
    one.2 two.2).1 in
    let start = g.S.Sink.state c.args.sink.now in
    let mid = g.S.Sink.state c.add_counted.new.sink in
    let end = g.S.Sink.state c.add_text.new.sink in
    let text = text_of c.args.which c.args.session.now.base two.1 in
    let told = adds_trans c.args.pen.now c.add_counted.new.pen c.add_text.new.pen start mid end
    (counted_line (codes "text") c.text_length.result) text c.add_counted.ensures two.3 in
    let count : c.text_length.result ≡ length text = one.3
    ∙ ap (λ is. length (text_of c.args.which c.args.session.now.base is)) same in
    let whole : counted_line (codes "text") c.text_length.result ++ text ≡ text_answer text =
    λ i. counted_line (codes "text") (count i) ++ text in
    (two.0, two.1, two.2, subst (λ t. Adds c.args.pen.now start c.add_text.new.pen end t) whole told)

use Rattle.std.proofs.Common.{codes, ◌++◌, ◌∙◌, subst}
use Rattle.x_streams.specs.Writing.{Adds}
use Rattle.x_text.proofs.Adding.{five}
use Rattle.x_explain.specs.Explained.{heading, painted, red}
use Rattle.x_explain.specs.Sentences.{sentence}
use Rattle.x_explain.proofs.explained.Told.add_headline.Goals as goal

pub returns : goal.returns
returns g c =
    let told = c.args.self.now in
    let start = g.S.Sink.state c.args.sink.now in
    let end = g.S.Sink.state c.add-2.new.sink in
    let code = c.as_bytes-code.ensures.value ∙ c.text.ensures in
    let front = heading told.file.now told.text.now told.found in
    let added = five c.args.pen.now c.add_heading.new.pen c.add_painted.new.pen c.add.new.self
    c.add_sentence.new.pen c.add-2.new.self
    start (g.S.Sink.state c.add_heading.new.sink) (g.S.Sink.state c.add_painted.new.sink)
    (g.S.Sink.state c.add.new.sink) (g.S.Sink.state c.add_sentence.new.sink) end
    front (painted told.coloured red c.as_bytes-code.result.now) (codes ": ")
    (sentence told.found.code c.kind_of.result told.known.name.now) (codes "\n")
    c.add_heading.ensures c.add_painted.ensures c.add.ensures c.add_sentence.ensures c.add-2.ensures in
    subst (λ t. Adds c.args.pen.now start c.add-2.new.self end t)
    (λ i. front ++ painted told.coloured red (code i) ++ codes ": "
    ++ sentence told.found.code (c.kind_of.ensures i) told.known.name.now ++ codes "\n") added

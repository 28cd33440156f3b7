use Rattle.std.proofs.Common.{◌++◌, subst}
use Rattle.std.specs.Prelude.{codes, decimal}
use Rattle.x_streams.specs.Writing.{Adds}
use Rattle.x_text.proofs.Adding.{two}
use Rattle.x_contents.specs.Kept.{found_text}
use Rattle.x_lsp.proofs.answer.Answer.add_to.Goals as goal

pub returns : goal.returns
returns g c =
    let answer = c.args.self.now in
    let text = answer.front.items ++ found_text answer.found ++ codes "}" in
    let header = codes "Content-Length: " ++ decimal answer.count ++ codes "\r\n\r\n" in
    let before = g.S.Sink.state c.args.sink.now in
    let after = g.S.Sink.state c.add_text.new.sink in
    subst (λ n. Adds c.args.pen.now before c.add_text.new.pen after
    (codes "Content-Length: " ++ decimal n ++ codes "\r\n\r\n" ++ text)) answer.counted
    (two c.args.pen.now c.add_header.new.pen c.add_text.new.pen before
    (g.S.Sink.state c.add_header.new.sink) after header text c.add_header.ensures c.add_text.ensures)

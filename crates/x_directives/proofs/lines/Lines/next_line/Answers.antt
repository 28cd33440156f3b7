use Rattle.std.proofs.Common.{◌∙◌, sym, length, eqb-true}
use Rattle.std.proofs.lemmas.List.{nil_from_length}
use Rattle.x_directives.proofs.LineLemmas.{marked_more, marked_none}
use Rattle.x_directives.proofs.lines.Lines.next_line.Goals as goal

pub returns-then-is_empty : goal.returns-then-is_empty
returns-then-is_empty c =
    let rest = c.self.inside.rest.now in
    let size = eqb-true (length rest) 0 (sym c.is_empty.ensures ∙ c.if-is_empty.true) in
    let none = nil_from_length rest size in
    let was = c.self.inside in
    sym c.self.view_is ∙ marked_none was.within was.commented was.start rest none

pub returns : goal.returns
returns c =
    let line = c.split_line.result.0.now in
    let later = c.split_line.result.1.now in
    let goes_on = c.goes_on-self-inside in
    let remark = c.remark_goes_on-self-inside in
    let was = c.self.inside in
    sym c.self.view_is
    ∙ marked_more was.within was.commented goes_on.result remark.result was.start was.rest.now line later
    c.part_of-part.result c.split_line.ensures.lines c.part_of-part.ensures goes_on.ensures remark.ensures

use Rattle.std.proofs.Common.{◌++◌, ◌∙◌, ap, subst}
use Rattle.x_streams.specs.Writing.{Adds}
use Rattle.x_text.proofs.Adding.{five}
use Rattle.x_explain.specs.Excerpts.{excerpt, view_excerpt}
use Rattle.x_explain.specs.Explained.{Telling, caret_line, headline, help_line, help_of, note_line}
use Rattle.x_explain.specs.Explained.{source_line}
use Rattle.x_explain.specs.Facts.{view_known}
use Rattle.x_explain.proofs.explained.Told.add_explained.Goals as goal

pub returns : goal.returns
returns g c =
    let told = c.args.self.now in
    let text = told.text.now in
    let at = told.found.start in
    let colours = told.coloured in
    let start = g.S.Sink.state c.args.sink.now in
    let end = g.S.Sink.state c.add_help.new.sink in
    let shown = view_excerpt c.excerpt_at-excerpt.result in
    let width = c.saturating_sub-width.result in
    let known = view_known told.known in
    let help = help_of told.found.code known in
    let is_shown = c.excerpt_at-excerpt.ensures ∙ ap (excerpt text at) told.column_is in
    let telling : Telling = record { coloured = colours; file = told.file.now; text = text } in
    let front = headline telling told.found known in
    let note = note_line colours told.file.now told.line at known.first in
    let added = five c.args.pen.now c.add_headline.new.pen c.add_source_line.new.pen c.add_caret_line.new.pen
    c.add_note_line.new.pen c.add_help.new.pen
    start (g.S.Sink.state c.add_headline.new.sink) (g.S.Sink.state c.add_source_line.new.sink)
    (g.S.Sink.state c.add_caret_line.new.sink) (g.S.Sink.state c.add_note_line.new.sink) end
    front (source_line told.line shown) (caret_line colours told.line shown width) note
    (help_line colours told.line help)
    c.add_headline.ensures c.add_source_line.ensures c.add_caret_line.ensures c.add_note_line.ensures
    c.add_help.ensures in
    subst (λ t. Adds c.args.pen.now start c.add_help.new.pen end t)
    (λ i. front ++ source_line (told.line_is i) (is_shown i)
    ++ caret_line colours (told.line_is i) (is_shown i) (c.saturating_sub-width.ensures i)
    ++ note_line colours told.file.now (told.line_is i) at known.first
    ++ help_line colours (told.line_is i) help) added

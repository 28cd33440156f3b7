use Rattle.std.proofs.Common.{◌∙◌, sym, ap}
use Rattle.x_script.specs.Commands.{edit_line}
use Rattle.std.proofs.lemmas.Result.{err_from_is_err_and}
use Rattle.x_script.proofs.CommandLemmas.{three_words, edit_by_hex, edit_by_other}
use Rattle.x_script.proofs.script.command.parse_edit.Goals as goal

pub returns-in_ok-hex_bytes-clause-asks : goal.returns-in_ok-hex_bytes-clause-asks
returns-in_ok-hex_bytes-clause-asks c =
    let start = c.in-Some.start.now in
    let end = c.in-Some-split_word.end.now in
    let hex = c.in-Some-split_word.hex.now in
    c.edit-then-is_hex.ensures ∙ ap (edit_line start end) c.in_ok-hex_bytes.ensures
    ∙ sym (edit_by_hex c.args.words.now start c.in-Some.rest.now end hex c.in-Some.ensures
    c.in-Some-split_word.ensures (sym c.if-is_hex.ensures))

pub returns-else-is_hex-clause-asks : goal.returns-else-is_hex-clause-asks
returns-else-is_hex-clause-asks c =
    sym (edit_by_other c.args.words.now c.in-Some.start.now c.in-Some.rest.now c.in-Some-split_word.end.now
    c.in-Some-split_word.hex.now c.in-Some.ensures c.in-Some-split_word.ensures (sym c.if-is_hex.ensures))

pub returns-in_err-hex_bytes-clause-memory : goal.returns-in_err-hex_bytes-clause-memory
returns-in_err-hex_bytes-clause-memory c =
    let p = err_from_is_err_and c.from_residual.result c.from_residual.ensures.1 in
    rw p.1 (three_words c.args.words.now c.in-Some.start.now c.in-Some.rest.now c.in-Some-split_word.end.now
    c.in-Some-split_word.hex.now c.in-Some.ensures c.in-Some-split_word.ensures)

use Rattle.std.proofs.Common.{length, sym, ap, ◌∙◌}
use Rattle.std.proofs.lemmas.Str.{utf8_valid_len-IsUtf8}
use Rattle.x_explain.proofs.excerpt.valid_len.Goals as goal

pub returns-in-Ok : goal.returns-in-Ok
returns-in-Ok c =
    let is = c.in-Ok.ensures.cases in
    ap length is.0 ∙ sym (utf8_valid_len-IsUtf8 c.args.bytes.now is.1)

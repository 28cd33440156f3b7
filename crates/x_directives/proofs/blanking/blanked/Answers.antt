use Rattle.std.proofs.Common.{◌++◌, ◌∙◌, sym, ap}
use Rattle.x_directives.proofs.BlankedLemmas.{no_hash}
use Rattle.x_directives.proofs.blanking.blanked.Goals as goal

pub returns-then-has_no_hash : goal.returns-then-has_no_hash
returns-then-has_no_hash c =
    let text = c.args.text.now in
    c.in_ok-extend_from_slice.ensures.items ∙ ap (λ l. l ++ text) c.in_ok-bytes.ensures.items
    ∙ sym (no_hash text (c.has_no_hash.ensures c.if-has_no_hash.true))

use Rattle.std.proofs.Common.{◌∙◌, ap, map}
use Rattle.x_directives.specs.Spelling.{spelled}
use Rattle.x_directives.proofs.PlainLemmas.{no_constants}
use Rattle.x_directives.proofs.constants.defined.Goals as goal

pub returns-then-has_no_hash : goal.returns-then-has_no_hash
returns-then-has_no_hash c =
    ap (map spelled) c.new-all.ensures.items
    ∙ no_constants c.args.text.now (c.has_no_hash.ensures c.if-has_no_hash.true)

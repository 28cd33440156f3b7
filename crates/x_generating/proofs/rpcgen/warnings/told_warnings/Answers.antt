use Rattle.std.proofs.Common.{◌∙◌, ap, map, sym}
use Rattle.x_session.proofs.DeclaredLemmas.{ok_then}
use Rattle.x_warnings.specs.Warnings.{view_warning}
use Rattle.x_generating.proofs.ClashLemmas.{told_so, untold_so}
use Rattle.x_generating.proofs.rpcgen.warnings.told_warnings.Goals as goal

pub returns-then-tells_clashes : goal.returns-then-tells_clashes
returns-then-tells_clashes c =
    let style = c.args.how.now.style in
    let text = c.args.session.now.text in
    let is = sym c.tells_clashes.ensures ∙ c.if-tells_clashes.true in
    ok_then c.warnings.result
    (λ list are. told_so c.args.strict style text (map view_warning list.items) is are) c.warnings.ensures

pub returns : goal.returns
returns c =
    let style = c.args.how.now.style in
    let text = c.args.session.now.text in
    let is = sym c.tells_clashes.ensures ∙ c.if-tells_clashes.false in
    untold_so c.args.strict style text (map view_warning c.new.result.items) c.item_count.result is
    (ap (map view_warning) c.new.ensures.items) c.item_count.ensures

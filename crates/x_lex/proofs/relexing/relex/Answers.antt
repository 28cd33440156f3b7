use Rattle.std.proofs.Common.{◌≤◌, length, sym, ap, subst, ◌∙◌}
use Rattle.x_text.specs.declared.text.source.TheConstants.{MAX_TEXT}
use Rattle.x_text.specs.Edits.{change_of, edited_by}
use Rattle.x_lex.specs.TokenList.{patched, IsOfText}
use Rattle.x_lex.specs.Relex.{IsPatch}
use Rattle.x_lex.proofs.RelexEnds.{tokens_fit, if_made}
use Rattle.x_lex.proofs.relexing.relex.Goals as goal

pub returns-clause-of_text : goal.returns-clause-of_text
returns-clause-of_text c =
    let change = change_of c.bytes.result.now c.args.edit.now in
    let left = c.requires.edited
    ∙ ap (λ old. edited_by (change_of old c.args.edit.now)) (sym c.bytes.ensures.text) in
    let small = subst (λ n. n ≤ MAX_TEXT) (ap length left) c.bytes-2.ensures.small in
    if_made c.relex_bytes.result (λ p. IsPatch change c.args.tokens.now.list p)
    (λ p. IsOfText (patched c.args.tokens.now.list p))
    (λ p h. tokens_fit (edited_by change) (patched c.args.tokens.now.list p) h.tokens small)
    c.relex_bytes.ensures.patch

use Rattle.std.proofs.Common.{sym, ap, subst}
use Rattle.x_lex.specs.Word.{IsToken}
use Rattle.x_lex.proofs.ScanLemmas.{scan_token, token_scan}
use Rattle.x_lex.proofs.laws.token_by_scan.Goals as goal

pub returns : goal.returns
returns c kind start rest n some = (
  λ t. sym (token_scan start rest some kind n t),
  λ e. subst (λ u. IsToken u.0 start rest u.1) e (scan_token start rest some),
)

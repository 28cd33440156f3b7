use Rattle.std.proofs.Common.{◌≡◌, ◌-◌, length, drop, take, ap, sym, ◌∙◌}
use Rattle.std.proofs.lemmas.List.{take_rest}
use Rattle.x_lex.specs.Scan.{first_close, comment_of}
use Rattle.x_lex.proofs.CloseLemmas.{found_close}
use Rattle.x_lex.proofs.scan.comment.Goals as goal
use Rattle.x_lex.proofs.scan.comment.Goals.{After-find}

found : (c : After-find) → c.find.result ≡ first_close (drop 2 c.args.rest.now)
found c = found_close (take (length c.args.rest.now - 2) (drop 2 c.args.rest.now)) c.find.result
    c.find.ensures ∙ ap first_close (take_rest c.args.rest.now 2)

pub returns-in-Some : goal.returns-in-Some
returns-in-Some c = ap (λ r. comment_of r c.args.rest.now)
    (sym c.in-Some.is ∙ found (goal.at.returns-in-Some c).After-find)

pub returns-in-None : goal.returns-in-None
returns-in-None c = ap (λ r. comment_of r c.args.rest.now)
    (sym c.in-None.is ∙ found (goal.at.returns-in-None c).After-find)

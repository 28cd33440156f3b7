use Rattle.std.proofs.Common.{Some, map}
use Rattle.x_lex.specs.Places.{lexeme}
use Rattle.x_lookups.proofs.LookupLemmas.{named_as, ok_then, references_named}
use Rattle.x_lookups.proofs.lookups.references_at.Goals as goal

pub returns-in-Some : goal.returns-in-Some
returns-in-Some c =
    let text = c.args.session.now.text in
    let named = named_as text c.args.at c.in_ok-name.field-0 (Some c.in-Some.name) c.in-Some.is
    c.in_ok-name.ensures in
    ok_then c.find_names.result
    (λ found h. references_named text c.args.at c.args.declared c.in-Some.name.now (map lexeme found.items)
    named h) c.find_names.ensures

use Rattle.std.proofs.Common.{None, Some}
use Rattle.std.specs.Prelude.{option_map}
use Rattle.x_lex.specs.Places.{lexeme}
use Rattle.x_lookups.proofs.LookupLemmas.{definition_named, definition_unnamed, named_as, ok_then}
use Rattle.x_lookups.proofs.lookups.definition_at.Goals as goal

pub returns-in-Some : goal.returns-in-Some
returns-in-Some c =
    let text = c.args.session.now.text in
    let named = named_as text c.args.at c.in_ok-name.field-0 (Some c.in-Some.name) c.in-Some.is
    c.in_ok-name.ensures in
    ok_then c.definition_of.result
    (λ found h. definition_named text c.args.at c.in-Some.name.now (option_map lexeme found) named h)
    c.definition_of.ensures

pub returns-in-None : goal.returns-in-None
returns-in-None c = definition_unnamed c.args.session.now.text c.args.at
    (named_as c.args.session.now.text c.args.at c.in_ok-name.field-0 None c.in-None.is c.in_ok-name.ensures)

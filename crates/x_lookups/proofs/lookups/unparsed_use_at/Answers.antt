use Rattle.std.proofs.Common.{None, Some}
use Rattle.std.specs.Prelude.{option_map}
use Rattle.x_lex.specs.Places.{lexeme}
use Rattle.x_lookups.proofs.LookupLemmas.{named_any, ok_then, use_named, use_unnamed}
use Rattle.x_lookups.proofs.lookups.unparsed_use_at.Goals as goal

pub returns-in-Some : goal.returns-in-Some
returns-in-Some c =
    let text = c.args.session.now.text in
    let named = named_any text c.args.at c.in_ok-name.field-0 (Some c.in-Some.name) c.in-Some.is
    c.in_ok-name.ensures in
    ok_then c.unparsed_use.result
    (λ found h. use_named text c.args.at c.in-Some.name.now (option_map lexeme found) named h)
    c.unparsed_use.ensures

pub returns-in-None : goal.returns-in-None
returns-in-None c = use_unnamed c.args.session.now.text c.args.at
    (named_any c.args.session.now.text c.args.at c.in_ok-name.field-0 None c.in-None.is c.in_ok-name.ensures)

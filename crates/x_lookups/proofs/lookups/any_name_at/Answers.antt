use Rattle.std.proofs.Common.{None, Some}
use Rattle.std.specs.Prelude.{option_map}
use Rattle.x_lookups.proofs.LookupLemmas.{named_as, named_beside, named_there, ok_then}
use Rattle.x_lookups.proofs.lookups.any_name_at.Goals as goal

pub returns-in-Some : goal.returns-in-Some
returns-in-Some c =
    let text = c.args.session.now.text in
    named_there text c.args.at c.in-Some.name.now
    (named_as text c.args.at c.in_ok-name.field-0 (Some c.in-Some.name) c.in-Some.is c.in_ok-name.ensures)

pub returns-in-None : goal.returns-in-None
returns-in-None c =
    let text = c.args.session.now.text in
    let none = named_as text c.args.at c.in_ok-name.field-0 None c.in-None.is c.in_ok-name.ensures in
    ok_then c.unparsed_name.result
    (λ found h. named_beside text c.args.at (option_map (λ n. n.now) found) none h) c.unparsed_name.ensures

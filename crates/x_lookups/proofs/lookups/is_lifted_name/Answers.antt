use Rattle.std.proofs.Common.{ap, map, ◌∙◌}
use Rattle.x_lex.specs.Places.{lexeme}
use Rattle.x_lookups.specs.NamePlaces.{first_of}
use Rattle.x_lookups.proofs.LookupLemmas.{lifted_found}
use Rattle.x_lookups.proofs.lookups.is_lifted_name.Goals as goal

pub returns : goal.returns
returns c =
    lifted_found c.args.session.now.text c.args.name.now c.is_some.result c.first.result
    (map lexeme c.in_ok-tokens.tokens.items) c.in_ok-tokens.ensures c.is_some.ensures
    (c.first.ensures ∙ ap (λ l. first_of (map lexeme l)) c.deref.ensures.value)

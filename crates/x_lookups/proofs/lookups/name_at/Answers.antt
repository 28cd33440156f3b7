use Rattle.std.proofs.Common.{None, Some, map, refl, ap, ◌∙◌}
use Rattle.x_lex.specs.Places.{lexeme}
use Rattle.x_lookups.specs.NamePlaces.{first_of}
use Rattle.x_lookups.proofs.LookupLemmas.{name_found}
use Rattle.x_lookups.proofs.lookups.name_at.Goals as goal

pub returns-in-Some : goal.returns-in-Some
returns-in-Some c =
    name_found c.args.session.now.text c.args.at (map lexeme c.in_ok-tokens.tokens.items)
    (Some c.in-Some.token) (Some c.in-Some.token.text.now) c.in_ok-tokens.ensures
    (c.in-Some.ensures ∙ ap (λ l. first_of (map lexeme l)) c.deref.ensures.value) refl

pub returns : goal.returns
returns c =
    name_found c.args.session.now.text c.args.at (map lexeme c.in_ok-tokens.tokens.items) None None
    c.in_ok-tokens.ensures (c.in-None.ensures ∙ ap (λ l. first_of (map lexeme l)) c.deref.ensures.value) refl

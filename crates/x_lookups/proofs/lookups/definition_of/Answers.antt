use Rattle.std.proofs.Common.{None, true, false, map, refl, ap, sym, ◌∙◌}
use Rattle.std.specs.Prelude.{option_map}
use Rattle.x_lex.specs.Places.{lexeme}
use Rattle.x_lookups.specs.NamePlaces.{first_of}
use Rattle.x_lookups.proofs.LookupLemmas.{definition_found}
use Rattle.x_lookups.proofs.lookups.definition_of.Goals as goal

pub returns-then-is_beforehand : goal.returns-then-is_beforehand
returns-then-is_beforehand c =
    definition_found c.args.session.now.text c.args.name.now true (map lexeme c.in_ok-tokens.tokens.items)
    None c.in_ok-tokens.ensures (sym c.if-is_beforehand.true ∙ c.is_beforehand.ensures) refl

pub returns : goal.returns
returns c =
    definition_found c.args.session.now.text c.args.name.now false (map lexeme c.in_ok-tokens.tokens.items)
    (option_map lexeme c.first.result) c.in_ok-tokens.ensures
    (sym c.if-is_beforehand.false ∙ c.is_beforehand.ensures)
    (c.first.ensures ∙ ap (λ l. first_of (map lexeme l)) c.deref.ensures.value)

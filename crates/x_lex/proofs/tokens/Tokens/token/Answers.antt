use Rattle.std.proofs.Common.{◌≡◌, ◌≤◌, Some, None, length, sym, ap, ◌∙◌, subst}
use Rattle.std.specs.Prelude.{option_map, slice_get}
use Rattle.x_lex.specs.Places.{places, lexeme, lexeme_at}
use Rattle.x_lex.proofs.SpanLemmas.{place_fits, lexemes_get}
use Rattle.x_lex.proofs.tokens.Tokens.token.Goals as goal
use Rattle.x_lex.proofs.tokens.Tokens.token.Goals.{In_ok-place}

-- the place that was found
found : (c : In_ok-place) → slice_get (places c.args.self.now.list) c.args.index ≡ Some c.in_ok-place.place
found c = sym c.get.ensures ∙ c.in_ok-place.was

fits : (c : In_ok-place) → (c.in_ok-place.place.1 ≤ c.in_ok-place.place.2)
    × (c.in_ok-place.place.2 ≤ length c.args.source.now)
fits c = place_fits c.args.source.now c.args.self.now.list c.args.index c.in_ok-place.place
    c.requires (found c)

pub token_at-requires-clause-order : goal.token_at-requires-clause-order
token_at-requires-clause-order c = (fits (goal.at.token_at-requires-clause-order c).In_ok-place).0

pub token_at-requires-clause-within : goal.token_at-requires-clause-within
token_at-requires-clause-within c = subst (λ n. c.in_ok-place.place.2 ≤ n)
    (sym (ap length c.bytes.ensures.text)) (fits (goal.at.token_at-requires-clause-within c).In_ok-place).1

pub returns : goal.returns
returns c =
    let here = lexemes_get c.args.source.now 0 c.args.self.now.list c.args.index
    ∙ ap (option_map (lexeme_at c.args.source.now)) (found (goal.at.returns c).In_ok-place) in
    ap Some (c.token_at.ensures ∙ ap (λ text. lexeme_at text c.in_ok-place.place) c.bytes.ensures.text)
    ∙ sym here

pub returns-in_err-place : goal.returns-in_err-place
returns-in_err-place c =
    let none : slice_get (places c.args.self.now.list) c.args.index ≡ None = sym c.get.ensures
    ∙ c.in_err-place.was in
    ap (option_map lexeme) c.from_residual.ensures
    ∙ sym (lexemes_get c.args.source.now 0 c.args.self.now.list c.args.index
    ∙ ap (option_map (lexeme_at c.args.source.now)) none)

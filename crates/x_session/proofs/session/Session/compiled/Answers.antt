use Rattle.std.proofs.Common.{◌≡◌, ◌∙◌, length, ap, subst, sym}
use Rattle.x_text.specs.Buffers.{Buffered}
use Rattle.x_lex.specs.Places.{lexemes}
use Rattle.x_compile.specs.Compile.{tokens_of}
use Rattle.x_session.specs.Session.{Compiles}
use Rattle.x_compile.specs.KeptText.{items_of}
use Rattle.x_compile.proofs.Compiled.{compilation, length-items, length-lexemes, tokens_are}
use Rattle.x_session.proofs.session.Session.compiled.Goals as goal

pub returns-clause-token_seat : goal.returns-clause-token_seat
returns-clause-token_seat c =
    let text = c.args.source in
    let made = c.in_ok-tokens.field-0 in
    let items = items_of text made.tokens.list made.items.entries.list in
    let whole = compilation c.in_ok-tokens.ensures.kept in
    let count = c.in_ok-tokens.ensures.token_seat ∙ sym (length-lexemes text 0 made.tokens.list)
    ∙ ap length (sym (tokens_are c.args.known text made.tokens.list items whole)) in
    subst (λ t. Compiles c.args.known t (λ is. made.tokens.seat ≡ length (tokens_of is)))
    (sym (ap (λ (b : Buffered). b.text) c.of.ensures)) (made.tokens.list, items, whole, count)

pub returns-clause-item_seat : goal.returns-clause-item_seat
returns-clause-item_seat c =
    let text = c.args.source in
    let made = c.in_ok-tokens.field-0 in
    let items = items_of text made.tokens.list made.items.entries.list in
    let count = c.in_ok-tokens.ensures.item_seat
    ∙ sym (length-items (lexemes text made.tokens.list) made.items.entries.list) in
    subst (λ t. Compiles c.args.known t (λ is. made.items.entries.seat ≡ length is))
    (sym (ap (λ (b : Buffered). b.text) c.of.ensures))
    (made.tokens.list, items, compilation c.in_ok-tokens.ensures.kept, count)

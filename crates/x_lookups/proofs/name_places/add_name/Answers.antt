use Rattle.std.proofs.Common.{◌++◌, ap, sym, map, ◌∙◌}
use Rattle.std.proofs.lemmas.List.{append-nil, map-append}
use Rattle.x_lex.specs.Places.{lexeme}
use Rattle.x_lookups.specs.Sought.{is_sought}
use Rattle.x_lookups.proofs.NamePlaceLemmas.{no_word, one_word}
use Rattle.x_lookups.proofs.name_places.add_name.Goals as goal

pub returns-then-word-words : goal.returns-then-word-words
returns-then-word-words c = no_word (is_sought c.args.sought) c.args.words.now c.args.word c.args.name.now
    c.args.standing (map lexeme c.args.found.now.items) c.if-word-words.true

pub returns-in_ok-push : goal.returns-in_ok-push
returns-in_ok-push c =
    ap (map lexeme) c.in_ok-push.ensures.items ∙ map-append lexeme c.args.found.now.items _
    ∙ ap (λ l. map lexeme c.args.found.now.items ++ l)
    (one_word (is_sought c.args.sought) c.args.words.now c.args.word _ c.args.name.now c.args.standing _
    c.if-word-words.false (sym c.if-fits.true ∙ c.fits.ensures))

pub returns-else-fits : goal.returns-else-fits
returns-else-fits c =
    sym (append-nil (map lexeme c.args.found.now.items))
    ∙ ap (λ l. map lexeme c.args.found.now.items ++ l)
    (one_word (is_sought c.args.sought) c.args.words.now c.args.word _ c.args.name.now c.args.standing _
    c.if-word-words.false (sym c.if-fits.false ∙ c.fits.ensures))

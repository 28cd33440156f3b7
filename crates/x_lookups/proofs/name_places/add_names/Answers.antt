use Rattle.std.proofs.Common.{◌<◌, ◌^◌, length, map, ap, sym, ◌∙◌, arith}
use Rattle.std.proofs.lemmas.List.{length-map}
use Rattle.x_lex.specs.Places.{lexeme}
use Rattle.x_trees.specs.Collected.{view_mention, view_name}
use Rattle.x_trees.specs.Spell.{spell}
use Rattle.x_trees.specs.View.{view_definition}
use Rattle.x_lookups.specs.Sought.{is_sought}
use Rattle.x_session.proofs.ItemsLeft.{short_definition}
use Rattle.x_lookups.proofs.NamePlaceLemmas.{names_added}
use Rattle.x_lookups.proofs.name_places.add_names.Goals as goal

pub returns : goal.returns
returns c = λ parse parsed is.
    let part = map lexeme c.args.tokens.now.items in
    let d = view_definition c.args.definition.now in
    let tokens = c.keep_words.new.tokens in
    let long = short_definition part parse d (length (map lexeme tokens.items)) parsed is
    (ap length (sym c.keep_words.ensures)) in
    let same = length-map tokens.items lexeme in
    let short : length (spell d) < 2 ^ 64 = omega (arith, long, same) in
    names_added (is_sought c.args.sought) part (map lexeme c.deref-2.result.now)
    (map lexeme c.deref-4.result.now) (map lexeme c.args.found.now.items)
    (map lexeme c.add_declared.new.found.items) (map lexeme c.add_mentioned.new.found.items) d
    (map view_name c.deref.result.now) (map view_mention c.deref-3.result.now)
    (ap (map lexeme) c.deref-2.ensures.value ∙ c.keep_words.ensures) (ap (map lexeme) c.deref-4.ensures.value
    ∙ c.keep_words.ensures)
    (ap (map view_name) c.deref.ensures.value ∙ c.in_ok-read.ensures.declared short)
    (ap (map view_mention) c.deref-3.ensures.value ∙ c.in_ok-read.ensures.mentioned short)
    c.in_ok-add_declared.ensures c.in_ok-add_mentioned.ensures

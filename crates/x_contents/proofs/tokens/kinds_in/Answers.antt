use Rattle.std.proofs.Common.{◌≡◌, ◌<◌, ◌^◌, Some, ap, length, map, refl, sym, ◌∙◌, arith}
use Rattle.std.proofs.lemmas.List.{length-map}
use Rattle.x_lex.specs.Places.{lexeme}
use Rattle.x_trees.specs.Spell.{spell}
use Rattle.x_trees.specs.View.{tree_at, view_definition}
use Rattle.x_names.specs.DeclarerTable.{first_in}
use Rattle.x_session.specs.DeclaredNames.{words_in}
use Rattle.x_session.proofs.ItemsLeft.{short_definition}
use Rattle.x_contents.specs.TokenKinds.{kinds_in}
use Rattle.x_contents.proofs.TokenLemmas.{fewer_words}
use Rattle.x_contents.proofs.tokens.kinds_in.Goals as goal

pub returns-in_ok-kinds-in-Some : goal.returns-in_ok-kinds-in-Some
returns-in_ok-kinds-in-Some c = λ parse parsed is.
    let part = map lexeme c.args.tokens.now in
    let d = view_definition c.in-Some.definition.now in
    let d_is : tree_at c.args.definition ≡ Some d = ap tree_at c.in-Some.is in
    let long = short_definition part parse d (length (words_in part)) parsed (sym d_is ∙ is) refl in
    let few = fewer_words part in
    let same = length-map c.args.tokens.now lexeme in
    let short : length (spell d) < 2 ^ 64 = omega (arith, long, few, same) in
    c.in_ok-kinds-in-Some.ensures short ∙ ap (kinds_in (first_in c.args.names.now) part) (sym d_is)

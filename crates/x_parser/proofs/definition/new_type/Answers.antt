use Rattle.std.proofs.Common.{[], ◌∷◌, ◌++◌, ap, sym, ◌∙◌}
use Rattle.x_lex.specs.declared.mark.Mark.TheVariants as marks
use Rattle.x_trees.specs.Words.{Fixed, Name}
use Rattle.x_trees.specs.Tree.{NewType}
use Rattle.x_trees.specs.Gloss.{tag_mark}
use Rattle.x_trees.specs.Spell.{spell, spell_body}
use Rattle.x_trees.specs.View.{view_body}
use Rattle.x_trees.specs.declared.trees.declaration.TheConstants.{MOST_INLINE}
use Rattle.x_parser.specs.Symbols.{AnyName, AnyBody, Token}
use Rattle.x_parser.proofs.ReadLemmas.{read_after_word, read_as, read_more, read_then}
use Rattle.x_parser.proofs.definition.new_type.Goals as goal

pub returns-clause-read : goal.returns-clause-read
returns-clause-read c =
    let tag = c.args.tag in
    let name = c.in_ok-name.name.items in
    let body = c.in_ok-body.body in
    let named = read_more (AnyName ∷ []) (AnyBody tag MOST_INLINE ∷ Token marks.Semicolon ∷ [])
    c.in_ok-name.ensures.read in
    let whole = read_then (AnyBody tag MOST_INLINE ∷ []) (Token marks.Semicolon ∷ []) named
    c.in_ok-body.ensures.read in
    let closed = read_then (Token marks.Semicolon ∷ []) [] whole c.in_ok-body-2.ensures.read in
    let keyword = ap (λ m. Fixed m ∷ Name name ∷ (spell_body (view_body body) ++ Fixed marks.Semicolon ∷ []))
    (sym c.in_ok-body.ensures.of) in
    let same = ap (λ b. spell (NewType name (view_body b))) (sym c.in_ok-body-2.ensures.value) in
    read_as (keyword ∙ same) (read_after_word (Fixed (tag_mark tag)) closed)

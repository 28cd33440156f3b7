-- What reading a definition says of an item.
use Rattle.std.proofs.Common.{◌≡◌, List, [], ◌∷◌, ◌++◌, map, ap, sym, subst, ◌∙◌}
use Rattle.std.proofs.lemmas.List.{append-nil}
use Rattle.x_lex.specs.Places.{lexeme}
use Rattle.x_lex.specs.declared.tokens.token.Token.{Token}
use Rattle.x_trees.specs.Words.{word_of, words_of}
use Rattle.x_trees.specs.Tree.{Definition}
use Rattle.x_trees.specs.Spell.{spell, KeepsLimits}
use Rattle.x_parser.specs.Symbols.{Item}
use Rattle.x_parser.specs.Reading.{WordAhead, ahead, words_at, left_in, code_in, read, Fails, IsPart, IsSplit}
use Rattle.x_parser.specs.Reading.{IsBefore, IsRefused}
use Rattle.x_parser.specs.declared.parse_error.ParseError.{ParseError}
use Rattle.x_parser.specs.declared.parse_error.ParseError.TheVariants as errors
use Rattle.x_parser.proofs.FaultLemmas.{words_places, refused, behind}

pub found_whole : (tokens rest : List Token) (d : Definition) → words_at (ahead tokens)
    ≡ spell d ++ words_at (ahead rest) → ahead rest ≡ [] → spell d ≡ words_of (map lexeme tokens)
unfolding ahead
found_whole tokens rest d found none =
    sym (sym (words_places (map lexeme tokens)) ∙ found ∙ ap (λ r. spell d ++ words_at r) none
    ∙ append-nil (spell d))

pub refused_at : (tokens : List Token) (e : ParseError) → Fails (Item ∷ []) tokens e
    → IsRefused (map lexeme tokens) e
unfolding ahead
refused_at tokens e fails = refused (map lexeme tokens) e (fails.by [])

refused_behind : (tokens rest after : List Token) (token : Token) (d : Definition) → KeepsLimits d
    → IsPart Item tokens (spell d) rest → IsSplit rest token after
    → IsRefused (map lexeme tokens) (errors.Stuck (left_in rest) (code_in rest))
unfolding ahead
refused_behind tokens rest after token d fits part split =
    let at : WordAhead = record { word = word_of (lexeme token); left = left_in rest; code = code_in rest } in
    behind d (map lexeme tokens) at (ahead after) fits
    (part.found ∙ ap (λ r. spell d ++ words_at r) split.all)
    (part.leads [] ∙ ap (λ r. read [] r) split.all)

pub refused_before : (tokens rest : List Token) (d : Definition) → KeepsLimits d
    → IsPart Item tokens (spell d) rest → (e : ParseError) → IsBefore rest e → IsRefused (map lexeme tokens) e
refused_before tokens rest d fits part e before =
    subst (IsRefused (map lexeme tokens)) (sym before.is)
    (refused_behind tokens rest before.rest before.token d fits part before.split)

-- What is generated of the items of a text.
use Rattle.std.specs.Prelude.{ℕ, Bool, true, false, List, [], ◌∷◌, ◌++◌, map, drop, Option, None, option_map}
use Rattle.std.specs.Prelude.{codes}
use Rattle.std.specs.List.{filter, flat_map}
use Rattle.x_lex.specs.declared.kind.Kind.{Kind}
use Rattle.x_lex.specs.declared.kind.Kind.TheVariants as kinds
use Rattle.x_lex.specs.Places.{Lexeme}
use Rattle.x_trees.specs.Tree.{Definition}
use Rattle.x_item.specs.Parse.{Parse}
use Rattle.x_pieces.specs.Pieces.{Part}
use Rattle.x_pieces.specs.Rendering.{pieces_of}
use Rattle.x_pieces.specs.Texts.{text}
use Rattle.x_pieces.specs.declared.which.Which.{Which}
use Rattle.x_compile.specs.Compile.{Item, parsed_definition, token_faults}
use Rattle.x_compile.specs.declared.fault.TokenFault.{TokenFault}

abbrev pub is_percent : Kind → Bool
is_percent kinds.Percent = true
is_percent kind = false

-- the lines that pass through: without their `%`, each with a line feed
abbrev pub lines_of : List Lexeme → List ℕ
lines_of tokens = flat_map (λ t. drop 1 t.text ++ codes "\n") (filter (λ t. is_percent t.kind) tokens)

-- the definition of an item with these faults: none where there is a fault
abbrev pub faultless : List TokenFault → Parse → Option Definition
faultless [] parse = parsed_definition parse
faultless (f ∷ fs) parse = None

-- what is generated of an item: its lines, and the pieces of its definition where it has no fault
abbrev pub part_of : Item → Part
part_of i = record {
  lines = lines_of i.tokens;
  pieces = option_map pieces_of
      (faultless (token_faults i) i.parse);
}

-- this generated text of a text with these items, whose names have this base
abbrev pub text_of : Which → List ℕ → List Item → List ℕ
text_of which base items = text which base (map part_of items)

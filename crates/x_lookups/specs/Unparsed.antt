-- Names in what does not parse.
use Rattle.std.specs.Prelude.{◌&&◌, ℕ, Bool, true, false, List, []}
use Rattle.std.specs.Prelude.{Option, option_and_then, option_map}
use Rattle.std.specs.List.{filter, flat_map}
use Rattle.std.specs.Option.{option_or}
use Rattle.std.specs.Str.{bytes_eq}
use Rattle.x_lex.specs.declared.kind.Kind.{Kind}
use Rattle.x_lex.specs.declared.kind.Kind.TheVariants as kinds
use Rattle.x_lex.specs.Places.{Lexeme}
use Rattle.x_item.specs.Parse.{Parse, Nothing, Def, Fault}
use Rattle.x_compile.specs.Compile.{Item}
use Rattle.x_lookups.specs.NamePlaces.{first_of, name_at, touches}
use Rattle.x_lookups.specs.declared.unparsed.Wanted.{Wanted}
use Rattle.x_lookups.specs.declared.unparsed.Wanted.TheVariants.{Named, At}

abbrev pub is_name : Kind → Bool
is_name kinds.Name = true
is_name kind = false

-- the tokens of an item that are names and pass a test, where the item does not parse
abbrev pub unparsed_in : (Lexeme → Bool) → List Lexeme → Parse → List Lexeme
unparsed_in test tokens Nothing = []
unparsed_in test tokens (Def d) = []
unparsed_in test tokens (Fault token code) = filter (λ t. is_name t.kind && test t) tokens

-- those of all items, in the order of the text
abbrev pub unparsed_where : (Lexeme → Bool) → List Item → List Lexeme
unparsed_where test items = flat_map (λ i. unparsed_in test i.tokens i.parse) items

-- the first token of the text that is this name and stands in an item that does not parse
abbrev pub unparsed_use : List Item → List ℕ → Option Lexeme
unparsed_use items name = first_of (unparsed_where (λ t. bytes_eq t.text name) items)

-- the name at a place of an item that does not parse
abbrev pub unparsed_name : List Item → ℕ → Option (List ℕ)
unparsed_name items at =
    option_map (λ t. t.text) (first_of (unparsed_where (λ t. touches t at) items))

-- the name at a place, whether its item parses or not
abbrev pub any_name_at : List Item → ℕ → Option (List ℕ)
any_name_at items at = option_or (name_at items at) (unparsed_name items at)

-- the first token that is the name at a place and stands in an item that does not parse
abbrev pub unparsed_use_at : List Item → ℕ → Option Lexeme
unparsed_use_at items at = option_and_then (unparsed_use items) (any_name_at items at)

-- ---- what the program looks for

-- the token is wanted
abbrev pub is_wanted : Wanted → Lexeme → Bool
is_wanted (Named name) t = bytes_eq t.text name.now
is_wanted (At at) t = touches t at

-- What compiling a text from scratch gives: its items, each with its tokens, what they parse to, and what
-- checking it gives.
use Rattle.std.specs.Prelude.{ℕ, suc, ◌-◌, ◌==◌, ◌&&◌, List, [], ◌∷◌, ◌++◌, map, Option}
use Rattle.std.specs.Prelude.{Some, None, option_and_then, slice_get, if◌then◌else◌}
use Rattle.std.specs.Option.{option_map_or}
use Rattle.x_text.specs.Text.{line_of, column_of}
use Rattle.x_lex.specs.declared.kind.Kind.{Kind}
use Rattle.x_lex.specs.Tiling.{AreTokens}
use Rattle.x_lex.specs.Places.{Lexeme, lexemes}
use Rattle.x_trees.specs.Words.{is_significant}
use Rattle.x_trees.specs.Tree.{Definition}
use Rattle.x_item.specs.Parse.{Parse, Nothing, Def, Fault, IsParse}
use Rattle.x_cutting.specs.Items.{AreItems, joined}
use Rattle.x_rules.specs.Results.{Outcome, AreResults}
use Rattle.x_rules.specs.declared.fault.WordFault.{WordFault}
use Rattle.x_compile.specs.Known.{KnownText, known_names}
use Rattle.x_compile.specs.declared.fault.FaultCode.TheVariants as codes
use Rattle.x_compile.specs.declared.fault.TokenFault.{TokenFault}
use Rattle.x_compile.specs.declared.fault as rust

-- an item has a result where it has a definition
pub record Item : Type 0 where
  pub tokens : List Lexeme
  pub parse : Parse
  pub result : Option Outcome

-- each has its parse
abbrev pub AreParses : List Item → Type 0
AreParses [] = Unit {0}
AreParses (i ∷ is) = IsParse i.tokens i.parse × AreParses is

abbrev pub parsed_definition : Parse → Option Definition
parsed_definition Nothing = None
parsed_definition (Def d) = Some d
parsed_definition (Fault token code) = None

-- the definition of each item
abbrev pub definitions_of : List Item → List (Option Definition)
definitions_of items = map (λ i. parsed_definition i.parse) items

-- the text, before which this is known, has these tokens and these items
pub record IsCompilation (known : KnownText) (text : List ℕ) (tokens : List (Kind × ℕ))
    (items : List Item) : Type 0 where
  pub are_tokens : AreTokens text tokens
  pub are_items : AreItems (lexemes text tokens) (map (λ i. i.tokens) items)
  pub are_parses : AreParses items
  pub are_results : AreResults (known_names known) (definitions_of items) (map (λ i. i.result) items)

-- the tokens of the text
abbrev pub tokens_of : List Item → List Lexeme
tokens_of items = joined (map (λ i. i.tokens) items)

-- the definition of the item at an index
abbrev pub definition_at : List Item → ℕ → Option Definition
definition_at items index = option_and_then (λ d. d) (slice_get (definitions_of items) index)

-- the index of a word among the tokens of its item
abbrev pub token_of_word : List Lexeme → ℕ → ℕ
token_of_word [] word = 0
token_of_word (t ∷ ts) word =
    if is_significant t.kind && word == 0 then 0
    else suc (token_of_word ts (if is_significant t.kind then word - 1 else word))

-- a rule that is broken at a word, as a fault at a token
abbrev pub at_token : List Lexeme → WordFault → TokenFault
at_token tokens f = record { token = token_of_word tokens f.word; code = codes.Rule f.code }

-- the faults by the rules, at the words of an item, by what checking it gives
abbrev pub rule_faults : Option Outcome → List WordFault
rule_faults None = []
rule_faults (Some o) = o.faults

-- the faults of an item at its tokens, of which these are by the rules
abbrev pub faults_at : List Lexeme → Parse → List WordFault → List TokenFault
faults_at tokens (Fault token code) ruled = record { token = token; code = codes.Syntax code } ∷ []
faults_at tokens parse ruled = map (at_token tokens) ruled

-- the faults of an item at its tokens: that of its parse, or those of its result
abbrev pub token_faults : Item → List TokenFault
token_faults i = faults_at i.tokens i.parse (rule_faults i.result)

-- where a token of an item starts
abbrev pub start_of : List Lexeme → ℕ → ℕ
start_of tokens token = option_map_or (λ t. t.start) (slice_get tokens token) 0

-- a fault of an item with its line and its column
abbrev pub placed : List ℕ → ℕ → List Lexeme → TokenFault → rust.Fault.Fault
placed text index tokens f = record {
  item = index;
  token = f.token;
  line = line_of text (start_of tokens f.token);
  col = column_of text (start_of tokens f.token);
  code = f.code;
}

abbrev pub item_faults : List ℕ → ℕ → Item → List rust.Fault.Fault
item_faults text index item = map (placed text index item.tokens) (token_faults item)

-- the faults of items of which the first has this number
abbrev pub faults_from : List ℕ → ℕ → List Item → List rust.Fault.Fault
faults_from text index [] = []
faults_from text index (i ∷ is) = item_faults text index i ++ faults_from text (suc index) is

-- all faults of the text, by item, then by place, then by code
abbrev pub faults_of : List ℕ → List Item → List rust.Fault.Fault
faults_of text items = faults_from text 0 items

-- a fault of an item, and where its token starts
abbrev pub place_in : ℕ → List Lexeme → TokenFault → rust.FaultPlace.FaultPlace
place_in index tokens f =
    record { item = index; token = f.token; start = start_of tokens f.token; code = f.code }

abbrev pub item_places : ℕ → Item → List rust.FaultPlace.FaultPlace
item_places index item = map (place_in index item.tokens) (token_faults item)

-- those of items of which the first has this number
abbrev pub places_from : ℕ → List Item → List rust.FaultPlace.FaultPlace
places_from index [] = []
places_from index (i ∷ is) = item_places index i ++ places_from (suc index) is

-- the places of all faults of a text, in their order
abbrev pub places_of : List Item → List rust.FaultPlace.FaultPlace
places_of items = places_from 0 items

-- the fault at a place of a text
abbrev pub in_lines : List ℕ → rust.FaultPlace.FaultPlace → rust.Fault.Fault
in_lines text p = record {
  item = p.item;
  token = p.token;
  line = line_of text p.start;
  col = column_of text p.start;
  code = p.code;
}

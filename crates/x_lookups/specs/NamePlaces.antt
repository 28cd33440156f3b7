-- Where names stand in a text: each is declared there, or used.
use Rattle.std.specs.Prelude.{◌&&◌, ◌||◌, ℕ, Bool, true, false, nat_le, List, [], ◌∷◌, ◌++◌, map}
use Rattle.std.specs.Prelude.{Option, None, Some, is_some, not, option_map, slice_get, if◌then◌else◌}
use Rattle.std.specs.List.{filter, flat_map}
use Rattle.std.specs.Str.{bytes_eq}
use Rattle.x_lex.specs.Places.{Lexeme}
use Rattle.x_trees.specs.Tree.{Definition}
use Rattle.x_trees.specs.Names.{Declared, declared}
use Rattle.x_trees.specs.Mentions.{Mention, mentioned}
use Rattle.x_names.specs.DeclarerTable.{first_in}
use Rattle.x_names.specs.declared.names.Declarer.{Declarer}
use Rattle.x_compile.specs.Compile.{Item, parsed_definition}
use Rattle.x_session.specs.DeclaredNames.{words_in}
use Rattle.x_lookups.specs.declared.name_places.Standing.{Standing}
use Rattle.x_lookups.specs.declared.name_places.Standing.TheVariants.{Declares, Lifts, Uses}

-- a name, the token where it stands, and what it does there
pub record NamePlace : Type 0 where
  pub name : List ℕ
  pub token : Lexeme
  pub standing : Standing

-- the name at a token, where there is one
abbrev pub name_on : Option Lexeme → List ℕ → Standing → List NamePlace
name_on None name standing = []
name_on (Some token) name standing = record { name = name; token = token; standing = standing } ∷ []

-- what a word does that declares a name: its own, or that of an inline type
abbrev pub standing_of : Bool → Standing
standing_of lifted = if lifted then Lifts else Declares

abbrev pub declared_on : List Lexeme → Declared → List NamePlace
declared_on words d = name_on (slice_get words d.word) d.name (standing_of d.lifted)

abbrev pub mentioned_on : List Lexeme → Mention → List NamePlace
mentioned_on words m = name_on (slice_get words m.word) m.name Uses

-- the names that these words of a definition declare, and then those that they use
abbrev pub names_on : List Lexeme → List Declared → List Mention → List NamePlace
names_on words ds ms = flat_map (declared_on words) ds ++ flat_map (mentioned_on words) ms

-- the names in an item; one without a definition has none
abbrev pub names_by : List Lexeme → Option Definition → List NamePlace
names_by tokens None = []
names_by tokens (Some d) = names_on (words_in tokens) (declared d) (mentioned d)

-- the names in the items of a text
abbrev pub names_of : List Item → List NamePlace
names_of items = flat_map (λ i. names_by i.tokens (parsed_definition i.parse)) items

-- the tokens of the names that pass a test
abbrev pub tokens_where : (NamePlace → Bool) → List NamePlace → List Lexeme
tokens_where test names = map (λ n. n.token) (filter test names)

-- the word is the name itself; it uses the name
abbrev pub is_own : Standing → Bool
is_own Declares = true
is_own Lifts = false
is_own Uses = true

abbrev pub is_use : Standing → Bool
is_use Declares = false
is_use Lifts = false
is_use Uses = true

-- the token holds the place, or ends there
abbrev pub touches : Lexeme → ℕ → Bool
touches token at = nat_le token.start at && nat_le at token.end

abbrev pub first_of : {X : Type 0} → List X → Option X
first_of [] = None
first_of (x ∷ xs) = Some x

-- an inline type has this name
abbrev pub is_lifted_name : List Item → List ℕ → Bool
is_lifted_name items name = is_some (first_of
    (tokens_where (λ n. not (is_own n.standing) && bytes_eq name n.name) (names_of items)))

-- the first token at a place which is a declared name, or uses one; and its text, the name there
abbrev pub token_at : List Item → ℕ → Option Lexeme
token_at items at = first_of (tokens_where (λ n. is_own n.standing && touches n.token at) (names_of items))

abbrev pub name_at : List Item → ℕ → Option (List ℕ)
name_at items at = option_map (λ t. t.text) (token_at items at)

-- a token with the first declarer of its name by a table, if there is one
abbrev pub named_by : List (List ℕ × Declarer) → Option Lexeme → Option (Lexeme × Declarer)
named_by table None = None
named_by table (Some t) = option_map (λ d. (t, d)) (first_in table t.text)

-- the tokens that use a name, and if asked for, those that declare it
abbrev pub uses_of : List Item → Bool → List ℕ → List Lexeme
uses_of items declared name =
    tokens_where (λ n. bytes_eq name n.name && (declared || is_use n.standing)) (names_of items)

-- the tokens that use the name at a place
abbrev pub references_of : List Item → Bool → Option (List ℕ) → List Lexeme
references_of items declared None = []
references_of items declared (Some name) = uses_of items declared name

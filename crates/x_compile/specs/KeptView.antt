-- What a session keeps with the items of a text, and what it says of them.
use Rattle.std.specs.Prelude.{◌≡◌, ℕ, List, [], ◌∷◌, length, map, take, drop, Option, None, Some, slice_get}
use Rattle.std.specs.Prelude.{slice_set, Bool, false, true}
use Rattle.std.specs.Global.{Box}
use Rattle.x_lists.specs.Lengths.{total_length}
use Rattle.x_lex.specs.Places.{Lexeme}
use Rattle.x_cutting.specs.Items.{AreItems}
use Rattle.x_trees.specs.Tree as tree
use Rattle.x_item.specs.Parse.{IsParse}
use Rattle.x_item.specs.Parse as parse
use Rattle.x_trees.specs.View.{view_definition}
use Rattle.x_cutting.specs.declared.cutting.item_entry.ItemEntry.{ItemEntry}
use Rattle.x_rules.specs.Results.{Outcome}
use Rattle.x_rules.specs.declared.fault.WordFault.{WordFault}
use Rattle.x_pieces.specs.Pieces as pieces
use Rattle.x_compile.specs.Compile as compile
use Rattle.x_compile.specs.Compile.{parsed_definition, rule_faults}
use Rattle.x_compile.specs.Generated.{lines_of}
use Rattle.x_compile.specs.declared.content.CheckResult.{CheckResult}
use Rattle.x_compile.specs.declared.content.Content.{Content}
use Rattle.x_compile.specs.declared.content.Content.TheVariants as items
use Rattle.x_compile.specs.declared.content.Parse.{Parse}
use Rattle.x_compile.specs.declared.content.Parse.TheVariants as kept

-- what an item parses to
abbrev pub view_parse : Parse → parse.Parse
view_parse kept.Nothing = parse.Nothing
view_parse (kept.Def d) = parse.Def (view_definition d)
view_parse (kept.Fault token code) = parse.Fault token code

-- what was found of a definition, if there is one
abbrev pub found_result : Option (Box CheckResult) → Option Outcome
found_result None = None
found_result (Some found) = Some found.value.checked

-- the pieces of a definition, if it has no fault
abbrev pub found_pieces : Option (Box CheckResult) → Option pieces.Pieces
found_pieces None = None
found_pieces (Some found) = found.value.pieces

abbrev pub kept_parse : Content → parse.Parse
kept_parse items.Nothing = parse.Nothing
kept_parse (items.Fault token code) = parse.Fault token code
kept_parse (items.Sound body) = view_parse body.value.parse
kept_parse (items.OneFault code word body) = view_parse body.value.parse
kept_parse (items.Faulty body) = view_parse body.value.parse

-- the lines that pass through
abbrev pub kept_lines : Content → List ℕ
kept_lines (items.Sound body) = body.value.lines.items
kept_lines (items.OneFault code word body) = body.value.lines.items
kept_lines (items.Faulty body) = body.value.lines.items
kept_lines k = []

abbrev pub kept_found : Content → Option (Box CheckResult)
kept_found (items.Sound body) = body.value.found
kept_found (items.OneFault code word body) = body.value.found
kept_found (items.Faulty body) = body.value.found
kept_found k = None

-- whether it is kept that the item has faults
abbrev pub is_marked : Content → Bool
is_marked items.Nothing = false
is_marked (items.Fault token code) = true
is_marked (items.Sound body) = false
is_marked (items.OneFault code word body) = true
is_marked (items.Faulty body) = true

-- an item that parses so has faults, where these are by the rules
abbrev pub has_faults : parse.Parse → List WordFault → Bool
has_faults (parse.Fault token code) ruled = true
has_faults p [] = false
has_faults p (f ∷ fs) = true

-- an item that parses so has this fault alone, where these are by the rules
abbrev pub HasOnly : WordFault → parse.Parse → List WordFault → Type 0
HasOnly fault (parse.Fault token code) ruled = ⊥
HasOnly fault p ruled = ruled ≡ fault ∷ []

-- that is kept where the item has faults, and nowhere else; and a fault that stands beside its box is all
abbrev pub IsMarked : Content → Type 0
IsMarked (items.OneFault code word body) = HasOnly (record { word = word; code = code })
    (view_parse body.value.parse) (rule_faults (found_result body.value.found))
IsMarked k = is_marked k ≡ has_faults (kept_parse k) (rule_faults (found_result (kept_found k)))

-- the definition of an item
abbrev pub kept_definition : Content → Option tree.Definition
kept_definition k = parsed_definition (kept_parse k)

-- what is generated of an item
abbrev pub kept_part : Content → pieces.Part
kept_part k = record { lines = kept_lines k; pieces = found_pieces (kept_found k) }

-- the definitions of items
abbrev pub entry_definitions : List (ItemEntry Content) → List (Option tree.Definition)
entry_definitions entries = map (λ e. kept_definition e.kept) entries

-- what was found of items
abbrev pub entry_results : List (ItemEntry Content) → List (Option Outcome)
entry_results entries = map (λ e. found_result (kept_found e.kept)) entries

-- the item that has the first of these tokens
abbrev pub item_with : List Lexeme → ItemEntry Content → compile.Item
item_with tokens e = record {
  tokens = take e.tokens tokens;
  parse = kept_parse e.kept;
  result = found_result (kept_found e.kept);
}

-- the items of these tokens
abbrev pub items_with : List Lexeme → List (ItemEntry Content) → List compile.Item
items_with tokens [] = []
items_with tokens (e ∷ es) = item_with tokens e ∷ items_with (drop e.tokens tokens) es

-- how many bytes tokens have together
abbrev pub byte_count : List Lexeme → ℕ
byte_count tokens = total_length (λ t. length t.text) tokens

-- the number of an item's tokens and of their bytes, what they parse to, and the lines that pass through
pub record IsItem (tokens : List Lexeme) (e : ItemEntry Content) : Type 0 where
  pub count : e.tokens ≡ length tokens
  pub bytes : e.bytes ≡ byte_count tokens
  pub parsed : IsParse tokens (kept_parse e.kept)
  pub lines : kept_lines e.kept ≡ lines_of tokens
  pub marked : IsMarked e.kept

-- so each of them is
abbrev pub AreEach : List (List Lexeme) → List (ItemEntry Content) → Type 0
AreEach [] [] = Unit {0}
AreEach [] (e ∷ es) = ⊥
AreEach (part ∷ parts) [] = ⊥
AreEach (part ∷ parts) (e ∷ es) = IsItem part e × AreEach parts es

-- the items of the tokens, each with what it parses to
pub record AreParsed (tokens : List Lexeme) (entries : List (ItemEntry Content)) : Type 0 where
  pub parts : List (List Lexeme)
  pub are : AreItems tokens parts
  pub each : AreEach parts entries

-- items one behind another, which have the first of these tokens
abbrev pub AreAlong : List Lexeme → List (ItemEntry Content) → Type 0
AreAlong tokens [] = Unit {0}
AreAlong tokens (e ∷ es) = IsItem (take e.tokens tokens) e × AreAlong (drop e.tokens tokens) es

-- The pieces behind a check that made these, or none, and found these faults: those that were there stay
-- where none are to be made.
abbrev pub pieces_behind : Option pieces.Pieces → Option pieces.Pieces → List WordFault → Option pieces.Pieces
pieces_behind had (Some made) faults = Some made
pieces_behind had None [] = had
pieces_behind had None (f ∷ fs) = None

-- the pieces of an item that had these, once this is kept with it
abbrev pub renewed_pieces : Option pieces.Pieces → Option (Box CheckResult) → Option pieces.Pieces
renewed_pieces had None = None
renewed_pieces had (Some found) = pieces_behind had found.value.pieces found.value.checked.faults

-- the same item, of which this was found
pub record IsWith (e : ItemEntry Content) (r : Option (Box CheckResult))
    (f : ItemEntry Content) : Type 0 where
  pub tokens : f.tokens ≡ e.tokens
  pub bytes : f.bytes ≡ e.bytes
  pub parse : kept_parse f.kept ≡ kept_parse e.kept
  pub lines : kept_lines f.kept ≡ kept_lines e.kept
  pub result : found_result (kept_found f.kept) ≡ found_result r
  pub pieces : found_pieces (kept_found f.kept) ≡ renewed_pieces (found_pieces (kept_found e.kept)) r
  pub marked : IsMarked e.kept → IsMarked f.kept

-- so each of them is
abbrev pub AreWith : List (ItemEntry Content) → List (Option (Box CheckResult)) → List (ItemEntry Content)
    → Type 0
AreWith [] [] [] = Unit {0}
AreWith (e ∷ es) (r ∷ rs) (f ∷ fs) = IsWith e r f × AreWith es rs fs
AreWith es rs fs = ⊥

-- this was found of the item at an index, and the others are as they were
pub record IsWithAt (es : List (ItemEntry Content)) (index : ℕ) (r : Option (Box CheckResult))
    (fs : List (ItemEntry Content)) : Type 0 where
  pub old : ItemEntry Content
  pub was : slice_get es index ≡ Some old
  pub item : ItemEntry Content
  pub put : fs ≡ slice_set es index item
  pub with : IsWith old r item

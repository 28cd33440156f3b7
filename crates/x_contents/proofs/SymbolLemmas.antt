-- The text of symbols is that of their data.
use Rattle.std.proofs.Common.{◌≡◌, ◌-◌, ℕ, Bool, true, false, cond, List, [], ◌∷◌, ◌++◌, Option, None, Some}
use Rattle.std.proofs.Common.{length, map, take, ap, sym, refl, ◌∙◌, append_assoc, arith}
use Rattle.std.specs.Prelude.{◌==◌, codes, decimal, nat_lt, option_map, slice_get}
use Rattle.std.specs.List.{flat_map}
use Rattle.std.specs.Str.Lossy.{utf8_lossy}
use Rattle.std.proofs.lemmas.List.{append-nil, length-append, length-map, map-append, take-map}
use Rattle.std.proofs.lemmas.Grind.{flat_map-append}
use Rattle.std.proofs.lemmas.Option.{slice_get-map}
use Rattle.serde_json.specs.Data.{Data, array, string}
use Rattle.serde_json.specs.View.{items_of}
use Rattle.serde_json.specs.Written.{compact_text}
use Rattle.serde_json.proofs.OnLiterals.{serde_json_on_literals}
use Rattle.x_frames.specs.ListTexts.{ended, entry_text, open_list}
use Rattle.x_frames.proofs.TextLemmas.{eleven, five, list_ended, six}
use Rattle.x_lex.specs.Places.{Lexeme}
use Rattle.x_trees.specs.Tree.{Definition}
use Rattle.x_compile.specs.Compile.{Item, parsed_definition}
use Rattle.x_session.specs.ItemWalks.{over_items}
use Rattle.x_positions.specs.PositionData.{position_data, range_data}
use Rattle.x_positions.specs.declared.encoding.Encoding.{Encoding}
use Rattle.x_positions.specs.declared.positions.Position.{Position}
use Rattle.x_positions.specs.declared.range.Range.{Range}
use Rattle.x_lookups.specs.Parts.{parts_of}
use Rattle.x_lookups.specs.declared.parts.Part.{Part}
use Rattle.x_lookups.specs.declared.parts.PartKind.{PartKind}
use Rattle.x_contents.specs.Kept.{spelt}
use Rattle.x_contents.specs.Reading.{levels_of, siblings_of}
use Rattle.x_contents.specs.Symbols.{Outline, Siblings, children_by, children_in, is_below, last_of, left_by}
use Rattle.x_contents.specs.Symbols.{left_in, symbol_by, symbol_data, symbol_kind, symbol_of, symbols_in}
use Rattle.x_contents.specs.Symbols.{token_range}
use Rattle.x_contents.specs.Symbols.{with_definition, with_item, with_part, with_parts, with_sibling}
use Rattle.x_contents.specs.Symbols.{with_told}
use Rattle.x_contents.specs.declared.symbols.Level.{Level}
use Rattle.x_contents.specs.SymbolTexts.{no_text, range_text, symbol_text, text_by, text_of, with_text}

-- entries behind others
abbrev more_text : List Data → List ℕ
more_text ds = flat_map entry_text ds

list_more : (ds es : List Data) → open_list (ds ++ es) ≡ open_list ds ++ more_text es
list_more ds es = ap (λ l. 91 ∷ l) (flat_map-append entry_text ds es)

-- ---- parts in parts

abbrev siblings_text : Siblings Data → Siblings ℕ
siblings_text s = record { depth = s.depth; told = open_list s.told }

abbrev levels_text : List (Siblings Data) → List (Siblings ℕ)
levels_text levels = map siblings_text levels

abbrev outline_text : Outline Data → Outline ℕ
outline_text o = record { levels = levels_text o.levels; told = open_list o.told }

last_text : (levels : List (Siblings Data)) → last_of (levels_text levels) ≡ option_map siblings_text
    (last_of levels)
last_text levels =
    ap (λ n. slice_get (levels_text levels) (n - 1)) (length-map levels siblings_text)
    ∙ slice_get-map siblings_text levels (length levels - 1)

children_text : (levels : List (Siblings Data)) (depth : ℕ)
    → children_in no_text (levels_text levels) depth ≡ open_list (children_in [] levels depth)
children_text levels depth = ap (λ o. children_by no_text o depth) (last_text levels) ∙ by (last_of levels)
  where
    either : (b : Bool) (ds : List Data) → cond b (open_list ds) no_text ≡ open_list (cond b ds [])
    either true ds = refl
    either false ds = refl

    by : (o : Option (Siblings Data)) → children_by no_text (option_map siblings_text o) depth ≡ open_list
        (children_by [] o depth)
    by None = refl
    by (Some last) = either (nat_lt depth last.depth) last.told

left_text : (levels : List (Siblings Data)) (depth : ℕ)
    → left_in (levels_text levels) depth ≡ levels_text (left_in levels depth)
left_text levels depth = ap (λ o. left_by (levels_text levels) o depth) (last_text levels)
    ∙ by (last_of levels)
  where
    fewer : take (length (levels_text levels) - 1) (levels_text levels) ≡ levels_text
        (take (length levels - 1) levels)
    fewer = ap (λ n. take (n - 1) (levels_text levels)) (length-map levels siblings_text)
        ∙ take-map siblings_text (length levels - 1) levels

    either : (b : Bool) → cond b (take (length (levels_text levels) - 1) (levels_text levels))
        (levels_text levels) ≡ levels_text (cond b (take (length levels - 1) levels) levels)
    either true = fewer
    either false = refl

    by : (o : Option (Siblings Data)) → left_by (levels_text levels)
        (option_map siblings_text o) depth ≡ levels_text (left_by levels o depth)
    by None = refl
    by (Some last) = either (nat_lt depth last.depth)

sibling_text : (levels : List (Siblings Data)) (depth : ℕ) (more : List Data)
    → with_sibling no_text (levels_text levels) depth (more_text more) ≡ levels_text
    (with_sibling [] levels depth more)
sibling_text levels depth more =
    let children = children_in [] levels (depth - 1) in
    let told : children_in no_text (levels_text levels) (depth - 1)
    ++ more_text more ≡ open_list (children ++ more) =
    ap (λ l. l ++ more_text more) (children_text levels (depth - 1)) ∙ sym (list_more children more) in
    (λ i. left_text levels (depth - 1) i ++ record { depth = depth; told = told i } ∷ [])
    ∙ sym (map-append siblings_text (left_in levels (depth - 1))
    (record { depth = depth; told = children ++ more } ∷ []))

told_text : (o : Outline Data) (depth : ℕ) (more : Option (List Data))
    → with_told no_text (outline_text o) depth (option_map more_text more) ≡ outline_text
    (with_told [] o depth more)
told_text o depth None = refl
told_text o depth (Some more) = by (depth == 0)
  where
    by : (b : Bool) → cond b (record {
      levels = levels_text o.levels;
      told = open_list o.told
          ++ more_text more;
    }) (record {
      levels = with_sibling no_text (levels_text o.levels) depth
          (more_text more);
      told = open_list o.told;
    })
        ≡ outline_text (cond b (record { levels = o.levels; told = o.told ++ more })
        (record { levels = with_sibling [] o.levels depth more; told = o.told }))
    by true = λ i. record { levels = levels_text o.levels; told = sym (list_more o.told more) i }
    by false = λ i. record { levels = sibling_text o.levels depth more i; told = open_list o.told }

-- what is told of a part as a text is what is told of it as data
abbrev TellsAs : (Part → List ℕ → Option (List ℕ)) → (Part → List Data → Option (List Data)) → Type 0
TellsAs write tell = (p : Part) (children : List Data)
    → write p (open_list children) ≡ option_map more_text (tell p children)

part_text : (write : Part → List ℕ → Option (List ℕ)) (tell : Part → List Data → Option (List Data))
    → TellsAs write tell → (o : Outline Data) (p : Part)
    → with_part no_text write (outline_text o) p ≡ outline_text (with_part [] tell o p)
part_text write tell same o p =
    let children = children_in [] o.levels p.depth in
    let written : write p (children_in no_text (levels_text o.levels) p.depth) ≡ option_map more_text
    (tell p children) =
    ap (write p) (children_text o.levels p.depth) ∙ same p children in
    (λ i. with_told no_text
    (record { levels = left_text o.levels p.depth i; told = open_list o.told }) p.depth (written i))
    ∙ told_text (record { levels = left_in o.levels p.depth; told = o.told }) p.depth (tell p children)

parts_text : (write : Part → List ℕ → Option (List ℕ)) (tell : Part → List Data → Option (List Data))
    → TellsAs write tell → (o : Outline Data) (parts : List Part)
    → with_parts no_text write (outline_text o) parts ≡ outline_text (with_parts [] tell o parts)
parts_text write tell same o [] = refl
parts_text write tell same o (p ∷ ps) = ap (λ x. with_parts no_text write x ps)
    (part_text write tell same o p) ∙ parts_text write tell same (with_part [] tell o p) ps

definition_text : (write : Part → List ℕ → Option (List ℕ)) (tell : Part → List Data → Option (List Data))
    → TellsAs write tell → (told : List Data) (parts : List Part)
    → with_definition no_text write (open_list told) parts ≡ open_list (with_definition [] tell told parts)
definition_text write tell same told parts = ap (λ (o : Outline ℕ). o.told)
    (parts_text write tell same (record { levels = []; told = told }) parts)

-- ---- the symbol of a part

symbol_text_is : (kind : PartKind) (name : List ℕ) (range selection children : Data)
    → compact_text (symbol_data kind name range selection children) ≡ symbol_text kind name
    (compact_text range) (compact_text selection) (compact_text children)
unfolding serde_json_on_literals
symbol_text_is kind name range selection children =
    sym (eleven (codes "{\"children\":") (compact_text children) (codes ",\"kind\":")
    (decimal (symbol_kind kind)) (codes ",\"name\":") (compact_text (string name))
    (codes ",\"range\":") (compact_text range) (codes ",\"selectionRange\":") (compact_text selection)
    (codes "}"))

position_more : (p : Position) (rest : List ℕ) → compact_text (position_data p) ++ rest
    ≡ codes "{\"character\":" ++ (decimal p.character
    ++ (codes ",\"line\":" ++ (decimal p.line ++ (codes "}" ++ rest))))
unfolding serde_json_on_literals
position_more p rest =
    ap (λ l. l ++ rest) (sym (five (codes "{\"character\":") (decimal p.character) (codes ",\"line\":")
    (decimal p.line) (codes "}")))
    ∙ six (codes "{\"character\":") (decimal p.character) (codes ",\"line\":") (decimal p.line)
    (codes "}") rest

nine : (a b c d e f g h k : List ℕ) → a ++ b ++ c ++ d ++ e ++ f ++ g ++ h ++ k ≡ a
    ++ (b ++ (c ++ (d ++ (e ++ (f ++ (g ++ (h ++ k)))))))
nine a b c d e f g h k = five (a ++ b ++ c ++ d ++ e) f g h k ∙ six a b c d e (f ++ (g ++ (h ++ k)))

range_text_is : (first last : Range) → compact_text (range_data first.start last.end) ≡ range_text first last
unfolding serde_json_on_literals
range_text_is first last =
    (λ i. codes "{\"end\":" ++ position_more last.end
    (codes ",\"start\":" ++ (compact_text (position_data first.start) ++ codes "}")) i)
    ∙ (λ i. codes "{\"end\":{\"character\":" ++ (decimal last.end.character
    ++ (codes ",\"line\":" ++ (decimal last.end.line
    ++ (codes "},\"start\":" ++ position_more first.start (codes "}") i)))))
    ∙ sym (nine (codes "{\"end\":{\"character\":") (decimal last.end.character) (codes ",\"line\":")
    (decimal last.end.line)
    (codes "},\"start\":{\"character\":") (decimal first.start.character) (codes ",\"line\":")
    (decimal first.start.line) (codes "}}"))

by_text : (kind : PartKind) (token : Option Lexeme) (first name last : Option Range) (children : List Data)
    → text_by kind token first name last (ended (open_list children)) ≡ option_map more_text
    (symbol_by kind token first name last (array (items_of children)))
by_text kind None first name last children = refl
by_text kind (Some token) None name last children = refl
by_text kind (Some token) (Some first) None last children = refl
by_text kind (Some token) (Some first) (Some name) None children = refl
by_text kind (Some token) (Some first) (Some name) (Some last) children =
    let range = range_data first.start last.end in
    let selection = range_data name.start name.end in
    let inner = array (items_of children) in
    ap Some
    ((λ i. symbol_text kind (utf8_lossy token.text) (sym (range_text_is first last) i)
    (sym (range_text_is name name) i) (list_ended children i) ++ codes ",")
    ∙ ap (λ l. l ++ codes ",") (sym (symbol_text_is kind (utf8_lossy token.text) range selection inner))
    ∙ sym (append-nil (entry_text (symbol_data kind (utf8_lossy token.text) range selection inner))))

tells : (tokens : List Lexeme) (ranges : List Range)
    → TellsAs (text_of tokens ranges) (symbol_of tokens ranges)
tells tokens ranges p children = by_text p.kind (slice_get tokens p.name) (slice_get ranges p.first)
    (slice_get ranges p.name) (slice_get ranges p.last) children

-- ---- item by item

-- the text of an item, behind that of earlier ones
abbrev pub item_text : Encoding → (shown text : List ℕ) → List Lexeme → Option Definition → List ℕ
item_text encoding shown text tokens o = with_text text tokens (map (token_range encoding shown) tokens) o

by_item : (encoding : Encoding) (shown : List ℕ) (told : List Data) (tokens : List Lexeme)
    (o : Option Definition) → item_text encoding shown (open_list told) tokens o ≡ open_list
    (with_item encoding shown told tokens o)
by_item encoding shown told tokens None = refl
by_item encoding shown told tokens (Some d) =
    let ranges = map (token_range encoding shown) tokens in
    definition_text (text_of tokens ranges) (symbol_of tokens ranges) (tells tokens ranges) told
    (parts_of tokens)

by_items : (encoding : Encoding) (shown : List ℕ) (told : List Data) (items : List Item)
    → over_items (item_text encoding shown) (open_list told) items ≡ open_list
    (over_items (with_item encoding shown) told items)
by_items encoding shown told [] = refl
by_items encoding shown told (i ∷ is) =
    ap (λ t. over_items (item_text encoding shown) t is)
    (by_item encoding shown told i.tokens (parsed_definition i.parse))
    ∙ by_items encoding shown (with_item encoding shown told i.tokens (parsed_definition i.parse)) is

-- the text of all symbols
pub symbols_text : (encoding : Encoding) (shown : List ℕ) (items : List Item)
    → ended (over_items (item_text encoding shown) no_text items) ≡ compact_text
    (array (items_of (symbols_in encoding shown items)))
symbols_text encoding shown items = ap ended (by_items encoding shown [] items)
    ∙ list_ended (symbols_in encoding shown items)

-- ---- what is taken of levels

at_end : {X : Type 0} (xs : List X) (x : X) → slice_get (xs ++ x ∷ []) (length xs) ≡ Some x
at_end [] x = refl
at_end (y ∷ ys) x = at_end ys x

-- the last level, where it stands below a depth, is what stands in a part at that depth
pub last_taken : (levels rest : List Level) (level : Level) (depth : ℕ) → levels ≡ rest ++ level ∷ []
    → is_below (last_of (levels_of levels)) depth ≡ true
    → spelt level.text ≡ children_in no_text (levels_of levels) depth
last_taken levels rest level depth split below =
    let front = levels_of rest in
    let one = siblings_of level in
    let len = length-append front (one ∷ []) in
    let place : length (front ++ one ∷ []) - 1 ≡ length front = omega (arith, len) in
    let last : last_of (levels_of levels) ≡ Some one =
    ap (λ ls. last_of (levels_of ls)) split ∙ ap last_of (map-append siblings_of rest (level ∷ []))
    ∙ ap (slice_get (front ++ one ∷ [])) place ∙ at_end front one in
    let under : nat_lt depth level.depth ≡ true = sym (ap (λ o. is_below o depth) last) ∙ below in
    sym (ap (λ o. children_by no_text o depth) last ∙ ap (λ b. cond b (spelt level.text) no_text) under)

-- ---- a symbol as it is written

-- one part more behind others
pub part_more : (old parts more now next : List ℕ) → now ≡ old ++ parts → next ≡ now ++ more
    → next ≡ old ++ (parts ++ more)
part_more old parts more now next is step = step ∙ ap (λ l. l ++ more) is ∙ append_assoc old parts more

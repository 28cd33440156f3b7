-- The token that declares a name first is the first of those that declare it.
use Rattle.std.proofs.Common.{◌≡◌, ℕ, zero, suc, ◌+◌, ◌<◌, ◌≤◌, Bool, true, false, cond, List, [], ◌∷◌, ◌++◌}
use Rattle.std.proofs.Common.{length, map, Option, None, Some, refl, ap, sym, subst, ◌∙◌, append_assoc, arith}
use Rattle.std.specs.Prelude.{◌&&◌, not, slice_get, option_and_then}
use Rattle.std.specs.List.{flat_map}
use Rattle.std.specs.Option.{option_or}
use Rattle.std.specs.Str.{bytes_eq}
use Rattle.x_lex.specs.Places.{Lexeme}
use Rattle.x_trees.specs.Tree.{Definition}
use Rattle.x_trees.specs.Gloss.{Declares, Gloss, Role, gloss, told_of}
use Rattle.x_trees.specs.Mentions.{Mention, mentioned}
use Rattle.x_trees.specs.Names.{Declared, declared, declared_at}
use Rattle.x_trees.specs.Spell.{spell}
use Rattle.x_trees.proofs.GlossLemmas.{long_as, words_gloss}
use Rattle.x_names.specs.Declarers.{declarer_at, declarer_in, first_from, place_of_name}
use Rattle.x_names.specs.declared.names.Declarer.{Declarer}
use Rattle.x_item.specs.Parse.{IsParse, Parse}
use Rattle.x_compile.specs.Compile.{Item, AreParses, definitions_of, parsed_definition}
use Rattle.x_lookups.specs.declared.name_places.Standing.TheVariants.{Uses}
use Rattle.x_lookups.specs.NamePlaces.{NamePlace, declared_on, first_of, is_use, mentioned_on, name_on}
use Rattle.x_lookups.specs.NamePlaces.{names_by, names_of, names_on, standing_of, tokens_where}
use Rattle.x_session.specs.DeclaredNames.{word_at, words_in}
use Rattle.x_session.proofs.ItemsLeft.{short_definition}
use Rattle.x_lookups.proofs.NamePlaceLemmas.{where_append}

-- ---- the words that declare names

abbrev pub AreBefore : ℕ → List Declared → Type 0
AreBefore n [] = Unit {0}
AreBefore n (d ∷ ds) = (d.word < n) × AreBefore n ds

before_append : (n : ℕ) (xs ys : List Declared) → AreBefore n xs → AreBefore n ys → AreBefore n (xs ++ ys)
before_append n [] ys h k = k
before_append n (d ∷ xs) ys h k = (h.0, before_append n xs ys h.1 k)

before_roles : (n at : ℕ) (roles : List Role) → at < n → AreBefore n (declared_at at roles)
before_roles n at [] lt = tt
before_roles n at (Declares name kind lifted ∷ roles) lt = (lt, before_roles n at roles lt)
before_roles n at (role ∷ roles) lt = before_roles n at roles lt

before_told : (n at : ℕ) (gs : List Gloss) → at + length gs ≤ n → AreBefore n (told_of declared_at at gs)
before_told n at [] le = tt
before_told n at (g ∷ gs) le = before_append n (declared_at at g.roles) (told_of declared_at (at + 1) gs)
    (before_roles n at g.roles (omega arith)) (before_told n (at + 1) gs (omega arith))

-- they are words of the definition
pub declared_before : (d : Definition) (n : ℕ) → length (spell d) ≡ n → AreBefore n (declared d)
declared_before d n long =
    let same = long_as (gloss d) (words_gloss d) in
    before_told n 0 (gloss d) (omega (arith, same, long))

-- ---- in an item

abbrev pub is_declaring : List ℕ → NamePlace → Bool
is_declaring name n = not (is_use n.standing) && bytes_eq name n.name

-- of the tokens that declare a name the first is that of the first declarer
pub data IsFirst (found words : List Lexeme) (item : ℕ) (o : Option Declarer) : Type 0 where
  Nowhere : o ≡ None → found ≡ [] → IsFirst found words item o
  There : (e : Declarer) (t : Lexeme) (more : List Lexeme) → o ≡ Some e → e.item ≡ item
      → slice_get words e.word ≡ Some t → found ≡ t ∷ more → IsFirst found words item o

no_use : (name other : List ℕ) (o : Option Lexeme)
    → tokens_where (is_declaring name) (name_on o other Uses) ≡ []
no_use name other None = refl
no_use name other (Some t) = refl

no_uses : (name : List ℕ) (words : List Lexeme) (ms : List Mention)
    → tokens_where (is_declaring name) (flat_map (mentioned_on words) ms) ≡ []
no_uses name words [] = refl
no_uses name words (m ∷ ms) =
    where_append (is_declaring name) (mentioned_on words m) (flat_map (mentioned_on words) ms)
    ∙ ap (λ l. l ++ tokens_where (is_declaring name) (flat_map (mentioned_on words) ms))
    (no_use name m.name (slice_get words m.word))
    ∙ no_uses name words ms

chosen : (b : Bool) (p : NamePlace)
    → map (λ (n : NamePlace). n.token) (cond b (p ∷ []) []) ≡ cond b (p.token ∷ []) []
chosen true p = refl
chosen false p = refl

by_standing : (name other : List ℕ) (t : Lexeme) (lifted : Bool)
    → tokens_where (is_declaring name) (name_on (Some t) other (standing_of lifted))
    ≡ cond (bytes_eq name other) (t ∷ []) []
by_standing name other t true =
    chosen (bytes_eq name other) (record { name = other; token = t; standing = standing_of true })
by_standing name other t false =
    chosen (bytes_eq name other) (record { name = other; token = t; standing = standing_of false })

there : (words : List Lexeme) (n : ℕ) → n < length words → (t : Lexeme) × (slice_get words n ≡ Some t)
there [] n lt = absurd (omega arith)
there (w ∷ words) zero lt = (w, refl)
there (w ∷ words) (suc n) lt = there words n (omega arith)

first_step : (name : List ℕ) (words rest : List Lexeme) (item place : ℕ) (d : Declared) (o : Option Declarer)
    (t : Lexeme) (b : Bool) → slice_get words d.word ≡ Some t → IsFirst rest words item o
    → IsFirst (cond b (t ∷ []) [] ++ rest) words item (cond b (Some (declarer_at item place d)) o)
first_step name words rest item place d o t true is others =
    There (declarer_at item place d) t rest refl refl is refl
first_step name words rest item place d o t false is others = others

pub first_in_item : (name : List ℕ) (words : List Lexeme) (ds : List Declared) (ms : List Mention)
    (item place : ℕ) → AreBefore (length words) ds
    → IsFirst (tokens_where (is_declaring name) (names_on words ds ms)) words item
    (place_of_name item place name ds)
first_in_item name words [] ms item place before = Nowhere refl (no_uses name words ms)
first_in_item name words (d ∷ ds) ms item place before =
    let t = there words d.word before.0 in
    let test = is_declaring name in
    let here : tokens_where test (declared_on words d) ≡ cond (bytes_eq name d.name) (t.0 ∷ []) [] =
    ap (λ o. tokens_where test (name_on o d.name (standing_of d.lifted))) t.1
    ∙ by_standing name d.name t.0 d.lifted in
    let parts : tokens_where test (names_on words (d ∷ ds) ms)
    ≡ cond (bytes_eq name d.name) (t.0 ∷ []) [] ++ tokens_where test (names_on words ds ms) =
    ap (tokens_where test) (append_assoc (declared_on words d) (flat_map (declared_on words) ds)
    (flat_map (mentioned_on words) ms))
    ∙ where_append test (declared_on words d) (names_on words ds ms)
    ∙ ap (λ l. l ++ tokens_where test (names_on words ds ms)) here in
    subst (λ l. IsFirst l words item (place_of_name item place name (d ∷ ds))) (sym parts)
    (first_step name words (tokens_where test (names_on words ds ms)) item place d
    (place_of_name item (suc place) name ds) t.0 (bytes_eq name d.name) t.1
    (first_in_item name words ds ms item (suc place) before.1))

-- ---- in a text

first_by : (name : List ℕ) (tokens : List Lexeme) (parse : Parse) (item : ℕ) (o : Option Definition)
    → IsParse tokens parse → o ≡ parsed_definition parse
    → IsFirst (tokens_where (is_declaring name) (names_by tokens o)) (words_in tokens) item
    (declarer_in item name o)
first_by name tokens parse item None parsed is = Nowhere refl refl
first_by name tokens parse item (Some d) parsed is =
    first_in_item name (words_in tokens) (declared d) (mentioned d) item 0
    (declared_before d (length (words_in tokens))
    (short_definition tokens parse d (length (words_in tokens)) parsed is refl))

-- the items are those of the text from a number on
pub record AreFrom (all items : List Item) (k : ℕ) : Type 0 where
  pub same : (j : ℕ) → slice_get all (k + j) ≡ slice_get items j

from_more : (all items : List Item) (i : Item) (k : ℕ) → AreFrom all (i ∷ items) k → AreFrom all items (suc k)
from_more all items i k h = record {
  same = λ j. let e : suc k + j ≡ k + suc j = omega arith in ap (slice_get all) e ∙ h.same (suc j);
}

from_here : (all items : List Item) (i : Item) (k : ℕ) → AreFrom all (i ∷ items) k → slice_get all k ≡ Some i
from_here all items i k h = let e : k ≡ k + 0 = omega arith in ap (slice_get all) e ∙ h.same 0

joined_first : (all : List Item) (i : Item) (k : ℕ) (found rest : List Lexeme) (o later : Option Declarer)
    → slice_get all k ≡ Some i → IsFirst found (words_in i.tokens) k o
    → first_of rest ≡ option_and_then (word_at all) later
    → first_of (found ++ rest) ≡ option_and_then (word_at all) (option_or o later)
joined_first all i k found rest o later here (Nowhere none nothing) others =
    ap (λ l. first_of (l ++ rest)) nothing ∙ others
    ∙ ap (λ d. option_and_then (word_at all) (option_or d later)) (sym none)
joined_first all i k found rest o later here (There e t more is item word tokens) others =
    let at : slice_get all e.item ≡ Some i = ap (slice_get all) item ∙ here in
    ap (λ l. first_of (l ++ rest)) tokens ∙ sym word
    ∙ ap (λ x. option_and_then (λ (j : Item). slice_get (words_in j.tokens) e.word) x) (sym at)
    ∙ ap (λ d. option_and_then (word_at all) (option_or d later)) (sym is)

first_in_items : (name : List ℕ) (all items : List Item) (k : ℕ) → AreFrom all items k → AreParses items
    → first_of (tokens_where (is_declaring name) (names_of items))
    ≡ option_and_then (word_at all) (first_from k (definitions_of items) name)
first_in_items name all [] k from parses = refl
first_in_items name all (i ∷ items) k from parses =
    let o = parsed_definition i.parse in
    ap first_of (where_append (is_declaring name) (names_by i.tokens o) (names_of items))
    ∙ joined_first all i k (tokens_where (is_declaring name) (names_by i.tokens o))
    (tokens_where (is_declaring name) (names_of items)) (declarer_in k name o)
    (first_from (suc k) (definitions_of items) name)
    (from_here all items i k from) (first_by name i.tokens i.parse k o parses.0 refl)
    (first_in_items name all items (suc k) (from_more all items i k from) parses.1)

-- the first of the tokens that declare a name is that of its first declarer
pub first_declared : (name : List ℕ) (items : List Item) → AreParses items
    → first_of (tokens_where (is_declaring name) (names_of items))
    ≡ option_and_then (word_at items) (first_from 0 (definitions_of items) name)
first_declared name items parses = first_in_items name items items 0
    (record { same = λ j. let e : 0 + j ≡ j = omega arith in ap (slice_get items) e }) parses

-- The first name that is wanted in what does not parse.
use Rattle.std.proofs.Common.{◌≡◌, ℕ, suc, ◌+◌, ◌<◌, ◌≤◌, Bool, true, false, cond, List, [], ◌∷◌, ◌++◌}
use Rattle.std.proofs.Common.{length, map, drop, filter, Option, None, Some, refl, ap, sym, subst, ◌∙◌, arith}
use Rattle.std.specs.Prelude.{◌&&◌}
use Rattle.x_lex.specs.declared.kind.Kind.{Kind}
use Rattle.x_lex.specs.declared.kind.Kind.TheVariants as kinds
use Rattle.x_lex.specs.Places.{Lexeme}
use Rattle.x_cutting.specs.Items.{AreItems, IsNext}
use Rattle.x_trees.specs.Tree.{Definition}
use Rattle.x_trees.specs.Words.{is_significant, word_of, words_of}
use Rattle.x_item.specs.Parse.{Parse, Nothing, Def, Fault, IsParse}
use Rattle.x_compile.specs.Compile.{Item, IsCompilation, definition_at, parsed_definition, tokens_of}
use Rattle.x_compile.proofs.Compiled.{one_compilation}
use Rattle.x_compile.specs.Known.{KnownText}
use Rattle.x_session.specs.Session.{Compiles}
use Rattle.x_session.proofs.ItemsLeft.{AreLeft, all_left, item_at, next_item_is, none_left}
use Rattle.x_lookups.specs.NamePlaces.{first_of}
use Rattle.x_lookups.specs.Unparsed.{is_name, unparsed_in, unparsed_where}

-- ---- the first of a list

abbrev pub FirstNamed : (Lexeme → Bool) → List Lexeme → Option Lexeme
FirstNamed test tokens = first_of (filter (λ t. is_name t.kind && test t) tokens)

pub first_behind : (test : Lexeme → Bool) (t : Lexeme) (rest all : List Lexeme) → all ≡ t ∷ rest
    → false ≡ (is_name t.kind && test t) → FirstNamed test rest ≡ FirstNamed test all
first_behind test t rest all is missed = by (is_name t.kind && test t) missed ∙ ap (FirstNamed test) (sym is)
  where
    by : (b : Bool) → false ≡ b
        → FirstNamed test rest ≡ first_of (cond b (t ∷ filter (λ u. is_name u.kind && test u) rest)
        (filter (λ u. is_name u.kind && test u) rest))
    by true h = absurd (cc)
    by false h = refl

pub first_here : (test : Lexeme → Bool) (t : Lexeme) (rest all : List Lexeme) → all ≡ t ∷ rest
    → true ≡ (is_name t.kind && test t) → Some t ≡ FirstNamed test all
first_here test t rest all is fits = by (is_name t.kind && test t) fits ∙ ap (FirstNamed test) (sym is)
  where
    by : (b : Bool) → true ≡ b
        → Some t ≡ first_of (cond b (t ∷ filter (λ u. is_name u.kind && test u) rest)
        (filter (λ u. is_name u.kind && test u) rest))
    by true h = refl
    by false h = absurd (cc)

none_first : (xs : List Lexeme) → None ≡ first_of xs → xs ≡ []
none_first [] is = refl
none_first (x ∷ xs) is = absurd (cc)

first_before : (xs ys : List Lexeme) (t : Lexeme) → Some t ≡ first_of xs → Some t ≡ first_of (xs ++ ys)
first_before [] ys t is = absurd (cc)
first_before (x ∷ xs) ys t is = is

-- ---- in an item

-- a name is a word
no_name : (k : Kind) → is_significant k ≡ false → is_name k ≡ false
no_name kinds.Space h = refl
no_name kinds.Comment h = refl
no_name kinds.OpenComment h = refl
no_name kinds.Percent h = refl
no_name kinds.Marker h = refl
no_name kinds.Directive h = refl
no_name kinds.Keyword h = refl
no_name kinds.Name h = absurd (cc)
no_name kinds.Number h = refl
no_name kinds.BadNumber h = refl
no_name kinds.Punct h = refl
no_name kinds.BadByte h = refl

skipped : (b c : Bool) (t : Lexeme) (names : List Lexeme) → b ≡ false → names ≡ []
    → cond (b && c) (t ∷ names) names ≡ []
skipped true c t names h none = absurd (cc)
skipped false c t names h none = none

no_first : (b : Bool) (t : Lexeme) (words names : List Lexeme) (test : Lexeme → Bool) → is_significant t.kind
    ≡ b → (map word_of words ≡ [] → names ≡ []) → map word_of (cond b (t ∷ words) words) ≡ []
    → cond (is_name t.kind && test t) (t ∷ names) names ≡ []
no_first true t words names test h rest none = absurd (cc)
no_first false t words names test h rest none =
    skipped (is_name t.kind) (test t) t names (no_name t.kind h) (rest none)

-- where no words are there are no names
no_names : (test : Lexeme → Bool) (tokens : List Lexeme) → words_of tokens ≡ []
    → filter (λ t. is_name t.kind && test t) tokens ≡ []
no_names test [] none = refl
no_names test (t ∷ tokens) none =
    no_first (is_significant t.kind) t (filter (λ u. is_significant u.kind) tokens)
    (filter (λ u. is_name u.kind && test u) tokens) test refl (no_names test tokens) none

-- an item with a definition parses
pub none_parsed : (test : Lexeme → Bool) (tokens : List Lexeme) (parse : Parse) (d : Definition)
    → Some d ≡ parsed_definition parse → None ≡ first_of (unparsed_in test tokens parse)
none_parsed test tokens Nothing d is = absurd (cc)
none_parsed test tokens (Def e) d is = refl
none_parsed test tokens (Fault token code) d is = absurd (cc)

-- one without a definition does not, or has no names
pub first_unparsed_in : (test : Lexeme → Bool) (tokens : List Lexeme) (parse : Parse) → IsParse tokens parse
    → None ≡ parsed_definition parse → FirstNamed test tokens ≡ first_of (unparsed_in test tokens parse)
first_unparsed_in test tokens Nothing parsed is = ap first_of (no_names test tokens parsed)
first_unparsed_in test tokens (Def d) parsed is = absurd (cc)
first_unparsed_in test tokens (Fault token code) parsed is = refl

-- ---- in the items of a text

-- in the items before one nothing is wanted, and the tokens of the others are left
pub record HasNone (known : KnownText) (text : List ℕ) (test : Lexeme → Bool) (n : ℕ) (walk : List Lexeme) :
    Type 0 where
  pub tokens : List (Kind × ℕ)
  pub items : List Item
  pub compiles : IsCompilation known text tokens items
  pub left : AreLeft walk (map (λ i. i.tokens) (drop n items))
  pub none : unparsed_where test (drop n items) ≡ unparsed_where test items

pub none_yet : {known : KnownText} (text : List ℕ) (test : Lexeme → Bool) (walk : List Lexeme)
    → Compiles known text (λ items. walk ≡ tokens_of items) → HasNone known text test 0 walk
none_yet text test walk c = record {
  tokens = c.0;
  items = c.1;
  compiles = c.2;
  left = all_left (tokens_of c.1) walk (map (λ i. i.tokens) c.1)
      (subst (λ l. AreItems l (map (λ i. i.tokens) c.1)) (sym c.2.are_items.all) c.2.are_items) c.3;
  none = refl;
}

-- the item that stands there, with those behind it
record IsHere (known : KnownText) (text : List ℕ) (test : Lexeme → Bool) (n : ℕ) (walk part : List Lexeme)
    (o : Option Definition) : Type 0 where
  tokens : List (Kind × ℕ)
  items : List Item
  compiles : IsCompilation known text tokens items
  parse : Parse
  parsed : IsParse part parse
  definition : o ≡ parsed_definition parse
  left : AreLeft walk (map (λ i. i.tokens) (drop (suc n) items))
  all : unparsed_where test items ≡ unparsed_in test part parse ++ unparsed_where test (drop (suc n) items)

item_here : {known : KnownText} (text : List ℕ) (test : Lexeme → Bool) (n count : ℕ) (whole : Bool)
    (walk walk' part : List Lexeme) (o : Option Definition) → n < count
    → Compiles known text (λ items. count ≡ length items)
    → Compiles known text (λ items. o ≡ definition_at items n) → HasNone known text test n walk
    → IsNext whole walk part walk' → IsHere known text test n walk' part o
item_here {known} text test n count whole walk walk' part o lt many has had next =
    let same : had.items ≡ many.1 =
    (one_compilation known text had.tokens many.0 had.items many.1 had.compiles many.2).1 in
    let same' : has.1 ≡ had.items =
    (one_compilation known text has.0 had.tokens has.1 had.items has.2 had.compiles).1 in
    let count_is : count ≡ length had.items = many.3 ∙ ap length (sym same) in
    let at = item_at had.items n (omega (arith, lt, count_is)) had.compiles.are_parses in
    let rest = drop (suc n) had.items in
    let here : map (λ i. i.tokens) (drop n had.items) ≡ at.item.tokens ∷ map (λ i. i.tokens) rest =
    ap (map (λ i. i.tokens)) at.here in
    let left = next_item_is whole walk part walk' at.item.tokens (map (λ i. i.tokens) rest)
    (subst (AreLeft walk) here had.left) next in
    record {
      tokens = had.tokens;
      items = had.items;
      compiles = had.compiles;
      parse = at.item.parse;
      parsed = subst (λ ts. IsParse ts at.item.parse) (sym left.0) at.parsed;
      definition = has.3 ∙ ap (λ is. definition_at is n) same' ∙ at.definition;
      left = left.1;
      all = sym had.none ∙ ap (unparsed_where test) at.here
          ∙ ap (λ ts. unparsed_in test ts at.item.parse ++ unparsed_where test rest) (sym left.0);
    }

-- nothing is wanted in it
pub none_more : {known : KnownText} (text : List ℕ) (test : Lexeme → Bool) (n m count : ℕ) (whole : Bool)
    (walk walk' part : List Lexeme) (o : Option Definition) → m ≡ n + 1 → n < count
    → Compiles known text (λ items. count ≡ length items)
    → Compiles known text (λ items. o ≡ definition_at items n) → HasNone known text test n walk
    → IsNext whole walk part walk'
    → ((p : Parse) → IsParse part p → o ≡ parsed_definition p → None ≡ first_of (unparsed_in test part p))
    → HasNone known text test m walk'
none_more {known} text test n m count whole walk walk' part o step lt many has had next never =
    let h = item_here text test n count whole walk walk' part o lt many has had next in
    let empty : unparsed_in test part h.parse ≡ [] =
    none_first (unparsed_in test part h.parse) (never h.parse h.parsed h.definition) in
    let suc_is : suc n ≡ m = omega (arith, step) in
    subst (λ k. HasNone known text test k walk') suc_is record {
      tokens = h.tokens;
      items = h.items;
      compiles = h.compiles;
      left = h.left;
      none = sym (h.all ∙ ap (λ l. l ++ unparsed_where test (drop (suc n) h.items)) empty);
    }

-- the first that is wanted stands in it
pub found_here : {known : KnownText} (text : List ℕ) (test : Lexeme → Bool) (n count : ℕ) (whole : Bool)
    (walk walk' part : List Lexeme) (o : Option Definition) (t : Lexeme) → n < count
    → Compiles known text (λ items. count ≡ length items)
    → Compiles known text (λ items. o ≡ definition_at items n) → HasNone known text test n walk
    → IsNext whole walk part walk' → ((p : Parse) → IsParse part p → o ≡ parsed_definition p
    → Some t ≡ first_of (unparsed_in test part p))
    → Compiles known text (λ items. Some t ≡ first_of (unparsed_where test items))
found_here {known} text test n count whole walk walk' part o t lt many has had next is =
    let h = item_here text test n count whole walk walk' part o lt many has had next in (
      h.tokens,
      h.items,
      h.compiles,
      first_before (unparsed_in test part h.parse) (unparsed_where test (drop (suc n) h.items)) t
          (is h.parse h.parsed h.definition) ∙ ap first_of (sym h.all),
    )

-- nothing is wanted in any
pub none_at_all : {known : KnownText} (text : List ℕ) (test : Lexeme → Bool) (n count : ℕ)
    (walk : List Lexeme) → count ≤ n → Compiles known text (λ items. count ≡ length items)
    → HasNone known text test n walk
    → Compiles known text (λ items. None ≡ first_of (unparsed_where test items))
none_at_all {known} text test n count walk le many had =
    let same : had.items ≡ many.1 =
    (one_compilation known text had.tokens many.0 had.items many.1 had.compiles many.2).1 in
    let count_is : count ≡ length had.items = many.3 ∙ ap length (sym same) in
    let none = none_left had.items n (omega (arith, le, count_is)) in (
      had.tokens,
      had.items,
      had.compiles,
      ap (λ is. first_of (unparsed_where test is)) (sym none) ∙ ap first_of had.none,
    )

-- Where the names of a text are declared first.
use Rattle.std.proofs.Common.{Bor, ◌≡◌, ℕ, zero, suc, ◌+◌, ◌<◌, ◌≤◌, ◌^◌, Bool, true, false, cond, Option}
use Rattle.std.proofs.Common.{None, Some, Result, Ok, Err, get_or, length, drop, arith, List, [], ◌∷◌, ◌++◌}
use Rattle.std.proofs.Common.{map, refl, sym, subst, ap, ◌∙◌}
use Rattle.std.specs.Prelude.{option_and_then, option_map, slice_get, IfOk, IfSome, MatchOption}
use Rattle.std.specs.Option.{option_copied}
use Rattle.std.proofs.lemmas.List.{append-nil, length-append}
use Rattle.std.proofs.lemmas.List.Sums.{length-filter, count_by-le-length}
use Rattle.std.proofs.lemmas.Option.{slice_get-map, slice_get_read}
use Rattle.x_lists.proofs.ListLemmas.{get_mapped}
use Rattle.x_lex.specs.declared.kind.Kind.{Kind}
use Rattle.x_lex.specs.declared.tokens.token.Token.{Token}
use Rattle.x_lex.specs.Places.{Lexeme, lexeme}
use Rattle.x_cutting.specs.Items.{AreItems, IsNext}
use Rattle.x_trees.specs.Words.{is_significant}
use Rattle.x_trees.specs.Spell.{spell}
use Rattle.x_trees.specs.Tree.{Definition}
use Rattle.x_names.specs.Declarers.{AreShort, FirstIs, first_declarer}
use Rattle.x_names.specs.DeclarerTable.{first_in}
use Rattle.x_names.specs.declared.names.Declarer.{Declarer}
use Rattle.x_names.proofs.DeclarerLaws.{as_found}
use Rattle.x_compile.specs.Compile.{AreParses, IsCompilation, Item, definition_at, definitions_of}
use Rattle.x_compile.specs.Compile.{parsed_definition, tokens_of}
use Rattle.x_compile.proofs.Compiled.{one_compilation}
use Rattle.x_compile.specs.Known.{KnownText}
use Rattle.x_session.specs.Session.{Compiles}
use Rattle.x_session.specs.declared.declared.DeclaredNames.{DeclaredNames}
use Rattle.x_session.specs.declared.declared.FirstPlace.{FirstPlace}
use Rattle.x_session.specs.declared.declared.Spot.{Spot}
use Rattle.x_session.specs.DeclaredNames.{IsTableOf, declared_at, first_place, first_place_by, spot_at}
use Rattle.x_session.specs.DeclaredNames.{word_at, word_of_item, word_spots, words_in}
use Rattle.x_session.specs.DeclaredNames.{place_by, place_in, word_spot}
use Rattle.x_session.proofs.ItemsLeft.{AreLeft, all_left, item_at, next_item_is, none_left, short_definition}

-- what holds of one compilation holds of each
pub of_each : {known : KnownText} {P : List Item → Type 0} (text : List ℕ) → Compiles known text P
    → (tokens : List (Kind × ℕ)) (items : List Item) → IsCompilation known text tokens items → P items
of_each {known} {P} text h tokens items is =
    subst P (one_compilation known text h.0 tokens h.1 items h.2 is).1 h.3

-- what holds of a result holds of what follows from it
pub ok_then : {X E : Type 0} {P Q : X → Type 0} (r : Result X E) → ((x : X) → P x → Q x) → IfOk r P → IfOk r Q
ok_then (Ok x) f h = f x h
ok_then (Err e) f h = tt

pub map-snoc : {X Y : Type 0} (f : X → Y) (xs : List X) (x : X) → map f (xs ++ x ∷ []) ≡ map f xs ++ f x ∷ []
map-snoc f [] x = refl
map-snoc f (y ∷ xs) x = ap (λ l. f y ∷ l) (map-snoc f xs x)

-- ---- where a name is declared first

pub word_items : (text : List ℕ) (items : List Item) (table : DeclaredNames) (item word : ℕ)
    → IsTableOf text items table → word_spot table item word
    ≡ option_map (λ (t : Lexeme). spot_at text t.start) (word_of_item items item word)
word_items text items table item word h =
    ap (λ l. option_and_then (λ (words : List Spot). slice_get words word) (slice_get l item)) h.words
    ∙ ap (option_and_then (λ words. slice_get words word)) (slice_get-map (word_spots text) items item)
    ∙ there (slice_get items item)
  where
    there : (o : Option Item)
        → option_and_then (λ (words : List Spot). slice_get words word) (option_map (word_spots text) o)
        ≡ option_map (λ (t : Lexeme). spot_at text t.start)
        (option_and_then (λ (i : Item). slice_get (words_in i.tokens) word) o)
    there None = refl
    there (Some i) = slice_get-map (λ (t : Lexeme). spot_at text t.start) (words_in i.tokens) word

pub place_items : (text : List ℕ) (items : List Item) (table : DeclaredNames) (name : List ℕ)
    → IsTableOf text items table
    → place_in table name ≡ first_place text items name
place_items text items table name h =
    ap (option_and_then (place_by table)) (h.names name) ∙ by (first_declarer (definitions_of items) name)
  where
    twice : (d : Declarer) (o : Option Lexeme)
        → option_map (λ s. declared_at d s) (option_map (λ (t : Lexeme). spot_at text t.start) o)
        ≡ option_map (λ (t : Lexeme). declared_at d (spot_at text t.start)) o
    twice d None = refl
    twice d (Some t) = refl

    by : (o : Option Declarer)
        → option_and_then (place_by table) o ≡ option_and_then (first_place_by text items) o
    by None = refl
    by (Some d) = ap (option_map (λ s. declared_at d s)) (word_items text items table d.item d.word h)
        ∙ twice d (word_at items d)

none_at : {X : Type 0} (xs : List X) (k : ℕ) → length xs ≤ k → None ≡ slice_get xs k
none_at [] zero le = refl
none_at [] (suc k) le = refl
none_at (x ∷ xs) zero le = absurd (omega arith)
none_at (x ∷ xs) (suc k) le = none_at xs k (omega arith)

-- what is got of a list
pub got : {X : Type 0} (o : Option (Bor X)) (xs ys : List X) (k : ℕ) → ys ≡ xs
    → IfSome o (λ x. x.now ≡ get_or ys k x.now) → MatchOption o (length ys ≤ k) (λ x. k < length ys)
    → option_copied o ≡ slice_get xs k
got None xs ys k is one at = none_at ys k at ∙ ap (λ l. slice_get l k) is
got (Some x) xs ys k is one at = sym (slice_get_read ys (length ys) k x.now refl at one)
    ∙ ap (λ l. slice_get l k) is

pub looked_up : {X : Type 0} (o : Option (Bor X)) (n k : ℕ) (P : Bor X → Type 0)
    → MatchOption o (n ≤ k) (λ x. (k < n) × P x) → MatchOption o (n ≤ k) (λ x. k < n)
looked_up None n k P h = h
looked_up (Some x) n k P h = h.0

pub got_list : {X Y : Type 0} (lists : X → List Y) (xs ys : List X) (k : ℕ) (x : X) → ys ≡ xs → k < length ys
    → x ≡ get_or ys k x → Some (lists x) ≡ slice_get (map lists xs) k
got_list lists xs ys k x is lt one =
    sym (slice_get-map lists xs k ∙ ap (λ l. option_map lists (slice_get l k)) (sym is)
    ∙ ap (option_map lists) (slice_get_read ys (length ys) k x refl lt one))

-- ---- item by item

-- what is told of the items before one
pub record HasTold {X : Type 0} (told : Item → X) (known : KnownText) (text : List ℕ) (n : ℕ)
    (found : List X) : Type 0 where
  pub tokens : List (Kind × ℕ)
  pub items : List Item
  pub compiles : IsCompilation known text tokens items
  pub found_is : found ++ map told (drop n items) ≡ map told items

pub told_none : {X : Type 0} {P : List Item → Type 0} {known : KnownText} (told : Item → X) (text : List ℕ)
    → Compiles known text P → HasTold told known text 0 []
told_none told text c = record { tokens = c.0; items = c.1; compiles = c.2; found_is = refl }

pub told_all : {X : Type 0} {known : KnownText} (told : Item → X) (text : List ℕ) (n count : ℕ)
    (found : List X) → count ≤ n → Compiles known text (λ items. count ≡ length items)
    → HasTold told known text n found
    → Compiles known text (λ items. found ≡ map told items)
told_all told text n count found le many had =
    let count_is = of_each text many had.tokens had.items had.compiles in
    let none = none_left had.items n (omega (arith, le, count_is)) in (
      had.tokens,
      had.items,
      had.compiles,
      sym (append-nil found) ∙ ap (λ is. found ++ map told is) (sym none) ∙ had.found_is,
    )

-- one more
pub told_more : {X : Type 0} {known : KnownText} (told : Item → X) (text : List ℕ) (n m count : ℕ)
    (found : List X) (x : X) → m ≡ n + 1 → n < count → Compiles known text (λ items. count ≡ length items)
    → HasTold told known text n found
    → ((tokens : List (Kind × ℕ)) (items : List Item) (i : Item) → IsCompilation known text tokens items
    → drop n items ≡ i ∷ drop (suc n) items → definition_at items n ≡ parsed_definition i.parse → x ≡ told i)
    → HasTold told known text m (found ++ x ∷ [])
told_more {known = known} told text n m count found x step lt many had is =
    let count_is = of_each text many had.tokens had.items had.compiles in
    let at = item_at had.items n (omega (arith, lt, count_is)) had.compiles.are_parses in
    let suc_is : suc n ≡ m = omega (arith, step) in
    let one = is had.tokens had.items at.item had.compiles at.here at.definition in
    subst (λ k. HasTold told known text k (found ++ x ∷ [])) suc_is record {
      tokens = had.tokens;
      items = had.items;
      compiles = had.compiles;
      found_is = moved found x (told at.item) (map told (drop (suc n) had.items)) one
          ∙ ap (λ l. found ++ map told l) (sym at.here) ∙ had.found_is;
    }
  where
    moved : {X : Type 0} (found : List X) (x y : X) (rest : List X) → x ≡ y
        → (found ++ x ∷ []) ++ rest ≡ found ++ y ∷ rest
    moved [] x y rest is = ap (λ z. z ∷ rest) is
    moved (f ∷ found) x y rest is = ap (λ l. f ∷ l) (moved found x y rest is)

-- ---- words

pub record HasWords (known : KnownText) (text : List ℕ) (n : ℕ) (walk : List Lexeme)
    (found : List (List Spot)) : Type 0 where
  pub told : HasTold (word_spots text) known text n found
  pub left : AreLeft walk (map (λ i. i.tokens) (drop n told.items))

pub words_none : {known : KnownText} (text : List ℕ) (walk : List Lexeme)
    → Compiles known text (λ items. walk ≡ tokens_of items) → HasWords known text 0 walk []
words_none text walk c = record {
  told = record { tokens = c.0; items = c.1; compiles = c.2; found_is = refl };
  left = all_left (tokens_of c.1) walk (map (λ i. i.tokens) c.1)
      (subst (λ l. AreItems l (map (λ i. i.tokens) c.1)) (sym c.2.are_items.all) c.2.are_items) c.3;
}

pub words_more : {known : KnownText} (text : List ℕ) (n m count : ℕ) (whole : Bool)
    (walk walk' part : List Lexeme) (found : List (List Spot)) (x : List Spot) → m ≡ n + 1 → n < count
    → Compiles known text (λ items. count ≡ length items)
    → HasWords known text n walk found → IsNext whole walk part walk'
    → x ≡ map (λ (t : Lexeme). spot_at text t.start) (words_in part)
    → HasWords known text m walk' (found ++ x ∷ [])
words_more {known} text n m count whole walk walk' part found x step lt many had next is =
    let h = had.told in
    let count_is = of_each text many h.tokens h.items h.compiles in
    let at = item_at h.items n (omega (arith, lt, count_is)) h.compiles.are_parses in
    let rest = drop (suc n) h.items in
    let here : map (λ i. i.tokens) (drop n h.items) ≡ at.item.tokens ∷ map (λ i. i.tokens) rest =
    ap (map (λ i. i.tokens)) at.here in
    let left = next_item_is whole walk part walk' at.item.tokens (map (λ i. i.tokens) rest)
    (subst (AreLeft walk) here had.left) next in
    let one : x ≡ word_spots text at.item =
    is ∙ ap (λ ts. map (λ (t : Lexeme). spot_at text t.start) (words_in ts)) left.0 in
    let suc_is : suc n ≡ m = omega (arith, step) in
    subst (λ k. HasWords known text k walk' (found ++ x ∷ [])) suc_is record {
      told = record {
        tokens = h.tokens;
        items = h.items;
        compiles = h.compiles;
        found_is = moved found x (word_spots text at.item) (map (word_spots text) rest) one
            ∙ ap (λ l. found ++ map (word_spots text) l) (sym at.here) ∙ h.found_is;
      };
      left = left.1;
    }
  where
    moved : {X : Type 0} (found : List X) (x y : X) (rest : List X) → x ≡ y
        → (found ++ x ∷ []) ++ rest ≡ found ++ y ∷ rest
    moved [] x y rest is = ap (λ z. z ∷ rest) is
    moved (f ∷ found) x y rest is = ap (λ l. f ∷ l) (moved found x y rest is)

-- ---- where words start

kept_spot : (text : List ℕ) (b : Bool) (t : Lexeme) (l : List Lexeme)
    → map (λ (t : Lexeme). spot_at text t.start) (cond b (t ∷ l) l)
    ≡ cond b (spot_at text t.start ∷ map (λ (t : Lexeme). spot_at text t.start) l)
    (map (λ (t : Lexeme). spot_at text t.start) l)
kept_spot text true t l = refl
kept_spot text false t l = refl

abbrev pub spots_in : List ℕ → List Token → List Spot
spots_in text tokens = map (λ (t : Lexeme). spot_at text t.start) (words_in (map lexeme tokens))

-- a word more, or none
pub spot_of_word : (text : List ℕ) (t : Token) (rest : List Token) → is_significant t.kind ≡ true
    → spots_in text (t ∷ rest) ≡ spot_at text t.start ∷ spots_in text rest
spot_of_word text t rest is = kept_spot text (is_significant t.kind) (lexeme t) (words_in (map lexeme rest))
    ∙ ap (λ b. cond b (spot_at text t.start ∷ spots_in text rest) (spots_in text rest)) is

pub spot_of_none : (text : List ℕ) (t : Token) (rest : List Token) → is_significant t.kind ≡ false
    → spots_in text (t ∷ rest) ≡ spots_in text rest
spot_of_none text t rest is = kept_spot text (is_significant t.kind) (lexeme t) (words_in (map lexeme rest))
    ∙ ap (λ b. cond b (spot_at text t.start ∷ spots_in text rest) (spots_in text rest)) is

-- ---- first declarers

fewer : (tokens : List Lexeme) → length (words_in tokens) ≤ length tokens
fewer tokens =
    let kept = length-filter (λ t. is_significant t.kind) tokens in
    let most = count_by-le-length (λ t. is_significant t.kind) tokens in
    omega (arith, kept, most)

pub short_each : (items : List Item) (index : ℕ) (d : Definition) (n : ℕ) → AreParses items
    → length (tokens_of items) ≤ n → n < 2 ^ 64 → slice_get (definitions_of items) index ≡ Some (Some d)
    → length (spell d) < 2 ^ 64
short_each [] index d n are le few is = absurd (cc)
short_each (i ∷ items) zero d n are le few is =
    let def : Some d ≡ parsed_definition i.parse = cc in
    let long = short_definition i.tokens i.parse d (length (words_in i.tokens)) are.0 def refl in
    let less = fewer i.tokens in
    let l = length-append i.tokens (tokens_of items) in
    omega (arith, long, less, l, le, few)
short_each (i ∷ items) (suc index) d n are le few is =
    let l = length-append i.tokens (tokens_of items) in
    short_each items index d n are.1 (omega (arith, l, le)) few is

-- a table of names has the first declarers
pub names_found : {known : KnownText} (text : List ℕ) (definitions : List (Option Definition))
    (table : List (List ℕ × Declarer)) (count : ℕ) → count < 2 ^ 64
    → Compiles known text (λ items. count ≡ length (tokens_of items))
    → Compiles known text (λ items. definitions ≡ definitions_of items)
    → (AreShort definitions → (name : List ℕ) → FirstIs definitions name (first_in table name))
    → Compiles known text (λ items. (name : List ℕ)
    → first_in table name ≡ first_declarer (definitions_of items) name)
names_found text definitions table count few tokens are first =
    let many = of_each text tokens are.0 are.1 are.2 in
    let le : length (tokens_of are.1) ≤ count = omega (arith, many) in
    let short : AreShort definitions =
    subst AreShort (sym are.3) (λ index d is. short_each are.1 index d count are.2.are_parses le few is) in (
      are.0,
      are.1,
      are.2,
      λ name. as_found definitions name (first_in table name) (first short name)
          ∙ ap (λ ds. first_declarer ds name) are.3,
    )

-- both are of one compilation
pub table_found : {known : KnownText} (text : List ℕ) (table : DeclaredNames)
    → Compiles known text (λ items. map (λ v. v.items) table.words.items ≡ map (word_spots text) items)
    → Compiles known text (λ items. (name : List ℕ)
    → first_in table.names name ≡ first_declarer (definitions_of items) name)
    → Compiles known text (λ items. IsTableOf text items table)
table_found text table words names = (
  names.0,
  names.1,
  names.2,
  record { words = of_each text words names.0 names.1 names.2; names = names.3 },
)

-- a definition of the text is short
pub short_at : {known : KnownText} (text : List ℕ) (tokens : List (Kind × ℕ)) (items : List Item)
    (n count all : ℕ) (d : Definition) → n < count → all < 2 ^ 64 → IsCompilation known text tokens items
    → Compiles known text (λ items. count ≡ length items)
    → Compiles known text (λ items. all ≡ length (tokens_of items))
    → Compiles known text (λ items. Some d ≡ definition_at items n) → length (spell d) < 2 ^ 64
short_at text tokens items n count all d lt few is many words defined =
    let count_is = of_each text many tokens items is in
    let all_is = of_each text words tokens items is in
    let at = item_at items n (omega (arith, lt, count_is)) is.are_parses in
    let here = of_each text defined tokens items is ∙ at.definition in
    short_each items n d all is.are_parses (omega (arith, all_is)) few
    (get_mapped (λ (i : Item). parsed_definition i.parse) items n at.item (drop (suc n) items) at.here
    ∙ ap Some (sym here))

pub none_is : {X : Type 0} (o : Option X) → ((x : X) → o ≡ Some x → ⊥) → o ≡ None
none_is None not = refl
none_is (Some x) not = absurd (not x refl)

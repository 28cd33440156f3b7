-- The definitions of a text by the words of its items, and the names that they mention.
use Rattle.std.proofs.Common.{◌≡◌, ◌⊎◌, inl, inr, ℕ, zero, suc, ◌<◌, Bool, true, false, cond, List, [], ◌∷◌}
use Rattle.std.proofs.Common.{◌++◌, map, length, get_or, Option, Some, None, is_some, arith, refl, sym, ap}
use Rattle.std.proofs.Common.{subst, ◌∙◌}
use Rattle.std.specs.Prelude.{◌&&◌, if◌then◌else◌, slice_get}
use Rattle.std.specs.List.{IsAmong, list_all}
use Rattle.std.proofs.Math.Seq.{take-append_seam}
use Rattle.std.proofs.lemmas.Bool.Decides.{nat_tests}
use Rattle.std.proofs.lemmas.List.{get_or_append_left, length-append}
use Rattle.std.proofs.lemmas.Option.{same_Some}
use Rattle.x_lex.specs.declared.kind.Kind.{Kind}
use Rattle.x_lex.specs.declared.kind.Kind.TheVariants as kinds
use Rattle.x_lex.specs.declared.mark.Mark.{Mark}
use Rattle.x_lex.specs.Bytes.{is_keyword, is_letter, is_word_byte}
use Rattle.x_lex.specs.Marks.{mark_of}
use Rattle.x_lex.specs.Places.{Lexeme}
use Rattle.x_lex.specs.Tiling.{AreTokens, starts_after}
use Rattle.x_lex.specs.Word.{IsToken, IsWord}
use Rattle.x_lex.proofs.TilingLemmas.{same_tiles, token_spans}
use Rattle.x_cutting.specs.Cutting.{depth_after, ends_at}
use Rattle.x_trees.specs.Tree as tree
use Rattle.x_trees.specs.Tree.{Definition}
use Rattle.x_trees.specs.Mentions.{Mention, mentioned}
use Rattle.x_trees.specs.Names.{Declared, declared}
use Rattle.x_trees.specs.Spell.{KeepsLimits, spell}
use Rattle.x_trees.specs.Words.{Name, Word, is_significant, marked, word_by, words_of}
use Rattle.x_trees.proofs.AmongLemmas.{among_cases, among_first, among_front, among_more, among_none}
use Rattle.x_trees.proofs.AmongLemmas.{among_parts, among_rear, among_same}
use Rattle.x_item.specs.Parse.{Def, Fault, IsParse, Nothing, Parse}
use Rattle.x_item.proofs.ParseLaws.{one_parse}
use Rattle.x_names.specs.Declarers.{declarer_at, first_declarer, first_from, is_beforehand}
use Rattle.x_names.specs.declared.names.Declarer.{Declarer}
use Rattle.x_names.proofs.DeclarerLaws.{first_found, found_is_first}
use Rattle.x_compile.specs.Compile.{AreParses, IsCompilation, Item, definitions_of, parsed_definition}
use Rattle.x_compile.specs.Known.{KnownText}
use Rattle.x_prelude_laws.proofs.Items.{HasFirst, first_is, has_first, items, put, role, words, words_in}
use Rattle.x_prelude_laws.proofs.Lines.{IsName}
use Rattle.x_prelude_laws.proofs.Named.{mention_word}
use Rattle.x_prelude_laws.proofs.Pieces.{Lexes, Piece, bytes_of, lexes_from, pieces_back, pieces_of}
use Rattle.x_prelude_laws.proofs.Pieces.{tiles_from, tokens_of}
use Rattle.x_prelude_laws.proofs.Wholes.{Whole, items_by}

-- the text has an item with this definition
pub record Defines (items : List Item) (d : Definition) : Type 0 where
  pub index : ℕ
  pub is : slice_get (definitions_of items) index ≡ Some (Some d)

abbrev pub item_words : List Item → List (List Word)
item_words is = map words_of (map (λ i. i.tokens) is)

-- ---- from words to definitions

-- the words of an item that spell a definition
defined : (is : List Item) (d : Definition) → AreParses is → KeepsLimits d → IsAmong (item_words is) (spell d)
    → Defines is d
defined [] d parses limits h = absurd (among_none (spell d) h)
defined (i ∷ is) d parses limits h =
    by (among_cases (words_of i.tokens) (spell d) (item_words is) h) (λ k. defined is d parses.1 limits k)
  where
    by : (spell d ≡ words_of i.tokens) ⊎ IsAmong (item_words is) (spell d)
        → (IsAmong (item_words is) (spell d) → Defines is d) → Defines (i ∷ is) d
    by (inl e) next =
        let parse = one_parse i.tokens i.parse (Def d) parses.0 (limits, e) in
        record { index = 0; is = ap (λ p. Some (parsed_definition p)) parse }
    by (inr k) next = let rest = next k in record { index = suc rest.index; is = rest.is }

-- its pieces are the tokens of a text
pub same_pieces : (text : List ℕ) (all : List (List Word)) (w : Whole text all) (tokens : List (Kind × ℕ))
    → AreTokens text tokens → pieces_of text tokens ≡ w.pieces
same_pieces text all w tokens are =
    let own : AreTokens text (tokens_of w.pieces) =
    subst (λ t. AreTokens t (tokens_of w.pieces)) w.bytes (tiles_from true w.pieces w.lexes) in
    let same = same_tiles true text tokens (tokens_of w.pieces) are own in
    ap (pieces_of text) same ∙ ap (λ t. pieces_of t (tokens_of w.pieces)) (sym w.bytes) ∙ pieces_back w.pieces

pub words_are : (known : KnownText) (text : List ℕ) (all : List (List Word)) (tokens : List (Kind × ℕ))
    (is : List Item)
    → Whole text all → IsCompilation known text tokens is → item_words is ≡ all ++ [] ∷ []
words_are known text all tokens is w h =
    items_by text tokens (map (λ i. i.tokens) is) h.are_items
    ∙ ap (items 0) (same_pieces text all w tokens h.are_tokens) ∙ w.items_are

-- a text that ends whole has the definitions that its items spell
pub whole_defines : (known : KnownText) (text : List ℕ) (all : List (List Word)) (tokens : List (Kind × ℕ))
    (is : List Item) (d : Definition) → Whole text all → IsCompilation known text tokens is → KeepsLimits d
    → IsAmong all (spell d) → Defines is d
whole_defines known text all tokens is d w h limits among =
    defined is d h.are_parses limits (subst (λ l. IsAmong l (spell d))
    (sym (words_are known text all tokens is w h))
    (among_front all ([] ∷ []) (spell d) among))

-- ---- and back

pub record IsSpelled (is : List Item) (d : Definition) : Type 0 where
  pub limits : KeepsLimits d
  pub words : IsAmong (item_words is) (spell d)

pub spelled : (is : List Item) (d : Definition) → AreParses is → (index : ℕ)
    → slice_get (definitions_of is) index ≡ Some (Some d) → IsSpelled is d
spelled [] d parses index e = absurd (cc)
spelled (i ∷ is) d parses zero e = by i.parse parses.0 (same_Some (parsed_definition i.parse) (Some d) e)
  where
    by : (p : Parse) → IsParse i.tokens p → parsed_definition p ≡ Some d → IsSpelled (i ∷ is) d
    by Nothing h e = absurd (cc)
    by (Fault token code) h e = absurd (cc)
    by (Def other) h e =
        let same : other ≡ d = same_Some other d e in
        let own = subst (λ x. KeepsLimits x × (spell x ≡ words_of i.tokens)) same h in
        record {
          limits = own.0;
          words = among_same (words_of i.tokens) (spell d) (item_words is)
              (sym own.1);
        }
spelled (i ∷ is) d parses (suc index) e =
    let rest = spelled is d parses.1 index e in
    record {
      limits = rest.limits;
      words = among_more (words_of i.tokens) (spell d)
          (item_words is) rest.words;
    }

-- a definition has words
pub some_words : (d : Definition) → spell d ≡ [] → ⊥
some_words (tree.Const name value) e = absurd (cc)
some_words (tree.Typedef d) e = absurd (cc)
some_words (tree.NewType name body) e = absurd (cc)
some_words (tree.Program name versions number) e = absurd (cc)

-- the items before the last spell what a text defines
pub defines_whole : (known : KnownText) (text : List ℕ) (all : List (List Word)) (tokens : List (Kind × ℕ))
    (is : List Item) (d : Definition) (index : ℕ) → Whole text all → IsCompilation known text tokens is
    → slice_get (definitions_of is) index ≡ Some (Some d) → KeepsLimits d × IsAmong all (spell d)
defines_whole known text all tokens is d index w h e =
    let own = spelled is d h.are_parses index e in (
      own.limits,
      by (among_parts all ([] ∷ []) (spell d)
          (subst (λ l. IsAmong l (spell d)) (words_are known text all tokens is w h) own.words)),
    )
  where
    last : (spell d ≡ []) ⊎ IsAmong [] (spell d) → IsAmong all (spell d)
    last (inl none) = absurd (some_words d none)
    last (inr none) = absurd (among_none (spell d) none)

    by : IsAmong all (spell d) ⊎ IsAmong ([] ∷ []) (spell d) → IsAmong all (spell d)
    by (inl k) = k
    by (inr k) = last (among_cases [] (spell d) [] k)

-- ---- the names that are mentioned

-- where a word of an item stands
pub record HasWord (ps : List Piece) (w : Word) : Type 0 where
  pub piece : Piece
  pub among : IsAmong ps piece
  pub is : words piece ≡ w ∷ []

word_more : (p : Piece) (ps : List Piece) (w : Word) → HasWord ps w → HasWord (p ∷ ps) w
word_more p ps w h = record { piece = h.piece; among = among_more p h.piece ps h.among; is = h.is }

only_word : (k : Kind) (text : List ℕ) (w : Word) → IsAmong (words_in k text) w → words_in k text ≡ w ∷ []
only_word k text w h = by (is_significant k) h
  where
    one : (u : Word) → (w ≡ u) ⊎ IsAmong [] w → u ∷ [] ≡ w ∷ []
    one u (inl e) = ap (λ x. x ∷ []) (sym e)
    one u (inr j) = absurd (among_none w j)

    by : (b : Bool) → IsAmong (if b then word_by k text ∷ [] else []) w
        → (if b then word_by k text ∷ [] else []) ≡ w ∷ []
    by true j = one (word_by k text) (among_cases (word_by k text) w [] j)
    by false j = absurd (among_none w j)

own_word : (p : Piece) (ps : List Piece) (w : Word) → IsAmong (words p) w → HasWord (p ∷ ps) w
own_word p ps w h = record { piece = p; among = among_first p ps; is = only_word p.0 p.1 w h }

pub has_word : (d : ℕ) (ps : List Piece) (ws : List Word) (w : Word) → IsAmong (items d ps) ws → IsAmong ws w
    → HasWord ps w
has_word d [] ws w h k = by (among_cases [] ws [] h)
  where
    by : (ws ≡ []) ⊎ IsAmong [] ws → HasWord [] w
    by (inl e) = absurd (among_none w (subst (λ l. IsAmong l w) e k))
    by (inr j) = absurd (among_none ws j)
has_word d (p ∷ ps) ws w h k =
    by (ends_at d (role p)) (items d' ps) (has_first d' ps) h (λ us j l. has_word d' ps us w j l)
  where
    d' : ℕ
    d' = depth_after d (role p)

    on : (is : List (List Word)) → (((us : List Word) → IsAmong is us → IsAmong us w → HasWord ps w))
        → (us : List Word) → IsAmong is us → IsAmong us w → HasWord (p ∷ ps) w
    on is next us j l = word_more p ps w (next us j l)

    parts : (i : List Word) → (IsAmong i w → HasWord (p ∷ ps) w) → IsAmong (words p) w ⊎ IsAmong i w
        → HasWord (p ∷ ps) w
    parts i next (inl j) = own_word p ps w j
    parts i next (inr j) = next j

    front : (is : List (List Word)) (i : List Word) (rest : List (List Word)) → is ≡ i ∷ rest
        → ((us : List Word) → IsAmong is us → IsAmong us w → HasWord (p ∷ ps) w)
        → (ws ≡ words p ++ i) ⊎ IsAmong rest ws → HasWord (p ∷ ps) w
    front is i rest f next (inl e) =
        parts i (λ j. next i (subst (λ l. IsAmong l i) (sym f) (among_first i rest)) j)
        (among_parts (words p) i w (subst (λ l. IsAmong l w) e k))
    front is i rest f next (inr j) = next ws (subst (λ l. IsAmong l ws) (sym f) (among_more i ws rest j)) k

    by : (b : Bool) (is : List (List Word)) → HasFirst is → IsAmong (put b (words p) is) ws
        → ((us : List Word) → IsAmong is us → IsAmong us w → HasWord ps w) → HasWord (p ∷ ps) w
    by true is has j next = cases (among_cases (words p) ws is j)
      where
        cases : (ws ≡ words p) ⊎ IsAmong is ws → HasWord (p ∷ ps) w
        cases (inl e) = own_word p ps w (subst (λ l. IsAmong l w) e k)
        cases (inr l) = on is next ws l k
    by false is (first_is i rest f) j next =
        front is i rest f (on is next)
        (among_cases (words p ++ i) ws rest (subst (λ l. IsAmong (put false (words p) l) ws) f j))

no_mark : (o : Option Mark) (name : List ℕ) → marked o ∷ [] ≡ Name name ∷ [] → ⊥
no_mark None name e = absurd (cc)
no_mark (Some m) name e = absurd (cc)

-- a word that is a name
name_piece : (k : Kind) (text name : List ℕ) → words_in k text ≡ Name name ∷ []
    → (k ≡ kinds.Name) × (text ≡ name)
unfolding word_by
name_piece kinds.Name text name e = (refl, cc)
name_piece kinds.Keyword text name e = absurd (no_mark (mark_of text) name e)
name_piece kinds.Punct text name e = absurd (no_mark (mark_of text) name e)
name_piece k text name e = absurd (cc)

pub record IsTokenOf (p : Piece) : Type 0 where
  pub start : Bool
  pub behind : List ℕ
  pub token : IsToken p.0 start (p.1 ++ behind) (length p.1)

pub token_of : (start : Bool) (ps : List Piece) (p : Piece) → Lexes start ps → IsAmong ps p → IsTokenOf p
token_of start [] p h among = absurd (among_none p among)
token_of start (q ∷ ps) p h among =
    by (among_cases q p ps among) (λ k. token_of (starts_after (q.1 ++ bytes_of ps) (length q.1)) ps p h.1 k)
  where
    by : (p ≡ q) ⊎ IsAmong ps p → (IsAmong ps p → IsTokenOf p) → IsTokenOf p
    by (inl e) next = subst IsTokenOf (sym e) (record { start = start; behind = bytes_of ps; token = h.0 })
    by (inr k) next = next k

all_from : (p : ℕ → Bool) (w : List ℕ) → ((k : ℕ) → k < length w → p (get_or w k 0) ≡ true)
    → list_all p w ≡ true
all_from p [] each = refl
all_from p (b ∷ w) each =
    ap (λ x. x && list_all p w) (each 0 (omega arith)) ∙ all_from p w
    (λ k lt. each (suc k) (omega (arith, lt)))

letter_in_word : (b : ℕ) → is_letter b ≡ true → is_word_byte b ≡ true
letter_in_word b h = grind (arith, nat_tests)

name_token : (start : Bool) (w rest : List ℕ) → IsToken kinds.Name start (w ++ rest) (length w) → IsName w
name_token start w rest t = by t.word
  where
    by : IsWord kinds.Name start (w ++ rest) (length w) → IsName w
    by (inr (e, b)) = absurd (cc)
    by (inl g) = record {
      wordy = record { first = first; all = all_from is_word_byte w each };
      no_keyword = ap is_keyword (sym (take-append_seam w rest)) ∙ g.form.1;
    }
      where
        first : is_letter (get_or w 0 0) ≡ true
        first = ap is_letter (sym (get_or_append_left w rest 0 0 g.some)) ∙ g.form.0.first

        each : (k : ℕ) → k < length w → is_word_byte (get_or w k 0) ≡ true
        each zero lt = letter_in_word (get_or w 0 0) first
        each (suc k) lt =
            ap is_word_byte (sym (get_or_append_left w rest 0 (suc k) lt))
            ∙ g.form.0.others (suc k) (omega arith) lt

-- what a definition of a text mentions is a name
pub mentions_name : (known : KnownText) (text : List ℕ) (tokens : List (Kind × ℕ)) (is : List Item)
    (d : Definition)
    (index : ℕ) (m : Mention) → IsCompilation known text tokens is
    → slice_get (definitions_of is) index ≡ Some (Some d)
    → IsAmong (mentioned d) m → IsName m.name
mentions_name known text tokens is d index m h e among = name
  where
    ps : List Piece
    ps = pieces_of text tokens

    at : HasWord ps (Name m.name)
    at = has_word 0 ps (spell d) (Name m.name)
        (subst (λ l. IsAmong l (spell d)) (items_by text tokens (map (λ i. i.tokens) is) h.are_items)
        (spelled is d h.are_parses index e).words)
        (mention_word d m among)

    token : IsTokenOf at.piece
    token = token_of true ps at.piece (lexes_from true text tokens h.are_tokens) at.among

    name : IsName m.name
    name =
        let same = name_piece at.piece.0 at.piece.1 m.name at.is in
        name_token token.start m.name token.behind
        (subst (λ w. IsToken kinds.Name token.start (w ++ token.behind) (length w)) same.1
        (subst (λ k. IsToken k token.start (at.piece.1 ++ token.behind)
        (length at.piece.1)) same.0 token.token))

-- ---- what a text defines, whatever is known before it

pub alike : (i j : List Lexeme) (p q : Parse) → words_of i ≡ words_of j → IsParse i p → IsParse j q
    → parsed_definition p ≡ parsed_definition q
alike i j (Def d) q same h k = sym (ap parsed_definition (one_parse j q (Def d) k (h.0, h.1 ∙ same)))
alike i j Nothing (Def e) same h k = absurd (let f = one_parse i Nothing (Def e) h (k.0, k.1 ∙ sym same) in
    cc)
alike i j Nothing Nothing same h k = refl
alike i j Nothing (Fault token code) same h k = refl
alike i j (Fault token code) (Def e) same h k =
    absurd (let f = one_parse i (Fault token code) (Def e) h (k.0, k.1 ∙ sym same) in cc)
alike i j (Fault token code) Nothing same h k = refl
alike i j (Fault token code) (Fault other more) same h k = refl

pub same_by_words : (is js : List Item) → item_words is ≡ item_words js → AreParses is → AreParses js
    → definitions_of is ≡ definitions_of js
same_by_words [] [] e h k = refl
same_by_words [] (j ∷ js) e h k = absurd (cc)
same_by_words (i ∷ is) [] e h k = absurd (cc)
same_by_words (i ∷ is) (j ∷ js) e h k =
    let words : words_of i.tokens ≡ words_of j.tokens = cc in
    let rest : item_words is ≡ item_words js = cc in
    let first = alike i.tokens j.tokens i.parse j.parse words h.0 k.0 in
    let others = same_by_words is js rest h.1 k.1 in
    λ n. first n ∷ others n

pub same_definitions : (known own : KnownText) (text : List ℕ) (tokens others : List (Kind × ℕ))
    (is js : List Item)
    → IsCompilation known text tokens is → IsCompilation own text others js
    → definitions_of is ≡ definitions_of js
same_definitions known own text tokens others is js h k =
    let same = same_tiles true text tokens others h.are_tokens k.are_tokens in
    same_by_words is js
    (items_by text tokens (map (λ i. i.tokens) is) h.are_items ∙ ap (λ ts. items 0 (pieces_of text ts)) same
    ∙ sym (items_by text others (map (λ i. i.tokens) js) k.are_items)) h.are_parses k.are_parses

-- an empty text has no item before the last
pub none_in_empty : (all : List (List Word)) → Whole [] all → all ≡ []
none_in_empty all w = by all (ap (items 0) (sym (none w.pieces w.lexes w.bytes)) ∙ w.items_are)
  where
    none : (ps : List Piece) → Lexes true ps → bytes_of ps ≡ [] → ps ≡ []
    none [] h e = refl
    none (p ∷ ps) h e =
        let some = (token_spans p.0 true (p.1 ++ bytes_of ps) (length p.1) h.0).some in
        let many = ap length e in
        absurd (omega (arith, some, many, length-append p.1 (bytes_of ps)))

    by : (all : List (List Word)) → [] ∷ [] ≡ all ++ [] ∷ [] → all ≡ []
    by [] e = refl
    by (a ∷ []) e = absurd (cc)
    by (a ∷ b ∷ all) e = absurd (cc)

-- ---- what a definition declares

-- one of these items declares the name first of its names, or at another place
pub record DeclaredIn (all : List (List Word)) (name : List ℕ) : Type 0 where
  pub definition : Definition
  pub limits : KeepsLimits definition
  pub among : IsAmong all (spell definition)
  pub own : Declared
  pub place : ℕ
  pub is : slice_get (declared definition) place ≡ Some own
  pub named : own.name ≡ name

pub in_front : (xs ys : List (List Word)) (name : List ℕ) → DeclaredIn xs name → DeclaredIn (xs ++ ys) name
in_front xs ys name h = record {
  definition = h.definition;
  limits = h.limits;
  among = among_front xs ys (spell h.definition) h.among;
  own = h.own;
  place = h.place;
  is = h.is;
  named = h.named;
}

pub in_rear : (xs ys : List (List Word)) (name : List ℕ) → DeclaredIn ys name → DeclaredIn (xs ++ ys) name
in_rear xs ys name h = record {
  definition = h.definition;
  limits = h.limits;
  among = among_rear xs ys (spell h.definition) h.among;
  own = h.own;
  place = h.place;
  is = h.is;
  named = h.named;
}

-- it has a declarer in the text then
pub has_declarer : (known : KnownText) (text : List ℕ) (all : List (List Word)) (tokens : List (Kind × ℕ))
    (is : List Item) (name : List ℕ) → Whole text all → IsCompilation known text tokens is
    → DeclaredIn all name
    → is_beforehand name ≡ false → is_some (first_declarer (definitions_of is) name) ≡ true
has_declarer known text all tokens is name w h d free =
    let at = whole_defines known text all tokens is d.definition w h d.limits d.among in
    let declarer : Declarer = declarer_at at.index d.place d.own in
    let found = first_found (definitions_of is) name declarer free (record {
      definition = d.definition;
      item_is = at.is;
      declares = d.is ∙
          (λ i. Some (record {
            name = d.named i;
            word = d.own.word;
            kind = d.own.kind;
            lifted = d.own.lifted;
          }));
    }) in
    ap (λ b. is_some (cond b None (first_from 0 (definitions_of is) name))) free ∙ ap is_some found.1

-- and a declarer in the text is in its items before the last
pub declared_in : (known : KnownText) (text : List ℕ) (all : List (List Word)) (tokens : List (Kind × ℕ))
    (is : List Item) (name : List ℕ) → Whole text all → IsCompilation known text tokens is
    → is_beforehand name ≡ false → is_some (first_declarer (definitions_of is) name) ≡ true
    → DeclaredIn all name
declared_in known text all tokens is name w h free some = by (first_from 0 (definitions_of is) name) refl
  where
    by : (o : Option Declarer) → first_from 0 (definitions_of is) name ≡ o → DeclaredIn all name
    by None e =
        absurd (let none : is_some (first_declarer (definitions_of is) name) ≡ false =
        ap (λ b. is_some (cond b None (first_from 0 (definitions_of is) name))) free ∙ ap is_some e in cc)
    by (Some at) e =
        let first = (found_is_first (definitions_of is) name at e free).declares in
        let own = defines_whole known text all tokens is first.definition at.item w h first.item_is in
        record {
          definition = first.definition;
          limits = own.0;
          among = own.1;
          own = record { name = name; word = at.word; kind = at.kind; lifted = at.lifted };
          place = at.place;
          is = first.declares;
          named = refl;
        }

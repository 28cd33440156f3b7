-- The tokens at which names stand that are sought.
use Rattle.std.proofs.Common.{◌≡◌, ℕ, zero, suc, ◌+◌, ◌<◌, ◌≤◌, Bool, true, false, cond, get_or, List, []}
use Rattle.std.proofs.Common.{◌∷◌, ◌++◌, length, map, drop, filter, Option, None, Some, refl, ap, sym, subst}
use Rattle.std.proofs.Common.{◌∙◌, append_assoc, arith}
use Rattle.std.specs.Prelude.{slice_get}
use Rattle.std.specs.List.{flat_map}
use Rattle.std.proofs.lemmas.List.{append-nil, map-append}
use Rattle.std.proofs.lemmas.List.Elements.{filter-append}
use Rattle.x_lex.specs.declared.tokens.token.Token.{Token}
use Rattle.x_lex.specs.Places.{Lexeme, lexeme}
use Rattle.x_trees.specs.Tree.{Definition}
use Rattle.x_trees.specs.Names.{Declared, declared}
use Rattle.x_trees.specs.Mentions.{Mention, mentioned}
use Rattle.x_trees.specs.Words.{is_significant}
use Rattle.x_compile.specs.Compile.{Item, parsed_definition}
use Rattle.x_compile.specs.Known.{KnownText}
use Rattle.x_session.specs.Session.{Compiles}
use Rattle.x_lookups.specs.declared.name_places.Standing.{Standing}
use Rattle.x_session.specs.DeclaredNames.{words_in}
use Rattle.x_session.specs.ItemWalks.{over_items}
use Rattle.x_session.proofs.ItemWalking.{HasWalked, walked_all}
use Rattle.x_lookups.specs.NamePlaces.{NamePlace, declared_on, mentioned_on, name_on, names_by, names_of}
use Rattle.x_lookups.specs.NamePlaces.{tokens_where}

-- ---- lists of names

pub where_append : (test : NamePlace → Bool) (xs ys : List NamePlace)
    → tokens_where test (xs ++ ys) ≡ tokens_where test xs ++ tokens_where test ys
where_append test xs ys = ap (map (λ n. n.token)) (filter-append test xs ys)
    ∙ map-append (λ n. n.token) (filter test xs) (filter test ys)

-- a part of what is to be found is found
pub found_more : (found found' part rest all whole : List Lexeme) → found' ≡ found ++ part
    → all ≡ part ++ rest → found ++ all ≡ whole → found' ++ rest ≡ whole
found_more found found' part rest all whole more is had =
    ap (λ l. l ++ rest) more ∙ append_assoc found part rest ∙ ap (λ l. found ++ l) (sym is) ∙ had

-- what names of a list are sought, of which one is the first
pub where_over : {X : Type 0} (test : NamePlace → Bool) (names : X → List NamePlace) (x : X)
    (all rest : List X) → all ≡ x ∷ rest
    → tokens_where test (flat_map names all) ≡ tokens_where test (names x)
    ++ tokens_where test (flat_map names rest)
where_over test names x all rest is = ap (λ l. tokens_where test (flat_map names l)) is
    ∙ where_append test (names x) (flat_map names rest)

-- ---- the items of a text

-- what is sought in an item is found behind what was found before
abbrev pub found_by : (test : NamePlace → Bool) → (found tokens : List Lexeme) → Option Definition
    → List Lexeme
found_by test found tokens o = found ++ tokens_where test (names_by tokens o)

found_over : (test : NamePlace → Bool) (found : List Lexeme) (items : List Item)
    → over_items (found_by test) found items ≡ found ++ tokens_where test (names_of items)
found_over test found [] = sym (append-nil found)
found_over test found (i ∷ is) =
    let names = names_by i.tokens (parsed_definition i.parse) in
    found_over test (found ++ tokens_where test names) is
    ∙ append_assoc found (tokens_where test names) (tokens_where test (names_of is))
    ∙ ap (λ l. found ++ l) (sym (where_append test names (names_of is)))

-- all is found
pub found_all : {known : KnownText} (text : List ℕ) (test : NamePlace → Bool) (n count : ℕ)
    (walk found : List Lexeme) → count ≤ n → Compiles known text (λ items. count ≡ length items)
    → HasWalked known text (found_by test) [] n walk found
    → Compiles known text (λ items. found ≡ tokens_where test (names_of items))
found_all text test n count walk found le many had =
    let all = walked_all text (found_by test) [] n count walk found le many had in
    (all.0, all.1, all.2, all.3 ∙ found_over test [] all.1)

-- ---- the names in an item

-- one without a definition has none
pub names_without : (test : NamePlace → Bool) (part : List Lexeme) (o : Option Definition) → o ≡ None
    → [] ≡ tokens_where test (names_by part o)
names_without test part o none = ap (λ d. tokens_where test (names_by part d)) (sym none)

-- ---- words

none_behind : (words : List Token) (word : ℕ) → length words ≤ word → slice_get (map lexeme words) word ≡ None
none_behind [] zero le = refl
none_behind [] (suc word) le = refl
none_behind (w ∷ words) zero le = absurd (omega arith)
none_behind (w ∷ words) (suc word) le = none_behind words word (omega arith)

found_there : (words : List Token) (word : ℕ) (d : Token) → word < length words
    → slice_get (map lexeme words) word ≡ Some (lexeme (get_or words word d))
found_there [] word d lt = absurd (omega arith)
found_there (w ∷ words) zero d lt = refl
found_there (w ∷ words) (suc word) d lt = found_there words word d (omega arith)

-- there is no such word
pub no_word : (test : NamePlace → Bool) (words : List Token) (word : ℕ) (name : List ℕ) (standing : Standing)
    (found : List Lexeme) → length words ≤ word
    → found ≡ found ++ tokens_where test (name_on (slice_get (map lexeme words) word) name standing)
no_word test words word name standing found le =
    sym (ap (λ o. found ++ tokens_where test (name_on o name standing)) (none_behind words word le)
    ∙ append-nil found)

-- a word is sought, or is not
pub one_word : (test : NamePlace → Bool) (words : List Token) (word : ℕ) (d : Token) (name : List ℕ)
    (standing : Standing) (b : Bool) → word < length words
    → b ≡ test (record { name = name; token = lexeme (get_or words word d); standing = standing })
    → cond b (lexeme (get_or words word d) ∷ []) []
    ≡ tokens_where test (name_on (slice_get (map lexeme words) word) name standing)
one_word test words word d name standing b lt is =
    let place : NamePlace =
    record { name = name; token = lexeme (get_or words word d); standing = standing } in
    by b (test place) is ∙ ap (λ o. tokens_where test (name_on o name standing))
    (sym (found_there words word d lt))
  where
    by : (b c : Bool) → b ≡ c → cond b (lexeme (get_or words word d) ∷ []) []
        ≡ map (λ (n : NamePlace). n.token)
        (cond c (record { name = name; token = lexeme (get_or words word d); standing = standing } ∷ []) [])
    by true true is = refl
    by true false is = absurd (cc)
    by false true is = absurd (cc)
    by false false is = refl

kept_by : (b : Bool) (t : Token) (kept : List Token) (words : List Lexeme) → map lexeme kept ≡ words
    → map lexeme (cond b (t ∷ kept) kept) ≡ cond b (lexeme t ∷ words) words
kept_by true t kept words is = ap (λ l. lexeme t ∷ l) is
kept_by false t kept words is = is

-- the words among tokens
pub words_kept : (tokens : List Token)
    → map lexeme (filter (λ t. is_significant t.kind) tokens) ≡ words_in (map lexeme tokens)
words_kept [] = refl
words_kept (t ∷ tokens) = kept_by (is_significant t.kind) t (filter (λ t. is_significant t.kind) tokens)
    (words_in (map lexeme tokens)) (words_kept tokens)

-- the names of a definition are added: those that its words declare, and then those that they use
pub names_added : (test : NamePlace → Bool) (part words words' old mid new : List Lexeme) (d : Definition)
    (ds : List Declared) (ms : List Mention) → words ≡ words_in part → words' ≡ words_in part
    → ds ≡ declared d → ms ≡ mentioned d
    → mid ≡ old ++ tokens_where test (flat_map (declared_on words) ds)
    → new ≡ mid ++ tokens_where test (flat_map (mentioned_on words') ms)
    → new ≡ old ++ tokens_where test (names_by part (Some d))
names_added test part words words' old mid new d ds ms words_are words'_are declared_are mentioned_are
    first second =
    let those = flat_map (declared_on (words_in part)) (declared d) in
    let others = flat_map (mentioned_on (words_in part)) (mentioned d) in
    let one : mid ≡ old ++ tokens_where test those = first
    ∙ (λ k. old ++ tokens_where test (flat_map (declared_on (words_are k)) (declared_are k))) in
    second
    ∙ (λ k. one k ++ tokens_where test (flat_map (mentioned_on (words'_are k)) (mentioned_are k)))
    ∙ append_assoc old (tokens_where test those) (tokens_where test others)
    ∙ ap (λ l. old ++ l) (sym (where_append test those others))

-- Names take room in a text: each its bytes, and one byte behind it unless it is the last token.
use Rattle.std.proofs.Common.{◌≡◌, ◌⊎◌, inl, inr, ℕ, suc, ◌+◌, ◌<◌, ◌≤◌, Bool, true, false, cond, List, []}
use Rattle.std.proofs.Common.{◌∷◌, ◌++◌, map, length, get_or, take, Option, Some, None, arith, refl, ap}
use Rattle.std.proofs.Common.{subst, ◌∙◌}
use Rattle.std.specs.Prelude.{if◌then◌else◌, not}
use Rattle.std.specs.List.{IsAmong, filter}
use Rattle.std.specs.Str.{bytes_eq}
use Rattle.std.proofs.lemmas.Bool.{cases_lt}
use Rattle.std.proofs.lemmas.Bool.Decides.{nat_tests}
use Rattle.std.proofs.lemmas.List.{get_or-append-add, length-append, length-map, map-append}
use Rattle.x_text.specs.Limits.{most_text}
use Rattle.x_lex.specs.declared.kind.Kind.{Kind}
use Rattle.x_lex.specs.declared.kind.Kind.TheVariants as kinds
use Rattle.x_lex.specs.declared.mark.Mark.{Mark}
use Rattle.x_lex.specs.Bytes.{is_keyword, is_letter, is_word_byte}
use Rattle.x_lex.specs.Marks.{mark_of}
use Rattle.x_lex.specs.Tiling.{starts_after}
use Rattle.x_lex.specs.Word.{IsIdentifier, IsToken, IsWord}
use Rattle.x_lex.proofs.TilingLemmas.{token_spans}
use Rattle.x_cutting.specs.Cutting.{depth_after, ends_at}
use Rattle.x_trees.specs.Gloss.{Gloss, gloss, told_of}
use Rattle.x_trees.specs.Mentions.{Mention, mentioned, mentioned_at}
use Rattle.x_trees.specs.Spell.{spell}
use Rattle.x_trees.specs.Tree.{Definition}
use Rattle.x_trees.specs.Words.{Name, Word, marked, word_by, words_of}
use Rattle.x_trees.proofs.AmongLemmas.{among_first, among_more}
use Rattle.x_trees.proofs.GlossLemmas as glosses
use Rattle.x_item.specs.Parse.{Def, Fault, IsParse, Nothing, Parse}
use Rattle.x_names.specs.Declarers.{first_declarer}
use Rattle.x_rules.specs.Results.{KnownNames}
use Rattle.x_compile.specs.Compile.{AreParses, IsCompilation, Item, definitions_of, parsed_definition}
use Rattle.x_compile.specs.Known.{KnownText}
use Rattle.x_prelude.specs.Lacking.{Occurrence, first_of_each, is_lacking, lacking, name_of, occurrences_from}
use Rattle.x_prelude.specs.Lacking.{occurrences_in}
use Rattle.x_prelude_laws.proofs.Distinct.{first_distinct}
use Rattle.x_prelude_laws.proofs.Found.{item_words}
use Rattle.x_prelude_laws.proofs.Items.{HasFirst, first_is, has_first, items, put, role, words, words_in}
use Rattle.x_prelude_laws.proofs.Lacks.{first_in}
use Rattle.x_prelude_laws.proofs.Lines.{IsName}
use Rattle.x_prelude_laws.proofs.Named.{AreNamed, IsNamed, named_gloss, names_in, names_told}
use Rattle.x_prelude_laws.proofs.Pieces.{Lexes, Piece, bytes_are, bytes_of, lexes_from, pieces_of}
use Rattle.x_prelude_laws.proofs.Short.{AllWords, few_names, room_of}
use Rattle.x_prelude_laws.proofs.Wholes.{items_by}

-- ---- of pieces

abbrev is_name : Kind → Bool
is_name kinds.Name = true
is_name kind = false

abbrev piece_room : Piece → ℕ
piece_room p = if is_name p.0 then length p.1 + 1 else 0

abbrev pieces_room : List Piece → ℕ
pieces_room [] = 0
pieces_room (p ∷ ps) = piece_room p + pieces_room ps

abbrev one_if : Bool → ℕ
one_if true = 1
one_if false = 0

-- whether the first is a name
abbrev begins : List Piece → Bool
begins [] = false
begins (p ∷ ps) = is_name p.0

name_kind : (k : Kind) → is_name k ≡ true → k ≡ kinds.Name
name_kind kinds.Name e = refl
name_kind k e = absurd (cc)

letter_in_word : (b : ℕ) → is_letter b ≡ true → is_word_byte b ≡ true
letter_in_word b h = grind (arith, nat_tests)

-- what begins with a letter
record Begun (w : List ℕ) : Type 0 where
  letter : is_letter (get_or w 0 0) ≡ true
  some : 0 < length w

begun : (start : Bool) (w : List ℕ) (n : ℕ) → IsToken kinds.Name start w n → Begun w
begun start w n t = by t.word
  where
    by : IsWord kinds.Name start w n → Begun w
    by (inl g) = let some = g.some in let fit = g.within in
        record { letter = g.form.0.first; some = omega (arith, some, fit) }
    by (inr (e, b)) = absurd (cc)

-- a name does not end before a letter
no_letter_behind : (start : Bool) (w rest : List ℕ) → IsToken kinds.Name start (w ++ rest) (length w)
    → Begun rest → ⊥
no_letter_behind start w rest t b = by (is_keyword (take (length w + 1) (w ++ rest))) refl
  where
    own : IsIdentifier (w ++ rest) (length w)
    own = from t.word
      where
        from : IsWord kinds.Name start (w ++ rest) (length w) → IsIdentifier (w ++ rest) (length w)
        from (inl g) = g.form.0
        from (inr (e, k)) = absurd (cc)

    at_end : is_word_byte (get_or (w ++ rest) (length w) 0) ≡ true
    at_end =
        let at : length w ≡ length w + 0 = omega arith in
        ap (λ n. is_word_byte (get_or (w ++ rest) n 0)) at ∙ ap is_word_byte (get_or-append-add w rest 0 0)
        ∙ letter_in_word (get_or rest 0 0) b.letter

    longer : IsIdentifier (w ++ rest) (length w + 1)
    longer = record { first = own.first; others = λ k le lt. each k le (cases k (omega (arith, lt))) }
      where
        cases : (k : ℕ) → k ≤ length w → (k < length w) ⊎ (k ≡ length w)
        cases k le = both (cases_lt k (length w))
          where
            both : (k < length w) ⊎ (length w ≤ k) → (k < length w) ⊎ (k ≡ length w)
            both (inl lt) = inl lt
            both (inr ge) = inr (omega (arith, le, ge))

        each : (k : ℕ) → 1 ≤ k → (k < length w) ⊎ (k ≡ length w)
            → is_word_byte (get_or (w ++ rest) k 0) ≡ true
        each k le (inl lt) = own.others k le lt
        each k le (inr e) = ap (λ n. is_word_byte (get_or (w ++ rest) n 0)) e ∙ at_end

    fits : length w + 1 ≤ length (w ++ rest)
    fits = let some = b.some in omega (arith, some, length-append w rest)

    by : (k : Bool) → is_keyword (take (length w + 1) (w ++ rest)) ≡ k → ⊥
    by true e =
        let le = t.longest kinds.Keyword (length w + 1)
        (inl (record { some = omega arith; within = fits; form = (longer, e) })) in
        omega (arith, le)
    by false e =
        let le = t.longest kinds.Name (length w + 1)
        (inl (record { some = omega arith; within = fits; form = (longer, e) })) in
        omega (arith, le)

not_begun : (start : Bool) (p : Piece) (ps : List Piece) → Lexes start (p ∷ ps) → p.0 ≡ kinds.Name
    → begins ps ≡ false
not_begun start p [] h e = refl
not_begun start p (q ∷ ps) h e = by (is_name q.0) refl
  where
    by : (b : Bool) → is_name q.0 ≡ b → b ≡ false
    by false f = refl
    by true f =
        let next = starts_after (p.1 ++ bytes_of (q ∷ ps)) (length p.1) in
        let there = begun next (q.1 ++ bytes_of ps) (length q.1)
        (subst (λ k. IsToken k next (q.1 ++ bytes_of ps) (length q.1)) (name_kind q.0 f) h.1.0) in
        absurd (no_letter_behind start p.1 (q.1 ++ bytes_of ps)
        (subst (λ k. IsToken k start (p.1 ++ (q.1 ++ bytes_of ps)) (length p.1)) e h.0) there)

room_in : (start : Bool) (ps : List Piece) → Lexes start ps
    → pieces_room ps ≤ length (bytes_of ps) + one_if (begins ps)
room_in start [] h = omega arith
room_in start (p ∷ ps) h =
    by (is_name p.0) refl (room_in (starts_after (p.1 ++ bytes_of ps) (length p.1)) ps h.1)
  where
    all : length (p.1 ++ bytes_of ps) ≡ length p.1 + length (bytes_of ps)
    all = length-append p.1 (bytes_of ps)

    at_most : (b : Bool) → one_if b ≤ 1
    at_most true = omega arith
    at_most false = omega arith

    by : (b : Bool) → is_name p.0 ≡ b → pieces_room ps ≤ length (bytes_of ps) + one_if (begins ps)
        → (if b then length p.1 + 1 else 0) + pieces_room ps ≤ length (p.1 ++ bytes_of ps) + one_if b
    by true e rest =
        let none = ap (λ b. one_if b) (not_begun start p ps h (name_kind p.0 e)) in
        omega (arith, rest, none, all)
    by false e rest =
        let some = (token_spans p.0 start (p.1 ++ bytes_of ps) (length p.1) h.0).some in
        let one = at_most (begins ps) in
        omega (arith, rest, some, one, all)

-- ---- of words

abbrev word_room : Word → ℕ
word_room (Name w) = length w + 1
word_room w = 0

abbrev words_room : List Word → ℕ
words_room [] = 0
words_room (w ∷ ws) = word_room w + words_room ws

abbrev items_room : List (List Word) → ℕ
items_room [] = 0
items_room (ws ∷ is) = words_room ws + items_room is

room_both : (ws us : List Word) → words_room (ws ++ us) ≡ words_room ws + words_room us
room_both [] us = omega arith
room_both (w ∷ ws) us = let rest = room_both ws us in omega (arith, rest)

mark_room : (o : Option Mark) → word_room (marked o) ≡ 0
mark_room None = refl
mark_room (Some m) = refl

in_room : (k : Kind) (text : List ℕ) → words_room (words_in k text) ≤ piece_room (k, text)
unfolding word_by
in_room kinds.Name text = omega arith
in_room kinds.Keyword text = let none = mark_room (mark_of text) in omega (arith, none)
in_room kinds.Punct text = let none = mark_room (mark_of text) in omega (arith, none)
in_room k text = omega arith

put_room : (b : Bool) (ws : List Word) (is : List (List Word)) → HasFirst is
    → items_room (put b ws is) ≡ words_room ws + items_room is
put_room true ws is h = refl
put_room false ws is (first_is i rest e) =
    let both = room_both ws i in
    let one = ap items_room e in
    let all = ap (λ l. items_room (put false ws l)) e in
    omega (arith, both, one, all)

items_in : (d : ℕ) (ps : List Piece) → items_room (items d ps) ≤ pieces_room ps
items_in d [] = omega arith
items_in d (p ∷ ps) =
    let rest = items_in (depth_after d (role p)) ps in
    let here = in_room p.0 p.1 in
    let all = put_room (ends_at d (role p)) (words p) (items (depth_after d (role p)) ps)
    (has_first (depth_after d (role p)) ps) in
    omega (arith, rest, here, all)

-- ---- of mentions

abbrev names_of : List Mention → List (List ℕ)
names_of ms = map (λ (m : Mention). m.name) ms

names_both : (ns ms : List (List ℕ)) → room_of (ns ++ ms) ≡ room_of ns + room_of ms
names_both [] ms = omega arith
names_both (n ∷ ns) ms = let rest = names_both ns ms in omega (arith, rest)

named_room : (g : Gloss) → IsNamed g → room_of (names_in g.roles) ≤ word_room g.word
named_room g (inl none) = let e = ap room_of none in omega (arith, e)
named_room g (inr (name, word, only)) =
    let e = ap room_of only in let f = ap word_room word in omega (arith, e, f)

told_room : (k : ℕ) (gs : List Gloss) → AreNamed gs → room_of
    (names_of (told_of mentioned_at k gs)) ≤ words_room (glosses.words gs)
told_room k [] named = omega arith
told_room k (g ∷ gs) named =
    let here = named_room g named.0 in
    let own = ap room_of (names_told k g.roles) in
    let rest = told_room (k + 1) gs named.1 in
    let both = ap room_of (map-append (λ (m : Mention). m.name) (mentioned_at k g.roles)
    (told_of mentioned_at (k + 1) gs)) in
    let all = names_both (names_of (mentioned_at k g.roles)) (names_of (told_of mentioned_at (k + 1) gs)) in
    omega (arith, here, own, rest, both, all)

mentioned_room : (d : Definition) → room_of (names_of (mentioned d)) ≤ words_room (spell d)
mentioned_room d =
    let room = told_room 0 (gloss d) (named_gloss d) in
    let same = ap words_room (glosses.words_gloss d) in
    omega (arith, room, same)

-- the mentions of definitions
abbrev definitions_room : List (Option Definition) → ℕ
definitions_room [] = 0
definitions_room (None ∷ ds) = definitions_room ds
definitions_room (Some d ∷ ds) = room_of (names_of (mentioned d)) + definitions_room ds

parse_room : (i : Item) (p : Parse) (ds : List (Option Definition)) (rest : ℕ) → IsParse i.tokens p
    → definitions_room ds ≤ rest
    → definitions_room (parsed_definition p ∷ ds) ≤ words_room (words_of i.tokens) + rest
parse_room i Nothing ds rest h le = omega (arith, le)
parse_room i (Fault token code) ds rest h le = omega (arith, le)
parse_room i (Def d) ds rest h le =
    let room = mentioned_room d in let same = ap words_room h.1 in omega (arith, room, same, le)

item_room : (is : List Item) → AreParses is → definitions_room (definitions_of is) ≤ items_room
    (item_words is)
item_room [] h = omega arith
item_room (i ∷ is) h =
    parse_room i i.parse (definitions_of is) (items_room (item_words is)) h.0 (item_room is h.1)

text_room : (known : KnownText) (text : List ℕ) (tokens : List (Kind × ℕ)) (is : List Item)
    → IsCompilation known text tokens is → definitions_room (definitions_of is) ≤ length text + 1
text_room known text tokens is h =
    let ps = pieces_of text tokens in
    let own = item_room is h.are_parses in
    let words = ap items_room (items_by text tokens (map (λ i. i.tokens) is) h.are_items) in
    let pieces = items_in 0 ps in
    let room = room_in true ps (lexes_from true text tokens h.are_tokens) in
    let bytes = ap length (bytes_are true text tokens h.are_tokens) in
    let one = at_most (begins ps) in
    omega (arith, own, words, pieces, room, bytes, one)
  where
    at_most : (b : Bool) → one_if b ≤ 1
    at_most true = omega arith
    at_most false = omega arith

-- ---- of what is lacking

abbrev occurrence_names : List Occurrence → List (List ℕ)
occurrence_names os = map name_of os

same_names : (item : ℕ) (ms : List Mention)
    → occurrence_names (map (λ (m : Mention). record { item = item; mention = m }) ms) ≡ names_of ms
same_names item [] = refl
same_names item (m ∷ ms) = ap (λ l. m.name ∷ l) (same_names item ms)

occurrences_room : (item : ℕ) (ds : List (Option Definition))
    → room_of (occurrence_names (occurrences_from item ds)) ≤ definitions_room ds
occurrences_room item [] = omega arith
occurrences_room item (None ∷ ds) = occurrences_room (suc item) ds
occurrences_room item (Some d ∷ ds) =
    let rest = occurrences_room (suc item) ds in
    let own = ap room_of (same_names item (mentioned d)) in
    let both = ap room_of (map-append name_of (occurrences_in item (Some d))
    (occurrences_from (suc item) ds)) in
    let all = names_both (occurrence_names (occurrences_in item (Some d)))
    (occurrence_names (occurrences_from (suc item) ds)) in
    omega (arith, rest, own, both, all)

filter_room : (p : Occurrence → Bool) (os : List Occurrence)
    → room_of (occurrence_names (filter p os)) ≤ room_of (occurrence_names os)
filter_room p [] = omega arith
filter_room p (o ∷ os) = by (p o) (filter_room p os)
  where
    by : (b : Bool) → room_of (occurrence_names (filter p os)) ≤ room_of (occurrence_names os)
        → room_of (occurrence_names (cond b (o ∷ filter p os) (filter p os))) ≤ length
        (name_of o) + 1 + room_of (occurrence_names os)
    by true le = omega (arith, le)
    by false le = omega (arith, le)

first_room : (os : List Occurrence) → room_of (occurrence_names (first_of_each os)) ≤ room_of
    (occurrence_names os)
first_room [] = omega arith
first_room (o ∷ os) =
    let rest = first_room os in
    let kept = filter_room (λ (y : Occurrence). not (bytes_eq (name_of y) (name_of o))) (first_of_each os) in
    omega (arith, rest, kept)

-- the first mentions of the names that a text lacks
pub lacking_room : (known : KnownText) (own : KnownNames) (text : List ℕ) (tokens : List (Kind × ℕ))
    (is : List Item)
    → IsCompilation known text tokens is
    → room_of (occurrence_names (first_of_each (lacking own (definitions_of is)))) ≤ length text + 1
lacking_room known own text tokens is h =
    let ds = definitions_of is in
    let text_has = text_room known text tokens is h in
    let all = occurrences_room 0 ds in
    let kept = filter_room (λ (o : Occurrence). is_lacking own (first_declarer ds) (name_of o))
    (occurrences_from 0 ds) in
    let first = first_room (lacking own ds) in
    omega (arith, text_has, all, kept, first)

-- a text has fewer distinct names than 2^22
pub few_lacking : (known : KnownText) (own : KnownNames) (text : List ℕ) (tokens : List (Kind × ℕ))
    (is : List Item)
    → length text ≤ most_text → IsCompilation known text tokens is
    → ((o : Occurrence) → IsAmong (lacking own (definitions_of is)) o → IsName (name_of o))
    → length (first_of_each (lacking own (definitions_of is))) < 4194304
few_lacking known own text tokens is fits h names =
    let first = first_of_each (lacking own (definitions_of is)) in
    let room = lacking_room known own text tokens is h in
    let many = length-map first name_of in
    let few = few_names (occurrence_names first)
    (words first (λ o k. names o (first_in (lacking own (definitions_of is)) o k)))
    (first_distinct (lacking own (definitions_of is))) (omega (arith, room, fits)) in
    omega (arith, few, many)
  where
    words : (os : List Occurrence) → ((o : Occurrence) → IsAmong os o → IsName (name_of o))
        → AllWords (occurrence_names os)
    words [] each = tt
    words (o ∷ os) each =
        ((each o (among_first o os)).wordy.all, words os (λ x k. each x (among_more o x os k)))

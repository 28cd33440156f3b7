-- Behind the last `;` of a text without a fault there is no word.
use Rattle.std.proofs.Common.{◌≡◌, ◌⊎◌, inl, inr, ℕ, suc, Bool, true, false, cond, List, [], ◌∷◌, ◌++◌, map}
use Rattle.std.proofs.Common.{length, get_or, Option, Some, None, arith, refl, sym, ap, subst, ◌∙◌}
use Rattle.std.specs.Prelude.{if◌then◌else◌, ◌==◌, option_map}
use Rattle.std.specs.List.{IsAmong, find}
use Rattle.std.specs.Str.{bytes_eq}
use Rattle.std.proofs.lemmas.Bool.Decides.{nat_tests}
use Rattle.std.proofs.lemmas.List.{get_or_append_left, map_push}
use Rattle.std.proofs.lemmas.Slice.Eq.{bytes_eq-Decides}
use Rattle.x_lex.specs.declared.kind.Kind.{Kind}
use Rattle.x_lex.specs.declared.kind.Kind.TheVariants as kinds
use Rattle.x_lex.specs.declared.mark.Mark.{Mark}
use Rattle.x_lex.specs.declared.mark.Mark.TheVariants as marks
use Rattle.x_lex.specs.Bytes.{is_letter}
use Rattle.x_lex.specs.Marks.{spellings, mark_of}
use Rattle.x_lex.specs.Places.{Lexeme}
use Rattle.x_lex.specs.Tiling.{starts_after}
use Rattle.x_lex.specs.Word.{IsToken, IsWord}
use Rattle.x_cutting.specs.Cutting.{DepthRole, chosen, depth_after, ends_at, plain, role_by}
use Rattle.x_trees.specs.Words.{Fixed, Name, Number, Other, Word, is_significant, marked, word_by, words_of}
use Rattle.x_trees.proofs.AmongLemmas.{among_cases, among_first, among_more, among_none, among_rear}
use Rattle.x_item.specs.Parse.{Def, Fault, IsParse, Nothing, Parse}
use Rattle.x_compile.specs.Compile.{AreParses, IsCompilation, Item, faults_at, faults_from, faults_of}
use Rattle.x_compile.specs.Compile.{item_faults, placed, rule_faults}
use Rattle.x_compile.specs.Known.{KnownText}
use Rattle.x_prelude_laws.proofs.Items.{HasFirst, after_end, first_is, has_first, items, no_word_plain, put}
use Rattle.x_prelude_laws.proofs.Items.{role, words, words_in}
use Rattle.x_prelude_laws.proofs.Level.{closed, mark_role, run, word_role}
use Rattle.x_prelude_laws.proofs.Pieces.{Lexes, Piece, bytes_are, bytes_of, lexes_from, pieces_of}
use Rattle.x_prelude_laws.proofs.Wholes.{items_by}

-- ---- what a token does to the depth, by its word

-- what a search found is in the list, and passes the test
found_in : {E : Type 0} (p : E → Bool) (es : List E) (e : E) → find p es ≡ Some e
    → IsAmong es e × (p e ≡ true)
found_in p [] e h = absurd (cc)
found_in {E} p (x ∷ es) e h = by (p x) refl h (λ k. found_in p es e k)
  where
    by : (b : Bool) → p x ≡ b → cond b (Some x) (find p es) ≡ Some e
        → (find p es ≡ Some e → IsAmong es e × (p e ≡ true)) → IsAmong (x ∷ es) e × (p e ≡ true)
    by true is k next =
        let same : x ≡ e = cc in
        (subst (IsAmong (x ∷ es)) same (among_first x es), ap p (sym same) ∙ is)
    by false is k next = let rest = next k in (among_more x e es rest.0, rest.1)

-- functions that agree on a list agree on what is in it
agree_at : {E X : Type 0} (f g : E → X) (es : List E) (e : E) → map f es ≡ map g es → IsAmong es e → f e ≡ g e
agree_at f g [] e same h = absurd (among_none e h)
agree_at {E} {X} f g (x ∷ es) e same h = by (among_cases x e es h) (λ k. agree_at f g es e rest k)
  where
    first : f x ≡ g x
    first = cc

    rest : map f es ≡ map g es
    rest = cc

    by : (e ≡ x) ⊎ IsAmong es e → (IsAmong es e → f e ≡ g e) → f e ≡ g e
    by (inl is) next = ap f is ∙ first ∙ ap g (sym is)
    by (inr k) next = next k

-- in a table of marks where each text has the role of its mark, a word has the role of the mark that is found
found_role : {E : Type 0} (text : E → List ℕ) (mark : E → Mark) (role : List ℕ → DepthRole) (es : List E)
    (w : List ℕ)
    → map (λ e. role (text e)) es ≡ map (λ e. mark_role (mark e)) es
    → (find (λ e. bytes_eq (text e) w) es ≡ None → role w ≡ plain)
    → role w ≡ word_role (marked (option_map mark (find (λ e. bytes_eq (text e) w) es)))
found_role {E} text mark role es w same none = by (find (λ e. bytes_eq (text e) w) es) refl
  where
    by : (o : Option E) → find (λ e. bytes_eq (text e) w) es ≡ o
        → role w ≡ word_role (marked (option_map mark o))
    by None h = none h
    by (Some e) h =
        let at = found_in (λ e. bytes_eq (text e) w) es e h in
        let own : text e ≡ w = (bytes_eq-Decides (text e) w).0 at.1 in
        ap role (sym own) ∙ agree_at (λ e. role (text e)) (λ e. mark_role (mark e)) es e same at.0

by_tests : (x y z : Bool) → (x ≡ true → ⊥) → (y ≡ true → ⊥) → (z ≡ true → ⊥) → chosen x y z ≡ plain
by_tests true y z a b c = absurd (a refl)
by_tests false true z a b c = absurd (b refl)
by_tests false false true a b c = absurd (c refl)
by_tests false false false a b c = refl

punct_role : (text : List ℕ) → role_by kinds.Punct text ≡ word_role (marked (mark_of text))
unfolding mark_of role_by
punct_role text =
    found_role (λ entry. entry.0) (λ entry. entry.1) (role_by kinds.Punct) spellings text refl
    (λ h. unmarked (ap (option_map (λ entry. entry.1)) h))
  where
    -- one of the three bytes has a mark
    spelled : (w : List ℕ) (m : Mark) → mark_of w ≡ Some m → mark_of text ≡ None → bytes_eq text w ≡ true → ⊥
    spelled w m is none same =
        let alike : text ≡ w = (bytes_eq-Decides text w).0 same in
        let two : Some m ≡ None = sym is ∙ ap mark_of (sym alike) ∙ none in
        (cc)

    unmarked : mark_of text ≡ None → role_by kinds.Punct text ≡ plain
    unmarked none =
        by_tests (bytes_eq text (123 ∷ [])) (bytes_eq text (125 ∷ [])) (bytes_eq text (59 ∷ []))
        (spelled (123 ∷ []) marks.OpenBrace refl none) (spelled (125 ∷ []) marks.CloseBrace refl none)
        (spelled (59 ∷ []) marks.Semicolon refl none)

-- a word that begins with a letter is no brace and no `;`
abbrev letter_role : List ℕ → DepthRole
letter_role w = if is_letter (get_or w 0 0) then plain else word_role (marked (mark_of w))

keyword_role : (text : List ℕ) → is_letter (get_or text 0 0) ≡ true
    → word_role (marked (mark_of text)) ≡ plain
unfolding mark_of
keyword_role text letter =
    sym (found_role (λ entry. entry.0) (λ entry. entry.1) letter_role spellings text refl
    (λ h. ap (λ b. if b then plain else word_role (marked (mark_of text))) letter))
    ∙ ap (λ b. if b then plain else word_role (marked (mark_of text))) letter

keyword_letter : (start : Bool) (w rest : List ℕ) → IsToken kinds.Keyword start (w ++ rest) (length w)
    → is_letter (get_or w 0 0) ≡ true
keyword_letter start w rest t = by t.word
  where
    by : IsWord kinds.Keyword start (w ++ rest) (length w) → is_letter (get_or w 0 0) ≡ true
    by (inl g) = ap is_letter (sym (get_or_append_left w rest 0 0 g.some)) ∙ g.form.0.first
    by (inr (e, b)) = absurd (cc)

role_in : (k : Kind) (start : Bool) (text rest : List ℕ) (w : Word)
    → IsToken k start (text ++ rest) (length text)
    → words_in k text ≡ w ∷ [] → role_by k text ≡ word_role w
unfolding word_by role_by
role_in kinds.Punct start text rest w t e =
    let same : marked (mark_of text) ≡ w = cc in punct_role text ∙ ap word_role same
role_in kinds.Keyword start text rest w t e =
    let same : marked (mark_of text) ≡ w = cc in
    sym (keyword_role text (keyword_letter start text rest t)) ∙ ap word_role same
role_in kinds.Name start text rest w t e = let same : Name text ≡ w = cc in ap word_role same
role_in kinds.Number start text rest w t e = let same : Number text ≡ w = cc in ap word_role same
role_in kinds.Space start text rest w t e = absurd (cc)
role_in kinds.Comment start text rest w t e = absurd (cc)
role_in kinds.Percent start text rest w t e = absurd (cc)
role_in kinds.Marker start text rest w t e = absurd (cc)
role_in k start text rest w t e = let same : Other ≡ w = cc in ap word_role same

-- ---- the last item is no definition

-- a piece has one word, or none
one_or_none : (k : Kind) (text : List ℕ) → (words_in k text ≡ []) ⊎ ((w : Word) × (words_in k text ≡ w ∷ []))
one_or_none k text = by (is_significant k)
  where
    by : (b : Bool) → ((if b then word_by k text ∷ [] else []) ≡ [])
        ⊎ ((w : Word) × ((if b then word_by k text ∷ [] else []) ≡ w ∷ []))
    by true = inr (word_by k text, refl)
    by false = inl refl

not_empty : (xs : List Word) (x : Word) → xs ++ x ∷ [] ≡ [] → ⊥
not_empty [] x e = absurd (cc)
not_empty (y ∷ xs) x e = absurd (cc)

test_zero : (d : ℕ) → d ≡ 0 → (d == 0) ≡ true
test_zero d h = grind (arith, nat_tests)

-- one item alone, which no token ends, does not end with `;` outside braces
never_closed : (start : Bool) (d : ℕ) (ps : List Piece) (last front : List Word) → Lexes start ps
    → items d ps ≡ last ∷ [] → last ≡ front ++ Fixed marks.Semicolon ∷ [] → run d front ≡ 0 → ⊥
never_closed start d [] last front h is parts level =
    let none : [] ≡ last = cc in not_empty front (Fixed marks.Semicolon) (sym parts ∙ sym none)
never_closed start d (p ∷ ps) last front h is parts level =
    by (ends_at d (role p)) refl (has_first d' ps) (one_or_none p.0 p.1) is
    (λ i f own open_words. never_closed (starts_after (p.1 ++ bytes_of ps)
    (length p.1)) d' ps i f h.1 own.0 own.1 open_words)
  where
    d' : ℕ
    d' = depth_after d (role p)

    own_role : (w : Word) → words p ≡ w ∷ [] → role p ≡ word_role w
    own_role w e = role_in p.0 start p.1 (bytes_of ps) w h.0 e

    -- the words behind the first piece
    behind : (i front : List Word) (w : Word) → ends_at d (role p) ≡ false → words p ≡ w ∷ []
        → w ∷ i ≡ front ++ Fixed marks.Semicolon ∷ [] → run d front ≡ 0
        → ((f : List Word) → i ≡ f ++ Fixed marks.Semicolon ∷ [] → run d' f ≡ 0 → ⊥) → ⊥
    behind i [] w none e parts level next =
        let same : w ≡ Fixed marks.Semicolon = cc in
        let ends : ends_at d (role p) ≡ true =
        ap (ends_at d) (own_role w e ∙ ap word_role same) ∙ test_zero d level in
        (cc)
    behind i (v ∷ front) w none e parts level next =
        let same : w ≡ v = cc in
        let rest : i ≡ front ++ Fixed marks.Semicolon ∷ [] = cc in
        let depth : d' ≡ depth_after d (word_role v) = ap (depth_after d)
        (own_role w e ∙ ap word_role same) in
        next front rest (ap (λ n. run n front) depth ∙ level)

    by : (b : Bool) → ends_at d (role p) ≡ b → HasFirst (items d' ps)
        → (words p ≡ []) ⊎ ((w : Word) × (words p ≡ w ∷ []))
        → put (ends_at d (role p)) (words p) (items d' ps) ≡ last ∷ []
        → ((i f : List Word) → (items d' ps ≡ i ∷ []) × (i ≡ f ++ Fixed marks.Semicolon ∷ []) → run d' f ≡ 0
        → ⊥) → ⊥
    by true e (first_is i rest f) one all next =
        let two : words p ∷ (i ∷ rest) ≡ last ∷ [] =
        ap (λ l. words p ∷ l) (sym f) ∙ sym (ap (λ b. put b (words p) (items d' ps)) e) ∙ all in
        (cc)
    by false e (first_is i rest f) one all next = inner one
      where
        whole : (words p ++ i) ∷ rest ≡ last ∷ []
        whole = ap (put false (words p)) (sym f) ∙ sym (ap (λ b. put b (words p) (items d' ps)) e) ∙ all

        alone : items d' ps ≡ i ∷ []
        alone = let none : rest ≡ [] = cc in f ∙ ap (λ l. i ∷ l) none

        last_is : words p ++ i ≡ last
        last_is = cc

        inner : (words p ≡ []) ⊎ ((w : Word) × (words p ≡ w ∷ [])) → ⊥
        inner (inl none) =
            let same : i ≡ last = ap (λ l. l ++ i) (sym none) ∙ last_is in
            let depth : d' ≡ d = ap (depth_after d) (no_word_plain p none) in
            next i front (alone, same ∙ parts) (ap (λ n. run n front) depth ∙ level)
        inner (inr (w, own)) =
            behind i front w e own (ap (λ l. l ++ i) (sym own) ∙ last_is ∙ parts) level
            (λ g split depth. next i g (alone, split) depth)

-- nor does the last of items
last_open : (start : Bool) (d : ℕ) (ps : List Piece) (all : List (List Word)) (last front : List Word)
    → Lexes start ps
    → items d ps ≡ all ++ last ∷ [] → (all ≡ [] → d ≡ 0) → last ≡ front ++ Fixed marks.Semicolon ∷ []
    → run 0 front ≡ 0 → ⊥
last_open start d ps [] last front h is none parts level =
    never_closed start d ps last front h is parts (ap (λ n. run n front) (none refl) ∙ level)
last_open start d [] (a ∷ []) last front h is none parts level = absurd (cc)
last_open start d [] (a ∷ b ∷ all) last front h is none parts level = absurd (cc)
last_open start d (p ∷ ps) (a ∷ all) last front h is none parts level =
    by (ends_at d (role p)) refl (has_first d' ps) is
    (λ l own zero. last_open (starts_after (p.1 ++ bytes_of ps)
    (length p.1)) d' ps l last front h.1 own zero parts level)
  where
    d' : ℕ
    d' = depth_after d (role p)

    by : (b : Bool) → ends_at d (role p) ≡ b → HasFirst (items d' ps)
        → put (ends_at d (role p)) (words p) (items d' ps) ≡ a ∷ (all ++ last ∷ [])
        → ((l : List (List Word)) → items d' ps ≡ l ++ last ∷ [] → (l ≡ [] → d' ≡ 0) → ⊥) → ⊥
    by true e first is next =
        let split : words p ∷ items d' ps ≡ a ∷ (all ++ last ∷ []) =
        sym (ap (λ b. put b (words p) (items d' ps)) e) ∙ is in
        let rest : items d' ps ≡ all ++ last ∷ [] = cc in
        next all rest (λ x. after_end d (role p) e)
    by false e (first_is i rest f) is next =
        let split : (words p ++ i) ∷ rest ≡ a ∷ (all ++ last ∷ []) =
        ap (put false (words p)) (sym f) ∙ sym (ap (λ b. put b (words p) (items d' ps)) e) ∙ is in
        let behind : rest ≡ all ++ last ∷ [] = cc in
        next (i ∷ all) (f ∙ ap (λ l. i ∷ l) behind) (λ x. absurd (cc))

-- ---- a text without a fault

abbrev IsNoFault : Parse → Type 0
IsNoFault (Fault token code) = ⊥
IsNoFault parse = Unit {0}

-- what is nothing has no parts
pub no_parts : {X : Type 0} (xs ys : List X) → xs ++ ys ≡ [] → (xs ≡ []) × (ys ≡ [])
no_parts [] ys e = (refl, e)
no_parts (x ∷ xs) ys e = absurd (cc)

good_parse : (text : List ℕ) (n : ℕ) (i : Item) → item_faults text n i ≡ [] → IsNoFault i.parse
good_parse text n i none = by i.parse none
  where
    by : (p : Parse) → map (placed text n i.tokens) (faults_at i.tokens p (rule_faults i.result)) ≡ []
        → IsNoFault p
    by Nothing e = tt
    by (Def d) e = tt
    by (Fault token code) e = absurd (cc)

good_parses : (text : List ℕ) (n : ℕ) (is : List Item) (i : Item) → faults_from text n is ≡ [] → IsAmong is i
    → IsNoFault i.parse
good_parses text n [] i none h = absurd (among_none i h)
good_parses text n (j ∷ is) i none h =
    by (among_cases j i is h) (no_parts (item_faults text n j) (faults_from text (suc n) is) none)
    (λ rest k. good_parses text (suc n) is i rest k)
  where
    by : (i ≡ j) ⊎ IsAmong is i → (item_faults text n j ≡ []) × (faults_from text (suc n) is ≡ [])
        → (faults_from text (suc n) is ≡ [] → IsAmong is i → IsNoFault i.parse) → IsNoFault i.parse
    by (inl same) both next = subst (λ x. IsNoFault x.parse) (sym same) (good_parse text n j both.0)
    by (inr k) both next = next both.1 k

parse_of : (is : List Item) (i : Item) → AreParses is → IsAmong is i → IsParse i.tokens i.parse
parse_of [] i h k = absurd (among_none i k)
parse_of (j ∷ is) i h k = by (among_cases j i is k) (λ l. parse_of is i h.1 l)
  where
    by : (i ≡ j) ⊎ IsAmong is i → (IsAmong is i → IsParse i.tokens i.parse) → IsParse i.tokens i.parse
    by (inl same) next = subst (λ x. IsParse x.tokens x.parse) (sym same) h.0
    by (inr l) next = next l

-- the item with these tokens
record HasTokens (is : List Item) (tokens : List Lexeme) : Type 0 where
  item : Item
  among : IsAmong is item
  same : item.tokens ≡ tokens

has_tokens : (is : List Item) (tokens : List Lexeme) → IsAmong (map (λ i. i.tokens) is) tokens
    → HasTokens is tokens
has_tokens [] tokens h = absurd (among_none tokens h)
has_tokens (i ∷ is) tokens h = by (among_cases i.tokens tokens (map (λ i. i.tokens) is) h)
    (λ k. has_tokens is tokens k)
  where
    by : (tokens ≡ i.tokens) ⊎ IsAmong (map (λ i. i.tokens) is) tokens
        → (IsAmong (map (λ i. i.tokens) is) tokens → HasTokens is tokens) → HasTokens (i ∷ is) tokens
    by (inl e) next = record { item = i; among = among_first i is; same = sym e }
    by (inr k) next =
        let rest = next k in
        record { item = rest.item; among = among_more i rest.item is rest.among; same = rest.same }

-- a text by its pieces, the last item of which has no word
pub record Ended (text : List ℕ) : Type 0 where
  pub pieces : List Piece
  pub bytes : bytes_of pieces ≡ text
  pub lexes : Lexes true pieces
  pub all : List (List Word)
  pub items_are : items 0 pieces ≡ all ++ [] ∷ []

pub faultless_ended : (known : KnownText) (text : List ℕ) (tokens : List (Kind × ℕ)) (is : List Item)
    → IsCompilation known text tokens is → faults_of text is ≡ [] → Ended text
faultless_ended known text tokens is h none = record {
  pieces = ps;
  bytes = bytes_are true text tokens h.are_tokens;
  lexes = lexes;
  all = map words_of h.are_items.whole;
  items_are = own ∙ ap (λ l. map words_of h.are_items.whole ++ l ∷ []) no_words;
}
  where
    ps : List Piece
    ps = pieces_of text tokens

    lexes : Lexes true ps
    lexes = lexes_from true text tokens h.are_tokens

    last : List Lexeme
    last = h.are_items.last

    own : items 0 ps ≡ map words_of h.are_items.whole ++ words_of last ∷ []
    own =
        sym (items_by text tokens (map (λ i. i.tokens) is) h.are_items) ∙ ap (map words_of) h.are_items.parts
        ∙ map_push words_of h.are_items.whole last

    at : HasTokens is last
    at = has_tokens is last (subst (λ l. IsAmong l last) (sym h.are_items.parts)
        (among_rear h.are_items.whole (last ∷ []) last (among_first last [])))

    no_words : words_of last ≡ []
    no_words = by at.item.parse (parse_of is at.item h.are_parses at.among)
        (good_parses text 0 is at.item none at.among)
      where
        by : (p : Parse) → IsParse at.item.tokens p → IsNoFault p → words_of last ≡ []
        by Nothing e good = ap words_of (sym at.same) ∙ e
        by (Fault token code) e good = absurd good
        by (Def d) e good =
            let c = closed d in
            absurd (last_open true 0 ps (map words_of h.are_items.whole) (words_of last) c.front lexes own
            (λ x. refl)
            (ap words_of (sym at.same) ∙ sym e.1 ∙ c.parts) c.level)

-- A walk over the faults of the items of a text.
use Rattle.std.proofs.Common.{◌≡◌, ℕ, zero, suc, ◌+◌, ◌-◌, ◌<◌, ◌≤◌, ◌==◌, ◌⊎◌, inl, inr, Bool, true, false}
use Rattle.std.proofs.Common.{cond, List, [], ◌∷◌, ◌++◌, map, take, drop, length, arith, refl, sym, ap, ◌∙◌}
use Rattle.std.proofs.Common.{subst, ne_eqb}
use Rattle.std.specs.Prelude.{◌&&◌, All}
use Rattle.std.proofs.lemmas.Bool.Decides.{nat_tests}
use Rattle.std.proofs.lemmas.List.{length-map}
use Rattle.x_lists.proofs.ListLemmas.{map_append}
use Rattle.x_lex.specs.Places.{Lexeme}
use Rattle.x_trees.specs.Words.{is_significant}
use Rattle.x_item.specs.Parse.{Parse, Nothing, Def, Fault}
use Rattle.x_cutting.specs.declared.cutting.item_entry.ItemEntry.{ItemEntry}
use Rattle.x_rules.specs.Rules.{Ascends, IsBefore}
use Rattle.x_rules.specs.declared.fault.WordFault.{WordFault}
use Rattle.x_compile.specs.Compile.{Item, at_token, faults_at, faults_from, in_lines, item_places, place_in}
use Rattle.x_compile.specs.Compile.{placed, places_from, rule_faults, start_of, token_faults, token_of_word}
use Rattle.x_compile.specs.FaultWalk.{AreOrdered, IsToldBy, found_at, places_left, rule_at}
use Rattle.x_compile.specs.KeptView.{IsMarked, found_result, has_faults, is_marked, item_with, kept_found}
use Rattle.x_compile.specs.KeptView.{kept_parse}
use Rattle.x_compile.specs.ItemReading.{ItemReading, place_read, unread, word_place}
use Rattle.x_compile.specs.declared.fault.TokenFault.{TokenFault}
use Rattle.x_compile.specs.declared.fault.FaultCode.TheVariants as codes
use Rattle.x_compile.specs.declared.content.Content.{Content}
use Rattle.x_compile.specs.declared.content.Content.TheVariants as items
use Rattle.x_compile.specs.declared.content.Verdict.{Verdict}
use Rattle.x_compile.specs.declared.content.Verdict.TheVariants.{Syntax, Rule, Rules}

-- ---- one token more is read

-- a token that is no word
pass_none : (x : Lexeme) (rest : List Lexeme) (v : ℕ) → is_significant x.kind ≡ false
    → token_of_word (x ∷ rest) v ≡ suc (token_of_word rest v)
pass_none x rest v e = ap (λ b. cond (b && v == 0) 0 (suc (token_of_word rest (cond b (v - 1) v)))) e

-- a token that is another word
pass_word : (x : Lexeme) (rest : List Lexeme) (v : ℕ) → is_significant x.kind ≡ true → 0 < v
    → token_of_word (x ∷ rest) v ≡ suc (token_of_word rest (v - 1))
pass_word x rest v e lt =
    ap (λ b. cond (b && v == 0) 0 (suc (token_of_word rest (cond b (v - 1) v)))) e
    ∙ ap (λ b. cond b 0 (suc (token_of_word rest (v - 1)))) (ne_eqb v 0 (λ z. omega (arith, lt, z)))

-- the token that is the word
meet_word : (x : Lexeme) (rest : List Lexeme) (v : ℕ) → is_significant x.kind ≡ true → v ≡ 0
    → token_of_word (x ∷ rest) v ≡ 0
meet_word x rest v e none = ap (token_of_word (x ∷ rest)) none
    ∙ ap (λ b. cond (b && 0 == 0) 0 (suc (token_of_word rest (cond b (0 - 1) 0)))) e

-- a word that is not read
not_read : (r : ItemReading) (word : ℕ) → r.words ≤ word
    → place_read r word ≡ word_place (unread r) r.read (word - r.words)
not_read r word le = ap (λ b. cond b r.last (word_place (unread r) r.read (word - r.words)))
    (ne_eqb (word + 1) r.words (λ e. omega (arith, e, le)))

-- the place of a word by the tokens behind the next one
on_place : (t : Lexeme) (u : List Lexeme) (read v w : ℕ) → token_of_word (t ∷ u) v ≡ suc (token_of_word u w)
    → word_place u (read + 1) w ≡ word_place (t ∷ u) read v
on_place t u read v w on =
    let token : (read + 1) + token_of_word u w ≡ read + token_of_word (t ∷ u) v = omega (arith, on) in
    let start : start_of u (token_of_word u w) ≡ start_of (t ∷ u) (token_of_word (t ∷ u) v) =
    sym (ap (start_of (t ∷ u)) on) in
    λ i. record { token = token i; start = start i }

-- the next token is no word
pub step_other : (r s : ItemReading) (t : Lexeme) → unread r ≡ t ∷ unread s → is_significant t.kind ≡ false
    → s.read ≡ r.read + 1 → s.words ≡ r.words
    → (word : ℕ) → r.words ≤ word → place_read s word ≡ place_read r word
step_other r s t next none read words word le =
    not_read s word (omega (arith, le, words))
    ∙ (λ i. word_place (unread s) (read i) (word - words i))
    ∙ on_place t (unread s) r.read (word - r.words) (word - r.words)
    (pass_none t (unread s) (word - r.words) none)
    ∙ ap (λ l. word_place l r.read (word - r.words)) (sym next)
    ∙ sym (not_read r word le)

-- the next token is a word
pub step_word : (r s : ItemReading) (t : Lexeme) → unread r ≡ t ∷ unread s → is_significant t.kind ≡ true
    → s.read ≡ r.read + 1 → s.words ≡ r.words + 1 → s.last ≡ record { token = r.read; start = t.start }
    → (word : ℕ) → r.words ≤ word → place_read s word ≡ place_read r word
step_word r s t next some read words last word le = by (word + 1 == s.words) refl
  where
    there : place_read r word ≡ word_place (t ∷ unread s) r.read (word - r.words)
    there = not_read r word le ∙ ap (λ l. word_place l r.read (word - r.words)) next

    by : (b : Bool) → (word + 1 == s.words) ≡ b → place_read s word ≡ place_read r word
    by true is =
        let same : word - r.words ≡ 0 = grind (arith, nat_tests) in
        let at = meet_word t (unread s) (word - r.words) some same in
        let here : r.read + token_of_word (t ∷ unread s) (word - r.words) ≡ r.read = omega (arith, at) in
        let met : word_place (t ∷ unread s) r.read (word - r.words)
        ≡ record { token = r.read; start = t.start } =
        λ i. record { token = here i; start = start_of (t ∷ unread s) (at i) } in
        ap (λ b. cond b s.last (word_place (unread s) s.read (word - s.words))) is ∙ last ∙ sym (there ∙ met)
    by false is =
        let more : r.words < word = grind (arith, nat_tests) in
        let left : word - s.words ≡ (word - r.words) - 1 = omega (arith, words) in
        ap (λ b. cond b s.last (word_place (unread s) s.read (word - s.words))) is
        ∙ (λ i. word_place (unread s) (read i) (left i))
        ∙ on_place t (unread s) r.read (word - r.words) ((word - r.words) - 1)
        (pass_word t (unread s) (word - r.words) some (omega (arith, more)))
        ∙ sym there

-- where a token starts, by what stands behind those before it
pub start_there : (walk : List Lexeme) (left token : ℕ) (t : Lexeme) (rest : List Lexeme) → token < left
    → drop token walk ≡ t ∷ rest → t.start ≡ start_of (take left walk) token
start_there [] zero token t rest lt e = absurd (omega (arith, lt))
start_there [] (suc left) zero t rest lt e = absurd (cc)
start_there [] (suc left) (suc token) t rest lt e = absurd (cc)
start_there (x ∷ walk) zero token t rest lt e = absurd (omega (arith, lt))
start_there (x ∷ walk) (suc left) zero t rest lt e = let same : x ≡ t = cc in ap (λ y. y.start) (sym same)
start_there (x ∷ walk) (suc left) (suc token) t rest lt e =
    start_there walk left token t rest (omega (arith, lt)) e

pub start_nowhere : (walk : List Lexeme) (left token : ℕ) → (left ≤ token) ⊎ (drop token walk ≡ [])
    → 0 ≡ start_of (take left walk) token
start_nowhere [] zero token none = refl
start_nowhere [] (suc left) token none = refl
start_nowhere (x ∷ walk) zero token none = refl
start_nowhere (x ∷ walk) (suc left) zero (inl le) = absurd (omega (arith, le))
start_nowhere (x ∷ walk) (suc left) zero (inr e) = absurd (cc)
start_nowhere (x ∷ walk) (suc left) (suc token) (inl le) =
    start_nowhere walk left token (inl (omega (arith, le)))
start_nowhere (x ∷ walk) (suc left) (suc token) (inr e) = start_nowhere walk left token (inr e)

-- ---- the faults of an item

-- before any token is read
first_place : (r : ItemReading) → r.read ≡ 0 → r.words ≡ 0 → (word : ℕ)
    → place_read r word ≡ record {
      token = token_of_word (unread r) word;
      start = start_of (unread r) (token_of_word (unread r) word);
    }
first_place r read words word =
    let same : word - r.words ≡ word = omega (arith, words) in
    let token : r.read + token_of_word (unread r) word ≡ token_of_word (unread r) word =
    omega (arith, read) in
    not_read r word (omega (arith, words)) ∙ ap (word_place (unread r) r.read) same
    ∙ (λ i. record { token = token i; start = start_of (unread r) (token_of_word (unread r) word) })

begun_each : (n : ℕ) (r : ItemReading) (fs : List WordFault) → r.read ≡ 0 → r.words ≡ 0
    → map (found_at n) (map (rule_at r) fs) ≡ map (place_in n (unread r)) (map (at_token (unread r)) fs)
begun_each n r [] read words = refl
begun_each n r (f ∷ fs) read words =
    let here = first_place r read words f.word in
    let others = begun_each n r fs read words in
    λ i. found_at n (here i, codes.Rule f.code) ∷ others i

-- a fault that is the only one
begun_one : (n : ℕ) (r : ItemReading) (f : WordFault) (fs : List WordFault) → r.read ≡ 0 → r.words ≡ 0
    → fs ≡ f ∷ [] → map (found_at n) (map (rule_at r) (f ∷ []))
    ≡ map (place_in n (unread r)) (map (at_token (unread r)) fs)
begun_one n r f fs read words is = begun_each n r (f ∷ []) read words
    ∙ ap (λ l. map (place_in n (unread r)) (map (at_token (unread r)) l)) (sym is)

pub begun : (n : ℕ) (r : ItemReading) (p : Parse) (fs : List WordFault) (t : Verdict) → r.read ≡ 0
    → r.words ≡ 0 → IsToldBy p fs t
    → map (found_at n) (places_left r t) ≡ map (place_in n (unread r)) (faults_at (unread r) p fs)
begun n r (Fault token code) fs (Syntax at why) read words is =
    λ i. place_in n (unread r) (record { token = is.0 i; code = codes.Syntax (is.1 i) }) ∷ []
begun n r (Fault token code) fs (Rule f) read words is = absurd is
begun n r (Fault token code) fs (Rules ruled) read words is = absurd is
begun n r Nothing fs (Syntax at why) read words is = absurd is
begun n r Nothing fs (Rule f) read words is = begun_one n r f fs read words is
begun n r Nothing fs (Rules ruled) read words is = ap (λ l. map (found_at n) (map (rule_at r) l)) is
    ∙ begun_each n r fs read words
begun n r (Def d) fs (Syntax at why) read words is = absurd is
begun n r (Def d) fs (Rule f) read words is = begun_one n r f fs read words is
begun n r (Def d) fs (Rules ruled) read words is = ap (λ l. map (found_at n) (map (rule_at r) l)) is
    ∙ begun_each n r fs read words

-- faults behind a word stay where they are
later_word : (f g : WordFault) → IsBefore f g → f.word ≤ g.word
later_word f g (inl lt) = omega (arith, lt)
later_word f g (inr same) = let e = same.0 in omega (arith, e)

pub later_places : (r s : ItemReading) (word : ℕ) (fs : List WordFault) → All (λ f. word ≤ f.word) fs
    → ((later : ℕ) → word ≤ later → place_read s later ≡ place_read r later)
    → map (rule_at r) fs ≡ map (rule_at s) fs
later_places r s word [] far stay = refl
later_places r s word (f ∷ fs) far stay =
    let here = stay f.word (far 0 f (omega arith)) in
    let others = later_places r s word fs (λ k d lt. far (suc k) d (omega (arith, lt))) stay in
    λ i. (sym here i, codes.Rule f.code) ∷ others i

pub behind_first : (f : WordFault) (fs : List WordFault) → Ascends (f ∷ fs) → All (λ g. f.word ≤ g.word) fs
behind_first f fs up = from f.word f fs (omega arith) up
  where
    from : (word : ℕ) (f : WordFault) (fs : List WordFault) → word ≤ f.word → Ascends (f ∷ fs)
        → All (λ g. word ≤ g.word) fs
    from word f [] le up k d lt = absurd (omega (arith, lt))
    from word f (g ∷ fs) le up zero d lt = let h = later_word f g up.0 in omega (arith, le, h)
    from word f (g ∷ fs) le up (suc k) d lt =
        from word g fs (let h = later_word f g up.0 in omega (arith, le, h)) up.1 k d (omega (arith, lt))

-- ---- items with faults, and without

-- an item that is said to have none has none
none_marked : (tokens : List Lexeme) (p : Parse) (ruled : List WordFault) → has_faults p ruled ≡ false
    → faults_at tokens p ruled ≡ []
none_marked tokens (Fault token code) ruled e = absurd (cc)
none_marked tokens Nothing [] e = refl
none_marked tokens Nothing (f ∷ fs) e = absurd (cc)
none_marked tokens (Def d) [] e = refl
none_marked tokens (Def d) (f ∷ fs) e = absurd (cc)

-- an item that is not marked has none
unmarked : (k : Content) → IsMarked k → is_marked k ≡ false
    → has_faults (kept_parse k) (rule_faults (found_result (kept_found k))) ≡ false
unmarked items.Nothing marked none = sym marked ∙ none
unmarked (items.Fault token code) marked none = sym marked ∙ none
unmarked (items.Sound body) marked none = sym marked ∙ none
unmarked (items.OneFault code word body) marked none = absurd (cc)
unmarked (items.Faulty body) marked none = sym marked ∙ none

pub no_places : (n : ℕ) (tokens : List Lexeme) (e : ItemEntry Content) → IsMarked e.kept
    → is_marked e.kept ≡ false → item_places n (item_with tokens e) ≡ []
no_places n tokens e marked none =
    ap (map (place_in n (take e.tokens tokens)))
    (none_marked (take e.tokens tokens) (kept_parse e.kept) (rule_faults (found_result (kept_found e.kept)))
    (unmarked e.kept marked none))

pub ordered_rest : (e : ItemEntry Content) (entries es : List (ItemEntry Content)) → entries ≡ e ∷ es
    → AreOrdered entries → AreOrdered es
ordered_rest e entries es all ordered k d lt = subst AreOrdered all ordered (suc k) d (omega (arith, lt))

-- ---- faults with their lines

pub in_lines_from : (text : List ℕ) (n : ℕ) (items : List Item)
    → map (in_lines text) (places_from n items) ≡ faults_from text n items
in_lines_from text n [] = refl
in_lines_from text n (i ∷ is) =
    map_append (in_lines text) (item_places n i) (places_from (suc n) is)
    ∙ (λ j. each (token_faults i) j ++ in_lines_from text (suc n) is j)
  where
    each : (fs : List TokenFault) → map (in_lines text) (map (place_in n i.tokens) fs)
        ≡ map (placed text n i.tokens) fs
    each [] = refl
    each (f ∷ fs) = ap (λ l. placed text n i.tokens f ∷ l) (each fs)

-- as many places as faults
pub places_many : (text : List ℕ) (n : ℕ) (items : List Item)
    → length (faults_from text n items) ≡ length (places_from n items)
places_many text n items = sym (ap length (in_lines_from text n items))
    ∙ length-map (places_from n items) (in_lines text)

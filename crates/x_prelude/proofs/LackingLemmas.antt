-- The names that a text lacks, one mention after another.
use Rattle.std.proofs.Common.{◌≡◌, ℕ, suc, ◌+◌, ◌<◌, ◌≤◌, Bool, true, false, cond, Option, None, Some, List}
use Rattle.std.proofs.Common.{[]}
use Rattle.std.proofs.Common.{◌∷◌, ◌++◌, map, take, drop, append-nil, append_assoc, refl, sym, ap, subst, ◌∙◌}
use Rattle.std.proofs.Common.{arith, length, length-take-le}
use Rattle.std.specs.Prelude.{not, ◌||◌, is_some, nat_lt, option_map}
use Rattle.std.proofs.lemmas.List.{length-map}
use Rattle.std.proofs.lemmas.Simd.{map-map}
use Rattle.x_lists.proofs.ListLemmas.{map_append, take_next}
use Rattle.x_lex.specs.declared.kind.Kind.{Kind}
use Rattle.x_trees.specs.Collected.{view_mention}
use Rattle.x_trees.specs.Mentions.{Mention, mentioned}
use Rattle.x_trees.specs.declared.names.mention.Mention as mention
use Rattle.x_trees.specs.Tree.{Definition}
use Rattle.x_trees.specs.declared.names.declared_name.NameKind.TheVariants as kinds
use Rattle.x_names.specs.Declarers.{first_declarer, is_beforehand}
use Rattle.x_names.specs.declared.names.Declarer.{Declarer}
use Rattle.x_rules.specs.Mentioned.{is_unknown}
use Rattle.x_rules.specs.Results.{KnownNames, Outcome, beforehand_meaning, known_or, meaning_at, result_at}
use Rattle.x_rules.specs.Results.{view_by, view_of}
use Rattle.x_rules.specs.Views.{View, Earlier}
use Rattle.x_compile.specs.Compile.{IsCompilation, Item, definition_at, definitions_of, parsed_definition}
use Rattle.x_compile.specs.Known.{KnownText, known_definitions, known_names}
use Rattle.x_session.specs.Session.{Compiles}
use Rattle.x_session.proofs.DeclaredLemmas.{of_each}
use Rattle.x_session.proofs.ItemsLeft.{item_at}
use Rattle.x_prelude.specs.Lacking.{Occurrence, are_lacking, is_lacking, occurrences_from, occurrences_in}
use Rattle.x_prelude.specs.LackingTable.{HasNames, occurrence}
use Rattle.x_prelude.specs.declared.lacking.LackingNames.{LackingNames}

-- the mentions of one definition more
pub occurrences_more : (at : ℕ) (ds : List (Option Definition)) (d : Option Definition)
    → occurrences_from at (ds ++ d ∷ []) ≡ occurrences_from at ds ++ occurrences_in (at + length ds) d
occurrences_more at [] d = append-nil (occurrences_in at d)
    ∙ ap (λ n. occurrences_in n d) (let e : at ≡ at + 0 = omega arith in e)
occurrences_more at (x ∷ ds) d =
    ap (λ l. occurrences_in at x ++ l) (occurrences_more (suc at) ds d)
    ∙ sym (append_assoc (occurrences_in at x) (occurrences_from (suc at) ds)
    (occurrences_in (suc at + length ds) d))
    ∙ ap (λ n. (occurrences_in at x ++ occurrences_from (suc at) ds) ++ occurrences_in n d)
    (let e : suc at + length ds ≡ at + suc (length ds) = omega arith in e)

-- those of one item more
uses_more : (items : List Item) (n : ℕ) (i : Item) (rest : List Item) → drop n items ≡ i ∷ rest
    → n ≤ length items
    → occurrences_from 0 (definitions_of (take (suc n) items))
    ≡ occurrences_from 0 (definitions_of (take n items)) ++ occurrences_in n (parsed_definition i.parse)
uses_more items n i rest here le =
    let front = take n items in
    let many : length (definitions_of front) ≡ n =
    length-map front (λ (x : Item). parsed_definition x.parse) ∙ length-take-le n items le in
    let place : 0 + length (definitions_of front) ≡ n = omega (arith, many) in
    ap (λ is. occurrences_from 0 (definitions_of is)) (take_next items n i rest here)
    ∙ ap (occurrences_from 0) (map_append (λ (x : Item). parsed_definition x.parse) front (i ∷ []))
    ∙ occurrences_more 0 (definitions_of front) (parsed_definition i.parse)
    ∙ ap (λ k. occurrences_from 0 (definitions_of front) ++ occurrences_in k (parsed_definition i.parse))
    place

-- the tables of one item more, which are those before with what is added for its mentions
pub item_more : {known : KnownText} (own : KnownNames) (text : List ℕ) (tokens : List (Kind × ℕ))
    (items : List Item) (n m count : ℕ) (found : Option Definition) (first : List ℕ → Option Declarer)
    (old new : LackingNames) (os : List Occurrence)
    → m ≡ suc n → n < count → IsCompilation known text tokens items
    → Compiles known text (λ items. count ≡ length items)
    → Compiles known text (λ items. found ≡ definition_at items n)
    → Compiles known text (λ items. (name : List ℕ) → first name ≡ first_declarer (definitions_of items) name)
    → os ≡ occurrences_in n found
    → ((before : List Occurrence) → HasNames old (are_lacking own first before)
    → HasNames new (are_lacking own first (before ++ os)))
    → HasNames old (are_lacking own (first_declarer (definitions_of items))
    (occurrences_from 0 (definitions_of (take n items))))
    → HasNames new (are_lacking own (first_declarer (definitions_of items))
    (occurrences_from 0 (definitions_of (take m items))))
item_more {known} own text tokens items n m count found first old new os next lt is many defined names uses
    step had =
    let count_is = of_each text many tokens items is in
    let at = item_at items n (omega (arith, lt, count_is)) is.are_parses in
    let here : found ≡ parsed_definition at.item.parse = of_each text defined tokens items is
    ∙ at.definition in
    let each = of_each text names tokens items is in
    let same : first ≡ first_declarer (definitions_of items) = λ i name. each name i in
    let before = occurrences_from 0 (definitions_of (take n items)) in
    let after : before ++ os ≡ occurrences_from 0 (definitions_of (take m items)) =
    ap (λ l. before ++ l) (uses ∙ ap (occurrences_in n) here)
    ∙ sym (uses_more items n at.item (drop (suc n) items) at.here (omega (arith, lt, count_is)))
    ∙ ap (λ k. occurrences_from 0 (definitions_of (take k items))) (sym next) in
    subst (λ l. HasNames new (are_lacking own (first_declarer (definitions_of items)) l))
    after
    (subst (λ f. HasNames new (are_lacking own f (before ++ os))) same
    (step before (subst (λ f. HasNames old (are_lacking own f before)) (sym same) had)))

-- nothing is added for an item without a definition
pub nothing_more : (known : KnownNames) (first : List ℕ → Option Declarer) (names : LackingNames)
    (before : List Occurrence) → HasNames names (are_lacking known first before)
    → HasNames names (are_lacking known first (before ++ []))
nothing_more known first names before h = subst (λ l. HasNames names (are_lacking known first l))
    (sym (append-nil before)) h

-- the mentions of an item, as the program has them
pub uses_are : (item : ℕ) (ms : List mention.Mention) (d : Definition) → map view_mention ms ≡ mentioned d
    → map (occurrence item) ms ≡ occurrences_in item (Some d)
uses_are item ms d are =
    let of_item : Mention → Occurrence = λ m. record { item = item; mention = m } in
    sym (map-map of_item view_mention ms) ∙ ap (map of_item) are

-- ---- what a lacking name is to the rules

pub undeclared : (known : KnownText) (definitions : List (Option Definition)) (results : ℕ → Option Outcome)
    (item : ℕ) (name : List ℕ)
    → is_lacking (known_names known) (first_declarer definitions) name
    ≡ is_unknown (view_by (known_names known) definitions results item name)
undeclared known definitions results item name = by (is_beforehand name)
    (first_declarer (known_definitions known) name) (first_declarer definitions name)
  where
    seen : Declarer → View
    seen at = Earlier at.kind at.lifted (meaning_at (result_at known.outcomes) at)

    declared_so : (a b : Bool) (x y z : View) → is_unknown x ≡ false → is_unknown y ≡ false → is_unknown z
        ≡ false → false ≡ is_unknown (cond a x (cond b y z))
    declared_so true b x y z p q r = sym p
    declared_so false true x y z p q r = sym q
    declared_so false false x y z p q r = sym r

    by : (b : Bool) (k f : Option Declarer)
        → not (b || is_some (option_map seen k) || is_some f)
        ≡ is_unknown (cond b (Earlier kinds.Constant false (beforehand_meaning name))
        (known_or (option_map seen k) (view_of results item f)))
    by true k f = refl
    by false (Some x) f = refl
    by false None None = refl
    by false None (Some at) = declared_so (nat_lt at.item item) (nat_lt item at.item) _ _ _ refl refl refl

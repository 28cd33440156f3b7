-- What items lead to, over the list of the definitions of a text.
use Rattle.std.proofs.Common.{Bor, ◌≡◌, ℕ, suc, ◌+◌, ◌^◌, ◌<◌, ◌≤◌, Bool, true, false, cond, Option, None}
use Rattle.std.proofs.Common.{Some, List}
use Rattle.std.proofs.Common.{[], ◌∷◌, ◌++◌, length, get_or, map, take, drop, append-nil, append_assoc}
use Rattle.std.proofs.Common.{arith, length-take-le, refl, sym, ap, subst, ◌∙◌}
use Rattle.std.specs.Prelude.{not, ◌&&◌, option_and_then, option_map, slice_get}
use Rattle.std.specs.List.{filter}
use Rattle.std.proofs.lemmas.Grind.{flat_map-append}
use Rattle.std.proofs.lemmas.List.{length-map, take-append-drop, take_all, take_more}
use Rattle.std.proofs.lemmas.List.Elements.{filter-append}
use Rattle.std.proofs.lemmas.Option.{get_or_from_slice_get, slice_get-get_or, slice_get-map, slice_get_within}
use Rattle.x_lists.proofs.ListLemmas.{map_append}
use Rattle.x_trees.specs.Collected.{view_mention}
use Rattle.x_trees.specs.Mentions.{Mention, mentioned}
use Rattle.x_trees.specs.Tree.{Definition}
use Rattle.x_trees.specs.View.{tree_at}
use Rattle.x_trees.specs.declared.names.mention.Mention as rust
use Rattle.x_trees.specs.declared.trees.definition.Definition as rust_tree
use Rattle.x_names.specs.Declarers.{AreShort, FirstIs, first_declarer}
use Rattle.x_names.specs.declared.names.Declarer.{Declarer}
use Rattle.x_names.proofs.DeclarerLaws.{first_is}
use Rattle.x_rules.specs.Results.{KnownNames}
use Rattle.x_compile.specs.Compile.{Item, definitions_of, tokens_of}
use Rattle.x_compile.specs.Known.{KnownText}
use Rattle.x_session.specs.Session.{Compiles}
use Rattle.x_session.specs.DeclaredNames.{spot_at, word_of_item}
use Rattle.x_session.specs.declared.declared.Spot.{Spot}
use Rattle.x_session.proofs.DeclaredLemmas.{of_each, short_each}
use Rattle.x_prelude.specs.Lacking.{Occurrence, are_lacking, is_lacking, name_of, occurrences_from}
use Rattle.x_prelude.specs.Lacking.{occurrences_in}
use Rattle.x_prelude.specs.Leading.{AreLed, IsForeignUseBy, declared, declaring, declaring_all}
use Rattle.x_prelude.specs.Leading.{declaring_used}
use Rattle.x_prelude.specs.Leading.{first_led, foreign_uses, used_by}
use Rattle.x_prelude.specs.Foreign.{spot_of}
use Rattle.x_prelude.specs.Prelude.{is_type}
use Rattle.x_prelude.specs.Reaching.{AreNamesOf, GoesOnTo, LeadsWithin, foreign_word, is_marked}
use Rattle.x_prelude.specs.Reaching.{occurrence_place}
use Rattle.x_prelude.specs.declared.definition.FromC.{FromC}
use Rattle.x_prelude.specs.declared.leading.Reached.{Reached}
use Rattle.x_prelude.proofs.LackingLemmas.{occurrences_more}
use Rattle.x_prelude.proofs.ReachingLemmas.{both_on}

-- who declares a name first is an item
pub declared_within : (definitions : List (Option Definition)) (name : List ℕ) (at : Declarer)
    → first_declarer definitions name ≡ Some at → at.item < length definitions
declared_within definitions name at is =
    let found : FirstIs definitions name (Some at) =
    subst (FirstIs definitions name) is (first_is definitions name) in
    slice_get_within definitions at.item (Some found.declares.definition) found.declares.item_is

-- what an item uses
pub used_of : (definitions : List (Option Definition)) (item : ℕ) (d : Option Definition)
    → slice_get definitions item ≡ Some d
    → used_by definitions item ≡ declaring_used (first_declarer definitions) d
used_of definitions item d is =
    ap (λ o. declaring_used (first_declarer definitions) (option_and_then (λ x. x) o)) is

-- ---- the first mention of a name of C

occurrences_both : (at : ℕ) (xs ys : List (Option Definition))
    → occurrences_from at (xs ++ ys) ≡ occurrences_from at xs ++ occurrences_from (at + length xs) ys
occurrences_both at [] ys = ap (λ n. occurrences_from n ys) (let e : at ≡ at + 0 = omega arith in e)
occurrences_both at (x ∷ xs) ys =
    ap (λ l. occurrences_in at x ++ l) (occurrences_both (suc at) xs ys)
    ∙ sym (append_assoc (occurrences_in at x) (occurrences_from (suc at) xs)
    (occurrences_from (suc at + length xs) ys))
    ∙ ap (λ n. (occurrences_in at x ++ occurrences_from (suc at) xs) ++ occurrences_from n ys)
    (let e : suc at + length xs ≡ at + suc (length xs) = omega arith in e)

module _ (from : FromC) (known : KnownNames) (first : List ℕ → Option Declarer) (is_led : ℕ → Bool) where
  -- those of these mentions that are told
  abbrev pub led_among : List Occurrence → List Occurrence
  led_among os = filter (λ (o : Occurrence). is_led o.item)
      (filter (λ (o : Occurrence). not (is_type from (name_of o))) (are_lacking known first os))

  pub among_both : (os ps : List Occurrence) → led_among (os ++ ps) ≡ led_among os ++ led_among ps
  among_both os ps =
      ap (λ l. filter (λ (o : Occurrence). is_led o.item)
      (filter (λ (o : Occurrence). not (is_type from (name_of o))) l))
      (filter-append (λ (o : Occurrence). is_lacking known first (name_of o)) os ps)
      ∙ ap (filter (λ (o : Occurrence). is_led o.item))
      (filter-append (λ (o : Occurrence). not (is_type from (name_of o))) (are_lacking known first os)
      (are_lacking known first ps))
      ∙ filter-append (λ (o : Occurrence). is_led o.item)
      (filter (λ (o : Occurrence). not (is_type from (name_of o))) (are_lacking known first os))
      (filter (λ (o : Occurrence). not (is_type from (name_of o))) (are_lacking known first ps))

  abbrev pub foreign : Mention → Bool
  foreign m = is_lacking known first m.name && not (is_type from m.name)

  abbrev pub occur : ℕ → Mention → Occurrence
  occur item m = record { item = item; mention = m }

  -- those of an item that is led to
  pub among_item : (item : ℕ) → is_led item ≡ true → (ms : List Mention)
      → led_among (map (occur item) ms) ≡ map (occur item) (filter foreign ms)
  among_item item is [] = refl
  among_item item is (m ∷ ms) = by (among_item item is ms) (is_lacking known first m.name) refl
      (is_type from m.name) refl
    where
      o : Occurrence
      o = occur item m

      R : List Occurrence
      R = are_lacking known first (map (occur item) ms)

      T : List Occurrence → List Occurrence
      T = filter (λ (o : Occurrence). not (is_type from (name_of o)))

      L : List Occurrence → List Occurrence
      L = filter (λ (o : Occurrence). is_led o.item)

      F : List Mention
      F = filter foreign ms

      by : L (T R) ≡ map (occur item) F → (x : Bool) → is_lacking known first m.name ≡ x → (y : Bool)
          → is_type from m.name ≡ y
          → led_among (o ∷ map (occur item) ms) ≡ map (occur item) (filter foreign (m ∷ ms))
      by more false e y f = ap (λ q. L (T (cond q (o ∷ R) R))) e ∙ more
          ∙ sym (ap (λ q. map (occur item) (cond (q && not (is_type from m.name)) (m ∷ F) F)) e)
      by more true e true f = ap (λ q. L (T (cond q (o ∷ R) R))) e
          ∙ ap (λ q. L (cond (not q) (o ∷ T R) (T R))) f ∙ more
          ∙ sym (ap (λ q. map (occur item) (cond (q && not (is_type from m.name)) (m ∷ F) F)) e
          ∙ ap (λ q. map (occur item) (cond (not q) (m ∷ F) F)) f)
      by more true e false f = ap (λ q. L (T (cond q (o ∷ R) R))) e
          ∙ ap (λ q. L (cond (not q) (o ∷ T R) (T R))) f
          ∙ ap (λ q. cond q (o ∷ L (T R)) (L (T R))) is ∙ ap (λ l. o ∷ l) more
          ∙ sym (ap (λ q. map (occur item) (cond (q && not (is_type from m.name)) (m ∷ F) F)) e
          ∙ ap (λ q. map (occur item) (cond (not q) (m ∷ F) F)) f)

  -- those of any other item
  pub among_none : (item : ℕ) → is_led item ≡ false → (ms : List Mention)
      → led_among (map (occur item) ms) ≡ []
  among_none item is [] = refl
  among_none item is (m ∷ ms) = by (among_none item is ms) (is_lacking known first m.name) refl
      (is_type from m.name) refl
    where
      o : Occurrence
      o = occur item m

      R : List Occurrence
      R = are_lacking known first (map (occur item) ms)

      T : List Occurrence → List Occurrence
      T = filter (λ (o : Occurrence). not (is_type from (name_of o)))

      L : List Occurrence → List Occurrence
      L = filter (λ (o : Occurrence). is_led o.item)

      by : L (T R) ≡ [] → (x : Bool) → is_lacking known first m.name ≡ x → (y : Bool)
          → is_type from m.name ≡ y → led_among (o ∷ map (occur item) ms) ≡ []
      by more false e y f = ap (λ q. L (T (cond q (o ∷ R) R))) e ∙ more
      by more true e true f = ap (λ q. L (T (cond q (o ∷ R) R))) e
          ∙ ap (λ q. L (cond (not q) (o ∷ T R) (T R))) f ∙ more
      by more true e false f = ap (λ q. L (T (cond q (o ∷ R) R))) e
          ∙ ap (λ q. L (cond (not q) (o ∷ T R) (T R))) f
          ∙ ap (λ q. cond q (o ∷ L (T R)) (L (T R))) is ∙ more

  -- those of the items in front
  abbrev pub led_in_front : ℕ → List (Option Definition) → List Occurrence
  led_in_front n definitions = led_among (occurrences_from 0 (take n definitions))

  front_more : (definitions : List (Option Definition)) (n : ℕ) (d : Option Definition)
      → slice_get definitions n ≡ Some d → led_in_front (n + 1) definitions
      ≡ led_in_front n definitions ++ led_among (occurrences_in n d)
  front_more definitions n d is =
      let within : n < length definitions = slice_get_within definitions n d is in
      let at : get_or definitions n d ≡ d = get_or_from_slice_get definitions n d d is in
      let long : 0 + length (take n definitions) ≡ n =
      (let e : length (take n definitions) ≡ n = length-take-le n definitions (omega (arith, within)) in
      omega (arith, e)) in
      ap (λ ds. led_among (occurrences_from 0 ds)) (take_more definitions n d within
      ∙ ap (λ x. take n definitions ++ x ∷ []) at)
      ∙ ap led_among (occurrences_more 0 (take n definitions) d
      ∙ ap (λ k. occurrences_from 0 (take n definitions) ++ occurrences_in k d) long)
      ∙ among_both (occurrences_from 0 (take n definitions)) (occurrences_in n d)

  -- an item that is not led to adds none, nor does one without a definition
  pub front_same : (definitions : List (Option Definition)) (n : ℕ) (d : Option Definition)
      → slice_get definitions n ≡ Some d → is_led n ≡ false → led_in_front n definitions ≡ []
      → led_in_front (n + 1) definitions ≡ []
  front_same definitions n None is un before = front_more definitions n None is
      ∙ append-nil (led_in_front n definitions) ∙ before
  front_same definitions n (Some d) is un before = front_more definitions n (Some d) is
      ∙ ap (λ l. l ++ led_among (map (occur n) (mentioned d))) before ∙ among_none n un (mentioned d)

  pub front_empty : (definitions : List (Option Definition)) (n : ℕ) → slice_get definitions n ≡ Some None
      → led_in_front n definitions ≡ [] → led_in_front (n + 1) definitions ≡ []
  front_empty definitions n is before = front_more definitions n None is
      ∙ append-nil (led_in_front n definitions) ∙ before

  nothing_first : {X : Type 0} (xs : List X) → slice_get xs 0 ≡ None → xs ≡ []
  nothing_first [] none = refl
  nothing_first (x ∷ xs) none = absurd cc

  word_none : (o : Option Mention) → option_map (λ (m : Mention). m.word) o ≡ None → o ≡ None
  word_none None e = refl
  word_none (Some m) e = absurd cc

  -- one that is led to and uses none
  pub front_passed : (definitions : List (Option Definition)) (n : ℕ) (d : Definition) (ms : List Mention)
      → slice_get definitions n ≡ Some (Some d) → is_led n ≡ true → ms ≡ mentioned d
      → foreign_word from known first ms ≡ None → led_in_front n definitions ≡ []
      → led_in_front (n + 1) definitions ≡ []
  front_passed definitions n d ms is led are none before =
      let without : filter foreign (mentioned d) ≡ [] = subst (λ l. filter foreign l ≡ []) are
      (nothing_first (filter foreign ms) (word_none (slice_get (filter foreign ms) 0) none)) in
      front_more definitions n (Some d) is
      ∙ ap (λ l. l ++ led_among (map (occur n) (mentioned d))) before
      ∙ among_item n led (mentioned d) ∙ ap (map (occur n)) without

  all_mentions : (definitions : List (Option Definition)) (n : ℕ) → led_among (occurrences_from 0 definitions)
      ≡ led_in_front n definitions
      ++ led_among (occurrences_from (0 + length (take n definitions)) (drop n definitions))
  all_mentions definitions n =
      ap (λ ds. led_among (occurrences_from 0 ds)) (sym (take-append-drop n definitions))
      ∙ ap led_among (occurrences_both 0 (take n definitions) (drop n definitions))
      ∙ among_both (occurrences_from 0 (take n definitions))
      (occurrences_from (0 + length (take n definitions)) (drop n definitions))

  -- one that is led to and uses one, behind others that use none
  pub front_found : (definitions : List (Option Definition)) (n : ℕ) (d : Definition) (ms : List Mention)
      (word : ℕ) → slice_get definitions n ≡ Some (Some d) → is_led n ≡ true → ms ≡ mentioned d
      → foreign_word from known first ms ≡ Some word → led_in_front n definitions ≡ []
      → ◌≡◌ {A = Option (ℕ × ℕ)} (Some (n, word)) (option_map occurrence_place
      (slice_get (led_among (occurrences_from 0 definitions)) 0))
  front_found definitions n d ms word is led are found before =
      let here : led_in_front (n + 1) definitions ≡ map (occur n) (filter foreign ms) =
      front_more definitions n (Some d) is
      ∙ ap (λ l. l ++ led_among (map (occur n) (mentioned d))) before
      ∙ among_item n led (mentioned d) ∙ ap (λ l. map (occur n) (filter foreign l)) (sym are) in
      let all : led_among (occurrences_from 0 definitions)
      ≡ map (occur n) (filter foreign ms)
      ++ led_among (occurrences_from (0 + length (take (n + 1) definitions)) (drop (n + 1) definitions)) =
      all_mentions definitions (n + 1)
      ∙ ap (λ l. l ++ led_among (occurrences_from (0 + length (take (n + 1) definitions))
      (drop (n + 1) definitions)))
      here in
      sym (ap (λ l. option_map occurrence_place (slice_get l 0)) all
      ∙ by (filter foreign ms) found)
    where
      rest : List Occurrence
      rest = led_among (occurrences_from (0 + length (take (n + 1) definitions)) (drop (n + 1) definitions))

      by : (fs : List Mention) → option_map (λ (m : Mention). m.word) (slice_get fs 0) ≡ Some word
          → ◌≡◌ {A = Option (ℕ × ℕ)} (option_map occurrence_place
          (slice_get (map (occur n) fs ++ rest) 0)) (Some (n, word))
      by [] e = absurd cc
      by (m ∷ fs) e = let same : m.word ≡ word = cc in ap (λ w. Some (n, w)) same

  -- all items are passed
  pub front_all : (definitions : List (Option Definition)) (n : ℕ) → length definitions ≤ n
      → led_in_front n definitions ≡ []
      → ◌≡◌ {A = Option (ℕ × ℕ)} None (option_map occurrence_place
      (slice_get (led_among (occurrences_from 0 definitions)) 0))
  front_all definitions n le none =
      sym (ap (λ l. option_map occurrence_place (slice_get l 0))
      (ap (λ ds. led_among (occurrences_from 0 ds)) (sym (take_all n definitions le)) ∙ none))

-- ---- what one mention more uses

used_more : (first : List ℕ → Option Declarer) (ms : List rust.Mention) (i : ℕ) (d : rust.Mention)
    → i < length ms → declaring_all first (map view_mention (take (i + 1) ms))
    ≡ declaring_all first (map view_mention (take i ms)) ++ declaring (first (get_or ms i d).name.now)
used_more first ms i d within =
    ap (λ l. declaring_all first (map view_mention l)) (take_more ms i d within)
    ∙ ap (declaring_all first) (map_append view_mention (take i ms) (get_or ms i d ∷ []))
    ∙ flat_map-append (λ (m : Mention). declaring (first m.name)) (map view_mention (take i ms))
    (view_mention (get_or ms i d) ∷ [])
    ∙ ap (λ l. declaring_all first (map view_mention (take i ms)) ++ l)
    (append-nil (declaring (first (get_or ms i d).name.now)))

pub goes_more : (first : List ℕ → Option Declarer) (ms : List rust.Mention) (i : ℕ) (d : rust.Mention)
    (count : ℕ) (a b c : Reached) (o : Option Declarer) (at : Declarer) → i < length ms
    → o ≡ first (get_or ms i d).name.now → o ≡ Some at
    → GoesOnTo (declaring_all first (map view_mention (take i ms))) count a b
    → GoesOnTo (at.item ∷ []) count b c
    → GoesOnTo (declaring_all first (map view_mention (take (i + 1) ms))) count a c
goes_more first ms i d count a b c o at within e is h k =
    let before = declaring_all first (map view_mention (take i ms)) in
    subst (λ l. GoesOnTo l count a c)
    (sym (used_more first ms i d within ∙ ap (λ x. before ++ declaring x) (sym e ∙ is)))
    (both_on count before (at.item ∷ []) a b c h k)

pub goes_same : (first : List ℕ → Option Declarer) (ms : List rust.Mention) (i : ℕ) (d : rust.Mention)
    (count : ℕ) (a b : Reached) (o : Option Declarer) → i < length ms
    → o ≡ first (get_or ms i d).name.now → o ≡ None
    → GoesOnTo (declaring_all first (map view_mention (take i ms))) count a b
    → GoesOnTo (declaring_all first (map view_mention (take (i + 1) ms))) count a b
goes_same first ms i d count a b o within e is h =
    let before = declaring_all first (map view_mention (take i ms)) in
    subst (λ l. GoesOnTo l count a b)
    (sym (used_more first ms i d within ∙ ap (λ x. before ++ declaring x) (sym e ∙ is) ∙ append-nil before)) h

-- the definition at a place
pub defined_at : (definitions : List (Option (Bor rust_tree.Definition))) (item : ℕ)
    (o d : Option (Bor rust_tree.Definition)) → item < length definitions → get_or definitions item d ≡ o
    → slice_get (map tree_at definitions) item ≡ Some (tree_at o)
defined_at definitions item o d within e =
    slice_get-map tree_at definitions item
    ∙ ap (option_map tree_at) (slice_get-get_or definitions item d within ∙ ap Some e)

-- what it uses is what the program finds
pub uses_found : (definitions : List (Option Definition)) (first : List ℕ → Option Declarer) (item : ℕ)
    (d : Definition) (ms : List Mention) → ((name : List ℕ) → first name ≡ first_declarer definitions name)
    → slice_get definitions item ≡ Some (Some d) → ms ≡ mentioned d
    → declaring_all first ms ≡ used_by definitions item
uses_found definitions first item d ms names is are =
    let same : first ≡ first_declarer definitions = λ i name. names name i in
    ap (declaring_all first) are ∙ ap (λ f. declaring_all f (mentioned d)) same
    ∙ sym (used_of definitions item (Some d) is)

-- ---- over what compiling a text gives

pub within_text : {known : KnownText} (text : List ℕ) (definitions : List (Option (Bor rust_tree.Definition)))
    (first : List ℕ → Option Declarer)
    → Compiles known text (λ items. (name : List ℕ) → first name ≡ first_declarer (definitions_of items) name)
    → Compiles known text (λ items. map tree_at definitions ≡ definitions_of items)
    → LeadsWithin (length definitions) first
within_text text definitions first names are name at is =
    let each = of_each text names are.0 are.1 are.2 in
    let within = declared_within (definitions_of are.1) name at (sym (each name) ∙ is) in
    let long : length definitions ≡ length (definitions_of are.1) =
    sym (length-map definitions tree_at) ∙ ap length are.3 in
    omega (arith, within, long)

pub names_of : {known : KnownText} (text : List ℕ) (definitions : List (Option (Bor rust_tree.Definition)))
    (first : List ℕ → Option Declarer) (count : ℕ) → count < 2 ^ 64
    → Compiles known text (λ items. count ≡ length (tokens_of items))
    → Compiles known text (λ items. (name : List ℕ) → first name ≡ first_declarer (definitions_of items) name)
    → Compiles known text (λ items. map tree_at definitions ≡ definitions_of items)
    → AreNamesOf (map tree_at definitions) first
names_of text definitions first count few counted names are =
    let each = of_each text names are.0 are.1 are.2 in
    let many = of_each text counted are.0 are.1 are.2 in
    let le : length (tokens_of are.1) ≤ count = omega (arith, many) in (
      subst AreShort (sym are.3) (λ item d is. short_each are.1 item d count are.2.are_parses le few is),
      λ name. each name ∙ ap (λ ds. first_declarer ds name) (sym are.3),
    )

pub use_found : (own : KnownNames) (from : FromC) (text : List ℕ) (items : List Item) (name : List ℕ)
    (definitions : List (Option (Bor rust_tree.Definition))) (first : List ℕ → Option Declarer)
    (is_led : ℕ → Bool) (at : Declarer) (item word : ℕ) (spot : Option Spot)
    → from.foreign ≡ true → first name ≡ Some at
    → map tree_at definitions ≡ definitions_of items
    → ((name : List ℕ) → first name ≡ first_declarer (definitions_of items) name)
    → AreLed (map tree_at definitions) at.item is_led
    → ◌≡◌ {A = Option (ℕ × ℕ)} (Some (item, word)) (option_map occurrence_place
    (first_led is_led (foreign_uses from own (map tree_at definitions))))
    → spot ≡ option_map (λ t. spot_at text t.start) (word_of_item items item word)
    → IsForeignUseBy own from text items name spot
use_found own from text items name definitions first is_led at item word spot foreign is are names led found
    spot_is =
    declared foreign at (sym (names name) ∙ is) is_led
    (subst (λ ds. AreLed ds at.item is_led) are led)
    (by (first_led is_led (foreign_uses from own (definitions_of items)))
    (found ∙ ap (λ ds. option_map occurrence_place
    (first_led is_led (foreign_uses from own ds))) are))
  where
    by : (o : Option Occurrence) → ◌≡◌ {A = Option (ℕ × ℕ)} (Some (item, word))
        (option_map occurrence_place o)
        → spot ≡ option_and_then (spot_of text items) o
    by None e = absurd cc
    by (Some o) e =
        let same : (item, word) ≡ (o.item, o.mention.word) = cc in
        spot_is ∙ ap (λ (p : ℕ × ℕ). option_map (λ t. spot_at text t.start) (word_of_item items p.0 p.1)) same

pub none_found : (own : KnownNames) (from : FromC) (text : List ℕ) (items : List Item) (name : List ℕ)
    (definitions : List (Option (Bor rust_tree.Definition))) (first : List ℕ → Option Declarer)
    (is_led : ℕ → Bool) (at : Declarer) → from.foreign ≡ true → first name ≡ Some at
    → map tree_at definitions ≡ definitions_of items
    → ((name : List ℕ) → first name ≡ first_declarer (definitions_of items) name)
    → AreLed (map tree_at definitions) at.item is_led
    → ◌≡◌ {A = Option (ℕ × ℕ)} None (option_map occurrence_place
    (first_led is_led (foreign_uses from own (map tree_at definitions))))
    → IsForeignUseBy own from text items name None
none_found own from text items name definitions first is_led at foreign is are names led found =
    declared foreign at (sym (names name) ∙ is) is_led
    (subst (λ ds. AreLed ds at.item is_led) are led)
    (by (first_led is_led (foreign_uses from own (definitions_of items)))
    (found ∙ ap (λ ds. option_map occurrence_place
    (first_led is_led (foreign_uses from own ds))) are))
  where
    by : (o : Option Occurrence) → ◌≡◌ {A = Option (ℕ × ℕ)} None
        (option_map occurrence_place o)
        → None ≡ option_and_then (spot_of text items) o
    by None e = refl
    by (Some o) e = absurd cc

-- the first such mention is found, if the names are those of the definitions
abbrev pub Finds : Option (ℕ × ℕ) → KnownNames → FromC → (List ℕ → Option Declarer)
    → List (Option (Bor rust_tree.Definition)) → List Bool → Type 0
Finds found own from first definitions marks = AreNamesOf (map tree_at definitions) first
    → ◌≡◌ {A = Option (ℕ × ℕ)} found (option_map occurrence_place
    (first_led (is_marked marks) (foreign_uses from own (map tree_at definitions))))

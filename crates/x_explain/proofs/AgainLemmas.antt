-- The names of inline types that are declared again.
use Rattle.std.proofs.Common.{◌≡◌, ℕ, suc, ◌-◌, ◌<◌, Bool, true, false, cond, Option, None, Some, length}
use Rattle.std.proofs.Common.{drop, arith, List, [], ◌∷◌, ◌++◌, map, refl, sym, ap, ◌∙◌}
use Rattle.std.specs.Prelude.{nat_eq, not, ◌&&◌, slice_get}
use Rattle.std.specs.Option.{option_or}
use Rattle.x_lex.specs.declared.kind.Kind.{Kind}
use Rattle.x_trees.specs.Collected.{view_name}
use Rattle.x_trees.specs.Names.{Declared}
use Rattle.x_trees.specs.Tree.{Definition}
use Rattle.x_trees.specs.declared.names.declared_name.DeclaredName.{DeclaredName}
use Rattle.x_names.proofs.NameLemmas.{option_or_after}
use Rattle.x_compile.specs.Compile.{IsCompilation, Item, definition_at, parsed_definition}
use Rattle.x_compile.specs.Known.{KnownText}
use Rattle.x_session.specs.Session.{Compiles}
use Rattle.x_explain.specs.AgainNames.{again_among, again_from, again_in, at_start, ends_with_own, name_at}
use Rattle.x_explain.specs.AgainNames.{start_again}
use Rattle.x_session.proofs.DeclaredLemmas.{of_each}
use Rattle.x_session.proofs.ItemsLeft.{item_at, none_left}

-- the last of a list of names
pub ends_with : (word : ℕ) (names : List DeclaredName) (x : DeclaredName) → slice_get names (length names - 1)
    ≡ Some x → ends_with_own word (map view_name names) ≡ nat_eq x.word word && not x.lifted
ends_with word [] x h = absurd (cc)
ends_with word (y ∷ []) x h =
    let same : y ≡ x = cc in ap (λ (n : DeclaredName). nat_eq n.word word && not n.lifted) same
ends_with word (y ∷ z ∷ ys) x h =
    let last : length (y ∷ z ∷ ys) - 1 ≡ suc (length (z ∷ ys) - 1) = omega arith in
    ends_with word (z ∷ ys) x (sym (ap (slice_get (y ∷ z ∷ ys)) last) ∙ h)

-- names in front of others
name_at_both : (xs ys : List (ℕ × List ℕ)) (start : ℕ)
    → name_at (xs ++ ys) start ≡ option_or (name_at xs start) (name_at ys start)
name_at_both [] ys start = refl
name_at_both (x ∷ xs) ys start = by (nat_eq x.0 start) (name_at_both xs ys start)
  where
    by : (b : Bool) → name_at (xs ++ ys) start ≡ option_or (name_at xs start) (name_at ys start)
        → cond b (Some x.1) (name_at (xs ++ ys) start) ≡ option_or (cond b (Some x.1) (name_at xs start))
        (name_at ys start)
    by true more = refl
    by false more = more

-- one name more of an item, in front of those in the table
pub name_before : (items : List Item) (item : ℕ) (front longer : List Declared) (d : Declared)
    (ds rest : List Declared) (old before after : Option (List ℕ)) (start : ℕ)
    → longer ≡ front ++ d ∷ [] → ds ≡ d ∷ rest
    → before ≡ option_or (name_at (again_among items item longer rest) start) old
    → after ≡ option_or (name_at (at_start (start_again items item front d) d.name) start) before
    → after ≡ option_or (name_at (again_among items item front ds) start) old
name_before items item front longer d ds rest old before after start next is h more =
    let here = at_start (start_again items item front d) d.name in
    let behind = again_among items item (front ++ d ∷ []) rest in
    more ∙ ap (option_or (name_at here start))
    (h ∙ ap (λ l. option_or (name_at (again_among items item l rest) start) old) next)
    ∙ sym (option_or_after (name_at here start) (name_at behind start) old)
    ∙ ap (λ o. option_or o old) (sym (name_at_both here behind start))
    ∙ sym (ap (λ l. option_or (name_at (again_among items item front l) start) old) is)

-- one item more, in front of those in the table
pub item_before : {known : KnownText} (text : List ℕ) (tokens : List (Kind × ℕ)) (items : List Item)
    (n m count : ℕ) (found : Option Definition) (before after : Option (List ℕ)) (start : ℕ)
    → m ≡ suc n → n < count → IsCompilation known text tokens items
    → Compiles known text (λ items. count ≡ length items)
    → Compiles known text (λ items. found ≡ definition_at items n)
    → before ≡ name_at (again_from items m (drop m items)) start
    → after ≡ option_or (name_at (again_in items n found) start) before
    → after ≡ name_at (again_from items n (drop n items)) start
item_before text tokens items n m count found before after start next lt is many defined h more =
    let count_is = of_each text many tokens items is in
    let at = item_at items n (omega (arith, lt, count_is)) is.are_parses in
    let here : found ≡ parsed_definition at.item.parse = of_each text defined tokens items is
    ∙ at.definition in
    let names = again_in items n (parsed_definition at.item.parse) in
    let behind = again_from items (suc n) (drop (suc n) items) in
    more ∙ ap (λ d. option_or (name_at (again_in items n d) start) before) here
    ∙ ap (option_or (name_at names start))
    (h ∙ ap (λ k. name_at (again_from items k (drop k items)) start) next)
    ∙ sym (name_at_both names behind start) ∙ sym (ap (λ l. name_at (again_from items n l) start) at.here)

-- behind all items there is none
pub none_behind : {known : KnownText} (text : List ℕ) (tokens : List (Kind × ℕ)) (items : List Item)
    (count start : ℕ) → IsCompilation known text tokens items
    → Compiles known text (λ items. count ≡ length items)
    → None ≡ name_at (again_from items count (drop count items)) start
none_behind text tokens items count start is many =
    let count_is = of_each text many tokens items is in
    sym (ap (λ l. name_at (again_from items count l) start) (none_left items count (omega (arith, count_is))))

-- What undeclared words may have been meant as.
use Rattle.std.proofs.Common.{◌≡◌, ℕ, zero, suc, ◌+◌, ◌-◌, ◌<◌, ◌≤◌, Bool, false, cond, Option, None, Some}
use Rattle.std.proofs.Common.{List, [], ◌∷◌, ◌++◌, length, get_or, map, take, drop, refl, sym, subst, ap, ◌∙◌}
use Rattle.std.proofs.Common.{append_assoc, append-nil, arith}
use Rattle.std.specs.Cow.{cow_slice_items}
use Rattle.std.specs.Global.{Global}
use Rattle.std.specs.List.{filter, flat_map}
use Rattle.std.specs.declared.borrow.CowSlice.{CowSlice}
use Rattle.std.proofs.lemmas.List.{take_all}
use Rattle.x_trees.specs.Collected.{view_name}
use Rattle.x_trees.specs.Names.{Declared}
use Rattle.x_trees.specs.declared.names.declared_name.DeclaredName.{DeclaredName}
use Rattle.x_lists.proofs.ListLemmas.{drop_one, map_append}
use Rattle.x_lex.specs.declared.kind.Kind.{Kind}
use Rattle.x_trees.specs.Tree.{Definition}
use Rattle.x_compile.specs.Compile.{IsCompilation, Item, definition_at, definitions_of}
use Rattle.x_compile.specs.Known.{KnownText}
use Rattle.x_compile.specs.declared.fault.FaultPlace.{FaultPlace}
use Rattle.x_session.specs.Session.{Compiles}
use Rattle.x_session.proofs.DeclaredLemmas.{of_each}
use Rattle.x_session.proofs.ItemsLeft.{item_at, none_left}
use Rattle.x_explain.specs.Suggestions.{compared, is_nearer, is_unknown, names_in, nearest}

-- ---- the first so many of a list

pub take_take : {X : Type 0} (xs : List X) (n : ℕ) (ys : List X)
    → take n (take n xs ++ ys) ≡ take n (xs ++ ys)
take_take [] zero ys = refl
take_take [] (suc n) ys = refl
take_take (x ∷ xs) zero ys = take_zero ys ∙ sym (take_zero (x ∷ xs ++ ys))
  where
    take_zero : {X : Type 0} (xs : List X) → take 0 xs ≡ []
    take_zero [] = refl
    take_zero (x ∷ xs) = refl
take_take (x ∷ xs) (suc n) ys = ap (λ l. x ∷ l) (take_take xs n ys)

pub take_full : {X : Type 0} (xs : List X) (n : ℕ) (ys zs : List X) → n ≤ length xs
    → take n (xs ++ ys) ≡ take n (xs ++ zs)
take_full [] zero ys zs le = none ys ∙ sym (none zs)
  where
    none : {X : Type 0} (xs : List X) → take 0 xs ≡ []
    none [] = refl
    none (x ∷ xs) = refl
take_full [] (suc n) ys zs le = absurd (omega arith)
take_full (x ∷ xs) zero ys zs le = refl
take_full (x ∷ xs) (suc n) ys zs le = ap (λ l. x ∷ l) (take_full xs n ys zs (omega arith))

-- ---- the nearest name

pub nearest_none : (word : List ℕ) (names : List (List ℕ)) → names ≡ [] → None ≡ nearest word names
nearest_none word [] is = refl
nearest_none word (n ∷ ns) is = absurd (cc)

-- one name more, in front of the others
pub nearest_next : (word name : List ℕ) (f : Option (List ℕ)) (names all : List (List ℕ)) (b : Bool)
    → f ≡ nearest word names
    → b ≡ is_nearer word name f → all ≡ name ∷ names → cond b (Some name) f ≡ nearest word all
nearest_next word name f names all b is nearer split =
    let by = nearer ∙ ap (is_nearer word name) is in
    let both : cond b (Some name) f ≡ cond (is_nearer word name (nearest word names)) (Some name)
    (nearest word names) = λ i. cond (by i) (Some name) (is i) in
    both ∙ ap (nearest word) (sym split)

pub mapped_next : {X Y : Type 0} (f : X → Y) (xs : List X) (later : ℕ) (x : X) (y : Y) → 0 < later
    → later ≤ length xs → x ≡ get_or xs (later - 1) x → y ≡ f x
    → map f (drop (later - 1) xs) ≡ y ∷ map f (drop later xs)
mapped_next f xs later x y some last is mapped =
    let back : later - 1 + 1 ≡ later = omega (arith, some) in
    let one = drop_one xs (later - 1) x (omega (arith, some, last)) in
    ap (map f) one ∙ ap (λ n. f (get_or xs (later - 1) x) ∷ map f (drop n xs)) back
    ∙ ap (λ z. z ∷ map f (drop later xs)) (ap f (sym is) ∙ sym mapped)

-- ---- names that are compared

-- the first so many of a list that has so many
pub take_front : {X : Type 0} (xs ys : List X) (n : ℕ) → n ≡ length xs → xs ≡ take n (xs ++ ys)
take_front xs ys n is =
    sym (take_all n xs (omega (arith, is))) ∙ ap (take n) (sym (append-nil xs))
    ∙ take_full xs n [] ys (omega (arith, is))

-- one more of what is left is taken in, or passed over since there are so many
pub one_taken : {X : Type 0} (n : ℕ) (xs : List X) (x : X) (left rest all : List X) → left ≡ x ∷ rest
    → take n (xs ++ left) ≡ all
    → take n ((xs ++ x ∷ []) ++ rest) ≡ all
one_taken n xs x left rest all split is =
    ap (take n) (append_assoc xs (x ∷ []) rest) ∙ ap (λ l. take n (xs ++ l)) (sym split) ∙ is

pub one_passed : {X : Type 0} (n : ℕ) (xs left rest all : List X) → n ≤ length xs → take n (xs ++ left) ≡ all
    → take n (xs ++ rest) ≡ all
one_passed n xs left rest all le is = take_full xs n rest left le ∙ is

-- nothing is left
pub all_taken : {X : Type 0} (n : ℕ) (xs left all : List X) → left ≡ [] → length xs ≤ n
    → take n (xs ++ left) ≡ all → xs ≡ all
all_taken n xs left all none le is =
    sym (take_all n xs le) ∙ ap (take n) (sym (append-nil xs)) ∙ ap (λ l. take n (xs ++ l)) (sym none) ∙ is

-- several more are taken in
pub some_taken : {X : Type 0} (n : ℕ) (xs new more left rest all : List X) → new ≡ take n (xs ++ more)
    → left ≡ more ++ rest → take n (xs ++ left) ≡ all
    → take n (new ++ rest) ≡ all
some_taken n xs new more left rest all new_is split is =
    ap (λ l. take n (l ++ rest)) new_is ∙ take_take (xs ++ more) n rest
    ∙ ap (take n) (append_assoc xs more rest) ∙ ap (λ l. take n (xs ++ l)) (sym split) ∙ is

-- the names that a list of declared ones has
abbrev pub bare : List DeclaredName → List (List ℕ)
bare names = map (λ n. cow_slice_items n.name) names

pub bare_is : (names : List DeclaredName) (all : List Declared) → map view_name names ≡ all
    → bare names ≡ map (λ n. n.name) all
bare_is [] all is = ap (map (λ n. n.name)) is
bare_is (n ∷ names) all is = ap (λ l. cow_slice_items n.name ∷ l) (bare_is names (map view_name names) refl)
    ∙ ap (map (λ n. n.name)) is

pub named_more : (names : List (CowSlice ℕ Global)) (n : DeclaredName)
    → map cow_slice_items (names ++ n.name ∷ []) ≡ map cow_slice_items names ++ cow_slice_items n.name ∷ []
named_more names n = map_append cow_slice_items names (n.name ∷ [])

pub mapped_many : (names : List (CowSlice ℕ Global)) → length (map cow_slice_items names) ≡ length names
mapped_many [] = refl
mapped_many (n ∷ names) = ap suc (mapped_many names)

pub no_more : {X : Type 0} (xs : List X) (n : ℕ) → n ≡ length xs → n ≡ 0 → xs ≡ []
no_more [] n is none = refl
no_more (x ∷ xs) n is none = absurd (omega (arith, is, none))

pub only_none : {X : Type 0} (o : Option X) → ((x : X) → o ≡ Some x → ⊥) → o ≡ None
only_none None not = refl
only_none (Some x) not = absurd (not x refl)

-- ---- item by item

-- the names so far, with those of the items that are left, are all that are compared
pub record HasNames (known : KnownText) (text : List ℕ) (n : ℕ) (names : List (List ℕ)) : Type 0 where
  pub tokens : List (Kind × ℕ)
  pub items : List Item
  pub compiles : IsCompilation known text tokens items
  pub few : length names ≤ 1024
  pub named : take 1024 (names ++ flat_map names_in (definitions_of (drop n items)))
      ≡ compared (definitions_of items)

-- those of one item more
pub names_more : {known : KnownText} (text : List ℕ) (n m count : ℕ) (d : Option Definition)
    (names new : List (List ℕ)) → m ≡ n + 1 → n < count
    → Compiles known text (λ items. count ≡ length items)
    → Compiles known text (λ items. d ≡ definition_at items n) → HasNames known text n names
    → length new ≤ 1024 → new ≡ take 1024 (names ++ names_in d) → HasNames known text m new
names_more {known = known} text n m count d names new step lt many defined had few new_is =
    let count_is = of_each text many had.tokens had.items had.compiles in
    let at = item_at had.items n (omega (arith, lt, count_is)) had.compiles.are_parses in
    let here = of_each text defined had.tokens had.items had.compiles ∙ at.definition in
    let left = flat_map names_in (definitions_of (drop n had.items)) in
    let rest = flat_map names_in (definitions_of (drop (suc n) had.items)) in
    let split : left ≡ names_in d ++ rest =
    ap (λ l. flat_map names_in (definitions_of l)) at.here ∙ ap (λ o. names_in o ++ rest) (sym here) in
    let suc_is : suc n ≡ m = omega (arith, step) in
    subst (λ k. HasNames known text k new) suc_is record {
      tokens = had.tokens;
      items = had.items;
      compiles = had.compiles;
      few = few;
      named =
          some_taken 1024 names new (names_in d) left rest (compared (definitions_of had.items)) new_is split
          had.named;
    }

-- an item without a definition has none
pub names_passed : {known : KnownText} (text : List ℕ) (n m count : ℕ) (names : List (List ℕ)) → m ≡ n + 1
    → n < count → Compiles known text (λ items. count ≡ length items)
    → Compiles known text (λ items. None ≡ definition_at items n) → HasNames known text n names
    → HasNames known text m names
names_passed text n m count names step lt many defined had =
    names_more text n m count None names names step lt many defined had had.few
    (sym (take_all 1024 names had.few) ∙ ap (take 1024) (sym (append-nil names)))

-- no item is left
pub names_all : {known : KnownText} (text : List ℕ) (n count : ℕ) (names : List (List ℕ)) → count ≤ n
    → Compiles known text (λ items. count ≡ length items) → HasNames known text n names
    → Compiles known text (λ items. names ≡ compared (definitions_of items))
names_all text n count names le many had =
    let count_is = of_each text many had.tokens had.items had.compiles in
    let none = none_left had.items n (omega (arith, le, count_is)) in (
      had.tokens,
      had.items,
      had.compiles,
      all_taken 1024 names (flat_map names_in (definitions_of (drop n had.items)))
          (compared (definitions_of had.items)) (ap (λ l. flat_map names_in (definitions_of l)) none) had.few
          had.named,
    )

-- there are so many that none behind counts
pub names_full : {known : KnownText} (text : List ℕ) (n : ℕ) (names : List (List ℕ)) → 1024 ≤ length names
    → HasNames known text n names → Compiles known text (λ items. names ≡ compared (definitions_of items))
names_full text n names full had =
    let few = had.few in (
      had.tokens,
      had.items,
      had.compiles,
      take_front names (flat_map names_in (definitions_of (drop n had.items))) 1024 (omega (arith, full, few))
          ∙ had.named,
    )

-- ---- undeclared words

abbrev pub unknown_in : List FaultPlace → List FaultPlace
unknown_in places = filter (λ p. is_unknown p.code) places

-- a place that is passed over, since its word is declared
pub known_passed : (xs : List FaultPlace) (x : FaultPlace) (left rest all : List FaultPlace) (b : Bool)
    → left ≡ x ∷ rest → b ≡ is_unknown x.code → b ≡ false
    → take 16 (xs ++ unknown_in left) ≡ all → take 16 (xs ++ unknown_in rest) ≡ all
known_passed xs x left rest all b split is known so =
    let skipped : unknown_in (x ∷ rest) ≡ unknown_in rest =
    ap (λ c. cond c (x ∷ unknown_in rest) (unknown_in rest)) (sym is ∙ known) in
    ap (λ l. take 16 (xs ++ l)) (sym skipped ∙ ap unknown_in (sym split)) ∙ so

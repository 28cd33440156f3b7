-- Lists into which names are taken one by one.
use Rattle.std.proofs.Common.{◌≡◌, ℕ, suc, ◌+◌, ◌<◌, ◌≤◌, ◌||◌, Bool, true, false, cond, List, [], ◌∷◌, ◌++◌}
use Rattle.std.proofs.Common.{length, take, map, get_or, Option, None, Some, refl, sym, ap, subst, ◌∙◌, arith}
use Rattle.std.proofs.Common.{append-nil}
use Rattle.std.specs.Prelude.{nat_eq}
use Rattle.std.specs.List.{list_any}
use Rattle.std.specs.Option.{option_or}
use Rattle.std.specs.Str.{bytes_eq}
use Rattle.std.proofs.lemmas.List.Folds.{list_any-append}
use Rattle.std.proofs.lemmas.Bool.Decides.{nat_tests}
use Rattle.std.specs.Cow.{cow_slice_items}
use Rattle.std.proofs.lemmas.List.{take_more, length-take-le, length-map, map-append}
use Rattle.x_trees.specs.Tree.{Definition}
use Rattle.x_trees.specs.Names.{Declared, declared}
use Rattle.x_trees.specs.Mentions.{mentioned}
use Rattle.x_trees.specs.Collected.{view_name}
use Rattle.x_trees.specs.Collected.{view_mention}
use Rattle.x_trees.specs.declared.names.declared_name.DeclaredName.{DeclaredName}
use Rattle.x_trees.specs.declared.names.mention.Mention.{Mention}
use Rattle.x_names.specs.Declarers.{declarer_at, place_of_name, declarer_in}
use Rattle.x_names.specs.declared.names.Declarer.{Declarer}
use Rattle.x_uses.specs.Occurrences.{put_before, declarers_at, users_at, declarer_of, sees}
use Rattle.x_uses.specs.declared.uses.slot.CompactDeclarer.{CompactDeclarer}
use Rattle.x_uses.specs.Slots.{Entries, slot_at, ends_at, noted, noted_some, Notes, item_of_declarer}
use Rattle.x_uses.specs.Slots.{user_item}
use Rattle.x_uses.proofs.OccurrenceLaws.{found, found_joined, Picks}

-- ---- one list

equal_to_itself : (k : ℕ) → nat_eq k k ≡ true
equal_to_itself k = grind (arith, nat_tests)

ends_with_last : {X : Type 0} (item_of : X → ℕ) (k : ℕ) (xs : List X) (x : X)
    → ends_at item_of k (xs ++ x ∷ []) ≡ nat_eq (item_of x) k
ends_with_last item_of k [] x = refl
ends_with_last item_of k (y ∷ []) x = refl
ends_with_last item_of k (y ∷ z ∷ ys) x = ends_with_last item_of k (z ∷ ys) x

ends_with_noted : {X : Type 0} (item_of : X → ℕ) (xs : List X) (x : X)
    → ends_at item_of (item_of x) (noted item_of xs x) ≡ true
ends_with_noted item_of xs x = by (ends_at item_of (item_of x) xs) refl
  where
    by : (b : Bool) → ends_at item_of (item_of x) xs ≡ b
        → ends_at item_of (item_of x) (cond b xs (xs ++ x ∷ [])) ≡ true
    by true e = e
    by false e = ends_with_last item_of (item_of x) xs x ∙ equal_to_itself (item_of x)

-- two of one item are taken in as the first alone
noted_twice : {X : Type 0} (item_of : X → ℕ) (xs : List X) (x y : X) → item_of y ≡ item_of x
    → noted item_of (noted item_of xs x) y ≡ noted item_of xs x
noted_twice item_of xs x y same =
    ap (λ b. cond b (noted item_of xs x) (noted item_of xs x ++ y ∷ []))
    (ap (λ k. ends_at item_of k (noted item_of xs x)) same ∙ ends_with_noted item_of xs x)

-- of an item, if anything
abbrev pub IsOf : {X : Type 0} → (X → ℕ) → ℕ → Option X → Type 0
IsOf {X} item_of item o = (x : X) → o ≡ Some x → item_of x ≡ item

noted_or : {X : Type 0} (item_of : X → ℕ) (item : ℕ) (xs : List X) (o p : Option X) → IsOf item_of item o
    → IsOf item_of item p
    → noted_some item_of (noted_some item_of xs o) p ≡ noted_some item_of xs (option_or o p)
noted_or item_of item xs None p h k = refl
noted_or item_of item xs (Some x) None h k = refl
noted_or item_of item xs (Some x) (Some y) h k = noted_twice item_of xs x y (k y refl ∙ sym (h x refl))

-- ---- names of an item

place_joined : (item k : ℕ) (name : List ℕ) (xs ys : List Declared) → place_of_name item k name (xs ++ ys)
    ≡ option_or (place_of_name item k name xs) (place_of_name item (k + length xs) name ys)
place_joined item k name [] ys = let e : k ≡ k + 0 = omega arith in ap (λ n. place_of_name item n name ys) e
place_joined item k name (x ∷ xs) ys = by (bytes_eq name x.name) (place_joined item (suc k) name xs ys)
  where
    by : (b : Bool) → place_of_name item (suc k) name (xs ++ ys)
        ≡ option_or (place_of_name item (suc k) name xs) (place_of_name item (suc k + length xs) name ys)
        → cond b (Some (declarer_at item k x)) (place_of_name item (suc k) name (xs ++ ys))
        ≡ option_or (cond b (Some (declarer_at item k x)) (place_of_name item (suc k) name xs))
        (place_of_name item (k + suc (length xs)) name ys)
    by true h = refl
    by false h = let e : suc k + length xs ≡ k + suc (length xs) = omega arith in
        h ∙ ap (λ n. option_or (place_of_name item (suc k) name xs) (place_of_name item n name ys)) e

pub of_item : (item k : ℕ) (name : List ℕ) (xs : List Declared)
    → IsOf item_of_declarer item (place_of_name item k name xs)
of_item item k name [] y h = absurd (cc)
of_item item k name (x ∷ xs) y h = by (bytes_eq name x.name) h (of_item item (suc k) name xs y)
  where
    by : (b : Bool) → cond b (Some (declarer_at item k x)) (place_of_name item (suc k) name xs) ≡ Some y
        → (place_of_name item (suc k) name xs ≡ Some y → y.item ≡ item) → y.item ≡ item
    by true e more = let same : declarer_at item k x ≡ y = cc in sym (ap (λ d. d.item) same)
    by false e more = more e

one_of : {X : Type 0} (item_of : X → ℕ) (item : ℕ) (b : Bool) (x : X) → item_of x ≡ item
    → IsOf item_of item (cond b (Some x) None)
one_of item_of item true x e y h = let same : x ≡ y = cc in sym (ap item_of same) ∙ e
one_of item_of item false x e y h = absurd (cc)

one_or_other : {X : Type 0} (a b : Bool) (x : X)
    → option_or (cond a (Some x) None) (cond b (Some x) None) ≡ cond (a || b) (Some x) None
one_or_other true b x = refl
one_or_other false b x = refl

-- what an item is seen by, in two steps
users_or : (item : ℕ) (xs : List ℕ) (a b : Bool)
    → noted_some user_item (noted_some user_item xs (cond a (Some item) None)) (cond b (Some item) None)
    ≡ noted_some user_item xs (cond (a || b) (Some item) None)
users_or item xs a b =
    noted_or user_item item xs (cond a (Some item) None) (cond b (Some item) None)
    (one_of user_item item a item refl) (one_of user_item item b item refl)
    ∙ ap (noted_some user_item xs) (one_or_other a b item)

-- nothing is taken in at first
pub notes_start : (es : Entries) (item : ℕ) → Notes es es (λ _. None) (λ _. false) item
notes_start es item = record { declarers = λ name. refl; users = λ name. refl }

-- the users of a name, with one name more of an item
one_user : (old now : Entries) (item : ℕ) (names : List (List ℕ)) (x name : List ℕ)
    → users_at (slot_at now name) ≡ noted_some user_item (users_at (slot_at old name))
    (cond (list_any (bytes_eq name) names) (Some item) None)
    → noted_some user_item (users_at (slot_at now name)) (cond (bytes_eq name x) (Some item) None)
    ≡ noted_some user_item (users_at (slot_at old name))
    (cond (list_any (bytes_eq name) (names ++ x ∷ [])) (Some item) None)
one_user old now item names x name h =
    ap (λ l. noted_some user_item l (cond (bytes_eq name x) (Some item) None)) h
    ∙ users_or item (users_at (slot_at old name)) (list_any (bytes_eq name) names) (bytes_eq name x)
    ∙ ap (λ b. noted_some user_item (users_at (slot_at old name))
    (cond (list_any (bytes_eq name) names || b) (Some item) None)) (sym (one_any (bytes_eq name x)))
    ∙ ap (λ b. noted_some user_item (users_at (slot_at old name)) (cond b (Some item) None))
    (sym (list_any-append (bytes_eq name) names (x ∷ [])))
  where
    one_any : (b : Bool) → (b || false) ≡ b
    one_any true = refl
    one_any false = refl

-- a declared name more
pub declared_more : (old now next : Entries) (item : ℕ) (xs : List Declared) (x : Declared) (d : Declarer)
    (names : List (List ℕ)) → d ≡ declarer_at item (length xs) x
    → Notes old now (λ name. place_of_name item 0 name xs) (λ name. list_any (bytes_eq name) names) item
    → Notes now next (λ other. cond (bytes_eq other x.name) (Some d) None)
    (λ other. bytes_eq other x.name) d.item
    → Notes old next (λ name. place_of_name item 0 name (xs ++ x ∷ []))
    (λ name. list_any (bytes_eq name) (names ++ x.name ∷ [])) item
declared_more old now next item xs x d names is h k = record { declarers = declarers; users = users }
  where
    of : d.item ≡ item
    of = ap (λ y. y.item) is

    last : (name : List ℕ) → cond (bytes_eq name x.name) (Some d) None
        ≡ place_of_name item (0 + length xs) name (x ∷ [])
    last name = let e : length xs ≡ 0 + length xs = omega arith in
        ap (λ y. cond (bytes_eq name x.name) (Some y) None) (is ∙ ap (λ n. declarer_at item n x) e)

    declarers : (name : List ℕ) → declarers_at (slot_at next name) ≡ noted_some item_of_declarer
        (declarers_at (slot_at old name)) (place_of_name item 0 name (xs ++ x ∷ []))
    declarers name =
        k.declarers name ∙ ap (λ l. noted_some item_of_declarer l (cond (bytes_eq name x.name) (Some d) None))
        (h.declarers name)
        ∙ noted_or item_of_declarer item (declarers_at (slot_at old name)) (place_of_name item 0 name xs)
        (cond (bytes_eq name x.name) (Some d) None) (of_item item 0 name xs)
        (one_of item_of_declarer item (bytes_eq name x.name) d of)
        ∙ ap (λ o. noted_some item_of_declarer (declarers_at (slot_at old name))
        (option_or (place_of_name item 0 name xs) o)) (last name)
        ∙ ap (noted_some item_of_declarer (declarers_at (slot_at old name)))
        (sym (place_joined item 0 name xs (x ∷ [])))

    users : (name : List ℕ)
        → users_at (slot_at next name) ≡ noted_some user_item (users_at (slot_at old name))
        (cond (list_any (bytes_eq name) (names ++ x.name ∷ [])) (Some item) None)
    users name =
        k.users name ∙ ap (λ n. noted_some user_item (users_at (slot_at now name))
        (cond (bytes_eq name x.name) (Some n) None)) of
        ∙ one_user old now item names x.name name (h.users name)

-- a used name more
pub mentioned_more : (old now next : Entries) (item : ℕ) (names : List (List ℕ)) (x : List ℕ)
    → Notes old now (λ _. None) (λ name. list_any (bytes_eq name) names) item
    → Notes now next (λ _. None) (λ other. bytes_eq other x) item
    → Notes old next (λ _. None) (λ name. list_any (bytes_eq name) (names ++ x ∷ [])) item
mentioned_more old now next item names x h k = record {
  declarers = λ name. k.declarers name ∙ h.declarers name;
  users = λ name. k.users name ∙ one_user old now item names x name (h.users name);
}

-- the declared names, and then the used ones
pub both_noted : (old mid new : Entries) (item : ℕ) (declares : List ℕ → Option Declarer)
    (names more : List (List ℕ)) → Notes old mid declares (λ name. list_any (bytes_eq name) names) item
    → Notes mid new (λ _. None) (λ name. list_any (bytes_eq name) more) item
    → Notes old new declares (λ name. list_any (bytes_eq name) (names ++ more)) item
both_noted old mid new item declares names more h k = record {
  declarers = λ name. k.declarers name ∙ h.declarers name;
  users = λ name.
      k.users name ∙ ap (λ l. noted_some user_item l (cond (list_any (bytes_eq name) more) (Some item) None))
      (h.users name)
      ∙ users_or item (users_at (slot_at old name)) (list_any (bytes_eq name) names)
      (list_any (bytes_eq name) more)
      ∙ ap (λ b. noted_some user_item (users_at (slot_at old name)) (cond b (Some item) None))
      (sym (list_any-append (bytes_eq name) names more));
}

-- ---- items in their order

-- a list of what stands at items below a number does not end there
ends_before : {D Y : Type 0} (item_of : Y → ℕ) (put : ℕ → Y → Y) (pick : ℕ → D → Option Y)
    → Picks item_of put pick → (k i : ℕ) (ds : List D) → i + length ds ≤ k
    → ends_at item_of k (found pick i ds) ≡ false
ends_before item_of put pick is k i [] le = refl
ends_before {D} {Y} item_of put pick is k i (d ∷ ds) le = by (pick i d) refl (found pick (suc i) ds)
    (ends_before item_of put pick is k (suc i) ds (omega (arith, le)))
  where
    by : (o : Option Y) → pick i d ≡ o → (ys : List Y) → ends_at item_of k ys ≡ false
        → ends_at item_of k (put_before o ys) ≡ false
    by None e ys h = h
    by (Some y) e [] h = let number = is.at i d y e in grind (arith, nat_tests, le, number)
    by (Some y) e (z ∷ ys) h = h

-- an item more
pub found_more : {D Y : Type 0} (item_of : Y → ℕ) (put : ℕ → Y → Y) (pick : ℕ → D → Option Y)
    → Picks item_of put pick → (k : ℕ) (ds : List D) (d : D) → k ≡ length ds
    → noted_some item_of (found pick 0 ds) (pick k d) ≡ found pick 0 (ds ++ d ∷ [])
found_more {D} {Y} item_of put pick is k ds d all = by (pick k d) refl
    ∙ ap (λ n. found pick 0 ds ++ put_before (pick n d) []) here ∙ sym (found_joined pick 0 ds (d ∷ []))
  where
    here : k ≡ 0 + length ds
    here = omega (arith, all)

    by : (o : Option Y) → pick k d ≡ o
        → noted_some item_of (found pick 0 ds) (pick k d) ≡ found pick 0 ds ++ put_before (pick k d) []
    by None e = ap (noted_some item_of (found pick 0 ds)) e ∙ sym (append-nil (found pick 0 ds))
        ∙ ap (λ o. found pick 0 ds ++ put_before o []) (sym e)
    by (Some y) e =
        let number = is.at k d y e in
        let none : ends_at item_of (item_of y) (found pick 0 ds) ≡ false =
        ap (λ n. ends_at item_of n (found pick 0 ds)) number
        ∙ ends_before item_of put pick is k 0 ds (omega (arith, all)) in
        ap (noted_some item_of (found pick 0 ds)) e
        ∙ ap (λ b. cond b (found pick 0 ds) (found pick 0 ds ++ y ∷ [])) none
        ∙ ap (λ o. found pick 0 ds ++ put_before o []) (sym e)

-- ---- lists of names

pub map_more : {X Y : Type 0} (f : X → Y) (xs : List X) (i : ℕ) (d : X) → i < length xs
    → map f (take (i + 1) xs) ≡ map f (take i xs) ++ f (get_or xs i d) ∷ []
map_more f xs i d lt = ap (map f) (take_more xs i d lt) ∙ map-append f (take i xs) (get_or xs i d ∷ [])

pub map_twice : {X Y Z : Type 0} (f : X → Y) (g : Y → Z) (xs : List X)
    → map g (map f xs) ≡ map (λ x. g (f x)) xs
map_twice f g [] = refl
map_twice f g (x ∷ xs) = ap (λ l. g (f x) ∷ l) (map_twice f g xs)

-- a declared name more of those in memory
pub declared_next : (old now next : Entries) (item : ℕ) (all : List DeclaredName) (at : ℕ) (x : DeclaredName)
    (d : CompactDeclarer) → at < length all → x ≡ get_or all at x
    → declarer_of d ≡ declarer_at item at (view_name x)
    → Notes old now (λ name. place_of_name item 0 name (map view_name (take at all)))
    (λ name. list_any (bytes_eq name) (map (λ y. cow_slice_items y.name) (take at all))) item
    → Notes now next (λ other. cond (bytes_eq other (cow_slice_items x.name)) (Some (declarer_of d)) None)
    (λ other. bytes_eq other (cow_slice_items x.name)) d.item
    → Notes old next (λ name. place_of_name item 0 name (map view_name (take (at + 1) all)))
    (λ name. list_any (bytes_eq name) (map (λ y. cow_slice_items y.name) (take (at + 1) all))) item
declared_next old now next item all at x d within is kept h k =
    let n = length-map (take at all) view_name in
    let t = length-take-le at all (omega (arith, within)) in
    let place : at ≡ length (map view_name (take at all)) = omega (arith, n, t) in
    let names : map view_name (take (at + 1) all) ≡ map view_name (take at all) ++ view_name x ∷ [] =
    map_more view_name all at x within ∙ ap (λ y. map view_name (take at all) ++ view_name y ∷ []) (sym is) in
    let texts : map (λ y. cow_slice_items y.name) (take (at + 1) all)
    ≡ map (λ y. cow_slice_items y.name) (take at all) ++ cow_slice_items x.name ∷ [] =
    map_more (λ y. cow_slice_items y.name) all at x within
    ∙ ap (λ y. map (λ y. cow_slice_items y.name) (take at all) ++ cow_slice_items y.name ∷ []) (sym is)
    in
    subst (λ ns. Notes old next (λ name. place_of_name item 0 name ns)
    (λ name. list_any (bytes_eq name) (map (λ y. cow_slice_items y.name) (take (at + 1) all))) item)
    (sym names)
    (subst (λ ts. Notes old next
    (λ name. place_of_name item 0 name (map view_name (take at all) ++ view_name x ∷ []))
    (λ name. list_any (bytes_eq name) ts) item) (sym texts)
    (declared_more old now next item (map view_name (take at all)) (view_name x) (declarer_of d)
    (map (λ y. cow_slice_items y.name) (take at all))
    (kept ∙ ap (λ k. declarer_at item k (view_name x)) place) h k))

-- all names of an item
pub item_noted : (old mid new : Entries) (item : ℕ) (d : Definition) (ds : List DeclaredName)
    (ms : List Mention) → map view_name ds ≡ declared d → map view_mention ms ≡ mentioned d
    → Notes old mid (λ name. place_of_name item 0 name (map view_name ds))
    (λ name. list_any (bytes_eq name) (map (λ y. cow_slice_items y.name) ds)) item
    → Notes mid new (λ _. None) (λ name. list_any (bytes_eq name) (map (λ m. m.name.now) ms)) item
    → Notes old new (λ name. declarer_in item name (Some d)) (sees (Some d)) item
item_noted old mid new item d ds ms is is' h k =
    subst (λ xs. Notes old new (λ name. place_of_name item 0 name xs)
    (λ name. list_any (bytes_eq name) (map (λ x. x.name) (declared d) ++ map (λ m. m.name) (mentioned d)))
    item) is
    (subst (λ ns. Notes old new (λ name. place_of_name item 0 name (map view_name ds))
    (λ name. list_any (bytes_eq name) (ns ++ map (λ m. m.name) (mentioned d))) item)
    (sym (map_twice view_name (λ x. x.name) ds) ∙ ap (map (λ x. x.name)) is)
    (subst (λ ns. Notes old new (λ name. place_of_name item 0 name (map view_name ds))
    (λ name. list_any (bytes_eq name) (map (λ y. cow_slice_items y.name) ds ++ ns)) item)
    (sym (map_twice view_mention (λ m. m.name) ms) ∙ ap (map (λ m. m.name)) is')
    (both_noted old mid new item (λ name. place_of_name item 0 name (map view_name ds))
    (map (λ y. cow_slice_items y.name) ds) (map (λ m. m.name.now) ms) h k)))

-- First declarers of names before an edit and after it.
use Rattle.std.specs.Prelude.{slice_get, option_and_then}
use Rattle.std.specs.Option.{option_or}
use Rattle.std.specs.Str.{bytes_eq}
use Rattle.std.proofs.Common.{◌≡◌, ◌<◌, ◌≤◌, inr, ℕ, zero, suc, ◌+◌, Bool, true, false, cond, List, [], ◌∷◌}
use Rattle.std.proofs.Common.{◌++◌, map, take, drop, length, Option, Some, None, refl, sym, ap, subst, ◌∙◌}
use Rattle.std.proofs.Common.{arith, length-drop}
use Rattle.std.proofs.lemmas.List.{length-take-le, take-append-drop, drop-drop}
use Rattle.std.proofs.lemmas.Option.{same_Some, slice_get_within}
use Rattle.x_trees.specs.Tree.{Definition}
use Rattle.x_trees.specs.Collected.{view_name}
use Rattle.x_trees.specs.Names.{Declared, declared}
use Rattle.x_trees.specs.declared.names.declared_name.DeclaredName.{DeclaredName}
use Rattle.x_names.specs.Declarers.{is_beforehand, IsDeclarer, IsFirstDeclarer, FirstIs, declarer_at}
use Rattle.x_names.specs.Declarers.{place_of_name, declarer_in, first_from, first_declarer}
use Rattle.x_names.specs.declared.names.Declarer.{Declarer}
use Rattle.x_names.proofs.DeclarerLaws.{first_is}
use Rattle.x_names.proofs.NameLemmas.{option_or_after}
use Rattle.x_uses.specs.declared.uses.ItemSplice.{ItemSplice}
use Rattle.x_recheck.specs.Editing.{TextEdit, definitions_after, IsEdit, definition_at}
use Rattle.x_recheck.specs.inside.Deciding.{IsAlike, HasAlike, IsNamed}
use Rattle.x_recheck.proofs.Numbering.{former_front, former_rear}

-- ---- declarers in items that count from another number

-- declarers that are one but for their items, which count from n and from m
abbrev pub IsMoved : ℕ → ℕ → Option Declarer → Option Declarer → Type 0
IsMoved n m None None = Unit {0}
IsMoved n m None (Some b) = ⊥
IsMoved n m (Some a) None = ⊥
IsMoved n m (Some a) (Some b) = (n ≤ a.item) × (a.item + m ≡ b.item + n) × (a.kind ≡ b.kind)
    × (a.lifted ≡ b.lifted)

place_moved : (n m place : ℕ) (name : List ℕ) (ds : List Declared)
    → IsMoved n m (place_of_name n place name ds) (place_of_name m place name ds)
place_moved n m place name [] = tt
place_moved n m place name (d ∷ ds) = by (bytes_eq name d.name) (place_moved n m (suc place) name ds)
  where
    by : (b : Bool) → IsMoved n m (place_of_name n (suc place) name ds) (place_of_name m (suc place) name ds)
        → IsMoved n m (cond b (Some (declarer_at n place d)) (place_of_name n (suc place) name ds))
        (cond b (Some (declarer_at m place d)) (place_of_name m (suc place) name ds))
    by true more = (omega arith, omega arith, refl, refl)
    by false more = more

item_moved : (n m : ℕ) (name : List ℕ) (d : Option Definition)
    → IsMoved n m (declarer_in n name d) (declarer_in m name d)
item_moved n m name None = tt
item_moved n m name (Some d) = place_moved n m 0 name (declared d)

lowered : (n m : ℕ) (a b : Option Declarer) → IsMoved (suc n) (suc m) a b → IsMoved n m a b
lowered n m None None h = tt
lowered n m None (Some b) h = h
lowered n m (Some a) None h = h
lowered n m (Some a) (Some b) h =
    let le = h.0 in let sum = h.1 in (omega (arith, le), omega (arith, sum), h.2, h.3)

either_moved : (n m : ℕ) (a b f g : Option Declarer) → IsMoved n m a b → IsMoved n m f g
    → IsMoved n m (option_or a f) (option_or b g)
either_moved n m None None f g h k = k
either_moved n m None (Some b) f g h k = absurd h
either_moved n m (Some a) None f g h k = absurd h
either_moved n m (Some a) (Some b) f g h k = h

pub first_moved : (n m : ℕ) (ds : List (Option Definition)) (name : List ℕ)
    → IsMoved n m (first_from n ds name) (first_from m ds name)
first_moved n m [] name = tt
first_moved n m (d ∷ ds) name =
    either_moved n m (declarer_in n name d) (declarer_in m name d) (first_from (suc n) ds name)
    (first_from (suc m) ds name)
    (item_moved n m name d) (lowered n m (first_from (suc n) ds name) (first_from (suc m) ds name)
    (first_moved (suc n) (suc m) ds name))

-- ---- declarers below a number

abbrev IsBelow : ℕ → Option Declarer → Type 0
IsBelow k None = Unit {0}
IsBelow k (Some a) = a.item < k

place_below : (n k place : ℕ) (name : List ℕ) (ds : List Declared) → n < k
    → IsBelow k (place_of_name n place name ds)
place_below n k place name [] lt = tt
place_below n k place name (d ∷ ds) lt = by (bytes_eq name d.name) (place_below n k (suc place) name ds lt)
  where
    by : (b : Bool) → IsBelow k (place_of_name n (suc place) name ds)
        → IsBelow k (cond b (Some (declarer_at n place d)) (place_of_name n (suc place) name ds))
    by true more = lt
    by false more = more

item_below : (n k : ℕ) (name : List ℕ) (d : Option Definition) → n < k → IsBelow k (declarer_in n name d)
item_below n k name None lt = tt
item_below n k name (Some d) lt = place_below n k 0 name (declared d) lt

either_below : (k : ℕ) (a f : Option Declarer) → IsBelow k a → IsBelow k f → IsBelow k (option_or a f)
either_below k None f h more = more
either_below k (Some a) f h more = h

first_below : (n k : ℕ) (ds : List (Option Definition)) (name : List ℕ) → n + length ds ≤ k
    → IsBelow k (first_from n ds name)
first_below n k [] name le = tt
first_below n k (d ∷ ds) name le =
    either_below k (declarer_in n name d) (first_from (suc n) ds name)
    (item_below n k name d (omega (arith, le))) (first_below (suc n) k ds name (omega (arith, le)))

-- ---- declarers in lists one behind another

pub first_append : (n : ℕ) (xs ys : List (Option Definition)) (name : List ℕ)
    → first_from n (xs ++ ys) name ≡ option_or (first_from n xs name) (first_from (n + length xs) ys name)
first_append n [] ys name = let e : n ≡ n + 0 = omega arith in ap (λ k. first_from k ys name) e
first_append n (x ∷ xs) ys name =
    let e : suc n + length xs ≡ n + suc (length xs) = omega arith in
    ap (option_or (declarer_in n name x)) (first_append (suc n) xs ys name
    ∙ ap (λ k. option_or (first_from (suc n) xs name) (first_from k ys name)) e)
    ∙ sym (option_or_after (declarer_in n name x) (first_from (suc n) xs name)
    (first_from (n + suc (length xs)) ys name))

-- the first declarer in three lists one behind another
first_parts : (front middle rear : List (Option Definition)) (n m : ℕ) (name : List ℕ) → length front ≡ n
    → n + length middle ≡ m
    → first_from 0 (front ++ (middle ++ rear)) name
    ≡ option_or (first_from 0 front name) (option_or (first_from n middle name) (first_from m rear name))
first_parts front middle rear n m name long more =
    let at : 0 + length front ≡ n = omega (arith, long) in
    first_append 0 front (middle ++ rear) name
    ∙ ap (λ k. option_or (first_from 0 front name) (first_from k (middle ++ rear) name)) at
    ∙ ap (option_or (first_from 0 front name)) (first_append n middle rear name
    ∙ ap (λ k. option_or (first_from n middle name) (first_from k rear name)) more)

-- the definitions that an edit takes out, and those behind them
abbrev removed_definitions : TextEdit → List (Option Definition)
removed_definitions e = take e.place.removed (drop e.place.at e.old)

abbrev rear_of : TextEdit → List (Option Definition)
rear_of e = drop (e.place.at + e.place.removed) e.old

old_parts : (e : TextEdit) → take e.place.at e.old ++ (removed_definitions e ++ rear_of e) ≡ e.old
old_parts e =
    ap (λ l. take e.place.at e.old ++ (removed_definitions e ++ l))
    (sym (drop-drop e.place.removed e.place.at e.old))
    ∙ ap (λ l. take e.place.at e.old ++ l) (take-append-drop e.place.removed (drop e.place.at e.old))
    ∙ take-append-drop e.place.at e.old

abbrev IsWithin : ℕ → ℕ → Option Declarer → Type 0
IsWithin low high None = Unit {0}
IsWithin low high (Some a) = (low ≤ a.item) × (a.item < high)

first_inside : (n k : ℕ) (ds : List (Option Definition)) (name : List ℕ) → n + length ds ≤ k
    → IsWithin n k (first_from n ds name)
first_inside n k ds name le = by (first_from n ds name) (first_moved n n ds name) (first_below n k ds name le)
  where
    by : (o : Option Declarer) → IsMoved n n o o → IsBelow k o → IsWithin n k o
    by None moved below = tt
    by (Some a) moved below = (moved.0, below)

-- first declarers are alike, unless that before the edit goes, or that after it is fresh
alike_parts : (p : ItemSplice) (front removed rear put rear' : Option Declarer) → IsBelow p.at front
    → IsMoved (p.at + p.removed) (p.at + p.added) rear rear'
    → IsWithin p.at (p.at + p.removed) removed → IsWithin p.at (p.at + p.added) put
    → ((o : Declarer) → option_or front (option_or removed rear) ≡ Some o → p.at ≤ o.item
    → o.item < p.at + p.removed
    → IsAlike p (option_or front (option_or removed rear)) (option_or front (option_or put rear')))
    → ((f : Declarer) → option_or front (option_or put rear') ≡ Some f → p.at ≤ f.item
    → f.item < p.at + p.added
    → IsAlike p (option_or front (option_or removed rear)) (option_or front (option_or put rear')))
    → IsAlike p (option_or front (option_or removed rear)) (option_or front (option_or put rear'))
alike_parts p (Some a) removed rear put rear' low moved gone new without come =
    (former_front p a.item low, refl, refl)
alike_parts p None (Some o) rear put rear' low moved gone new without come = without o refl gone.0 gone.1
alike_parts p None None rear (Some f) rear' low moved gone new without come = come f refl new.0 new.1
alike_parts p None None None None None low moved gone new without come = tt
alike_parts p None None None None (Some b) low moved gone new without come = moved
alike_parts p None None (Some a) None None low moved gone new without come = moved
alike_parts p None None (Some a) None (Some b) low moved gone new without come =
    (former_rear p a.item b.item moved.0 moved.1, moved.2, moved.3)

pub alike_everywhere : (e : TextEdit) (name : List ℕ) → IsEdit e
    → ((o : Declarer) → first_declarer e.old name ≡ Some o → e.place.at ≤ o.item
    → o.item < e.place.at + e.place.removed → HasAlike e name)
    → ((f : Declarer) → first_declarer (definitions_after e) name ≡ Some f → e.place.at ≤ f.item
    → f.item < e.place.at + e.place.added → HasAlike e name) → HasAlike e name
alike_everywhere e name is without come = by (is_beforehand name) refl
  where
    p : ItemSplice
    p = e.place

    front : Option Declarer
    front = first_from 0 (take e.place.at e.old) name

    before : Option Declarer
    before = option_or front (option_or (first_from p.at (removed_definitions e) name)
        (first_from (p.at + p.removed) (rear_of e) name))

    now : Option Declarer
    now = option_or front (option_or (first_from p.at e.put name)
        (first_from (p.at + p.added) (rear_of e) name))

    long : length (take e.place.at e.old) ≡ e.place.at
    long = let within = is.within in length-take-le e.place.at e.old (omega (arith, within))

    taken : e.place.at + length (removed_definitions e) ≡ e.place.at + e.place.removed
    taken =
        let within = is.within in
        let l = length-drop e.place.at e.old in
        let m = length-take-le e.place.removed (drop e.place.at e.old) (omega (arith, within, l)) in
        omega (arith, m)

    put : e.place.at + length e.put ≡ e.place.at + e.place.added
    put = let added = is.added in omega (arith, added)

    by : (b : Bool) → is_beforehand name ≡ b → HasAlike e name
    by true not = subst (λ t. IsAlike e.place (cond t None (first_from 0 e.old name))
        (cond t None (first_from 0 (definitions_after e) name))) (sym not) tt
    by false not =
        let a : first_declarer e.old name ≡ before =
        ap (λ b. cond b None (first_from 0 e.old name)) not
        ∙ sym (ap (λ l. first_from 0 l name) (old_parts e))
        ∙ first_parts (take e.place.at e.old) (removed_definitions e) (rear_of e) p.at (p.at + p.removed) name
        long taken in
        let b : first_declarer (definitions_after e) name ≡ now =
        ap (λ b. cond b None (first_from 0 (definitions_after e) name)) not
        ∙ first_parts (take e.place.at e.old) e.put (rear_of e) p.at (p.at + p.added) name long put in
        let into : HasAlike e name → IsAlike p before now =
        λ h. subst (IsAlike p before) b
        (subst (λ o. IsAlike p o (first_declarer (definitions_after e) name)) a h) in
        let fits = long in
        let all = taken in
        let some = put in
        subst (λ o. IsAlike p o (first_declarer (definitions_after e) name)) (sym a)
        (subst (IsAlike p before) (sym b)
        (alike_parts p front (first_from p.at (removed_definitions e) name)
        (first_from (p.at + p.removed) (rear_of e) name) (first_from p.at e.put name)
        (first_from (p.at + p.added) (rear_of e) name)
        (first_below 0 p.at (take e.place.at e.old) name (omega (arith, fits)))
        (first_moved (p.at + p.removed) (p.at + p.added) (rear_of e) name)
        (first_inside p.at (p.at + p.removed) (removed_definitions e) name (omega (arith, all)))
        (first_inside p.at (p.at + p.added) e.put name (omega (arith, some)))
        (λ o h le lt. into (without o (a ∙ h) le lt)) (λ f h le lt. into (come f (b ∙ h) le lt))))

-- ---- who a first declarer is

pub first_declares : (ds : List (Option Definition)) (name : List ℕ) (at : Declarer)
    → first_declarer ds name ≡ Some at → IsFirstDeclarer ds name at
first_declares ds name at h = subst (FirstIs ds name) h (first_is ds name)

pub first_defined : (ds : List (Option Definition)) (name : List ℕ) (at : Declarer)
    → first_declarer ds name ≡ Some at → (d : Definition) × (definition_at ds at.item ≡ Some d)
first_defined ds name at h =
    let is = (first_declares ds name at h).declares in
    (is.definition, ap (option_and_then (λ d. d)) is.item_is)

pub first_within : (ds : List (Option Definition)) (name : List ℕ) (at : Declarer)
    → first_declarer ds name ≡ Some at → at.item < length ds
first_within ds name at h =
    let is = (first_declares ds name at h).declares in
    slice_get_within ds at.item (Some is.definition) is.item_is

-- one is at the place of the other or behind
not_earlier : (ds es : List (Option Definition)) (name : List ℕ) (o f : Declarer) → IsFirstDeclarer ds name o
    → IsFirstDeclarer es name f → slice_get es f.item ≡ slice_get ds o.item → o.place ≤ f.place
not_earlier ds es name o f a b same =
    let other : Declarer =
    record { item = o.item; word = f.word; place = f.place; kind = f.kind; lifted = f.lifted } in
    let is : IsDeclarer ds name other =
    record {
      definition = b.declares.definition;
      item_is = sym same ∙ b.declares.item_is;
      declares = b.declares.declares;
    } in
    omega (arith, (λ (lt : f.place < o.place). a.none_earlier other is (inr (refl, lt))))

-- a kept item declares the name first in the place where it did
pub same_place : (e : TextEdit) (name : List ℕ) (o f : Declarer) → IsEdit e
    → first_declarer e.old name ≡ Some o → first_declarer (definitions_after e) name ≡ Some f
    → slice_get (definitions_after e) f.item ≡ slice_get e.old o.item → o.place ≡ f.place
same_place e name o f is before now same =
    let a = first_declares e.old name o before in
    let b = first_declares (definitions_after e) name f now in
    let le = not_earlier e.old (definitions_after e) name o f a b same in
    let ge = not_earlier (definitions_after e) e.old name f o b a (sym same) in
    omega (arith, le, ge)

-- the name stands where its first declarer declares it
named_at : (names : List DeclaredName) (place : ℕ) (x : Declared)
    → slice_get (map view_name names) place ≡ Some x → IsNamed names place x.name
named_at [] place x h = absurd (cc)
named_at (n ∷ names) zero x h =
    record { declared = n; there = refl; is = ap (λ d. d.name) (same_Some (view_name n) x h) }
named_at (n ∷ names) (suc place) x h =
    let more = named_at names place x h in
    record { declared = more.declared; there = more.there; is = more.is }

pub first_named : (ds : List (Option Definition)) (name : List ℕ) (at : Declarer) (d : Definition)
    (names : List DeclaredName) → first_declarer ds name ≡ Some at → definition_at ds at.item ≡ Some d
    → map view_name names ≡ declared d → IsNamed names at.place name
first_named ds name at d names h has are =
    let is = (first_declares ds name at h).declares in
    let same : is.definition ≡ d =
    same_Some is.definition d (sym (ap (option_and_then (λ x. x)) is.item_is) ∙ has) in
    let x : Declared = record { name = name; word = at.word; kind = at.kind; lifted = at.lifted } in
    named_at names at.place x (ap (λ l. slice_get l at.place) (are ∙ sym (ap declared same)) ∙ is.declares)

-- The search for first declarers finds what the definition says, and nothing else.
use Rattle.std.proofs.Common.{◌≡◌, ◌<◌, ◌≤◌, ◌⊎◌, inl, inr, ℕ, zero, suc, ◌+◌, Bool, true, false, cond, List}
use Rattle.std.proofs.Common.{[], ◌∷◌, Option, None, Some, refl, sym, ap, subst, ◌∙◌, arith}
use Rattle.std.specs.Prelude.{slice_get, not}
use Rattle.std.specs.Cow.{cow_slice_items}
use Rattle.std.specs.declared.borrow.CowSlice.{CowSlice}
use Rattle.std.specs.Global.{Global}
use Rattle.std.specs.Str.{bytes_eq}
use Rattle.std.proofs.lemmas.Slice.Eq.{bytes_eq-Decides}
use Rattle.std.proofs.lemmas.Option.{same_Some}
use Rattle.x_trees.specs.Tree.{Definition}
use Rattle.x_trees.specs.Names.{Declared, declared}
use Rattle.x_names.specs.Declarers.{is_beforehand, IsDeclarer, IsEarlier, IsFirstDeclarer, FirstIs}
use Rattle.x_names.specs.Declarers.{declarer_at, place_of_name, declarer_in, first_from, first_declarer}
use Rattle.std.specs.Option.{option_or}
use Rattle.x_names.specs.DeclarerTable.{entry_in, first_in, names_in}
use Rattle.x_names.specs.declared.names.Declarer.{Declarer}

-- a declarer as the name that it declares
abbrev declared_by : List ℕ → Declarer → Declared
declared_by name at = record { name = name; word = at.word; kind = at.kind; lifted = at.lifted }

-- it is this place of the list, counted from the number of its first
record IsPlace (item n : ℕ) (name : List ℕ) (ds : List Declared) (at : Declarer) : Type 0 where
  pub index : ℕ
  pub item_is : at.item ≡ item
  pub place_is : at.place ≡ n + index
  pub there : slice_get ds index ≡ Some (declared_by name at)

-- what is found declares the name
found_place : (item n : ℕ) (name : List ℕ) (ds : List Declared) (at : Declarer)
    → place_of_name item n name ds ≡ Some at → IsPlace item n name ds at
found_place item n name [] at h = absurd (cc)
found_place item n name (d ∷ ds) at h = by (found_place item (suc n) name ds at) (bytes_eq name d.name) refl
  where
    by : (place_of_name item (suc n) name ds ≡ Some at → IsPlace item (suc n) name ds at) → (b : Bool)
        → bytes_eq name d.name ≡ b → IsPlace item n name (d ∷ ds) at
    by more true e =
        let same : d.name ≡ name = sym ((bytes_eq-Decides name d.name).0 e) in
        let is : declarer_at item n d ≡ at =
        same_Some (declarer_at item n d) at
        (sym (ap (λ b. cond b (Some (declarer_at item n d)) (place_of_name item (suc n) name ds)) e) ∙ h) in
        let place : n ≡ at.place = ap (λ x. x.place) is in
        record {
          index = 0;
          item_is = sym (ap (λ x. x.item) is);
          place_is = omega (arith, place);
          there = ap Some
              (λ i. record { name = same i; word = (is i).word; kind = (is i).kind; lifted = (is i).lifted });
        }
    by more false e =
        let rest =
        more (sym (ap (λ b. cond b (Some (declarer_at item n d)) (place_of_name item (suc n) name ds)) e)
        ∙ h) in
        let place = rest.place_is in
        record {
          index = suc rest.index;
          item_is = rest.item_is;
          place_is = omega (arith, place);
          there = rest.there;
        }

-- at this place or before it
record IsUpTo (item n : ℕ) (name : List ℕ) (ds : List Declared) (index : ℕ) : Type 0 where
  pub at : Declarer
  pub found : place_of_name item n name ds ≡ Some at
  pub item_is : at.item ≡ item
  pub near : at.place ≤ n + index

-- where a name is declared, one is found that stands no later
place_found : (item n : ℕ) (name : List ℕ) (ds : List Declared) (index : ℕ) (x : Declared)
    → slice_get ds index ≡ Some x → x.name ≡ name → IsUpTo item n name ds index
place_found item n name [] index x h same = absurd (cc)
place_found item n name (d ∷ ds) zero x h same =
    let is : d ≡ x = same_Some d x h in
    let test : bytes_eq name d.name ≡ true =
    (bytes_eq-Decides name d.name).1 (sym (ap (λ y. y.name) is ∙ same)) in
    record {
      at = declarer_at item n d;
      found = ap (λ b. cond b (Some (declarer_at item n d)) (place_of_name item (suc n) name ds)) test;
      item_is = refl;
      near = omega arith;
    }
place_found item n name (d ∷ ds) (suc index) x h same =
    by (place_found item (suc n) name ds index x h same) (bytes_eq name d.name) refl
  where
    by : IsUpTo item (suc n) name ds index → (b : Bool) → bytes_eq name d.name ≡ b
        → IsUpTo item n name (d ∷ ds) (suc index)
    by rest true e = record {
      at = declarer_at item n d;
      found = ap (λ b. cond b (Some (declarer_at item n d)) (place_of_name item (suc n) name ds)) e;
      item_is = refl;
      near = omega arith;
    }
    by rest false e =
        let near = rest.near in
        record {
          at = rest.at;
          found = ap (λ b. cond b (Some (declarer_at item n d)) (place_of_name item (suc n) name ds)) e
              ∙ rest.found;
          item_is = rest.item_is;
          near = omega (arith, near);
        }

-- ---- items

-- it is the name of this item of the list, counted from the number of its first
record IsOfItem (n : ℕ) (ds : List (Option Definition)) (name : List ℕ) (at : Declarer) : Type 0 where
  pub index : ℕ
  pub definition : Definition
  pub item_is : at.item ≡ n + index
  pub there : slice_get ds index ≡ Some (Some definition)
  pub declares : slice_get (declared definition) at.place ≡ Some (declared_by name at)

-- what is found in an item
record IsIn (n : ℕ) (name : List ℕ) (x : Option Definition) (at : Declarer) : Type 0 where
  pub definition : Definition
  pub is : x ≡ Some definition
  pub item_is : at.item ≡ n
  pub declares : slice_get (declared definition) at.place ≡ Some (declared_by name at)

found_in : (n : ℕ) (name : List ℕ) (x : Option Definition) (at : Declarer) → declarer_in n name x ≡ Some at
    → IsIn n name x at
found_in n name None at h = absurd (cc)
found_in n name (Some d) at h =
    let place = found_place n 0 name (declared d) at h in
    let index : place.index ≡ at.place = let e = place.place_is in omega (arith, e) in
    record {
      definition = d;
      is = refl;
      item_is = place.item_is;
      declares = subst (λ k. slice_get (declared d) k ≡ Some (declared_by name at)) index place.there;
    }

found_item : (n : ℕ) (ds : List (Option Definition)) (name : List ℕ) (at : Declarer)
    → first_from n ds name ≡ Some at → IsOfItem n ds name at
found_item n [] name at h = absurd (cc)
found_item n (x ∷ ds) name at h = by (found_item (suc n) ds name at) (declarer_in n name x) refl
  where
    by : (first_from (suc n) ds name ≡ Some at → IsOfItem (suc n) ds name at) → (o : Option Declarer)
        → declarer_in n name x ≡ o → IsOfItem n (x ∷ ds) name at
    by more (Some y) e =
        let is : y ≡ at = same_Some y at (sym (ap (λ o. option_or o (first_from (suc n) ds name)) e) ∙ h) in
        let here = found_in n name x at (e ∙ ap Some is) in
        let item = here.item_is in
        record {
          index = 0;
          definition = here.definition;
          item_is = omega (arith, item);
          there = ap Some here.is;
          declares = here.declares;
        }
    by more None e =
        let rest = more (sym (ap (λ o. option_or o (first_from (suc n) ds name)) e) ∙ h) in
        let item = rest.item_is in
        record {
          index = suc rest.index;
          definition = rest.definition;
          item_is = omega (arith, item);
          there = rest.there;
          declares = rest.declares;
        }

-- one is found that stands no later
record IsReached (n : ℕ) (ds : List (Option Definition)) (name : List ℕ) (index place : ℕ) : Type 0 where
  pub at : Declarer
  pub found : first_from n ds name ≡ Some at
  pub near : (at.item < n + index) ⊎ ((at.item ≡ n + index) × (at.place ≤ place))

reached : (n : ℕ) (ds : List (Option Definition)) (index : ℕ) (name : List ℕ) (d : Definition) (place : ℕ)
    (x : Declared)
    → slice_get ds index ≡ Some (Some d) → slice_get (declared d) place ≡ Some x → x.name ≡ name
    → IsReached n ds name index place
reached n [] index name d place x h k same = absurd (cc)
reached n (y ∷ ds) zero name d place x h k same =
    let is : y ≡ Some d = same_Some y (Some d) h in
    let here = place_found n 0 name (declared d) place x k same in
    let near = here.near in
    let item = here.item_is in
    record {
      at = here.at;
      found = ap (λ o. option_or o (first_from (suc n) ds name)) (ap (declarer_in n name) is ∙ here.found);
      near = inr (omega (arith, item), omega (arith, near));
    }
reached n (y ∷ ds) (suc index) name d place x h k same =
    by (reached (suc n) ds index name d place x h k same) (declarer_in n name y) refl
  where
    later : (at : Declarer) → (at.item < suc n + index) ⊎ ((at.item ≡ suc n + index) × (at.place ≤ place))
        → (at.item < n + suc index) ⊎ ((at.item ≡ n + suc index) × (at.place ≤ place))
    later at (inl lt) = inl (omega (arith, lt))
    later at (inr e) = let same_item = e.0 in inr (omega (arith, same_item), e.1)

    by : IsReached (suc n) ds name index place → (o : Option Declarer) → declarer_in n name y ≡ o
        → IsReached n (y ∷ ds) name (suc index) place
    by rest (Some z) e =
        let here = found_in n name y z e in
        let item = here.item_is in
        record {
          at = z;
          found = ap (λ o. option_or o (first_from (suc n) ds name)) e;
          near = inl (omega (arith, item));
        }
    by rest None e =
        record {
          at = rest.at;
          found = ap (λ o. option_or o (first_from (suc n) ds name)) e ∙ rest.found;
          near = later rest.at rest.near;
        }

-- ---- the definition and the search

-- what is found is a first declarer
pub found_is_first : (definitions : List (Option Definition)) (name : List ℕ) (at : Declarer)
    → first_from 0 definitions name ≡ Some at → is_beforehand name ≡ false
    → IsFirstDeclarer definitions name at
found_is_first definitions name at h not =
    record { not_beforehand = not; declares = declares; none_earlier = none_earlier }
  where
    declares : IsDeclarer definitions name at
    declares =
        let there = found_item 0 definitions name at h in
        let item = there.item_is in
        let same : there.index ≡ at.item = omega (arith, item) in
        record {
          definition = there.definition;
          item_is = sym (ap (slice_get definitions) same) ∙ there.there;
          declares = there.declares;
        }

    none_earlier : (other : Declarer) → IsDeclarer definitions name other → IsEarlier other at → ⊥
    none_earlier other is early =
        let found = reached 0 definitions other.item name is.definition other.place (declared_by name other)
        is.item_is is.declares refl in
        clash found.at (same_Some at found.at (sym h ∙ found.found)) found.near early
      where
        clash : (z : Declarer) → at ≡ z → (z.item < 0 + other.item)
            ⊎ ((z.item ≡ 0 + other.item) × (z.place ≤ other.place)) → IsEarlier other at → ⊥
        clash z same (inl lt) (inl before) =
            let item : at.item ≡ z.item = ap (λ d. d.item) same in omega (arith, item, lt, before)
        clash z same (inl lt) (inr before) =
            let item : at.item ≡ z.item = ap (λ d. d.item) same in let e = before.0 in
            omega (arith, item, lt, e)
        clash z same (inr here) (inl before) =
            let item : at.item ≡ z.item = ap (λ d. d.item) same in let e = here.0 in
            omega (arith, item, e, before)
        clash z same (inr here) (inr before) =
            let place : at.place ≡ z.place = ap (λ d. d.place) same in let le = here.1 in let lt = before.1 in
            omega (arith, place, le, lt)

-- of two places one stands before the other, or they are one
same_place : (a b : Declarer) → (IsEarlier a b → ⊥) → (IsEarlier b a → ⊥)
    → (a.item ≡ b.item) × (a.place ≡ b.place)
same_place a b not_before not_behind =
    let item : a.item ≡ b.item =
    omega (
      arith,
      (λ (lt : a.item < b.item). not_before (inl lt)),
      (λ (lt : b.item < a.item). not_behind (inl lt)),
    ) in (
      item,
      omega (
        arith,
        (λ (lt : a.place < b.place). not_before (inr (item, lt))),
        (λ (lt : b.place < a.place). not_behind (inr (sym item, lt))),
      ),
    )

-- a name has one first declarer
pub one_first : (definitions : List (Option Definition)) (name : List ℕ) (a b : Declarer)
    → IsFirstDeclarer definitions name a → IsFirstDeclarer definitions name b → a ≡ b
one_first definitions name a b h k =
    let at = same_place a b (k.none_earlier a h.declares) (h.none_earlier b k.declares) in
    let item : a.item ≡ b.item = at.0 in
    let place : a.place ≡ b.place = at.1 in
    let definition : h.declares.definition ≡ k.declares.definition =
    same_Some h.declares.definition k.declares.definition
    (same_Some (Some h.declares.definition) (Some k.declares.definition)
    (sym h.declares.item_is ∙ ap (slice_get definitions) item ∙ k.declares.item_is)) in
    let is : declared_by name a ≡ declared_by name b =
    same_Some (declared_by name a) (declared_by name b)
    (sym h.declares.declares ∙ ap (λ d. slice_get (declared d) a.place) definition
    ∙ ap (slice_get (declared k.declares.definition)) place ∙ k.declares.declares) in
    λ i. record {
      item = item i;
      word = (is i).word;
      place = place i;
      kind = (is i).kind;
      lifted = (is i).lifted;
    }

-- the search finds it, where there is one
pub first_found : (definitions : List (Option Definition)) (name : List ℕ) (at : Declarer)
    → is_beforehand name ≡ false → IsDeclarer definitions name at
    → (first : Declarer) × (first_from 0 definitions name ≡ Some first)
first_found definitions name at not is =
    let found = reached 0 definitions at.item name is.definition at.place (declared_by name at) is.item_is
    is.declares refl in
    (found.at, found.found)

-- the function is what the definition admits
pub first_is : (definitions : List (Option Definition)) (name : List ℕ)
    → FirstIs definitions name (first_declarer definitions name)
first_is definitions name = by (is_beforehand name) refl (first_from 0 definitions name) refl
  where
    none : (at : Declarer) → (is_beforehand name ≡ true) ⊎ (first_from 0 definitions name ≡ None)
        → IsFirstDeclarer definitions name at → ⊥
    none at (inl e) h = let not = h.not_beforehand in absurd (cc)
    none at (inr e) h = let found = first_found definitions name at h.not_beforehand h.declares in
        let is = found.1 in absurd (cc)

    by : (b : Bool) → is_beforehand name ≡ b → (o : Option Declarer) → first_from 0 definitions name ≡ o
        → FirstIs definitions name (first_declarer definitions name)
    by true e o f = subst (FirstIs definitions name)
        (sym (ap (λ b. cond b None (first_from 0 definitions name)) e)) (λ at. none at (inl e))
    by false e None f = subst (FirstIs definitions name)
        (sym (ap (λ b. cond b None (first_from 0 definitions name)) e ∙ f)) (λ at. none at (inr f))
    by false e (Some at) f =
        subst (FirstIs definitions name) (sym (ap (λ b. cond b None (first_from 0 definitions name)) e ∙ f))
        (found_is_first definitions name at f e)

-- and admits nothing else
pub one_answer : (definitions : List (Option Definition)) (name : List ℕ) (a b : Option Declarer)
    → FirstIs definitions name a → FirstIs definitions name b → a ≡ b
one_answer definitions name None None h k = refl
one_answer definitions name None (Some y) h k = absurd (h y k)
one_answer definitions name (Some x) None h k = absurd (k x h)
one_answer definitions name (Some x) (Some y) h k = ap Some (one_first definitions name x y h k)

-- what is the answer is found
pub as_found : (definitions : List (Option Definition)) (name : List ℕ) (r : Option Declarer)
    → FirstIs definitions name r → r ≡ first_declarer definitions name
as_found definitions name r h = one_answer definitions name r (first_declarer definitions name) h
    (first_is definitions name)

-- the names of a table that are not beforehand
pub first_names : (entries : List (CowSlice ℕ Global × Declarer)) (name : List ℕ)
    → first_in (names_in entries) name ≡ cond (is_beforehand name) None (entry_in entries name)
first_names [] name = by (is_beforehand name)
  where
    by : (b : Bool) → first_in [] name ≡ cond b None (entry_in [] name)
    by true = refl
    by false = refl
first_names (e ∷ es) name = by (bytes_eq name (cow_slice_items e.0)) refl
    (is_beforehand (cow_slice_items e.0)) refl (first_names es name)
  where
    rest : List (List ℕ × Declarer)
    rest = names_in es

    by : (b : Bool) → bytes_eq name (cow_slice_items e.0) ≡ b → (c : Bool)
        → is_beforehand (cow_slice_items e.0) ≡ c
        → first_in rest name ≡ cond (is_beforehand name) None (entry_in es name)
        → first_in (cond (not c) (((cow_slice_items e.0), e.1) ∷ rest) rest) name
        ≡ cond (is_beforehand name) None (cond b (Some e.1) (entry_in es name))
    by true same true before h =
        let is : name ≡ (cow_slice_items e.0) = (bytes_eq-Decides name (cow_slice_items e.0)).0 same in
        h ∙ ap (λ c. cond c None (entry_in es name)) (ap is_beforehand is ∙ before)
        ∙ sym (ap (λ c. cond c None (Some e.1)) (ap is_beforehand is ∙ before))
    by true same false before h =
        let is : name ≡ (cow_slice_items e.0) = (bytes_eq-Decides name (cow_slice_items e.0)).0 same in
        ap (λ b. cond b (Some e.1) (first_in rest name)) same
        ∙ sym (ap (λ c. cond c None (Some e.1)) (ap is_beforehand is ∙ before))
    by false other true before h = h
    by false other false before h = ap (λ b. cond b (Some e.1) (first_in rest name)) other ∙ h

-- the same of what a table is seen as, where it is known whether the name is one of these
pub first_seen : (names : List (List ℕ × Declarer)) (entries : List (CowSlice ℕ Global × Declarer))
    (name : List ℕ) (before : Bool) → names_in entries ≡ names
    → is_beforehand name ≡ before → cond before None (entry_in entries name) ≡ first_in names name
first_seen names entries name before view is =
    ap (λ b. cond b None (entry_in entries name)) (sym is) ∙ sym (first_names entries name)
    ∙ ap (λ t. first_in t name) view

-- a table that has what the search finds has the answers
pub first_by_search : (definitions : List (Option Definition)) (entries : List (CowSlice ℕ Global × Declarer))
    → ((name : List ℕ) → entry_in entries name ≡ first_from 0 definitions name)
    → (name : List ℕ) → FirstIs definitions name (first_in (names_in entries) name)
first_by_search definitions entries h name =
    subst (FirstIs definitions name)
    (sym (first_names entries name ∙ ap (λ o. cond (is_beforehand name) None o) (h name)))
    (first_is definitions name)

-- The first mention of each name, and its first keyword, one mention after another.
use Rattle.std.proofs.Common.{◌≡◌, ℕ, suc, ◌+◌, ◌<◌, Bool, true, false, cond, Option, None, Some, is_some}
use Rattle.std.proofs.Common.{List, [], ◌∷◌, ◌++◌, map, take, drop, get_or, length, append_assoc, arith, refl}
use Rattle.std.proofs.Common.{sym, ap, subst, ◌∙◌, Bor}
use Rattle.std.specs.Prelude.{not, ◌||◌, if◌then◌else◌}
use Rattle.std.specs.List.{filter, list_any}
use Rattle.std.specs.Map.{lookup}
use Rattle.std.specs.Option.{option_or}
use Rattle.std.specs.Str.{bytes_eq}
use Rattle.std.proofs.lemmas.List.{append-nil}
use Rattle.std.proofs.lemmas.List.Elements.{filter-append}
use Rattle.std.proofs.lemmas.Slice.Eq.{bytes_eq-Decides}
use Rattle.x_lists.proofs.ListLemmas.{drop_one, map_append, take_next}
use Rattle.x_trees.specs.declared.names.mention.Mention as mention
use Rattle.x_trees.specs.declared.trees.declaration.Tag.{Tag}
use Rattle.x_prelude.specs.Lacking.{Occurrence, first_of_each, first_tag, name_of}
use Rattle.x_prelude.specs.LackingTable.{Entries, HasFirsts, HasNames, HasTags, occurrence, view_use}
use Rattle.x_prelude.specs.declared.lacking.FirstUse as rust
use Rattle.x_prelude.specs.declared.lacking.LackingNames.{LackingNames}

-- a name is one of mentions
abbrev pub is_among : List ℕ → List Occurrence → Bool
is_among name ms = list_any (λ (m : Occurrence). bytes_eq name (name_of m)) ms

-- mentions of other names
abbrev pub others : List ℕ → List Occurrence → List Occurrence
others name ms = filter (λ (m : Occurrence). not (bytes_eq (name_of m) name)) ms

-- a mention of another name, kept or not
other_kept : (name : List ℕ) (m : Occurrence) (b : Bool) (ms : List Occurrence)
    → bytes_eq name (name_of m) ≡ false
    → is_among name (cond b (m ∷ ms) ms) ≡ is_among name ms
other_kept name m true ms e = ap (λ q. q || is_among name ms) e
other_kept name m false ms e = refl

-- another name is one of them exactly if it was before
among_others : (name own : List ℕ) (ms : List Occurrence) → bytes_eq name own ≡ false
    → is_among name (others own ms) ≡ is_among name ms
among_others name own [] differ = refl
among_others name own (m ∷ ms) differ = by (among_others name own ms differ) (bytes_eq name (name_of m)) refl
  where
    by : is_among name (others own ms) ≡ is_among name ms → (b : Bool) → bytes_eq name (name_of m) ≡ b
        → is_among name (others own (m ∷ ms)) ≡ is_among name (m ∷ ms)
    by more true e =
        let same : name ≡ name_of m = (bytes_eq-Decides name (name_of m)).0 e in
        let differs : bytes_eq (name_of m) own ≡ false = subst (λ n. bytes_eq n own ≡ false) same differ in
        ap (λ b. is_among name (cond (not b) (m ∷ others own ms) (others own ms))) differs
        ∙ ap (λ q. q || is_among name (others own ms)) e ∙ sym (ap (λ q. q || is_among name ms) e)
    by more false e =
        other_kept name m (not (bytes_eq (name_of m) own)) (others own ms) e ∙ more
        ∙ sym (ap (λ q. q || is_among name ms) e)

-- one mention more, behind others
kept_behind : (own : List ℕ) (ms : List Occurrence) (m : Occurrence) (b : Bool) → bytes_eq (name_of m) own ≡ b
    → others own (ms ++ m ∷ []) ≡ others own ms ++ cond (not b) (m ∷ []) []
kept_behind own ms m b e =
    filter-append (λ (o : Occurrence). not (bytes_eq (name_of o) own)) ms (m ∷ [])
    ∙ ap (λ q. others own ms ++ cond (not q) (m ∷ []) []) e

not_again : (own : List ℕ) (ms : List Occurrence) (m : Occurrence) (b : Bool)
    → bytes_eq (name_of m) own ≡ true
    → others own (cond b ms (ms ++ m ∷ [])) ≡ others own ms
not_again own ms m true e = refl
not_again own ms m false e = kept_behind own ms m true e ∙ append-nil (others own ms)

once_more : (x : Occurrence) (own : List ℕ) (ms : List Occurrence) (m : Occurrence) (b : Bool)
    → bytes_eq (name_of m) own
    ≡ false
    → x ∷ others own (cond b ms (ms ++ m ∷ [])) ≡ cond b (x ∷ others own ms) (x ∷ (others own ms ++ m ∷ []))
once_more x own ms m true e = refl
once_more x own ms m false e = ap (λ l. x ∷ l) (kept_behind own ms m false e)

-- the first mentions, with one mention more behind all
pub first_more : (ms : List Occurrence) (m : Occurrence) → first_of_each (ms ++ m ∷ [])
    ≡ cond (is_among (name_of m) (first_of_each ms)) (first_of_each ms) (first_of_each ms ++ m ∷ [])
first_more [] m = refl
first_more (x ∷ ms) m = ap (λ l. x ∷ others (name_of x) l) (first_more ms m)
    ∙ by (first_of_each ms) (bytes_eq (name_of m) (name_of x)) refl
  where
    by : (fs : List Occurrence) (b : Bool) → bytes_eq (name_of m) (name_of x) ≡ b
        → x ∷ others (name_of x) (cond (is_among (name_of m) fs) fs (fs ++ m ∷ []))
        ≡ cond (bytes_eq (name_of m) (name_of x) || is_among (name_of m) (others (name_of x) fs))
        (x ∷ others (name_of x) fs)
        (x ∷ (others (name_of x) fs ++ m ∷ []))
    by fs true e =
        ap (λ l. x ∷ l) (not_again (name_of x) fs m (is_among (name_of m) fs) e)
        ∙ sym (ap (λ q. cond (q || is_among (name_of m) (others (name_of x) fs)) (x ∷ others (name_of x) fs)
        (x ∷ (others (name_of x) fs ++ m ∷ []))) e)
    by fs false e =
        once_more x (name_of x) fs m (is_among (name_of m) fs) e
        ∙ sym (ap (λ q. cond q (x ∷ others (name_of x) fs) (x ∷ (others (name_of x) fs ++ m ∷ [])))
        (among_others (name_of m) (name_of x) fs e))
        ∙ sym (ap (λ q. cond (q || is_among (name_of m) (others (name_of x) fs)) (x ∷ others (name_of x) fs)
        (x ∷ (others (name_of x) fs ++ m ∷ []))) e)

-- ---- the table of first uses

some_or : {X : Type 0} (b : Bool) (x : X) (o : Option X) → is_some (cond b (Some x) o) ≡ (b || is_some o)
some_or true x o = refl
some_or false x o = refl

found_is : (name : List ℕ) (es : Entries) → is_some (lookup (λ k. bytes_eq name k.now) es)
    ≡ list_any (bytes_eq name) (map (λ e. e.0.now) es)
found_is name [] = refl
found_is name (e ∷ es) = some_or (bytes_eq name e.0.now) e.1 (lookup (λ k. bytes_eq name k.now) es)
    ∙ ap (λ q. bytes_eq name e.0.now || q) (found_is name es)

named_is : (name : List ℕ) (os : List Occurrence) → list_any (bytes_eq name) (map name_of os)
    ≡ is_among name os
named_is name [] = refl
named_is name (o ∷ os) = ap (λ q. bytes_eq name (name_of o) || q) (named_is name os)

-- the table has a name exactly if it is one of the first mentions
among : (es : Entries) (name : List ℕ) (before : List Occurrence) (b : Bool) → HasFirsts es before
    → is_some (lookup (λ k. bytes_eq name k.now) es) ≡ b
    → is_among name (first_of_each before) ≡ b
among es name before b h is = sym (named_is name (first_of_each before))
    ∙ sym (ap (list_any (bytes_eq name)) h.names_are) ∙ sym (found_is name es) ∙ is

firsts_by : (before : List Occurrence) (o : Occurrence) (b : Bool)
    → is_among (name_of o) (first_of_each before) ≡ b
    → cond b (first_of_each before) (first_of_each before ++ o ∷ []) ≡ first_of_each (before ++ o ∷ [])
firsts_by before o b is = sym (first_more before o ∙ ap (λ q. cond q (first_of_each before)
    (first_of_each before ++ o ∷ [])) is)

-- a name that it has
pub has_same : (es : Entries) (item : ℕ) (m : mention.Mention) (before : List Occurrence)
    → is_some (lookup (λ k. bytes_eq m.name.now k.now) es) ≡ true → HasFirsts es before
    → HasFirsts es (before ++ occurrence item m ∷ [])
has_same es item m before some h =
    let same = firsts_by before (occurrence item m) true (among es m.name.now before true h some) in
    record { held_are = h.held_are ∙ same; names_are = h.names_are ∙ ap (map name_of) same }

-- a name that it has not
pub has_more : (es : Entries) (u : rust.FirstUse) (before : List Occurrence)
    → is_some (lookup (λ k. bytes_eq u.mention.name.now k.now) es) ≡ false → HasFirsts es before
    → HasFirsts (es ++ (u.mention.name, u) ∷ []) (before ++ view_use u ∷ [])
has_more es u before none h =
    let name = u.mention.name.now in
    let more = firsts_by before (view_use u) false (among es name before false h none) in
    record {
      held_are = map_append (λ e. view_use e.1) es ((u.mention.name, u) ∷ [])
          ∙ ap (λ l. l ++ view_use u ∷ []) h.held_are ∙ more;
      names_are = map_append (λ e. e.0.now) es ((u.mention.name, u) ∷ [])
          ∙ ap (λ l. l ++ name ∷ []) h.names_are
          ∙ sym (map_append name_of (first_of_each before) (view_use u ∷ [])) ∙ ap (map name_of) more;
    }

pub no_entry : {K X : Type 0} (test : K → Bool) (es : List (K × X)) → is_some (lookup test es) ≡ false
    → lookup test es ≡ None
no_entry test es none = is_none (lookup test es) none
  where
    is_none : {X : Type 0} (o : Option X) → is_some o ≡ false → o ≡ None
    is_none None e = refl
    is_none (Some x) e = absurd (cc)

-- ---- the table of keywords

-- the keyword of one mention, if it is of the name
abbrev tag_for : List ℕ → Occurrence → Option Tag
tag_for name o = if bytes_eq name (name_of o) then o.mention.tag else None

or_none : {X : Type 0} (o : Option X) → option_or o None ≡ o
or_none None = refl
or_none (Some x) = refl

or_or : {X : Type 0} (a b c : Option X) → option_or a (option_or b c) ≡ option_or (option_or a b) c
or_or None b c = refl
or_or (Some x) b c = refl

-- one mention more, behind others
tag_more : (name : List ℕ) (os : List Occurrence) (o : Occurrence) → first_tag name (os ++ o ∷ [])
    ≡ option_or (first_tag name os) (tag_for name o)
tag_more name [] o = or_none (tag_for name o)
tag_more name (x ∷ os) o = ap (option_or (tag_for name x)) (tag_more name os o)
    ∙ or_or (tag_for name x) (first_tag name os) (tag_for name o)

lookup_more : {K X : Type 0} (test : K → Bool) (es : List (K × X)) (k : K) (x : X)
    → lookup test (es ++ (k, x) ∷ []) ≡ option_or (lookup test es) (cond (test k) (Some x) None)
lookup_more test [] k x = refl
lookup_more test (e ∷ es) k x = either (test e.0) e.1 (lookup test (es ++ (k, x) ∷ [])) (lookup test es)
    (cond (test k) (Some x) None) (lookup_more test es k x)
  where
    either : {X : Type 0} (b : Bool) (y : X) (a o p : Option X) → a ≡ option_or o p
        → cond b (Some y) a ≡ option_or (cond b (Some y) o) p
    either true y a o p h = refl
    either false y a o p h = h

-- a mention without a keyword
pub no_tag : (tags : List (Bor (List ℕ) × Tag)) (item : ℕ) (m : mention.Mention) (before : List Occurrence)
    → m.tag ≡ None → HasTags tags before → HasTags tags (before ++ occurrence item m ∷ [])
no_tag tags item m before none h name =
    h name ∙ sym (tag_more name before (occurrence item m)
    ∙ ap (option_or (first_tag name before)) (ap (λ t. cond (bytes_eq name m.name.now) t None) none
    ∙ either (bytes_eq name m.name.now)) ∙ or_none (first_tag name before))
  where
    either : (b : Bool) → ◌≡◌ {A = Option Tag} (cond b None None) None
    either true = refl
    either false = refl

-- a name that has a keyword before
pub old_tag : (tags : List (Bor (List ℕ) × Tag)) (item : ℕ) (m : mention.Mention) (before : List Occurrence)
    → is_some (lookup (λ k. bytes_eq m.name.now k.now) tags) ≡ true → HasTags tags before
    → HasTags tags (before ++ occurrence item m ∷ [])
old_tag tags item m before some h name =
    h name ∙ sym (tag_more name before (occurrence item m) ∙ by (bytes_eq name m.name.now) refl)
  where
    kept : {X : Type 0} (o p : Option X) → is_some o ≡ true → option_or o p ≡ o
    kept None p e = absurd (cc)
    kept (Some x) p e = refl

    by : (b : Bool) → bytes_eq name m.name.now ≡ b
        → option_or (first_tag name before) (cond b m.tag None) ≡ first_tag name before
    by false e = or_none (first_tag name before)
    by true e =
        let same : name ≡ m.name.now = (bytes_eq-Decides name m.name.now).0 e in
        kept (first_tag name before) m.tag
        (subst (λ n. is_some (first_tag n before) ≡ true) (sym same) (ap is_some (sym (h m.name.now)) ∙ some))

-- a name that has none
pub new_tag : (tags : List (Bor (List ℕ) × Tag)) (item : ℕ) (m : mention.Mention) (tag : Tag)
    (before : List Occurrence) → m.tag ≡ Some tag → HasTags tags before
    → HasTags (tags ++ (m.name, tag) ∷ []) (before ++ occurrence item m ∷ [])
new_tag tags item m tag before is h name =
    lookup_more (λ k. bytes_eq name k.now) tags m.name tag
    ∙ (λ i. option_or (h name i) (cond (bytes_eq name m.name.now) (sym is i) None))
    ∙ sym (tag_more name before (occurrence item m))

-- ---- one mention more of which it is asked whether it is kept

passed_more : (p : Occurrence → Bool) (before : List Occurrence) (item : ℕ)
    (ms : List mention.Mention) (i : ℕ)
    (d : mention.Mention) (b : Bool) → i < length ms → p (occurrence item (get_or ms i d)) ≡ b
    → filter p (before ++ map (occurrence item) (take i ms))
    ++ cond b (occurrence item (get_or ms i d) ∷ []) []
    ≡ filter p (before ++ map (occurrence item) (take (i + 1) ms))
passed_more p before item ms i d b lt is =
    let view = occurrence item in
    let m = get_or ms i d in
    let so_far = map view (take i ms) in
    let next : suc i ≡ i + 1 = omega arith in
    let added : so_far ++ view m ∷ [] ≡ map view (take (i + 1) ms) =
    sym (map_append view (take i ms) (m ∷ [])) ∙ sym
    (ap (map view) (take_next ms i m (drop (i + 1) ms) (drop_one ms i d lt)))
    ∙ ap (λ k. map view (take k ms)) next in
    sym (ap (λ q. filter p (before ++ so_far) ++ cond q (view m ∷ []) []) is)
    ∙ sym (filter-append p (before ++ so_far) (view m ∷ []))
    ∙ ap (filter p) (append_assoc before so_far (view m ∷ []) ∙ ap (λ l. before ++ l) added)

pub has_passed : (p : Occurrence → Bool) (before : List Occurrence) (item : ℕ) (ms : List mention.Mention)
    (i : ℕ) (d : mention.Mention) (names : LackingNames) → i < length ms
    → p (occurrence item (get_or ms i d)) ≡ true
    → HasNames names (filter p (before ++ map (occurrence item) (take i ms))
    ++ occurrence item (get_or ms i d) ∷ [])
    → HasNames names (filter p (before ++ map (occurrence item) (take (i + 1) ms)))
has_passed p before item ms i d names lt is h =
    subst (HasNames names) (passed_more p before item ms i d true lt is) h

pub has_none_passed : (p : Occurrence → Bool) (before : List Occurrence) (item : ℕ)
    (ms : List mention.Mention) (i : ℕ) (d : mention.Mention) (names : LackingNames) → i < length ms
    → p (occurrence item (get_or ms i d)) ≡ false
    → HasNames names (filter p (before ++ map (occurrence item) (take i ms)))
    → HasNames names (filter p (before ++ map (occurrence item) (take (i + 1) ms)))
has_none_passed p before item ms i d names lt is h =
    subst (HasNames names) (sym (append-nil (filter p (before ++ map (occurrence item) (take i ms))))
    ∙ passed_more p before item ms i d false lt is) h

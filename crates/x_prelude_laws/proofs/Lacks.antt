-- The mentions of names that a text lacks.
use Rattle.std.proofs.Common.{◌≡◌, ◌⊎◌, inl, inr, ℕ, zero, suc, ◌+◌, ◌<◌, Bool, true, false, cond, List, []}
use Rattle.std.proofs.Common.{◌∷◌, map, length, Option, Some, None, is_some, arith, refl, sym, ap, subst, ◌∙◌}
use Rattle.std.specs.Prelude.{◌||◌, ◌&&◌, not, slice_get}
use Rattle.std.specs.List.{IsAmong, enumerate_from, filter, list_any}
use Rattle.std.specs.Str.{bytes_eq}
use Rattle.std.proofs.lemmas.Slice.Eq.{bytes_eq-Decides}
use Rattle.x_trees.specs.Tree.{Definition}
use Rattle.x_trees.specs.Mentions.{Mention, mentioned}
use Rattle.x_trees.specs.Names.{declared}
use Rattle.x_trees.specs.Seen.{names_of}
use Rattle.x_trees.proofs.AmongLemmas.{among_cases, among_front, among_more, among_none, among_parts}
use Rattle.x_trees.proofs.AmongLemmas.{among_rear, among_same}
use Rattle.x_names.specs.Declarers.{first_declarer, is_beforehand}
use Rattle.x_names.specs.declared.names.Declarer.{Declarer}
use Rattle.x_rules.specs.Results.{KnownNames}
use Rattle.x_uses.specs.Occurrences.{sees}
use Rattle.x_prelude.specs.Lacking.{Occurrence, first_of_each, is_lacking, lacking, name_of, occurrences_from}
use Rattle.x_prelude.specs.Lacking.{occurrences_in}
use Rattle.x_prelude.specs.Prelude.{lacks_name}
use Rattle.x_prelude_laws.proofs.Named.{among_map}

-- ---- filters

pub filter_in : {X : Type 0} (p : X → Bool) (xs : List X) (x : X) → IsAmong (filter p xs) x
    → IsAmong xs x × (p x ≡ true)
filter_in p [] x h = absurd (among_none x h)
filter_in {X} p (y ∷ xs) x h = by (p y) refl h (λ k. filter_in p xs x k)
  where
    more : IsAmong xs x × (p x ≡ true) → IsAmong (y ∷ xs) x × (p x ≡ true)
    more k = (among_more y x xs k.0, k.1)

    cases : p y ≡ true → (x ≡ y) ⊎ IsAmong (filter p xs) x →
        (IsAmong (filter p xs) x → IsAmong xs x × (p x ≡ true))
        → IsAmong (y ∷ xs) x × (p x ≡ true)
    cases e (inl same) next = (among_same y x xs (sym same), ap p same ∙ e)
    cases e (inr k) next = more (next k)

    by : (b : Bool) → p y ≡ b → IsAmong (cond b (y ∷ filter p xs) (filter p xs)) x
        → (IsAmong (filter p xs) x → IsAmong xs x × (p x ≡ true)) → IsAmong (y ∷ xs) x × (p x ≡ true)
    by true e k next = cases e (among_cases y x (filter p xs) k) next
    by false e k next = more (next k)

in_filter : {X : Type 0} (p : X → Bool) (xs : List X) (x : X) → IsAmong xs x → p x ≡ true
    → IsAmong (filter p xs) x
in_filter p [] x h is = absurd (among_none x h)
in_filter {X} p (y ∷ xs) x h is = by (p y) refl (among_cases y x xs h) (λ k. in_filter p xs x k is)
  where
    by : (b : Bool) → p y ≡ b → (x ≡ y) ⊎ IsAmong xs x → (IsAmong xs x → IsAmong (filter p xs) x)
        → IsAmong (cond b (y ∷ filter p xs) (filter p xs)) x
    by true e (inl same) next = among_same y x (filter p xs) (sym same)
    by true e (inr k) next = among_more y x (filter p xs) (next k)
    by false e (inl same) next = absurd (let f : p y ≡ true = ap p (sym same) ∙ is in cc)
    by false e (inr k) next = next k

-- ---- the first of each name

pub first_in : (os : List Occurrence) (o : Occurrence) → IsAmong (first_of_each os) o → IsAmong os o
first_in [] o h = absurd (among_none o h)
first_in (x ∷ os) o h =
    by (among_cases x o (filter other (first_of_each os)) h)
    (λ k. first_in os o (filter_in other (first_of_each os) o k).0)
  where
    other : Occurrence → Bool
    other y = not (bytes_eq (name_of y) (name_of x))

    by : (o ≡ x) ⊎ IsAmong (filter other (first_of_each os)) o
        → (IsAmong (filter other (first_of_each os)) o → IsAmong os o) → IsAmong (x ∷ os) o
    by (inl same) next = among_same x o os (sym same)
    by (inr k) next = among_more x o os (next k)

-- a first mention of the name
pub record HasFirst (os : List Occurrence) (name : List ℕ) : Type 0 where
  pub first : Occurrence
  pub among : IsAmong (first_of_each os) first
  pub same : name_of first ≡ name

pub has_first : (os : List Occurrence) (o : Occurrence) → IsAmong os o → HasFirst os (name_of o)
has_first [] o h = absurd (among_none o h)
has_first (x ∷ os) o h = by (among_cases x o os h) (λ k. has_first os o k)
  where
    other : Occurrence → Bool
    other y = not (bytes_eq (name_of y) (name_of x))

    rest : List Occurrence
    rest = filter other (first_of_each os)

    is_first : name_of x ≡ name_of o → HasFirst (x ∷ os) (name_of o)
    is_first same = record { first = x; among = among_same x x rest refl; same = same }

    later : (f : HasFirst os (name_of o)) (b : Bool) → bytes_eq (name_of f.first) (name_of x) ≡ b
        → HasFirst (x ∷ os) (name_of o)
    later f true e = is_first (sym ((bytes_eq-Decides (name_of f.first) (name_of x)).0 e) ∙ f.same)
    later f false e = record {
      first = f.first;
      among = among_more x f.first rest (in_filter other (first_of_each os) f.first f.among (ap not e));
      same = f.same;
    }

    by : (o ≡ x) ⊎ IsAmong os o → (IsAmong os o → HasFirst os (name_of o)) → HasFirst (x ∷ os) (name_of o)
    by (inl same) next = is_first (ap name_of (sym same))
    by (inr k) next = let f = next k in later f (bytes_eq (name_of f.first) (name_of x)) refl

-- ---- mentions of definitions

pub record OccursIn (ds : List (Option Definition)) (m : Mention) : Type 0 where
  pub index : ℕ
  pub definition : Definition
  pub is : slice_get ds index ≡ Some (Some definition)
  pub among : IsAmong (mentioned definition) m

mention_in : (item : ℕ) (ms : List Mention) (o : Occurrence)
    → IsAmong (map (λ (m : Mention). record { item = item; mention = m }) ms) o → IsAmong ms o.mention
mention_in item [] o h = absurd (among_none o h)
mention_in item (m ∷ ms) o h =
    by (among_cases (record { item = item; mention = m }) o (map
    (λ (m : Mention). record { item = item; mention = m }) ms) h)
    (λ k. mention_in item ms o k)
  where
    by : (o ≡ record { item = item; mention = m }) ⊎ IsAmong
        (map (λ (m : Mention). record { item = item; mention = m }) ms) o
        → (IsAmong (map (λ (m : Mention). record { item = item; mention = m }) ms) o → IsAmong ms o.mention)
        → IsAmong (m ∷ ms) o.mention
    by (inl e) next = among_same m o.mention ms (sym (ap (λ x. x.mention) e))
    by (inr k) next = among_more m o.mention ms (next k)

pub occurs_in : (item : ℕ) (ds : List (Option Definition)) (o : Occurrence)
    → IsAmong (occurrences_from item ds) o
    → OccursIn ds o.mention
occurs_in item [] o h = absurd (among_none o h)
occurs_in item (d ∷ ds) o h =
    by d (among_parts (occurrences_in item d) (occurrences_from (suc item) ds) o h)
    (λ k. occurs_in (suc item) ds o k)
  where
    by : (d : Option Definition) → IsAmong (occurrences_in item d) o
        ⊎ IsAmong (occurrences_from (suc item) ds) o
        → (IsAmong (occurrences_from (suc item) ds) o → OccursIn ds o.mention) → OccursIn (d ∷ ds) o.mention
    by None (inl k) next = absurd (among_none o k)
    by (Some e) (inl k) next = record {
      index = 0;
      definition = e;
      is = refl;
      among = mention_in item (mentioned e) o k;
    }
    by d (inr k) next =
        let rest = next k in
        record { index = suc rest.index; definition = rest.definition; is = rest.is; among = rest.among }

-- each mention of a definition occurs
pub record Occurs (os : List Occurrence) (m : Mention) : Type 0 where
  pub occurrence : Occurrence
  pub among : IsAmong os occurrence
  pub is : occurrence.mention ≡ m

pub occurs : (item : ℕ) (ds : List (Option Definition)) (index : ℕ) (d : Definition) (m : Mention)
    → slice_get ds index ≡ Some (Some d) → IsAmong (mentioned d) m → Occurs (occurrences_from item ds) m
occurs item [] index d m e h = absurd (cc)
occurs item (x ∷ ds) zero d m e h =
    let same : x ≡ Some d = cc in
    record {
      occurrence = record { item = item; mention = m };
      among = among_front (occurrences_in item x) (occurrences_from (suc item) ds)
          (record { item = item; mention = m })
          (subst (λ y. IsAmong (occurrences_in item y) (record { item = item; mention = m })) (sym same)
          (among_map (λ (m : Mention). record { item = item; mention = m }) (mentioned d) m h));
      is = refl;
    }
occurs item (x ∷ ds) (suc index) d m e h =
    let rest = occurs (suc item) ds index d m e h in
    record {
      occurrence = rest.occurrence;
      among = among_rear (occurrences_in item x) (occurrences_from (suc item) ds) rest.occurrence rest.among;
      is = rest.is;
    }

-- ---- what is lacking

pub in_lacking : (known : KnownNames) (ds : List (Option Definition)) (o : Occurrence)
    → IsAmong (lacking known ds) o
    → IsAmong (occurrences_from 0 ds) o × (is_lacking known (first_declarer ds) (name_of o) ≡ true)
in_lacking known ds o h =
    filter_in (λ (x : Occurrence). is_lacking known (first_declarer ds) (name_of x))
    (occurrences_from 0 ds) o h

pub is_in_lacking : (known : KnownNames) (ds : List (Option Definition)) (o : Occurrence)
    → IsAmong (occurrences_from 0 ds) o
    → is_lacking known (first_declarer ds) (name_of o) ≡ true → IsAmong (lacking known ds) o
is_in_lacking known ds o h is =
    in_filter (λ (x : Occurrence). is_lacking known (first_declarer ds) (name_of x))
    (occurrences_from 0 ds) o h is

-- a name that is lacking, by its three tests
pub record Lacks (known : KnownNames) (first : List ℕ → Option Declarer) (name : List ℕ) : Type 0 where
  pub free : is_beforehand name ≡ false
  pub unknown : is_some (known name) ≡ false
  pub undeclared : is_some (first name) ≡ false

pub lacks_by : (known : KnownNames) (first : List ℕ → Option Declarer) (name : List ℕ)
    → is_lacking known first name ≡ true → Lacks known first name
lacks_by known first name h = by (is_beforehand name) (is_some (known name))
    (is_some (first name)) refl refl refl h
  where
    by : (a b c : Bool) → is_beforehand name ≡ a → is_some (known name) ≡ b → is_some (first name) ≡ c
        → not (a || b || c) ≡ true → Lacks known first name
    by false false false e f g is = record { free = e; unknown = f; undeclared = g }
    by true b c e f g is = absurd (cc)
    by false true c e f g is = absurd (cc)
    by false false true e f g is = absurd (cc)

pub by_tests : (known : KnownNames) (first : List ℕ → Option Declarer) (name : List ℕ)
    → Lacks known first name
    → is_lacking known first name ≡ true
by_tests known first name h =
    ap (λ a. not (a || is_some (known name) || is_some (first name))) h.free
    ∙ ap (λ b. not (b || is_some (first name))) h.unknown ∙ ap not h.undeclared

-- ---- a text lacks a name that it mentions

pub any_in : {X : Type 0} (p : X → Bool) (xs : List X) (x : X) → IsAmong xs x → p x ≡ true
    → list_any p xs ≡ true
any_in p [] x h is = absurd (among_none x h)
any_in {X} p (y ∷ xs) x h is = by (p y) refl (among_cases y x xs h) (λ k. any_in p xs x k is)
  where
    by : (b : Bool) → p y ≡ b → (x ≡ y) ⊎ IsAmong xs x → (IsAmong xs x → list_any p xs ≡ true)
        → (p y || list_any p xs) ≡ true
    by true e k next = ap (λ b. b || list_any p xs) e
    by false e (inl same) next = absurd (let f : p y ≡ true = ap p (sym same) ∙ is in cc)
    by false e (inr k) next = ap (λ b. b || list_any p xs) e ∙ next k

pub at_index : {X : Type 0} (xs : List X) (index : ℕ) (x : X) → slice_get xs index ≡ Some x → IsAmong xs x
at_index [] index x e = absurd (cc)
at_index (y ∷ xs) zero x e = let same : y ≡ x = cc in among_same y x xs same
at_index (y ∷ xs) (suc index) x e = among_more y x xs (at_index xs index x e)

pub lacks_mentioned : (known : KnownNames) (ds : List (Option Definition)) (m : Mention) → OccursIn ds m
    → Lacks known (first_declarer ds) m.name → lacks_name known ds m.name ≡ true
lacks_mentioned known ds m at h =
    let named : IsAmong (names_of at.definition) m.name =
    among_rear (map (λ x. x.name) (declared at.definition)) (map (λ (x : Mention). x.name)
    (mentioned at.definition)) m.name
    (among_map (λ (x : Mention). x.name) (mentioned at.definition) m at.among) in
    let seen : sees (Some at.definition) m.name ≡ true =
    any_in (bytes_eq m.name) (names_of at.definition) m.name named
    ((bytes_eq-Decides m.name m.name).1 refl) in
    let some : list_any (λ d. sees d m.name) ds ≡ true =
    any_in (λ d. sees d m.name) ds (Some at.definition) (at_index ds at.index
    (Some at.definition) at.is) seen in
    ap (λ b. not b && (not (is_some (first_declarer ds m.name)) && list_any
    (λ d. sees d m.name) ds)) h.unknown
    ∙ ap (λ b. not b && list_any (λ d. sees d m.name) ds) h.undeclared ∙ some

-- ---- numbered lists

pub numbered_in : {X : Type 0} (n : ℕ) (xs : List X) (e : ℕ × X) → IsAmong (enumerate_from n xs) e
    → (e.0 < n + length xs) × IsAmong xs e.1
numbered_in n [] e h = absurd (among_none e h)
numbered_in {X} n (x ∷ xs) e h = by (among_cases (n, x) e (enumerate_from (n + 1) xs) h)
    (λ k. numbered_in (n + 1) xs e k)
  where
    by : (e ≡ (n, x)) ⊎ IsAmong (enumerate_from (n + 1) xs) e
        → (IsAmong (enumerate_from (n + 1) xs) e → (e.0 < (n + 1) + length xs) × IsAmong xs e.1)
        → (e.0 < n + suc (length xs)) × IsAmong (x ∷ xs) e.1
    by (inl same) next =
        let at : e.0 ≡ n = ap (λ y. y.0) same in
        (omega (arith, at), among_same x e.1 xs (sym (ap (λ y. y.1) same)))
    by (inr k) next = let rest = next k in let lt = rest.0 in (omega (arith, lt), among_more x e.1 xs rest.1)

pub record Numbered {X : Type 0} (n : ℕ) (xs : List X) (x : X) : Type 0 where
  pub number : ℕ
  pub among : IsAmong (enumerate_from n xs) (number, x)

pub numbered : {X : Type 0} (n : ℕ) (xs : List X) (x : X) → IsAmong xs x → Numbered n xs x
numbered n [] x h = absurd (among_none x h)
numbered {X} n (y ∷ xs) x h = by (among_cases y x xs h) (λ k. numbered (n + 1) xs x k)
  where
    by : (x ≡ y) ⊎ IsAmong xs x → (IsAmong xs x → Numbered (n + 1) xs x) → Numbered n (y ∷ xs) x
    by (inl same) next =
        record {
          number = n;
          among = among_same (n, y) (n, x) (enumerate_from (n + 1) xs)
              (λ i. (n, sym same i));
        }
    by (inr k) next =
        let rest = next k in
        record {
          number = rest.number;
          among = among_more (n, y) (rest.number, x)
              (enumerate_from (n + 1) xs) rest.among;
        }

-- What a walk over a program finds, part by part.
use Rattle.std.proofs.Common.{◌≡◌, ℕ, suc, ◌+◌, ◌^◌, ◌<◌, List, [], ◌∷◌, ◌++◌, length, map, ap, sym, refl}
use Rattle.std.proofs.Common.{subst, ◌∙◌, append-nil, length-append, arith}
use Rattle.x_trees.specs.Tree as tree
use Rattle.x_trees.specs.Spell.{spell_type, spell_body, spell_argument, spell_passed, spell_others}
use Rattle.x_trees.specs.Spell.{spell_procedure, spell_procedures, spell_version, spell_versions}
use Rattle.x_trees.proofs.CollectLemmas.{finds_none, finds_then, finds_as}
use Rattle.x_outline.specs.Bodies.{Members, no_members, procedures_from, procedure_lists, versions_from}
use Rattle.x_trees.specs.Spell.{IsShort}
use Rattle.x_outline.specs.MemberWalks.{Skips, WalkState, Adds, AddsName, AddsNumber, AddsProcedure}
use Rattle.x_outline.specs.MemberWalks.{AddsProcedures, AddsVersions, AddsVersion, place, start}
use Rattle.x_outline.specs.Parts.{view_name_at, view_number_at, view_members}
use Rattle.x_outline.specs.declared.bodies.BodyWalk.{BodyWalk}
use Rattle.x_outline.specs.declared.parts.Members as rust
use Rattle.x_lists.proofs.ListLemmas.{map_append}

-- the members of two parts
abbrev joined : Members → Members → Members
joined a b = record { names = a.names ++ b.names; numbers = a.numbers ++ b.numbers }

pub adds_none : (a : WalkState) → Adds a a 0 (λ k. []) (λ k. no_members)
adds_none a = record { groups = finds_none _; names = finds_none _; numbers = finds_none _ }

adds_then : {a b c : WalkState} {n m : ℕ} {f g : ℕ → List Members} {p q : ℕ → Members} → Adds a b n f p
    → Adds b c m g q → Adds a c (n + m) (λ k. f k ++ g (k + n)) (λ k. joined (p k) (q (k + n)))
adds_then x y =
    record {
      groups = finds_then x.groups y.groups;
      names = finds_then x.names y.names;
      numbers = finds_then x.numbers y.numbers;
    }

adds_as : {a b : WalkState} {n m : ℕ} {f g : ℕ → List Members} {p q : ℕ → Members} → Adds a b n f p → n ≡ m
    → ((k : ℕ) → f k ≡ g k) → ((k : ℕ) → (p k).names ≡ (q k).names)
    → ((k : ℕ) → (p k).numbers ≡ (q k).numbers)
    → Adds a b m g q
adds_as x same groups names numbers =
    record {
      groups = finds_as _ _ x.groups same groups;
      names = finds_as _ _ x.names same names;
      numbers = finds_as _ _ x.numbers same numbers;
    }

-- words of which nothing is found
adds_past : (from to : BodyWalk) (n : ℕ) (groups : List rust.Members) (m : rust.Members) → Skips from to n
    → Adds (place from.word groups m) (place to.word groups m) n (λ k. []) (λ k. no_members)
adds_past from to n groups m x = record {
  groups = record { word = x.word; list = λ fits. sym (append-nil (map view_members groups)) };
  names = record { word = x.word; list = λ fits. sym (append-nil (map view_name_at m.names.items)) };
  numbers = record { word = x.word; list = λ fits. sym (append-nil (map view_number_at m.numbers.items)) };
}

-- an argument behind a comma
pub skips_other : (a b c d : BodyWalk) (x : tree.Argument) (xs : List tree.Argument) → Skips a b 1
    → Skips b c (length (spell_argument x)) → Skips c d (length (spell_others xs))
    → Skips a d (length (spell_others (x ∷ xs)))
skips_other a b c d x xs comma one rest =
    finds_as _ _ (finds_then comma (finds_then one rest))
    (long (length (spell_argument x)) (length (spell_others xs))
    ∙ ap suc (sym (length-append (spell_argument x) (spell_others xs)))) (λ k. refl)
  where
    long : (n m : ℕ) → 1 + (n + m) ≡ suc (n + m)
    long n m = omega arith

-- a name, or a number, that was added

stays : (w : ℕ) → w ≡ w + 0
stays w = omega arith

pub adds_name : (word : ℕ) (from to : rust.Members) (name : List ℕ)
    → map view_name_at to.names.items ≡ map view_name_at from.names.items
    ++ record { word = word; name = name } ∷ [] → to.numbers.items ≡ from.numbers.items
    → AddsName word from to name
adds_name word from to name names numbers groups = record {
  groups = record { word = λ fits. stays word; list = λ fits. sym (append-nil (map view_members groups)) };
  names = record { word = λ fits. stays word; list = λ fits. names };
  numbers = record {
    word = λ fits. stays word;
    list = λ fits. ap (map view_number_at) numbers ∙ sym (append-nil (map view_number_at from.numbers.items));
  };
}

pub adds_number : (word : ℕ) (from to : rust.Members) (text : List ℕ)
    → map view_number_at to.numbers.items ≡ map view_number_at from.numbers.items
    ++ record { word = word; text = text } ∷ [] → to.names.items ≡ from.names.items
    → AddsNumber word from to text
adds_number word from to text numbers names groups = record {
  groups = record { word = λ fits. stays word; list = λ fits. sym (append-nil (map view_members groups)) };
  names = record {
    word = λ fits. stays word;
    list = λ fits. ap (map view_name_at) names ∙ sym (append-nil (map view_name_at from.names.items));
  };
  numbers = record { word = λ fits. stays word; list = λ fits. numbers };
}

-- ---- procedures

procedure_long : (p : tree.Procedure)
    → length (spell_procedure p) ≡ length (spell_passed p.result)
    + suc (suc ((length (spell_passed p.first) + length (spell_others p.others)) + 4))
procedure_long p =
    length-append (spell_passed p.result)
    (_ ∷ _ ∷ ((spell_passed p.first ++ spell_others p.others) ++ _ ∷ _ ∷ _ ∷ _ ∷ []))
    ∙ ap (λ n. length (spell_passed p.result) + suc (suc n))
    (length-append (spell_passed p.first ++ spell_others p.others) (_ ∷ _ ∷ _ ∷ _ ∷ [])
    ∙ ap (λ n. n + 4) (length-append (spell_passed p.first) (spell_others p.others)))

pub adds_procedure : (a b c d : BodyWalk) (m n o : rust.Members) (p : tree.Procedure)
    → Skips a b (length (spell_passed p.result)) → AddsName b.word m n p.name
    → Skips b c (2 + (length (spell_passed p.first) + (length (spell_others p.others) + 2)))
    → AddsNumber c.word n o p.number → Skips c d 2 → AddsProcedure (place a.word [] m) (place d.word [] o) p
adds_procedure a b c d m n o p x name y number z =
    adds_as (adds_then (adds_past a b _ [] m x)
    (adds_then (name [])
    (adds_then (adds_past b c _ [] n y) (adds_then (number []) (adds_past c d _ [] o z)))))
    (long (length (spell_passed p.result)) (length (spell_passed p.first)) (length (spell_others p.others))
    ∙ sym (procedure_long p))
    (λ k. refl) (λ k. refl)
    (λ k. ap (λ w. record { word = w; text = p.number } ∷ [])
    (there k (length (spell_passed p.result)) (length (spell_passed p.first))
    (length (spell_others p.others))))
  where
    long : (r f o : ℕ) → r + (0 + ((2 + (f + (o + 2))) + (0 + 2))) ≡ r + suc (suc ((f + o) + 4))
    long r f o = omega arith

    there : (k r f o : ℕ) → ((k + r) + 0) + (2 + (f + (o + 2))) ≡ ((k + r) + 2) + (f + o) + 2
    there k r f o = omega arith

pub adds_procedures : {a b c : WalkState} (p : tree.Procedure) (ps : List tree.Procedure)
    → AddsProcedure a b p → AddsProcedures b c ps → AddsProcedures a c (p ∷ ps)
adds_procedures p ps x y = adds_as (adds_then x y)
    (sym (length-append (spell_procedure p) (spell_procedures ps))) (λ k. refl) (λ k. refl) (λ k. refl)

-- where nothing was found yet
place_start : (word : ℕ) (m : rust.Members) → m.names.items ≡ [] → m.numbers.items ≡ []
    → place word [] m ≡ start word
place_start word m names numbers =
    ap (λ l. record {
      word = word;
      groups = [];
      names = map view_name_at l;
      numbers = map view_number_at m.numbers.items;
    }) names
    ∙ ap (λ l. record { word = word; groups = []; names = []; numbers = map view_number_at l }) numbers

pub procedures_start : (word : ℕ) (m : rust.Members) (to : WalkState) (ps : List tree.Procedure)
    → m.names.items ≡ [] → m.numbers.items ≡ [] → AddsProcedures (place word [] m) to ps
    → AddsProcedures (start word) to ps
procedures_start word m to ps names numbers x =
    subst (λ a. AddsProcedures a to ps) (place_start word m names numbers) x

pub versions_start : (word : ℕ) (groups : List rust.Members) (m : rust.Members) (to : WalkState)
    (vs : List tree.Version) → groups ≡ [] → m.names.items ≡ [] → m.numbers.items ≡ []
    → AddsVersions (place word groups m) to vs
    → AddsVersions (start word) to vs
versions_start word groups m to vs none names numbers x =
    subst (λ a. AddsVersions a to vs) (ap (λ l. place word l m) none ∙ place_start word m names numbers) x

-- ---- versions

-- the members of a version, behind those of the versions before
adds_group : (from to : ℕ) (groups next : List rust.Members) (m own : rust.Members) (ps : List tree.Procedure)
    → AddsProcedures (start from) (place to [] own) ps → next ≡ groups ++ own ∷ []
    → Adds (place from groups m) (place to next m) (length (spell_procedures ps))
    (λ k. procedures_from k ps ∷ []) (λ k. no_members)
adds_group from to groups next m own ps x is = record {
  groups = record {
    word = x.names.word;
    list = λ fits. ap (map view_members) is ∙ map_append view_members groups (own ∷ [])
        ∙ ap (λ g. map view_members groups ++ g ∷ []) (same (x.names.list fits) (x.numbers.list fits));
  };
  names = record { word = x.names.word; list = λ fits. sym (append-nil (map view_name_at m.names.items)) };
  numbers = record {
    word = x.names.word;
    list = λ fits. sym (append-nil (map view_number_at m.numbers.items));
  };
}
  where
    same : map view_name_at own.names.items ≡ (procedures_from from ps).names
        → map view_number_at own.numbers.items ≡ (procedures_from from ps).numbers
        → view_members own ≡ procedures_from from ps
    same names numbers =
        ap (λ l. record { names = l; numbers = map view_number_at own.numbers.items }) names
        ∙ ap (λ l. record { names = (procedures_from from ps).names; numbers = l }) numbers

version_long : (v : tree.Version)
    → length (spell_version v) ≡ suc (suc (suc (length (spell_procedures v.procedures) + 4)))
version_long v = ap (λ n. suc (suc (suc n)))
    (length-append (spell_procedures v.procedures) (_ ∷ _ ∷ _ ∷ _ ∷ []))

pub adds_version : (a b c d e f : BodyWalk) (groups next : List rust.Members) (m n o own : rust.Members)
    (v : tree.Version) → Skips a b 1 → AddsName b.word m n v.name → Skips b c 2
    → AddsProcedures (start c.word) (place d.word [] own) v.procedures → next ≡ groups ++ own ∷ []
    → Skips d e 2 → AddsNumber e.word n o v.number → Skips e f 2
    → AddsVersion (place a.word groups m) (place f.word next o) v
adds_version a b c d e f groups next m n o own v x name y procedures is z number u to vs rest =
    adds_as (adds_then (adds_past a b _ groups m x)
    (adds_then (name groups) (adds_then (adds_past b c _ groups n y)
    (adds_then (adds_group c.word d.word groups next n own v.procedures procedures is)
    (adds_then (adds_past d e _ next n z)
    (adds_then (number next) (adds_then (adds_past e f _ next o u) rest)))))))
    (long p (length (spell_versions vs)) ∙ ap (λ j. j + length (spell_versions vs)) (sym (version_long v))
    ∙ sym (length-append (spell_version v) (spell_versions vs)))
    (λ k. ap (λ w. procedures_from w v.procedures ∷ procedure_lists (((((w + p) + 2) + 0) + 2)) vs) (third k)
    ∙ ap (λ w. procedures_from (k + 3) v.procedures ∷ procedure_lists w vs) (behind k p))
    (λ k. ap (λ w. record { word = k + 1; name = v.name }
    ∷ (versions_from (((((w + p) + 2) + 0) + 2)) vs).names) (third k)
    ∙ ap (λ w. record { word = k + 1; name = v.name } ∷ (versions_from w vs).names) (behind k p))
    (λ k. ap (λ w. record { word = (w + p) + 2; text = v.number }
    ∷ (versions_from (((((w + p) + 2) + 0) + 2)) vs).numbers) (third k)
    ∙ ap (λ w. record { word = ((k + 3) + p) + 2; text = v.number } ∷ (versions_from w vs).numbers)
    (behind k p))
  where
    p : ℕ
    p = length (spell_procedures v.procedures)

    long : (p r : ℕ) → 1 + (0 + (2 + (p + (2 + (0 + (2 + r)))))) ≡ suc (suc (suc (p + 4))) + r
    long p r = omega arith

    third : (k : ℕ) → ((k + 1) + 0) + 2 ≡ k + 3
    third k = omega arith

    behind : (k p : ℕ) → ((((k + 3) + p) + 2) + 0) + 2 ≡ (((k + 3) + p) + 2) + 2
    behind k p = omega arith

pub versions_all : (to : ℕ) (groups next : List rust.Members) (m : rust.Members) (vs : List tree.Version)
    → AddsVersions (start 3) (place to groups m) vs → next ≡ groups ++ m ∷ []
    → 3 + length (spell_versions vs) < 2 ^ 64
    → map view_members next ≡ procedure_lists 3 vs ++ versions_from 3 vs ∷ []
versions_all to groups next m vs x is fits =
    ap (map view_members) is ∙ map_append view_members groups (m ∷ [])
    ∙ ap (λ l. l ++ view_members m ∷ []) (x.groups.list fits)
    ∙ ap (λ g. procedure_lists 3 vs ++ g ∷ []) same
  where
    same : view_members m ≡ versions_from 3 vs
    same =
        ap (λ l. record { names = l; numbers = map view_number_at m.numbers.items }) (x.names.list fits)
        ∙ ap (λ l. record { names = (versions_from 3 vs).names; numbers = l }) (x.numbers.list fits)

-- a program has its name, three words with it, in front of its versions
pub versions_fit : (name : List ℕ) (vs : List tree.Version) (number : List ℕ)
    → IsShort (tree.Program name vs number) → 3 + length (spell_versions vs) < 2 ^ 64
versions_fit name vs number short = few (length (spell_versions vs))
    (subst (λ n. suc (suc (suc n)) < 2 ^ 64) (length-append (spell_versions vs) (_ ∷ _ ∷ _ ∷ _ ∷ [])) short)
  where
    few : (n : ℕ) → suc (suc (suc (n + 4))) < 2 ^ 64 → 3 + n < 2 ^ 64
    few n h = omega (arith, h)

pub skips_inline : (a b c : BodyWalk) (body : tree.Body) → Skips a b 1 → Skips b c (length (spell_body body))
    → Skips a c (length (spell_type (tree.Inline body)))
skips_inline a b c body x y = finds_as _ _ (finds_then x y) (long (length (spell_body body))) (λ k. refl)
  where
    long : (n : ℕ) → 1 + n ≡ suc n
    long n = omega arith

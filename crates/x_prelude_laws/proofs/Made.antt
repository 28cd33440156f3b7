-- A prelude behind a text that ends whole: it ends whole too, and declares what was lacking.
use Rattle.std.proofs.Common.{◌≡◌, ◌⊎◌, inl, inr, ℕ, ◌<◌, Bool, true, false, cond, List, [], ◌∷◌, ◌++◌, map}
use Rattle.std.proofs.Common.{length, Option, Some, is_some, arith, refl, sym, ap, subst, ◌∙◌}
use Rattle.std.specs.Prelude.{◌&&◌, codes, if◌then◌else◌, not}
use Rattle.std.specs.List.{IsAmong, enumerate_from, flat_map, list_all}
use Rattle.std.specs.Map.{lookup}
use Rattle.std.specs.Str.{bytes_eq}
use Rattle.std.proofs.lemmas.List.{append_assoc, map-append}
use Rattle.std.proofs.lemmas.Slice.Eq.{bytes_eq-Decides}
use Rattle.x_trees.specs.Spell.{spell}
use Rattle.x_trees.specs.Tree.{Definition}
use Rattle.x_trees.specs.Words.{Word}
use Rattle.x_trees.proofs.AmongLemmas.{among_cases, among_none, among_parts}
use Rattle.x_names.specs.Declarers.{first_declarer, is_beforehand}
use Rattle.x_rules.specs.Results.{KnownNames}
use Rattle.x_prelude.specs.CTypes.{c_type, c_types}
use Rattle.x_prelude.specs.Lacking.{Occurrence, first_of_each, first_tag, lacking, name_of}
use Rattle.x_prelude.specs.Prelude.{definition_of, foreign_text, is_type, lacks_name, prelude, type_text}
use Rattle.x_prelude.specs.declared.definition.FromC.{FromC}
use Rattle.x_prelude_laws.proofs.Distinct.{Distinct, distinct_both, distinct_by_test, first_distinct}
use Rattle.x_prelude_laws.proofs.Distinct.{numbered_names}
use Rattle.x_prelude_laws.proofs.Found.{DeclaredIn, in_front, in_rear}
use Rattle.x_prelude_laws.proofs.Lacks.{first_in, has_first, in_lacking, lacks_by, numbered, numbered_in}
use Rattle.x_prelude_laws.proofs.Lines.{IsName, is_longer, longer_is}
use Rattle.x_prelude_laws.proofs.Listed.{AreOf, ListedPart, MaySound, listed_part, not_empty, of_both}
use Rattle.x_prelude_laws.proofs.Rows.{type_line}
use Rattle.x_prelude_laws.proofs.SoundLines.{foreign_sound}
use Rattle.x_prelude_laws.proofs.Wholes.{Whole}

-- with `__` at its end a name is no plain one
abbrev pub IsPlain : List ℕ → Type 0
IsPlain name = (front : List ℕ) → name ≡ front ++ codes "__" → ⊥

-- ---- types of C

types_distinct : Distinct (map (λ e. e.0) c_types)
types_distinct = distinct_by_test (map (λ e. e.0) c_types) refl

passed : (p : List ℕ → Bool) (es : List (List ℕ × List ℕ)) (e : List ℕ × List ℕ)
    → list_all (λ r. not (p r.0)) es ≡ true → IsAmong es e → p e.0 ≡ false
passed p [] e all h = absurd (among_none e h)
passed p (r ∷ es) e all h =
    by (p r.0) (list_all (λ s. not (p s.0)) es) refl refl all (among_cases r e es h)
    (λ rest k. passed p es e rest k)
  where
    by : (x y : Bool) → p r.0 ≡ x → list_all (λ s. not (p s.0)) es ≡ y → (not x && y) ≡ true
        → (e ≡ r) ⊎ IsAmong es e → (list_all (λ s. not (p s.0)) es ≡ true → IsAmong es e → p e.0 ≡ false)
        → p e.0 ≡ false
    by true y f g both k next = absurd (cc)
    by false false f g both k next = absurd (cc)
    by false true f g both (inl same) next = ap (λ s. p s.0) same ∙ f
    by false true f g both (inr k) next = next g k

-- a type's name has a row
row_some : (es : List (List ℕ × List ℕ)) (e : List ℕ × List ℕ) → IsAmong es e
    → is_some (lookup (bytes_eq e.0) es) ≡ true
row_some [] e h = absurd (among_none e h)
row_some (r ∷ es) e h = by (bytes_eq e.0 r.0) refl (among_cases r e es h) (λ k. row_some es e k)
  where
    by : (b : Bool) → bytes_eq e.0 r.0 ≡ b → (e ≡ r) ⊎ IsAmong es e
        → (IsAmong es e → is_some (lookup (bytes_eq e.0) es) ≡ true)
        → is_some (cond b (Some r.1) (lookup (bytes_eq e.0) es)) ≡ true
    by true f k next = refl
    by false f (inl same) next =
        let g = (bytes_eq-Decides e.0 r.0).1 (ap (λ s. s.0) same) in absurd (cc)
    by false f (inr k) next = next k

may_type : (lacks : Bool) (e : List ℕ × List ℕ) → IsAmong c_types e → MaySound (type_text lacks e.1) e.0
may_type true e h = inr (type_line e h)
may_type false e h = inl refl

plain_type : (e : List ℕ × List ℕ) → IsAmong c_types e → IsPlain e.0
plain_type e h front same =
    let no = passed is_longer c_types e refl h in
    let yes = ap is_longer same ∙ longer_is front in
    (cc)

free_type : (e : List ℕ × List ℕ) → IsAmong c_types e → is_beforehand e.0 ≡ false
free_type e h = passed is_beforehand c_types e refl h

-- ---- other names

-- the line of a name, unless it is a type of C
may_foreign : (from : FromC) (all : List Occurrence) (number : ℕ) (o : Occurrence) → IsName (name_of o)
    → number < 4194304 → MaySound (definition_of from all number o) (name_of o)
may_foreign from all number o h few = by (is_type from (name_of o))
  where
    text : List ℕ
    text = foreign_text number (name_of o) o.mention.usage (first_tag (name_of o) all)

    by : (b : Bool) → MaySound (if b then [] else text) (name_of o)
    by true = inl refl
    by false = inr (foreign_sound number (name_of o) o.mention.usage (first_tag (name_of o) all) h few)

-- a name of which a line is made is no type that is taken
no_type_taken : (from : FromC) (all : List Occurrence) (number : ℕ) (o : Occurrence)
    → (definition_of from all number o ≡ [] → ⊥) → is_type from (name_of o) ≡ false
no_type_taken from all number o some = by (is_type from (name_of o)) refl
  where
    text : List ℕ
    text = foreign_text number (name_of o) o.mention.usage (first_tag (name_of o) all)

    by : (b : Bool) → is_type from (name_of o) ≡ b → b ≡ false
    by true e = absurd (some (ap (λ x. if x then [] else text) e))
    by false e = refl

-- ---- both

-- the prelude of these definitions, over what is known, behind a text that ends whole
pub record Made (from : FromC) (known : KnownNames) (ds : List (Option Definition)) (text : List ℕ)
    (all : List (List Word)) : Type 0 where
  pub definitions : List Definition
  pub names : List (List ℕ)
  pub whole : Whole (text ++ prelude from known ds) (all ++ map spell definitions)
  pub are : AreOf definitions names
  pub distinct : Distinct names
  pub free : (n : List ℕ) → IsAmong names n → is_beforehand n ≡ false
  pub plain : (from.foreign ≡ true → (o : Occurrence) → IsAmong (lacking known ds) o → IsPlain (name_of o))
      → (n : List ℕ) → IsAmong names n → IsPlain n
  pub types : from.types ≡ true → (e : List ℕ × List ℕ) → IsAmong c_types e → lacks_name known ds e.0 ≡ true
      → DeclaredIn (map spell definitions) e.0
  pub others : from.foreign ≡ true → (o : Occurrence) → IsAmong (lacking known ds) o
      → is_type from (name_of o) ≡ false
      → DeclaredIn (map spell definitions) (name_of o)

pub made : (from : FromC) (known : KnownNames) (ds : List (Option Definition)) (text : List ℕ)
    (all : List (List Word))
    → ((o : Occurrence) → IsAmong (lacking known ds) o → IsName (name_of o))
    → length (first_of_each (lacking known ds)) < 4194304 → Whole text all → Made from known ds text all
made from known ds text all is_name few w = record {
  definitions = first.definitions ++ second.definitions;
  names = first.names ++ second.names;
  whole = subst (λ l. Whole (text ++ prelude from known ds) (all ++ l)) (sym both_are)
      (subst (Whole (text ++ prelude from known ds)) (append_assoc all (map spell first.definitions)
      (map spell second.definitions))
      (subst (λ t. Whole t ((all ++ map spell first.definitions) ++ map spell second.definitions))
      (append_assoc text types others)
      second.whole));
  are = of_both first.definitions second.definitions first.names second.names first.are second.are;
  distinct = distinct_both first.names second.names (first.distinct types_distinct)
      (second.distinct (subst Distinct (sym (numbered_names 0 (first_of_each lacks)))
      (first_distinct lacks))) apart;
  free = λ n k. free n (among_parts first.names second.names n k);
  plain = λ each n k. plain each n (among_parts first.names second.names n k);
  types = λ there e h lack.
      in_all e.0 (inl (first.declares there e h
      (λ none. not_empty (codes "typedef " ++ e.1 ++ codes ";\n") e.0 (type_line e h)
      (sym (ap (λ b. type_text b e.1) lack) ∙ none))));
  others = λ there o h other. in_all (name_of o) (inr (declared there o h other));
}
  where
    lacks : List Occurrence
    lacks = lacking known ds

    type_line_of : List ℕ × List ℕ → List ℕ
    type_line_of e = type_text (lacks_name known ds e.0) e.1

    line_of : ℕ × Occurrence → List ℕ
    line_of e = definition_of from lacks e.0 e.1

    in_order : List (ℕ × Occurrence)
    in_order = enumerate_from 0 (first_of_each lacks)

    types : List ℕ
    types = if from.types then flat_map type_line_of c_types else []

    others : List ℕ
    others = if from.foreign then flat_map line_of in_order else []

    first : ListedPart from.types text all type_line_of (λ e. e.0) c_types
    first =
        listed_part from.types text all type_line_of (λ e. e.0) c_types
        (λ e there k. may_type (lacks_name known ds e.0) e k) w

    in_lacks : (e : ℕ × Occurrence) → IsAmong in_order e → IsAmong lacks e.1
    in_lacks e k = first_in lacks e.1 (numbered_in 0 (first_of_each lacks) e k).1

    small : (e : ℕ × Occurrence) → IsAmong in_order e → e.0 < 4194304
    small e k = let lt = (numbered_in 0 (first_of_each lacks) e k).0 in omega (arith, lt, few)

    second : ListedPart from.foreign (text ++ types) (all ++ map spell first.definitions) line_of
        (λ e. name_of e.1) in_order
    second =
        listed_part from.foreign (text ++ types) (all ++ map spell first.definitions) line_of
        (λ e. name_of e.1) in_order
        (λ e there k. may_foreign from lacks e.0 e.1 (is_name e.1 (in_lacks e k)) (small e k)) first.whole

    both_are : map spell (first.definitions ++ second.definitions) ≡ map spell first.definitions
        ++ map spell second.definitions
    both_are = map-append spell first.definitions second.definitions

    in_all : (n : List ℕ) → DeclaredIn (map spell first.definitions) n
        ⊎ DeclaredIn (map spell second.definitions) n
        → DeclaredIn (map spell (first.definitions ++ second.definitions)) n
    in_all n (inl d) =
        subst (λ l. DeclaredIn l n) (sym both_are) (in_front (map spell first.definitions)
        (map spell second.definitions) n d)
    in_all n (inr d) =
        subst (λ l. DeclaredIn l n) (sym both_are) (in_rear (map spell first.definitions)
        (map spell second.definitions) n d)

    apart : (n : List ℕ) → IsAmong first.names n → IsAmong second.names n → ⊥
    apart n j k =
        let row = first.origins n j in
        let other = second.origins n k in
        let no : is_type from n ≡ false =
        ap (is_type from) (sym other.named) ∙ no_type_taken from lacks other.one.0 other.one.1 other.some in
        let yes : is_type from n ≡ true =
        ap (λ b. b && is_some (c_type n)) (first.is_there n j)
        ∙ ap (λ m. is_some (c_type m)) (sym row.named) ∙ row_some c_types row.one row.among in
        (cc)

    plain : (from.foreign ≡ true → (o : Occurrence) → IsAmong lacks o → IsPlain (name_of o)) → (n : List ℕ)
        → IsAmong first.names n ⊎ IsAmong second.names n → IsPlain n
    plain each n (inl k) = let row = first.origins n k in subst IsPlain row.named
        (plain_type row.one row.among)
    plain each n (inr k) =
        let other = second.origins n k in
        subst IsPlain other.named (each (second.is_there n k) other.one.1 (in_lacks other.one other.among))

    free : (n : List ℕ) → IsAmong first.names n ⊎ IsAmong second.names n → is_beforehand n ≡ false
    free n (inl k) =
        let row = first.origins n k in ap is_beforehand (sym row.named) ∙ free_type row.one row.among
    free n (inr k) =
        let other = second.origins n k in
        ap is_beforehand (sym other.named)
        ∙ (lacks_by known (first_declarer ds) (name_of other.one.1)
        (in_lacking known ds other.one.1 (in_lacks other.one other.among)).1).free

    some_line : (number : ℕ) (o : Occurrence) → IsName (name_of o) → number < 4194304
        → is_type from (name_of o) ≡ false
        → definition_of from lacks number o ≡ [] → ⊥
    some_line number o h lt other e =
        let text = foreign_text number (name_of o) o.mention.usage (first_tag (name_of o) lacks) in
        not_empty text (name_of o)
        (foreign_sound number (name_of o) o.mention.usage (first_tag (name_of o) lacks) h lt)
        (sym (ap (λ b. if b then [] else text) other) ∙ e)

    declared : from.foreign ≡ true → (o : Occurrence) → IsAmong lacks o → is_type from (name_of o) ≡ false
        → DeclaredIn (map spell second.definitions) (name_of o)
    declared there o h other =
        let f = has_first lacks o h in
        let at = numbered 0 (first_of_each lacks) f.first f.among in
        let named : IsName (name_of f.first) = is_name f.first (first_in lacks f.first f.among) in
        let is_other : is_type from (name_of f.first) ≡ false = ap (is_type from) f.same ∙ other in
        subst (DeclaredIn (map spell second.definitions)) f.same
        (second.declares there (at.number, f.first) at.among
        (some_line at.number f.first named (small (at.number, f.first) at.among) is_other))

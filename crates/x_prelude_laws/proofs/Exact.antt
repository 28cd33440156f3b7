-- Where the results of two lists of definitions are those of one list, the second declares no name that the
-- first lacks.
use Rattle.std.proofs.Common.{◌≡◌, ◌⊎◌, inl, inr, ℕ, zero, suc, ◌+◌, Bool, true, false, cond, List, [], ◌∷◌}
use Rattle.std.proofs.Common.{◌++◌, map, Option, Some, None, is_some, length, arith, refl, sym, ap, subst}
use Rattle.std.proofs.Common.{◌∙◌}
use Rattle.std.specs.Prelude.{◌↔◌, nat_lt, option_map, slice_get}
use Rattle.std.specs.Option.{option_or}
use Rattle.std.specs.List.{IsAmong}
use Rattle.std.proofs.lemmas.Option.{same_Some}
use Rattle.x_lex.specs.declared.kind.Kind.{Kind}
use Rattle.x_trees.specs.Tree.{Definition}
use Rattle.x_trees.specs.Gloss as gloss
use Rattle.x_trees.specs.Gloss.{Gloss, Mentions, Role, told_of}
use Rattle.x_trees.specs.Mentions.{Mention, mentioned, mentioned_at}
use Rattle.x_trees.specs.Seen.{names_of}
use Rattle.x_trees.specs.Spell.{spell}
use Rattle.x_trees.specs.Words.{Name, Word}
use Rattle.x_trees.specs.declared.names.declared_name.NameKind.TheVariants as kinds
use Rattle.x_trees.proofs.AmongLemmas.{among_cases, among_none, among_parts}
use Rattle.x_trees.proofs.GlossLemmas.{words, words_gloss}
use Rattle.x_names.specs.Declarers.{first_declarer, first_from, is_beforehand}
use Rattle.x_names.specs.declared.names.Declarer.{Declarer}
use Rattle.x_outline.specs.Bodies.{enumerators}
use Rattle.x_rules.specs.Constants.{is_declared_before, limit_of}
use Rattle.x_rules.specs.Mentioned.{is_unknown}
use Rattle.x_rules.specs.Results.{AreResults, AreResultsFrom, IsOutcome, KnownNames, Outcome}
use Rattle.x_rules.specs.Results.{beforehand_meaning, meaning_at, no_names, result_at, view_by, view_of}
use Rattle.x_rules.specs.Rules.{HasMentionFault}
use Rattle.x_rules.specs.Views.{View, Earlier, Later, Own, seen}
use Rattle.x_rules.specs.declared.fault.RuleCode.TheVariants as rules
use Rattle.x_compile.specs.Compile.{IsCompilation, Item, definitions_of}
use Rattle.x_compile.specs.Known.{KnownText, known_definitions}
use Rattle.x_session.specs.Typed.{all_definitions}
use Rattle.x_prelude.specs.Before.{IsKnownOf}
use Rattle.x_prelude.specs.Lacking.{Occurrence, lacking, name_of}
use Rattle.x_prelude_laws.specs.Over.{DeclareNoneLacking}
use Rattle.x_prelude_laws.proofs.Firsts.{first_of_both, later}
use Rattle.x_prelude_laws.proofs.Lacks.{in_lacking, lacks_by, occurs_in}
use Rattle.x_prelude_laws.proofs.Named.{AreNamed, IsNamed, among_map, named_gloss, names_in, names_told}
use Rattle.x_prelude_laws.proofs.Nothing.{all_of}
use Rattle.x_prelude_laws.proofs.Over.{both_apart, known_apart, own_results, use_unknown}
use Rattle.x_prelude_laws.proofs.Unknown.{unknown_use, view_mentioned}

-- ---- a word mentions one name

own_place : (at : ℕ) (roles : List Role) (m : Mention) → IsAmong (mentioned_at at roles) m → m.word ≡ at
own_place at [] m h = absurd (among_none m h)
own_place at (Mentions name usage tag ∷ roles) m h =
    by (among_cases (record { name = name; word = at; usage = usage; tag = tag }) m (mentioned_at at roles) h)
    (λ k. own_place at roles m k)
  where
    by : (m ≡ record { name = name; word = at; usage = usage; tag = tag }) ⊎ IsAmong (mentioned_at at roles) m
        → (IsAmong (mentioned_at at roles) m → m.word ≡ at) → m.word ≡ at
    by (inl same) next = ap (λ x. x.word) same
    by (inr k) next = next k
own_place at (role ∷ roles) m h = own_place at roles m h

own_name : (at : ℕ) (g : Gloss) (m : Mention) → IsNamed g → IsAmong (mentioned_at at g.roles) m
    → g.word ≡ Name m.name
own_name at g m named h = by named
  where
    among : IsAmong (names_in g.roles) m.name
    among = subst (λ l. IsAmong l m.name) (names_told at g.roles)
        (among_map (λ (x : Mention). x.name) (mentioned_at at g.roles) m h)

    one : (name : List ℕ) → (m.name ≡ name) ⊎ IsAmong [] m.name → m.name ≡ name
    one name (inl e) = e
    one name (inr j) = absurd (among_none m.name j)

    by : IsNamed g → g.word ≡ Name m.name
    by (inl none) = absurd (among_none m.name (subst (λ l. IsAmong l m.name) none among))
    by (inr (name, word, only)) =
        let same = one name (among_cases name m.name [] (subst (λ l. IsAmong l m.name) only among)) in
        word ∙ ap Name (sym same)

-- the name stands at its word
record StandsAt (at : ℕ) (gs : List Gloss) (m : Mention) : Type 0 where
  index : ℕ
  word_is : m.word ≡ at + index
  is : slice_get (words gs) index ≡ Some (Name m.name)

stands_at : (at : ℕ) (gs : List Gloss) (m : Mention) → AreNamed gs → IsAmong (told_of mentioned_at at gs) m
    → StandsAt at gs m
stands_at at [] m named h = absurd (among_none m h)
stands_at at (g ∷ gs) m named h =
    by (among_parts (mentioned_at at g.roles) (told_of mentioned_at (at + 1) gs) m h)
    (λ j. stands_at (at + 1) gs m named.1 j)
  where
    by : IsAmong (mentioned_at at g.roles) m ⊎ IsAmong (told_of mentioned_at (at + 1) gs) m
        → (IsAmong (told_of mentioned_at (at + 1) gs) m → StandsAt (at + 1) gs m) → StandsAt at (g ∷ gs) m
    by (inl j) next =
        let place = own_place at g.roles m j in
        record { index = 0; word_is = omega (arith, place); is = ap Some (own_name at g m named.0 j) }
    by (inr j) next =
        let rest = next j in
        let place = rest.word_is in
        record { index = suc rest.index; word_is = omega (arith, place); is = rest.is }

pub named_at : (d : Definition) (m : Mention) → IsAmong (mentioned d) m
    → slice_get (spell d) m.word ≡ Some (Name m.name)
named_at d m h =
    let at = stands_at 0 (gloss.gloss d) m (named_gloss d) h in
    let place = at.word_is in
    let same : m.word ≡ at.index = omega (arith, place) in
    ap (slice_get (spell d)) same ∙ ap (λ ws. slice_get ws at.index) (sym (words_gloss d)) ∙ at.is

abbrev name_or : List ℕ → Word → List ℕ
name_or other (Name name) = name
name_or other word = other

one_name : (d : Definition) (m n : Mention) → IsAmong (mentioned d) m → IsAmong (mentioned d) n
    → m.word ≡ n.word → m.name ≡ n.name
one_name d m n h k same =
    let word = same_Some (Name m.name) (Name n.name) (sym (named_at d m h) ∙ ap (slice_get (spell d)) same
    ∙ named_at d n k) in
    ap (name_or []) word

-- ---- what checking an item gives

record HasOutcome (see : ℕ → List ℕ → View) (item index : ℕ) (d : Definition)
    (os : List (Option Outcome)) : Type 0 where
  one : Outcome
  is : slice_get os index ≡ Some (Some one)
  of : IsOutcome d (map (see (item + index)) (names_of d)) one

outcome_at : (known : KnownNames) (all : List (Option Definition)) (read : ℕ → Option Outcome)
    (item index : ℕ) (d : Definition) (ds : List (Option Definition)) (os : List (Option Outcome))
    → AreResultsFrom known all read item ds os → slice_get ds index ≡ Some (Some d)
    → HasOutcome (view_by known all read) item index d os
outcome_at known all read item index d [] os h is = absurd (cc)
outcome_at known all read item index d (x ∷ ds) [] h is = absurd h
outcome_at known all read item zero d (None ∷ ds) (o ∷ os) h is = absurd (cc)
outcome_at known all read item zero d (Some e ∷ ds) (None ∷ os) h is = absurd h.0
outcome_at known all read item zero d (Some e ∷ ds) (Some o ∷ os) h is =
    let same : e ≡ d = cc in
    let at : item ≡ item + 0 = omega arith in
    record {
      one = o;
      is = refl;
      of = subst (λ n. IsOutcome d (map (view_by known all read n) (names_of d)) o) at
          (subst (λ x. IsOutcome x (map (view_by known all read item) (names_of x)) o) same h.0);
    }
outcome_at known all read item (suc index) d (x ∷ ds) (o ∷ os) h is =
    let rest = outcome_at known all read (suc item) index d ds os h.1 is in
    let at : suc item + index ≡ item + suc index = omega arith in
    record {
      one = rest.one;
      is = rest.is;
      of = subst (λ n. IsOutcome d (map (view_by known all read n) (names_of d)) rest.one) at rest.of;
    }

get_front : {X : Type 0} (xs ys : List X) (k : ℕ) (x : X) → slice_get xs k ≡ Some x
    → slice_get (xs ++ ys) k ≡ Some x
get_front [] ys k x h = absurd (cc)
get_front (y ∷ xs) ys zero x h = h
get_front (y ∷ xs) ys (suc k) x h = get_front xs ys k x h

-- ---- undeclared names

-- a name without a declarer is unknown
none_unknown : (ds : List (Option Definition)) (read : ℕ → Option Outcome) (item : ℕ) (name : List ℕ)
    → is_beforehand name ≡ false → is_some (first_declarer ds name) ≡ false
    → is_unknown (view_by no_names ds read item name) ≡ true
none_unknown ds read item name free none =
    ap (λ b. is_unknown (cond b (Earlier kinds.Constant false (beforehand_meaning name))
    (view_of read item (first_declarer ds name)))) free
    ∙ by (first_declarer ds name) none
  where
    by : (o : Option Declarer) → is_some o ≡ false → is_unknown (view_of read item o) ≡ true
    by None e = refl
    by (Some at) e = absurd (cc)

-- and an unknown one has none
unknown_none : (ds : List (Option Definition)) (read : ℕ → Option Outcome) (item : ℕ) (name : List ℕ)
    → is_beforehand name ≡ false → is_unknown (view_by no_names ds read item name) ≡ true
    → first_from 0 ds name ≡ None
unknown_none ds read item name free unknown =
    by (first_from 0 ds name)
    (sym (ap (λ b. is_unknown (cond b (Earlier kinds.Constant false (beforehand_meaning name))
    (view_of read item (cond b None (first_from 0 ds name))))) free) ∙ unknown)
  where
    of_three : (a b : Bool) (x y z : View) → is_unknown x ≡ false → is_unknown y ≡ false
        → is_unknown z ≡ false → is_unknown (cond a x (cond b y z)) ≡ false
    of_three true b x y z p q r = p
    of_three false true x y z p q r = q
    of_three false false x y z p q r = r

    by : (o : Option Declarer) → is_unknown (view_of read item o) ≡ true → o ≡ None
    by None e = refl
    by (Some at) e =
        let known = of_three (nat_lt at.item item) (nat_lt item at.item)
        (Earlier at.kind at.lifted (meaning_at read at)) (Later at.kind at.lifted) (Own at.kind at.lifted)
        refl refl refl in
        absurd (cc)

-- no name that is not declared in both is declared in the second
second_none : (o p : Option Declarer) (n : ℕ) → option_or o (option_map (later n) p) ≡ None → p ≡ None
second_none None None n e = refl
second_none None (Some at) n e = absurd (cc)
second_none (Some x) p n e = absurd (cc)

-- ---- both

-- a use that has the fault of an undeclared name alone, and in one list with others
unknown_in_both : (d : Definition) (m : Mention) (see saw : List ℕ → View) (o : Outcome)
    → IsAmong (mentioned d) m → IsOutcome d (map see (names_of d)) o → IsOutcome d (map saw (names_of d)) o
    → is_unknown (see m.name) ≡ true → is_unknown (saw m.name) ≡ true
unknown_in_both d m see saw o among alone both unknown =
    by (both.are_faults.are_faults (record { word = m.word; code = rules.Unknown })
    (alone.are_faults.are_all m.word rules.Unknown fault))
  where
    views : List ℕ → View
    views = seen d (map see (names_of d))

    others : List ℕ → View
    others = seen d (map saw (names_of d))

    fault : HasMentionFault (mentioned d) views (enumerators d) rules.Unknown m.word
    fault = record {
      mention = m;
      among = among;
      word_is = refl;
      fault = use_unknown (views m.name) (is_declared_before (enumerators d) (limit_of m.word) m.name) m
          (ap is_unknown (view_mentioned d see m among) ∙ unknown);
    }

    by : HasMentionFault (mentioned d) others (enumerators d) rules.Unknown m.word
        → is_unknown (saw m.name) ≡ true
    by h =
        let other = unknown_use (others h.mention.name)
        (is_declared_before (enumerators d) (limit_of h.mention.word) h.mention.name) h.mention h.fault in
        let name = one_name d m h.mention among h.among h.word_is in
        ap (λ n. is_unknown (saw n)) name ∙ ap is_unknown (sym (view_mentioned d saw h.mention h.among))
        ∙ other

pub declare_none : (ds es : List (Option Definition)) (os ps : List (Option Outcome))
    → AreResults no_names ds os → AreResults no_names (ds ++ es) (os ++ ps) → DeclareNoneLacking ds es
declare_none ds es os ps h k =
    all_of (λ (o : Occurrence). first_declarer es (name_of o) ≡ None) (lacking no_names ds) each
  where
    each : (o : Occurrence) → IsAmong (lacking no_names ds) o → first_declarer es (name_of o) ≡ None
    each o among =
        let parts = in_lacking no_names ds o among in
        let lacks = lacks_by no_names (first_declarer ds) (name_of o) parts.1 in
        let at = occurs_in 0 ds o parts.0 in
        let alone = outcome_at no_names ds (result_at os) 0 at.index at.definition ds os h at.is in
        let both = outcome_at no_names (ds ++ es) (result_at (os ++ ps)) 0 at.index at.definition
        (ds ++ es) (os ++ ps) k (get_front ds es at.index (Some at.definition) at.is) in
        let same : both.one ≡ alone.one = same_Some both.one alone.one
        (same_Some (Some both.one) (Some alone.one)
        (sym both.is ∙ get_front os ps at.index (Some alone.one) alone.is)) in
        let unknown = unknown_in_both at.definition o.mention
        (view_by no_names ds (result_at os) (0 + at.index))
        (view_by no_names (ds ++ es) (result_at (os ++ ps)) (0 + at.index)) alone.one at.among alone.of
        (subst (IsOutcome at.definition (map (view_by no_names (ds ++ es) (result_at (os ++ ps))
        (0 + at.index)) (names_of at.definition))) same both.of)
        (none_unknown ds (result_at os) (0 + at.index) (name_of o) lacks.free lacks.undeclared) in
        let none = unknown_none (ds ++ es) (result_at (os ++ ps)) (0 + at.index) (name_of o) lacks.free
        unknown in
        let behind = second_none (first_from 0 ds (name_of o)) (first_from 0 es (name_of o)) (length ds)
        (sym (first_of_both ds es (name_of o)) ∙ none) in
        ap (λ b. cond b None (first_from 0 es (name_of o))) lacks.free ∙ behind

-- ---- the laws

pub both_exactly : (before text : List ℕ) (known : KnownText) (tokens : List (Kind × ℕ)) (items : List Item)
    → IsKnownOf before known → IsCompilation known text tokens items
    → AreResults no_names (all_definitions known items) (known.outcomes ++ map (λ i. i.result) items)
    ↔ DeclareNoneLacking (known_definitions known) (definitions_of items)
both_exactly before text known tokens items is h = (
  λ k. declare_none (known_definitions known) (definitions_of items) known.outcomes
      (map (λ i. i.result) items) (own_results before known is) k,
  λ none. both_apart before text known tokens items is none h,
)

pub known_exactly : (before : List ℕ) (known : KnownText) (behind : List (Option Definition))
    (results : List (Option Outcome)) → IsKnownOf before known
    → AreResults no_names (known_definitions known ++ behind) results
    → ((others : List (Option Outcome)) × (results ≡ known.outcomes ++ others))
    ↔ DeclareNoneLacking (known_definitions known) behind
known_exactly before known behind results is h = (
  λ k. declare_none (known_definitions known) behind known.outcomes k.0 (own_results before known is)
      (subst (AreResults no_names (known_definitions known ++ behind)) k.1 h),
  λ none. known_apart before known behind results is none h,
)

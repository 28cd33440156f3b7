-- A text over a known one has the items that it has where both are one text.
use Rattle.std.proofs.Common.{◌≡◌, ◌≢◌, ℕ, zero, suc, ◌+◌, ◌-◌, false, cond, List, [], ◌∷◌, ◌++◌, map, length}
use Rattle.std.proofs.Common.{Option, Some, None, arith, refl, sym, ap, subst, ◌∙◌}
use Rattle.std.specs.Prelude.{◌↔◌, option_map}
use Rattle.std.specs.Option.{option_or}
use Rattle.std.specs.List.{All}
use Rattle.std.proofs.lemmas.List.Elements.{All-nil}
use Rattle.std.proofs.lemmas.List.{length_push, take_at}
use Rattle.x_lex.specs.declared.kind.Kind.{Kind}
use Rattle.x_trees.specs.Tree.{Definition}
use Rattle.x_trees.specs.Words.{Word, words_of}
use Rattle.x_item.specs.Parse.{Nothing}
use Rattle.x_trees.specs.declared.names.declared_name.NameKind.TheVariants as kinds
use Rattle.x_names.specs.Declarers.{declarer_in, first_declarer, first_from, is_beforehand}
use Rattle.x_rules.specs.Results.{AreResults, AreResultsFrom, KnownNames, Outcome, beforehand_meaning}
use Rattle.x_rules.specs.Results.{meaning_at, no_names, result_at, view_by, view_of}
use Rattle.x_rules.specs.Views.{Earlier}
use Rattle.x_rules.proofs.ResultLaws.{one_results}
use Rattle.x_compile.specs.Compile.{AreParses, IsCompilation, Item, definitions_of, parsed_definition}
use Rattle.x_compile.specs.Known.{KnownText, known_definitions, names_known, nothing_known}
use Rattle.x_compile.proofs.Compiled.{one_compilation}
use Rattle.x_session.specs.Typed.{IsKnownBy}
use Rattle.x_prelude.specs.Before.{IsKnownOf}
use Rattle.x_prelude.specs.Lacking.{Occurrence, are_lacking, lacking, name_of, occurrences_from}
use Rattle.x_prelude.specs.Lacking.{occurrences_in}
use Rattle.x_prelude_laws.specs.AsOne.{but_last}
use Rattle.x_prelude_laws.specs.Over.{DeclareNoneLacking, IsFaultless}
use Rattle.x_prelude_laws.specs.Wholes.{EndsWhole}
use Rattle.x_prelude_laws.proofs.Exact.{declare_none}
use Rattle.x_prelude_laws.proofs.Found.{alike, item_words, same_by_words, same_definitions, words_are}
use Rattle.x_prelude_laws.proofs.Joined.{SeeAlike, joined, same_results}
use Rattle.x_prelude_laws.proofs.Joint.{AreBoth, are_both}
use Rattle.x_prelude_laws.proofs.Over.{apart, none_behind, nothing_named, own_results}
use Rattle.x_prelude_laws.proofs.Wholes.{whole_from, words_before}

-- ---- the definitions of both

-- those of the first text, but for the last, stand before those of the second
pub record GoOn {X : Type 0} (first second both : List (Option X)) : Type 0 where
  pub front : List (Option X)
  pub first_are : first ≡ front ++ None ∷ []
  pub both_are : both ≡ front ++ second

definitions_go_on : (ws : List (List Word)) (ks is all : List Item) → item_words ks ≡ ws ++ [] ∷ []
    → item_words all ≡ ws ++ item_words is → AreParses ks → AreParses is → AreParses all
    → GoOn (definitions_of ks) (definitions_of is) (definitions_of all)
definitions_go_on [] [] is all e f h k l = absurd (cc)
definitions_go_on [] (x ∷ y ∷ ks) is all e f h k l = absurd (cc)
definitions_go_on [] (x ∷ []) is all e f h k l =
    let none : words_of x.tokens ≡ [] = cc in
    let last : parsed_definition x.parse ≡ None = alike x.tokens [] x.parse Nothing none h.0 refl in
    record {
      front = [];
      first_are = ap (λ o. o ∷ []) last;
      both_are = same_by_words all is f l k;
    }
definitions_go_on (w ∷ ws) [] is all e f h k l = absurd (cc)
definitions_go_on (w ∷ ws) (x ∷ ks) is [] e f h k l = absurd (cc)
definitions_go_on (w ∷ ws) (x ∷ ks) is (a ∷ all) e f h k l =
    let own : words_of x.tokens ≡ w = cc in
    let other : words_of a.tokens ≡ w = cc in
    let rest : item_words ks ≡ ws ++ [] ∷ [] = cc in
    let others : item_words all ≡ ws ++ item_words is = cc in
    let next = definitions_go_on ws ks is all rest others h.1 k l.1 in
    let same = alike a.tokens x.tokens a.parse x.parse (other ∙ sym own) l.0 h.0 in
    let first = next.first_are in
    let both = next.both_are in
    record {
      front = parsed_definition x.parse ∷ next.front;
      first_are = λ n. parsed_definition x.parse ∷ first n;
      both_are = λ n. same n ∷ both n;
    }

-- the last of more than none
cut_last : {X : Type 0} (front : List X) (x : X) → but_last (front ++ x ∷ []) ≡ front
cut_last front x =
    let many : length front ≡ length (front ++ x ∷ []) - 1 = omega (arith, length_push front x) in
    take_at front (x ∷ []) (length (front ++ x ∷ []) - 1) many

pub go_on_cut : {X : Type 0} (first second both : List (Option X)) → GoOn first second both
    → both ≡ but_last first ++ second
go_on_cut first second both h =
    h.both_are ∙ ap (λ l. l ++ second) (sym (ap but_last h.first_are ∙ cut_last h.front None))

-- ---- known texts

last_none : (ws : List (List Word)) (ks : List Item) → item_words ks ≡ ws ++ [] ∷ [] → AreParses ks
    → (front : List (Option Definition)) × (definitions_of ks ≡ front ++ None ∷ [])
last_none [] [] e h = absurd (cc)
last_none [] (x ∷ y ∷ ks) e h = absurd (cc)
last_none [] (x ∷ []) e h =
    let none : words_of x.tokens ≡ [] = cc in
    let last : parsed_definition x.parse ≡ None = alike x.tokens [] x.parse Nothing none h.0 refl in
    ([], ap (λ o. o ∷ []) last)
last_none (w ∷ ws) [] e h = absurd (cc)
last_none (w ∷ ws) (x ∷ ks) e h =
    let rest : item_words ks ≡ ws ++ [] ∷ [] = cc in
    let next = last_none ws ks rest h.1 in
    let first = next.1 in
    (parsed_definition x.parse ∷ next.0, λ n. parsed_definition x.parse ∷ first n)

-- the compilation of a known text that is not empty, with that of both
pub record OverKnown (before : List ℕ) (known : KnownText) (items all : List Item) : Type 0 where
  pub ws : List (List Word)
  pub own_tokens : List (Kind × ℕ)
  pub own : List Item
  pub compiled : IsCompilation nothing_known before own_tokens own
  pub both : AreBoth (length before) ws own items all
  pub is : IsKnownBy own known
  pub goes_on : GoOn (known_definitions known) (definitions_of items) (definitions_of all)

pub over_known : (b : ℕ) (bs text : List ℕ) (known : KnownText) (tokens all_tokens : List (Kind × ℕ))
    (items all : List Item) → EndsWhole (b ∷ bs) → IsKnownOf (b ∷ bs) known
    → IsCompilation known text tokens items → IsCompilation nothing_known ((b ∷ bs) ++ text) all_tokens all
    → OverKnown (b ∷ bs) known items all
over_known b bs text known tokens all_tokens items all ends (own_tokens, own, compiled, is) h k = record {
  ws = ws;
  own_tokens = own_tokens;
  own = own;
  compiled = compiled;
  both = both;
  is = is;
  goes_on = subst (λ ds. GoOn ds (definitions_of items) (definitions_of all)) (sym is.definitions)
      (definitions_go_on ws own items all both.own_words both.all_words compiled.are_parses h.are_parses
      k.are_parses);
}
  where
    ws : List (List Word)
    ws = words_before (b ∷ bs) ends

    both : AreBoth (length (b ∷ bs)) ws own items all
    both = are_both nothing_known known nothing_known (b ∷ bs) text ws own_tokens tokens all_tokens own items
        all (whole_from (b ∷ bs) ends) compiled h k

pub definitions_as_one : (before text : List ℕ) (known : KnownText) (tokens all_tokens : List (Kind × ℕ))
    (items all : List Item) → EndsWhole before → IsKnownOf before known
    → IsCompilation known text tokens items → IsCompilation nothing_known (before ++ text) all_tokens all
    → definitions_of all ≡ but_last (known_definitions known) ++ definitions_of items
definitions_as_one [] text known tokens all_tokens items all ends is h k =
    same_definitions nothing_known known text all_tokens tokens all items k h
    ∙ ap (λ (o : KnownText). but_last (known_definitions o) ++ definitions_of items) (sym is)
definitions_as_one (b ∷ bs) text known tokens all_tokens items all ends is h k =
    go_on_cut (known_definitions known) (definitions_of items) (definitions_of all)
    (over_known b bs text known tokens all_tokens items all ends is h k).goes_on

-- the results of items of which the last has no definition
record Pushed (known : KnownNames) (all : List (Option Definition)) (read : ℕ → Option Outcome) (item : ℕ)
    (ds : List (Option Definition)) (os : List (Option Outcome)) : Type 0 where
  front : List (Option Outcome)
  are : os ≡ front ++ None ∷ []
  of : AreResultsFrom known all read item ds front

none_pushed : (known : KnownNames) (all : List (Option Definition)) (read : ℕ → Option Outcome) (item : ℕ)
    (ds : List (Option Definition)) (os : List (Option Outcome))
    → AreResultsFrom known all read item (ds ++ None ∷ []) os → Pushed known all read item ds os
none_pushed known all read item [] [] h = absurd h
none_pushed known all read item [] (None ∷ []) h = record { front = []; are = refl; of = tt }
none_pushed known all read item [] (None ∷ o ∷ os) h = absurd h.1
none_pushed known all read item [] (Some o ∷ os) h = absurd h.0
none_pushed known all read item (d ∷ ds) [] h = absurd h
none_pushed known all read item (d ∷ ds) (o ∷ os) h =
    let rest = none_pushed known all read (suc item) ds os h.1 in
    record { front = o ∷ rest.front; are = ap (λ l. o ∷ l) rest.are; of = (h.0, rest.of) }

-- the definitions of a known text that is not empty end with none
own_front : (b : ℕ) (bs : List ℕ) (known : KnownText) → EndsWhole (b ∷ bs) → IsKnownOf (b ∷ bs) known
    → (front : List (Option Definition)) × (known_definitions known ≡ front ++ None ∷ [])
own_front b bs known ends (own_tokens, own, compiled, is) =
    let ws = words_before (b ∷ bs) ends in
    let own_words = words_are nothing_known (b ∷ bs) ws own_tokens own (whole_from (b ∷ bs) ends) compiled in
    let front = last_none ws own own_words compiled.are_parses in
    (front.0, is.definitions ∙ front.1)

-- what is left out defines nothing
pub last_as_one : (before : List ℕ) (known : KnownText) → EndsWhole before → IsKnownOf before known
    → before ≢ [] → (known_definitions known ≡ but_last (known_definitions known) ++ None ∷ [])
    × (known.outcomes ≡ but_last known.outcomes ++ None ∷ [])
last_as_one [] known ends is some = absurd (some refl)
last_as_one (b ∷ bs) known ends is some =
    let own = own_front b bs known ends is in
    let pushed = none_pushed no_names (known_definitions known) (result_at known.outcomes) 0 own.0
    known.outcomes (subst (λ ds. AreResultsFrom no_names (known_definitions known)
    (result_at known.outcomes) 0 ds known.outcomes) own.1 (own_results (b ∷ bs) known is)) in (
      own.1 ∙ ap (λ l. l ++ None ∷ []) (sym (ap but_last own.1 ∙ cut_last own.0 None)),
      pushed.are ∙ ap (λ l. l ++ None ∷ []) (sym (ap but_last pushed.are ∙ cut_last pushed.front None)),
    )

-- ---- the results of both

declarer_push : (n : ℕ) (ds : List (Option Definition)) (name : List ℕ)
    → first_from n (ds ++ None ∷ []) name ≡ first_from n ds name
declarer_push n [] name = refl
declarer_push n (d ∷ ds) name = ap (option_or (declarer_in n name d)) (declarer_push (suc n) ds name)

first_push : (ds : List (Option Definition)) (name : List ℕ)
    → first_declarer (ds ++ None ∷ []) name ≡ first_declarer ds name
first_push ds name = ap (λ o. cond (is_beforehand name) None o) (declarer_push 0 ds name)

result_push : (os : List (Option Outcome)) (k : ℕ) → result_at (os ++ None ∷ []) k ≡ result_at os k
result_push [] zero = refl
result_push [] (suc k) = refl
result_push (o ∷ os) zero = refl
result_push (o ∷ os) (suc k) = result_push os k

names_push : (ds : List (Option Definition)) (os : List (Option Outcome))
    → names_known (ds ++ None ∷ []) (result_at (os ++ None ∷ [])) ≡ names_known ds (result_at os)
names_push ds os i name =
    option_map (λ at. Earlier at.kind at.lifted (meaning_at (λ k. result_push os k i) at))
    (first_push ds name i)

view_push : (ds : List (Option Definition)) (os : List (Option Outcome)) (item : ℕ) (name : List ℕ)
    → view_by no_names (ds ++ None ∷ []) (result_at (os ++ None ∷ [])) item name
    ≡ view_by no_names ds (result_at os) item name
view_push ds os item name i =
    cond (is_beforehand name) (Earlier kinds.Constant false (beforehand_meaning name))
    (view_of (λ k. result_push os k i) item (first_push ds name i))

-- the results without that of the empty item
pub results_cut : (ds : List (Option Definition)) (os : List (Option Outcome))
    → AreResultsFrom no_names (ds ++ None ∷ []) (result_at (os ++ None ∷ [])) 0 ds os
    → AreResults no_names ds os
results_cut ds os h =
    same_results no_names no_names (ds ++ None ∷ []) ds (result_at (os ++ None ∷ [])) (result_at os) 0 0 ds os
    alike_views h
  where
    alike_views : SeeAlike (view_by no_names (ds ++ None ∷ []) (result_at (os ++ None ∷ [])))
        (view_by no_names ds (result_at os)) 0 0 ds
    alike_views index d name is among =
        let at : 0 + index ≡ 0 + (0 + index) = omega arith in
        view_push ds os (0 + index) name ∙ ap (λ j. view_by no_names ds (result_at os) j name) at

-- a list without a declarer more lacks the same names
occurrences_push : (n : ℕ) (ds : List (Option Definition))
    → occurrences_from n (ds ++ None ∷ []) ≡ occurrences_from n ds
occurrences_push n [] = refl
occurrences_push n (d ∷ ds) = ap (λ l. occurrences_in n d ++ l) (occurrences_push (suc n) ds)

lacking_push : (ds : List (Option Definition)) → lacking no_names (ds ++ None ∷ []) ≡ lacking no_names ds
lacking_push ds i = are_lacking no_names (λ name. first_push ds name i) (occurrences_push 0 ds i)

-- both by lists: the known ones, those of the text, and those of both as one
record BothLists (kd : List (Option Definition)) (ko : List (Option Outcome)) (es : List (Option Definition))
    (ps : List (Option Outcome)) (all : List (Option Definition)) (rs : List (Option Outcome)) : Type 0 where
  front : List (Option Definition)
  known_are : kd ≡ front ++ None ∷ []
  all_are : all ≡ front ++ es
  own : AreResults no_names kd ko
  text : AreResults (names_known kd (result_at ko)) es ps
  both : AreResults no_names all rs

results_push : (kd : List (Option Definition)) (ko : List (Option Outcome)) (es : List (Option Definition))
    (ps : List (Option Outcome)) (all : List (Option Definition)) (rs : List (Option Outcome))
    → BothLists kd ko es ps all rs → (rs ≡ but_last ko ++ ps) ↔ DeclareNoneLacking kd es
results_push kd ko es ps all rs h = (there, back)
  where
    ds : List (Option Definition)
    ds = h.front

    pushed : Pushed no_names kd (result_at ko) 0 ds ko
    pushed = none_pushed no_names kd (result_at ko) 0 ds ko
        (subst (λ l. AreResultsFrom no_names kd (result_at ko) 0 l ko) h.known_are h.own)

    os : List (Option Outcome)
    os = pushed.front

    cut : but_last ko ≡ os
    cut = ap but_last pushed.are ∙ cut_last os None

    own : AreResults no_names ds os
    own =
        results_cut ds os (subst (λ l. AreResultsFrom no_names (ds ++ None ∷ []) (result_at l) 0 ds os)
        pushed.are
        (subst (λ l. AreResultsFrom no_names l (result_at ko) 0 ds os) h.known_are pushed.of))

    text : AreResults (names_known ds (result_at os)) es ps
    text =
        subst (λ names. AreResults names es ps)
        ((λ i. names_known (h.known_are i) (result_at (pushed.are i))) ∙ names_push ds os) h.text

    both : AreResults no_names (ds ++ es) rs
    both = subst (λ l. AreResults no_names l rs) h.all_are h.both

    lacks : lacking no_names kd ≡ lacking no_names ds
    lacks = ap (lacking no_names) h.known_are ∙ lacking_push ds

    there : rs ≡ but_last ko ++ ps → DeclareNoneLacking kd es
    there e =
        let joined_up : rs ≡ os ++ ps = e ∙ ap (λ l. l ++ ps) cut in
        subst (All (λ (o : Occurrence). first_declarer es (name_of o) ≡ None)) (sym lacks)
        (declare_none ds es os ps own (subst (AreResults no_names (ds ++ es)) joined_up both))

    back : DeclareNoneLacking kd es → rs ≡ but_last ko ++ ps
    back none =
        let none_lacking : DeclareNoneLacking ds es =
        subst (All (λ (o : Occurrence). first_declarer es (name_of o) ≡ None)) lacks none in
        one_results no_names (ds ++ es) rs (os ++ ps) both
        (joined ds es os ps (apart ds es none_lacking) own text)
        ∙ ap (λ l. l ++ ps) (sym cut)

pub results_exactly : (before text : List ℕ) (known : KnownText) (tokens all_tokens : List (Kind × ℕ))
    (items all : List Item) → EndsWhole before → IsKnownOf before known
    → IsCompilation known text tokens items → IsCompilation nothing_known (before ++ text) all_tokens all
    → (map (λ i. i.result) all ≡ but_last known.outcomes ++ map (λ i. i.result) items)
    ↔ DeclareNoneLacking (known_definitions known) (definitions_of items)
results_exactly [] text known tokens all_tokens items all ends is h k = (
  λ e. subst (λ (o : KnownText). DeclareNoneLacking (known_definitions o) (definitions_of items)) (sym is)
      (All-nil (λ (o : Occurrence). first_declarer (definitions_of items) (name_of o) ≡ None)),
  λ none. ap (map (λ i. i.result)) (one_compilation nothing_known text all_tokens tokens all items k
      (subst (λ o. IsCompilation o text tokens items) is h)).1
      ∙ ap (λ (o : KnownText). but_last o.outcomes ++ map (λ i. i.result) items) (sym is),
)
results_exactly (b ∷ bs) text known tokens all_tokens items all ends is h k =
    let over = over_known b bs text known tokens all_tokens items all ends is h k in
    results_push (known_definitions known) known.outcomes (definitions_of items) (map (λ i. i.result) items)
    (definitions_of all) (map (λ i. i.result) all) (record {
      front = over.goes_on.front;
      known_are = over.goes_on.first_are;
      all_are = over.goes_on.both_are;
      own = own_results (b ∷ bs) known is;
      text = h.are_results;
      both = subst (λ names. AreResults names (definitions_of all) (map (λ i. i.result) all)) nothing_named
          k.are_results;
    })

pub results_as_one : (before text : List ℕ) (known : KnownText) (tokens all_tokens : List (Kind × ℕ))
    (items all : List Item) → EndsWhole before → IsKnownOf before known → IsFaultless before
    → IsCompilation known text tokens items → IsCompilation nothing_known (before ++ text) all_tokens all
    → map (λ i. i.result) all ≡ but_last known.outcomes ++ map (λ i. i.result) items
results_as_one before text known tokens all_tokens items all ends is fine h k =
    (results_exactly before text known tokens all_tokens items all ends is h k).1
    (none_behind before known (definitions_of items) is fine)

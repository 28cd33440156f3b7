-- What checking the stale items gives, beside what the others have.
use Rattle.std.proofs.Common.{◌≡◌, ℕ, zero, suc, ◌+◌, ◌-◌, ◌<◌, ◌≤◌, ◌^◌, nat_eq, Bool, true, false, cond}
use Rattle.std.proofs.Common.{List, [], ◌∷◌, ◌++◌, length, map, take, drop, Option, None, Some, refl, sym, ap}
use Rattle.std.proofs.Common.{subst, ◌∙◌, arith, lit≤}
use Rattle.std.specs.Global.{Box}
use Rattle.std.specs.List.{IsAmong, splice}
use Rattle.std.specs.Option.{option_or}
use Rattle.std.specs.Prelude.{option_and_then, slice_get, All, IfOk, Result, Ok, Err}
use Rattle.std.proofs.lemmas.Bool.{eq-eqb, ne_eqb}
use Rattle.std.proofs.lemmas.Option.{same_Some, slice_get_within}
use Rattle.std.proofs.lemmas.List.{length-append, length-map}
use Rattle.std.proofs.lemmas.List.Elements.{All-head, All-tail}
use Rattle.x_text.specs.declared.text.source.TheConstants.{MAX_TEXT}
use Rattle.x_lex.specs.declared.kind.Kind.{Kind}
use Rattle.x_lex.specs.Places.{lexemes}
use Rattle.x_lex.specs.TokenList as tokens
use Rattle.x_lex.specs.TokenList.{IsOfText, TokenPatch}
use Rattle.x_lex.proofs.SpanLemmas.{length-lexemes_from}
use Rattle.x_cutting.specs.ItemList as items
use Rattle.x_cutting.specs.ItemList.{AreOfText, ItemChange, LiesAmong, counts, patched}
use Rattle.x_trees.specs.Tree.{Definition}
use Rattle.x_cutting.specs.declared.cutting.item_entry.ItemEntry.{ItemEntry}
use Rattle.x_lists.proofs.ListLemmas.{get_drop}
use Rattle.x_names.specs.Declarers.{AreShort}
use Rattle.x_rules.specs.Results.{AreResults, AreResultsFrom, KnownNames, Outcome, result_at}
use Rattle.x_trees.specs.Seen.{names_of}
use Rattle.x_trees.proofs.AmongLemmas.{among_first, among_more}
use Rattle.x_recheck.specs.Editing.{IsEdit, definition_at, definitions_after, edit_at, old_number, old_result}
use Rattle.x_uses.specs.Occurrences.{IsSameTable, IsUsesOf, UseTable}
use Rattle.x_recheck.specs.Staleness.{AreStale, Ascending, IsOutdated, IsRecheck, new_result}
use Rattle.x_recheck.specs.declared.rechecking.Rechecked.{Rechecked}
use Rattle.x_uses.specs.declared.uses.ItemSplice.{ItemSplice}
use Rattle.x_recheck.proofs.Numbering.{fresh_cases, kept_cases, spliced_fresh, spliced_kept}
use Rattle.x_compile.specs.Checking.{IsSound, kept_definitions, sound_pieces}
use Rattle.x_follow.specs.Following.{AreStaleChecked, IsNameChange, behind, edit_of}
use Rattle.x_compile.specs.KeptView.{AreParsed, entry_definitions, entry_results, found_pieces, found_result}
use Rattle.x_compile.specs.KeptView.{kept_definition, kept_found}
use Rattle.x_follow.specs.Planned.{ArePlanned, overlaid, planned_at}
use Rattle.x_follow.specs.Rendered.{AreRenderings, HasDefinitionAt, HaveDefinitions, IsRendering}
use Rattle.x_compile.specs.declared.content.CheckResult.{CheckResult}
use Rattle.x_compile.specs.declared.content.Content.{Content}
use Rattle.x_follow.specs.declared.planned.PlannedResult.{PlannedResult}
use Rattle.x_follow.specs.declared.naming.NameChange.{NameChange}
use Rattle.x_compile.proofs.ItemLemmas.{short_items}
use Rattle.x_compile.proofs.KeptLemmas.{definitions_kept}
use Rattle.x_follow.proofs.PlannedLemmas.{overlaid_get, rendered_planned}
use Rattle.x_follow.proofs.PatchLemmas.{definitions_splice}

-- ---- one after another

pub nothing_left : {X : Type 0} (xs : List X) → length xs ≡ 0 → xs ≡ []
nothing_left [] none = refl
nothing_left (x ∷ xs) none = absurd (omega (arith, none))

pub defined_among : (ks : List Content) (xs : List Rechecked) (r : Rechecked) (ys : List Rechecked)
    → HaveDefinitions ks (xs ++ r ∷ ys) → HasDefinitionAt ks r.item
defined_among ks [] r ys have = have.0
defined_among ks (x ∷ xs) r ys have = defined_among ks xs r ys have.1

pub rendered_more : (ks : List Content) (rs : List Rechecked) (ps : List PlannedResult) (r : Rechecked)
    (p : PlannedResult) → AreRenderings ks rs ps → IsRendering ks r p
    → AreRenderings ks (rs ++ r ∷ []) (ps ++ p ∷ [])
rendered_more ks [] [] r p are is = (is, tt)
rendered_more ks [] (q ∷ ps) r p are is = absurd are
rendered_more ks (s ∷ rs) [] r p are is = absurd are
rendered_more ks (s ∷ rs) (q ∷ ps) r p are is = (are.0, rendered_more ks rs ps r p are.1 is)

pub rendered_long : (ks : List Content) (rs : List Rechecked) (ps : List PlannedResult)
    → AreRenderings ks rs ps → length ps ≡ length rs
rendered_long ks [] [] are = refl
rendered_long ks [] (q ∷ ps) are = absurd are
rendered_long ks (s ∷ rs) [] are = absurd are
rendered_long ks (s ∷ rs) (q ∷ ps) are = ap suc (rendered_long ks rs ps are.1)

same_numbers : (ks : List Content) (rs : List Rechecked) (ps : List PlannedResult) → AreRenderings ks rs ps
    → map (λ (p : PlannedResult). p.item) ps ≡ map (λ (r : Rechecked). r.item) rs
same_numbers ks [] [] are = refl
same_numbers ks [] (q ∷ ps) are = absurd are
same_numbers ks (s ∷ rs) [] are = absurd are
same_numbers ks (s ∷ rs) (q ∷ ps) are =
    let rest = same_numbers ks rs ps are.1 in λ i. are.0.item_is i ∷ rest i

-- ---- what is planned for a number

planned_none : (low n : ℕ) (ps : List PlannedResult) → Ascending low (map (λ (p : PlannedResult). p.item) ps)
    → n < low → planned_at n ps ≡ None
planned_none low n [] up lt = refl
planned_none low n (p ∷ ps) up lt =
    let le = up.0 in
    let other : nat_eq n p.item ≡ false = ne_eqb n p.item (λ same. omega (arith, same, lt, le)) in
    ap (λ b. cond b (Some p.found) (planned_at n ps)) other
    ∙ planned_none (suc p.item) n ps up.1 (omega (arith, lt, le))

planned_are : (low : ℕ) (ks : List Content) (rs : List Rechecked) (ps : List PlannedResult)
    → Ascending low (map (λ (p : PlannedResult). p.item) ps) → AreRenderings ks rs ps → ArePlanned ks ps
planned_are low ks [] [] up are = tt
planned_are low ks [] (q ∷ ps) up are = absurd are
planned_are low ks (s ∷ rs) [] up are = absurd are
planned_are low ks (s ∷ rs) (p ∷ ps) up are = (
  are.0.planned,
  planned_none (suc p.item) p.item ps up.1 (omega arith),
  planned_are (suc p.item) ks rs ps up.1 are.1,
)

pick : (b : Bool) (f : Box CheckResult) (q : Option (Box CheckResult)) (o : Outcome) (m : Option Outcome)
    → f.value.checked ≡ o → found_result q ≡ m → found_result (cond b (Some f) q) ≡ cond b (Some o) m
pick true f q o m is rest = ap Some is
pick false f q o m is rest = rest

planned_new : (ks : List Content) (rs : List Rechecked) (ps : List PlannedResult) (n : ℕ)
    → AreRenderings ks rs ps → found_result (planned_at n ps) ≡ new_result rs n
planned_new ks [] [] n are = refl
planned_new ks [] (q ∷ ps) n are = absurd are
planned_new ks (s ∷ rs) [] n are = absurd are
planned_new ks (r ∷ rs) (p ∷ ps) n are =
    pick (nat_eq n p.item) p.found (planned_at n ps) r.checked (new_result rs n) are.0.checked_is
    (planned_new ks rs ps n are.1)
    ∙ ap (λ x. cond (nat_eq n x) (Some r.checked) (new_result rs n)) are.0.item_is

among_planned : (ps : List PlannedResult) (n : ℕ) → IsAmong (map (λ (p : PlannedResult). p.item) ps) n
    → planned_at n ps ≡ None → ⊥
among_planned [] n is none = absurd (let lt = is.1.0 in omega (arith, lt))
among_planned (p ∷ ps) n (zero, (lt, at)) none = first (nat_eq n p.item) (eq-eqb n p.item at) none
  where
    first : (b : Bool) → b ≡ true → cond b (Some p.found) (planned_at n ps) ≡ None → ⊥
    first true e h = cc
    first false e h = cc
among_planned (p ∷ ps) n (suc i, (lt, at)) none =
    later (among_planned ps n (i, (omega (arith, lt), at))) (nat_eq n p.item) none
  where
    later : (planned_at n ps ≡ None → ⊥) → (b : Bool) → cond b (Some p.found) (planned_at n ps) ≡ None → ⊥
    later not true h = cc
    later not false h = not h

-- ---- what an item had before the edit

pub all_at : {X : Type 0} (P : X → Type 0) (xs : List X) (n : ℕ) (x : X) → All P xs
    → slice_get xs n ≡ Some x → P x
all_at P [] n x all is = absurd (cc)
all_at P (y ∷ xs) zero x all is = let same : y ≡ x = same_Some y x is in subst P same (All-head P y xs all)
all_at P (y ∷ xs) (suc n) x all is = all_at P xs n x (All-tail P y xs all) is

entry_at : (es : List (ItemEntry Content)) (n : ℕ) (k : Content) → slice_get (items.kept es) n ≡ Some k
    → (e : ItemEntry Content) × (slice_get es n ≡ Some e) × (e.kept ≡ k)
entry_at [] n k is = absurd (cc)
entry_at (e ∷ es) zero k is = (e, refl, same_Some e.kept k is)
entry_at (e ∷ es) (suc n) k is = entry_at es n k is

result_here : (es : List (ItemEntry Content)) (n : ℕ) (e : ItemEntry Content) → slice_get es n ≡ Some e
    → result_at (entry_results es) n ≡ found_result (kept_found e.kept)
result_here [] n e is = absurd (cc)
result_here (x ∷ es) zero e is =
    let same : x ≡ e = same_Some x e is in
    ap (λ (y : ItemEntry Content). found_result (kept_found y.kept)) same
result_here (x ∷ es) (suc n) e is = result_here es n e is

-- what is kept with an item that was there before, and with one that is fresh
data Origin (es : List (ItemEntry Content)) (p : ItemChange Content) (place : ItemSplice) (n : ℕ)
    (k : Content) : Type 0 where
  Stayed : (was : ℕ) (e : ItemEntry Content) → old_number place n ≡ Some was → slice_get es was ≡ Some e
      → e.kept ≡ k → Origin es p place n k
  Came : (j : ℕ) (e : ItemEntry Content) → old_number place n ≡ None → slice_get p.fresh j ≡ Some e
      → e.kept ≡ k → Origin es p place n k

place_of : ItemChange Content → ItemSplice
place_of p = record { at = p.at; removed = p.removed; added = length p.fresh }

origin : (es : List (ItemEntry Content)) (p : ItemChange Content) (n : ℕ) (k : Content) → LiesAmong es p
    → slice_get (items.kept (patched es p)) n ≡ Some k → Origin es p (place_of p) n k
unfolding place_of
origin es p n k among is = by (old_number (place_of p) n) refl
  where
    at : (e : ItemEntry Content) × (slice_get (patched es p) n ≡ Some e) × (e.kept ≡ k)
    at = entry_at (patched es p) n k is

    by : (o : Option ℕ) → old_number (place_of p) n ≡ o → Origin es p (place_of p) n k
    by None e = let c = fresh_cases (place_of p) n e in
        Came (n - p.at) at.0 e (sym (spliced_fresh es p.fresh (place_of p) n among refl c.0 c.1) ∙ at.1) at.2
    by (Some j) e =
        Stayed j at.0 e
        (sym (spliced_kept es p.fresh (place_of p) n j among refl (kept_cases (place_of p) n j e))
        ∙ at.1) at.2

had : (es : List (ItemEntry Content)) (p : ItemChange Content) (n : ℕ) (k : Content)
    → All (λ (e : ItemEntry Content). kept_found e.kept ≡ None) p.fresh → Origin es p (place_of p) n k
    → found_result (kept_found k) ≡ old_result (place_of p) (entry_results es) n
had es p n k unchecked (Stayed was e number is same) =
    ap (λ x. found_result (kept_found x)) (sym same) ∙ sym (result_here es was e is)
    ∙ sym (ap (option_and_then (result_at (entry_results es))) number)
had es p n k unchecked (Came j e number is same) =
    ap (λ x. found_result (kept_found x)) (sym same)
    ∙ ap found_result (all_at (λ (e : ItemEntry Content). kept_found e.kept ≡ None) p.fresh j e unchecked is)
    ∙ sym (ap (option_and_then (result_at (entry_results es))) number)

-- ---- the results behind the edit

found_or : (a b : Option (Box CheckResult))
    → found_result (option_or a b) ≡ option_or (found_result a) (found_result b)
found_or None b = refl
found_or (Some f) b = refl

result_mapped : (rs : List (Option (Box CheckResult))) (n : ℕ) (r : Option (Box CheckResult))
    → slice_get rs n ≡ Some r → result_at (map found_result rs) n ≡ found_result r
result_mapped [] n r is = absurd (cc)
result_mapped (x ∷ rs) zero r is = ap found_result (same_Some x r is)
result_mapped (x ∷ rs) (suc n) r is = result_mapped rs n r is

get_some : {X : Type 0} (xs : List X) (n : ℕ) → n < length xs → (x : X) × (slice_get xs n ≡ Some x)
get_some [] n lt = absurd (omega (arith, lt))
get_some (x ∷ xs) zero lt = (x, refl)
get_some (x ∷ xs) (suc n) lt = get_some xs n (omega (arith, lt))

lists_same : (xs ys : List (Option Outcome)) → length xs ≡ length ys
    → ((n : ℕ) → n < length ys → result_at xs n ≡ result_at ys n) → xs ≡ ys
lists_same [] [] long each = refl
lists_same [] (y ∷ ys) long each = absurd (omega (arith, long))
lists_same (x ∷ xs) [] long each = absurd (omega (arith, long))
lists_same (x ∷ xs) (y ∷ ys) long each =
    let here : x ≡ y = each 0 (omega arith) in
    let rest = lists_same xs ys (omega (arith, long)) (λ n lt. each (suc n) (omega (arith, lt))) in
    λ i. here i ∷ rest i

results_long : (known : KnownNames) (definitions : List (Option Definition)) (results : ℕ → Option Outcome)
    (n : ℕ) (ds : List (Option Definition)) (os : List (Option Outcome))
    → AreResultsFrom known definitions results n ds os → length ds ≡ length os
results_long known definitions results n [] [] are = refl
results_long known definitions results n [] (o ∷ os) are = absurd are
results_long known definitions results n (d ∷ ds) [] are = absurd are
results_long known definitions results n (d ∷ ds) (o ∷ os) are =
    ap suc (results_long known definitions results (suc n) ds os are.1)

overlaid_long : (n : ℕ) (ks : List Content) (ps : List PlannedResult) → length (overlaid n ks ps) ≡ length ks
overlaid_long n [] ps = refl
overlaid_long n (k ∷ ks) ps = ap suc (overlaid_long (suc n) ks ps)

-- ---- a stale item has a definition

defined_at : (ks : List Content) (n : ℕ) (d : Definition) → definition_at (kept_definitions ks) n ≡ Some d
    → HasDefinitionAt ks n
defined_at [] n d is = absurd (cc)
defined_at (k ∷ ks) zero d is = record { item = k; at = refl; definition = d; defined = is }
defined_at (k ∷ ks) (suc n) d is =
    let rest = defined_at ks n d is in
    record { item = rest.item; at = rest.at; definition = rest.definition; defined = rest.defined }

definition_here : (ks : List Content) (n : ℕ) (k : Content) → slice_get ks n ≡ Some k
    → definition_at (kept_definitions ks) n ≡ kept_definition k
definition_here [] n k is = absurd (cc)
definition_here (x ∷ ks) zero k is = ap kept_definition (same_Some x k is)
definition_here (x ∷ ks) (suc n) k is = definition_here ks n k is

-- the definitions behind the edit
pub edited_definitions : (known : KnownNames) (es : List (ItemEntry Content)) (p : ItemChange Content)
    → definitions_after (edit_of known es p) ≡ kept_definitions (items.kept (patched es p))
edited_definitions known es p = sym (definitions_splice es p) ∙ sym (definitions_kept (patched es p))

have_all : (ks : List Content) (rs : List Rechecked)
    → ((n : ℕ) → IsAmong (map (λ (r : Rechecked). r.item) rs) n → HasDefinitionAt ks n)
    → HaveDefinitions ks rs
have_all ks [] each = tt
have_all ks (r ∷ rs) each = (
  each r.item (among_first r.item (map (λ (x : Rechecked). x.item) rs)),
  have_all ks rs (λ n is. each n (among_more r.item n (map (λ (x : Rechecked). x.item) rs) is)),
)

pub have_definitions : (known : KnownNames) (es : List (ItemEntry Content)) (p : ItemChange Content)
    (rs : List Rechecked) → IsRecheck (edit_of known es p) rs → HaveDefinitions (items.kept (patched es p)) rs
have_definitions known es p rs h =
    let ks = items.kept (patched es p) in
    have_all ks rs (λ n is.
    let stale = (h.stale.each n).0 is in
    defined_at ks n stale.definition (sym (ap (λ ds. definition_at ds n) (edited_definitions known es p))
    ∙ stale.has))

-- ---- it is an edit

fresh_few : {T : Type 0} (xs ys : List T) (i j : ℕ) → length ys ≤ length (take i xs ++ (ys ++ drop j xs))
fresh_few xs ys i j = let a = length-append (take i xs) (ys ++ drop j xs) in
    let b = length-append ys (drop j xs) in omega (arith, a, b)

most_items : MAX_TEXT + 1 + (MAX_TEXT + 1) ≤ 2 ^ 32 - 1
most_items = lit≤ tt

pub is_edit : (known : KnownNames) (es : List (ItemEntry Content)) (p : ItemChange Content) → LiesAmong es p
    → length es ≤ MAX_TEXT + 1 → AreOfText (counts (patched es p))
    → AreResults known (entry_definitions es) (entry_results es)
    → AreShort (entry_definitions es) → AreShort (entry_definitions p.fresh) → IsEdit (edit_of known es p)
is_edit known es p among few new results short fresh =
    let b = length-map (patched es p) (λ (e : ItemEntry Content). e.tokens) in
    let c = length-map es (λ (e : ItemEntry Content). kept_definition e.kept) in
    let d = length-map p.fresh (λ (e : ItemEntry Content). kept_definition e.kept) in
    let f = fresh_few es p.fresh p.at (p.at + p.removed) in
    let few_behind = new.few in
    let most = most_items in
    record {
      within = omega (arith, among, c);
      added = sym d;
      few = omega (arith, b, c, d, f, few, few_behind, most);
      results = results;
      short = short;
      short_put = fresh;
    }

-- ---- all of it

module _ (known : KnownNames) (es : List (ItemEntry Content)) (p : ItemChange Content) (rs : List Rechecked)
    (ps : List PlannedResult) (among : LiesAmong es p) (h : IsRecheck (edit_of known es p) rs)
    (are : AreRenderings (items.kept (patched es p)) rs ps)
    (sound : All (λ (e : ItemEntry Content). IsSound e.kept) es)
    (unchecked : All (λ (e : ItemEntry Content). kept_found e.kept ≡ None) p.fresh) where
  ks : List Content
  ks = items.kept (patched es p)

  same_after : map found_result (behind es p ps) ≡ h.after
  unfolding ks place_of
  same_after =
      let long = results_long known (definitions_after (edit_of known es p)) (result_at h.after) 0
      (definitions_after (edit_of known es p)) h.after h.results in
      let defs = ap length (edited_definitions known es p) in
      let a = length-map ks kept_definition in
      let b = length-map (behind es p ps) found_result in
      let c = overlaid_long 0 ks ps in
      lists_same (map found_result (behind es p ps)) h.after (omega (arith, long, defs, a, b, c)) (λ n lt.
      let some = get_some ks n (omega (arith, long, defs, a, lt)) in
      let k = some.0 in
      let zero_on : 0 + n ≡ n = omega arith in
      let got = overlaid_get 0 n ks ps k some.1
      ∙ ap (λ m. Some (option_or (planned_at m ps) (kept_found k))) zero_on in
      let new = planned_new ks rs ps n are in
      let old = had es p n k unchecked (origin es p n k among some.1) in
      result_mapped (behind es p ps) n (option_or (planned_at n ps) (kept_found k)) got
      ∙ found_or (planned_at n ps) (kept_found k) ∙ (λ i. option_or (new i) (old i))
      ∙ h.each n (omega (arith, long, lt)))

  sound_bare : (k : Content) → kept_found k ≡ None → kept_definition k ≡ None → IsSound k
  sound_bare k none bare = ap found_pieces none ∙ sym (λ i. sound_pieces (bare i) (found_result (none i)))

  not_planned_sound : (n : ℕ) (k : Content) → slice_get ks n ≡ Some k → planned_at n ps ≡ None → IsSound k
  unfolding ks place_of
  not_planned_sound n k is none = by (origin es p n k among is)
    where
      numbers : IsAmong (map (λ (r : Rechecked). r.item) rs) n → ⊥
      numbers i = among_planned ps n (subst (λ l. IsAmong l n) (sym (same_numbers ks rs ps are)) i) none

      bare : (o : Option Definition) → kept_definition k ≡ o → old_number (place_of p) n ≡ None
          → kept_definition k ≡ None
      bare None e number = e
      bare (Some d) e number =
          absurd (numbers ((h.stale.each n).1 (record {
            definition = d;
            has = ap (λ ds. definition_at ds n) (edited_definitions known es p)
                ∙ definition_here ks n k is ∙ e;
            outdated = subst (λ o. IsOutdated (edit_of known es p) h.after o n (names_of d)) (sym number) tt;
          })))

      by : Origin es p (place_of p) n k → IsSound k
      by (Stayed was e number at same) =
          subst IsSound same (all_at (λ (e : ItemEntry Content). IsSound e.kept) es was e sound at)
      by (Came j e number at same) =
          sound_bare k (ap kept_found (sym same)
          ∙ all_at (λ (e : ItemEntry Content). kept_found e.kept ≡ None) p.fresh j e unchecked at)
          (bare (kept_definition k) refl number)

  pub stale_checked : AreStaleChecked known es p ps
  unfolding ks
  stale_checked =
      let numbers = same_numbers ks rs ps are in
      let planned = planned_are 0 ks rs ps (subst (Ascending 0) (sym numbers) h.stale.ascend) are in
      record {
        planned = planned;
        results = subst (λ os. AreResults known (kept_definitions ks) os) (sym same_after)
            (subst (λ ds. AreResults known ds h.after) (edited_definitions known es p) h.results);
        rendered = rendered_planned ks ps planned not_planned_sound;
        stale = subst (λ l. AreStale (edit_of known es p) (map found_result (behind es p ps)) l) (sym numbers)
            (subst (λ a. AreStale (edit_of known es p) a (map (λ (r : Rechecked). r.item) rs))
            (sym same_after) h.stale);
      }

-- the edit as the check sees it
pub edit_is : (known : KnownNames) (es : List (ItemEntry Content)) (p : ItemChange Content) (n : NameChange)
    (put : List (Option Definition)) → IsNameChange es p n → put ≡ entry_definitions p.fresh
    → edit_at (record { known = known; definitions = entry_definitions es; outcomes = entry_results es })
    n.place put ≡ edit_of known es p
edit_is known es p n put h same = λ i. record {
  known = known;
  old = entry_definitions es;
  outcomes = entry_results es;
  place = record { at = h.at i; removed = h.removed i; added = h.added i };
  put = same i;
}

-- of the definitions behind an edit none is too long, so none of those that it puts in
pub short_fresh : (es : List (ItemEntry Content)) (p : ItemChange Content) → LiesAmong es p
    → AreShort (entry_definitions (patched es p)) → AreShort (entry_definitions p.fresh)
short_fresh es p among short item d is =
    let olds = entry_definitions es in
    let put = entry_definitions p.fresh in
    let place : ItemSplice = record { at = p.at; removed = p.removed; added = length put } in
    let l = length-map es (λ (e : ItemEntry Content). kept_definition e.kept) in
    let lt = slice_get_within put item (Some d) is in
    let here : p.at + item - p.at ≡ item = omega arith in
    let at = spliced_fresh olds put place (p.at + item) (omega (arith, among, l)) refl (omega arith)
    (omega (arith, lt)) in
    short (p.at + item) d (ap (λ ds. slice_get ds (p.at + item)) (definitions_splice es p) ∙ at
    ∙ ap (slice_get put) here ∙ is)

-- ---- what becomes of it

pub if_ok : {A E : Type 0} (r : Result A E) (P Q : A → Type 0) → ((a : A) → P a → Q a) → IfOk r P → IfOk r Q
if_ok (Ok a) P Q step h = step a h
if_ok (Err e) P Q step h = tt

pub short_behind : (text : List ℕ) (ts us : List (Kind × ℕ)) (patch : TokenPatch)
    (fs : List (ItemEntry Content)) → us ≡ ts → IsOfText (tokens.patched ts patch)
    → AreParsed (lexemes text (tokens.patched us patch)) fs → AreShort (entry_definitions fs)
short_behind text ts us patch fs same few parsed =
    let l = length-lexemes_from text 0 (tokens.patched us patch) in
    let f = few.few in
    let long = ap (λ l. length (tokens.patched l patch)) same in
    short_items (lexemes text (tokens.patched us patch)) fs parsed (omega (arith, l, f, long))

-- ---- the table of names

few_items : (es : List (ItemEntry Content)) (p : ItemChange Content) → length es ≤ MAX_TEXT + 1
    → AreOfText (counts (patched es p)) → length (entry_definitions es) + length p.fresh < 2 ^ 32
few_items es p few new =
    let b = length-map (patched es p) (λ (e : ItemEntry Content). e.tokens) in
    let c = length-map es (λ (e : ItemEntry Content). kept_definition e.kept) in
    let f = fresh_few es p.fresh p.at (p.at + p.removed) in
    let few_behind = new.few in
    let most = most_items in
    omega (arith, b, c, f, few, few_behind, most)

-- it follows the patch where it follows each edit of definitions at the place
pub uses_followed : (es : List (ItemEntry Content)) (p : ItemChange Content) (n : NameChange) (u v : UseTable)
    → LiesAmong es p → length es ≤ MAX_TEXT + 1 → AreOfText (counts (patched es p)) → IsNameChange es p n
    → IsUsesOf (entry_definitions es) u
    → ((old put : List (Option Definition)) → IsUsesOf old u
    → IsUsesOf (take n.place.removed (drop n.place.at old)) n.gone → IsUsesOf put n.fresh
    → n.place.at + n.place.removed ≤ length old → n.place.added ≡ length put
    → length old + n.place.added < 2 ^ 32
    → IsUsesOf (splice old n.place.at (n.place.at + n.place.removed) put) v)
    → IsUsesOf (entry_definitions (patched es p)) v
uses_followed es p n u v among old new h used follow =
    let ds = entry_definitions es in
    let put = entry_definitions p.fresh in
    let l = length-map es (λ (e : ItemEntry Content). kept_definition e.kept) in
    let m = length-map p.fresh (λ (e : ItemEntry Content). kept_definition e.kept) in
    let at = h.at in
    let removed = h.removed in
    let added = h.added in
    let few = few_items es p old new in
    let gone = subst (λ xs. IsUsesOf xs n.gone) (λ i. take ((sym removed) i) (drop ((sym at) i) ds)) h.gone in
    let done = follow ds put used gone h.fresh (omega (arith, among, l, at, removed))
    (omega (arith, added, m)) (omega (arith, few, added)) in
    subst (λ xs. IsUsesOf xs v) ((λ i. splice ds (at i) (at i + removed i) put)
    ∙ sym (definitions_splice es p)) done

pub same_uses : (ds : List (Option Definition)) (u v : UseTable) → IsUsesOf ds u → IsSameTable u v
    → IsUsesOf ds v
same_uses ds u v h same = record {
  declarers = λ name. same.declarers name ∙ h.declarers name;
  users = λ name. same.users name ∙ h.users name;
}

taken : {X : Type 0} (n : ℕ) (xs : List X) (i : ℕ) (x : X) → slice_get (take n xs) i ≡ Some x
    → slice_get xs i ≡ Some x
taken zero xs i x is = absurd (cc)
taken (suc n) [] i x is = is
taken (suc n) (y ∷ xs) zero x is = is
taken (suc n) (y ∷ xs) (suc i) x is = taken n xs i x is

pub short_removed : (ds : List (Option Definition)) (at removed : ℕ) → AreShort ds
    → AreShort (take removed (drop at ds))
short_removed ds at removed short item d is =
    short (at + item) d (sym (get_drop at ds item) ∙ taken removed (drop at ds) item (Some d) is)

-- a table of definitions, however they are told
pub uses_of : (ds es : List (Option Definition)) (u : UseTable) → ds ≡ es → AreShort es
    → (AreShort ds → IsUsesOf ds u) → IsUsesOf es u
uses_of ds es u same short made = subst (λ l. IsUsesOf l u) same (made (subst AreShort (sym same) short))

-- One turn: the first item that waits is decided.
use Rattle.std.specs.Prelude.{option_map}
use Rattle.std.specs.Option.{unwrap_or}
use Rattle.std.proofs.Common.{◌≡◌, ◌<◌, ◌≤◌, ◌⊎◌, inl, inr, ℕ, ◌+◌, Bool, true, false, List, [], ◌∷◌, ◌++◌}
use Rattle.std.proofs.Common.{map, length, Option, Some, None, refl, sym, ap, subst, ◌∙◌, arith, add-one}
use Rattle.std.proofs.lemmas.Bool.{cases_lt, true≢false}
use Rattle.x_trees.specs.Tree.{Definition}
use Rattle.x_trees.specs.Collected.{view_name}
use Rattle.x_trees.specs.Names.{declared}
use Rattle.x_trees.specs.declared.names.declared_name.DeclaredName.{DeclaredName}
use Rattle.x_names.specs.Declarers.{first_declarer}
use Rattle.x_names.specs.declared.names.Declarer.{Declarer}
use Rattle.x_rules.specs.Results.{Outcome, AreResults, result_at, meaning_in}
use Rattle.x_rules.specs.Views.{Bad}
use Rattle.x_rules.proofs.HasResults.{has_results}
use Rattle.x_recheck.specs.Editing.{TextEdit, definitions_after, IsEdit, definition_at}
use Rattle.x_recheck.specs.Staleness.{IsRecheck, IsStale}
use Rattle.x_recheck.specs.inside.Deciding.{AddsItems, IsDecided, IsNamed, IsReady, IsSpread, IsWaitedFor}
use Rattle.x_recheck.specs.inside.Deciding.{IsUnchanged, is_waiting}
use Rattle.x_recheck.specs.declared.rechecking.Rechecked.{Rechecked}
use Rattle.x_recheck.specs.declared.rechecking.queue.Queue.{Queue}
use Rattle.x_recheck.proofs.DecidedLemmas.{decided_stale, decided_to, decided_unchanged}
use Rattle.x_recheck.proofs.FirstDeclarers.{first_named}
use Rattle.x_recheck.proofs.Numbering.{definition_within}
use Rattle.x_recheck.proofs.WaitingLemmas.{rests_before}

-- an item without a definition is unchanged
pub unchanged_none : (e : TextEdit) (after : List (Option Outcome)) (k : ℕ)
    → definition_at (definitions_after e) k ≡ None → IsUnchanged e after k
unchanged_none e after k none = record {
  kept = λ d h. absurd (clash d h);
  same = λ name u. absurd (clash u.definition u.has);
}
  where
    clash : (d : Definition) → definition_at (definitions_after e) k ≡ Some d → ⊥
    clash d h = let bad : None ≡ Some d = sym none ∙ h in cc

-- the users of a name know what it means, once the item was checked that declares it first
spread_told : (e : TextEdit) (after : List (Option Outcome)) (waits : ℕ → Bool) (k : ℕ) (d : Definition)
    (names : List DeclaredName) (c : Outcome) → definition_at (definitions_after e) k ≡ Some d
    → map view_name names ≡ declared d → Some c ≡ result_at after k
    → ((name : List ℕ) (place : ℕ) → IsNamed names place name → IsWaitedFor e k place c waits name)
    → (name : List ℕ) (f : Declarer) → first_declarer (definitions_after e) name ≡ Some f → f.item ≡ k
    → IsSpread e after waits k name
spread_told e after waits k d names c has are result told name f first here j lt within u rests o g
    before now there =
    let item : result_at after g.item ≡ Some c = ap (result_at after) there ∙ sym result in
    let named = first_named (definitions_after e) name g d names now
    (ap (definition_at (definitions_after e)) there ∙ has) are in
    told name g.place named j lt within u rests o g before now there refl
    ∙ sym (ap (λ r. unwrap_or (option_map (λ x. meaning_in x g.place) r) Bad) item)

-- ---- an item is decided

pub decided_same : (e : TextEdit) (after : List (Option Outcome)) (waits waits' : ℕ → Bool)
    (rs : List Rechecked) (k : ℕ) → IsEdit e → AreResults e.known (definitions_after e) after
    → IsDecided e after waits rs k
    → IsUnchanged e after k → ((j : ℕ) → k < j → waits' j ≡ false → waits j ≡ false)
    → IsDecided e after waits' rs (k + 1)
decided_same e after waits waits' rs k is are d same stay = subst (IsDecided e after waits' rs)
    (sym (add-one k)) (decided_unchanged e after waits waits' rs k is are d same stay)

pub decided_anew : (e : TextEdit) (after : List (Option Outcome)) (waits : ℕ → Bool) (q q' : Queue)
    (rs new : List Rechecked) (r : Rechecked) (k high : ℕ) (d : Definition) (names : List DeclaredName)
    → IsDecided e after waits rs k
    → r.item ≡ k → definition_at (definitions_after e) k ≡ Some d → map view_name names ≡ declared d
    → IsStale e after k × (Some r.checked ≡ result_at after k) → AddsItems q q' (k + 1) high
    → ((j : ℕ) → k < j → is_waiting q j ≡ false → waits j ≡ false)
    → ((name : List ℕ) (place : ℕ) → IsNamed names place name
    → IsWaitedFor e k place r.checked (is_waiting q') name) → new ≡ rs ++ r ∷ []
    → IsDecided e after (is_waiting q') new (k + 1)
decided_anew e after waits q q' rs new r k high d names decided here has are found adds stay told pushed =
    subst (λ l. IsDecided e after (is_waiting q') l (k + 1)) (sym pushed)
    (subst (IsDecided e after (is_waiting q') (rs ++ r ∷ [])) (sym (add-one k))
    (decided_stale e after waits (is_waiting q') rs r k decided here found.0 found.1
    (λ j lt rests. stay j lt (rests_before q q' (k + 1) high j adds rests))
    (spread_told e after (is_waiting q') k d names r.checked has are found.1 told)))

-- ---- a turn

resting : (q : Queue) (k : ℕ) → ((j : ℕ) → is_waiting q j ≡ true → j < k → ⊥) → (j : ℕ) → j < k
    → is_waiting q j ≡ false
resting q k least j lt = by (is_waiting q j) refl
  where
    by : (t : Bool) → is_waiting q j ≡ t → t ≡ false
    by true w = absurd (least j w lt)
    by false w = refl

-- all before the first item that waits are decided
pub ready_to : (e : TextEdit) (q : Queue) (rs : List Rechecked) (low k : ℕ) → IsEdit e → IsReady e q rs low
    → is_waiting q k ≡ true → ((j : ℕ) → is_waiting q j ≡ true → j < k → ⊥)
    → (after : List (Option Outcome)) → AreResults e.known (definitions_after e) after
    → IsDecided e after (is_waiting q) rs k
ready_to e q rs low k is r waited least after are =
    let at = r.range k waited in
    let lt = at.1 in
    decided_to e after (is_waiting q) rs low k is are (r.decided after are) at.0 (omega (arith, lt))
    (resting q k least)

-- where none waits, all are
pub ready_end : (e : TextEdit) (q : Queue) (rs : List Rechecked) (low : ℕ) → IsEdit e → IsReady e q rs low
    → ((j : ℕ) → is_waiting q j ≡ false)
    → (after : List (Option Outcome)) → AreResults e.known (definitions_after e) after
    → IsDecided e after (λ k. true) rs (length (definitions_after e))
ready_end e q rs low is r none after are =
    let d = decided_to e after (is_waiting q) rs low (length (definitions_after e)) is are
    (r.decided after are) r.within (omega arith) (λ j lt. none j) in
    record {
      each = d.each;
      ascend = d.ascend;
      stale = d.stale;
      settled = λ k le lt. absurd (omega (arith, le, lt));
    }

-- what waits behind a decided item
pub ready_after : (e : TextEdit) (q q1 q2 : Queue) (rs new : List Rechecked) (low k : ℕ) → IsEdit e
    → IsReady e q rs low → is_waiting q k ≡ true → ((j : ℕ) → is_waiting q j ≡ true → j < k → ⊥)
    → ((j : ℕ) → (j ≡ k → ⊥) → is_waiting q1 j ≡ is_waiting q j) → is_waiting q1 k ≡ false
    → AddsItems q1 q2 (k + 1) (length (definitions_after e))
    → ((after : List (Option Outcome)) → AreResults e.known (definitions_after e) after
    → IsDecided e after (is_waiting q2) new (k + 1)) → IsReady e q2 new (k + 1)
ready_after e q q1 q2 rs new low k is r waited least kept out adds decided =
    let at = r.range k waited in
    let lt = at.1 in
    let some = has_results e.known (definitions_after e) in
    record {
      within = omega (arith, lt);
      range = λ j w. by j w (is_waiting q1 j) refl;
      ascend = (decided some.0 some.1).ascend;
      decided = decided;
    }
  where
    old : (j : ℕ) → is_waiting q1 j ≡ true → (j < k) ⊎ (k ≤ j)
        → (k + 1 ≤ j) × (j < length (definitions_after e))
    old j w (inl l) = absurd (least j (sym (kept j (λ same. omega (arith, same, l))) ∙ w) l)
    old j w (inr l) =
        let differs : j ≡ k → ⊥ = λ same. true≢false (sym w ∙ ap (is_waiting q1) same ∙ out) in
        (omega (arith, l, differs), (r.range j (sym (kept j differs) ∙ w)).1)

    by : (j : ℕ) → is_waiting q2 j ≡ true → (t : Bool) → is_waiting q1 j ≡ t
        → (k + 1 ≤ j) × (j < length (definitions_after e))
    by j w true e' = old j e' (cases_lt j k)
    by j w false e' = adds.range j w e'

-- ---- the end

pub rechecked_all : (e : TextEdit) (rs : List Rechecked)
    → ((after : List (Option Outcome)) → AreResults e.known (definitions_after e) after
    → IsDecided e after (λ k. true) rs (length (definitions_after e))) → IsRecheck e rs
rechecked_all e rs decided =
    let some = has_results e.known (definitions_after e) in
    let d = decided some.0 some.1 in
    record {
      after = some.0;
      results = some.1;
      stale = record {
        ascend = d.ascend;
        each = λ k. (
          λ h. ((d.stale k).0 h).1,
          λ s. (d.stale k).1 (definition_within (definitions_after e) k s.definition s.has, s),
        );
      };
      each = d.each;
    }

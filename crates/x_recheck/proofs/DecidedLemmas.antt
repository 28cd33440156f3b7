-- How what is known of the items grows while they are checked in order.
use Rattle.std.specs.Prelude.{option_and_then, option_map}
use Rattle.std.specs.List.{IsAmong}
use Rattle.std.specs.Option.{option_or, unwrap_or}
use Rattle.std.proofs.Common.{◌≡◌, ◌<◌, ◌≤◌, ◌⊎◌, inl, inr, ℕ, zero, suc, ◌+◌, ◌-◌, Bool, false, List, []}
use Rattle.std.proofs.Common.{◌∷◌, ◌++◌, map, length, Option, Some, None, sym, ap, subst, ◌∙◌, arith, ⊎_elim}
use Rattle.std.proofs.lemmas.Bool.{cases_lt}
use Rattle.x_names.specs.Declarers.{first_declarer}
use Rattle.x_names.specs.declared.names.Declarer.{Declarer}
use Rattle.x_rules.specs.Results.{Outcome, AreResults, result_at, meaning_in, meaning_at}
use Rattle.x_rules.specs.Views.{Bad}
use Rattle.x_trees.specs.Seen.{names_of}
use Rattle.x_recheck.specs.declared.rechecking.Rechecked.{Rechecked}
use Rattle.x_recheck.specs.Editing.{TextEdit, definitions_after, IsEdit, old_number, old_result}
use Rattle.x_recheck.specs.Staleness.{IsOutdated, IsStale, new_result, result_after}
use Rattle.x_recheck.specs.inside.Deciding.{IsFormer, IsAlike, HasAlike, IsOfOld, IsKeptUser, IsUnchanged}
use Rattle.x_recheck.specs.inside.Deciding.{IsSettled, IsDecided, IsCovered, IsSpread}
use Rattle.x_recheck.proofs.AlikeLemmas.{settled_unchanged, unchanged_result}
use Rattle.x_recheck.proofs.FirstDeclarers.{first_defined, same_place}
use Rattle.x_recheck.proofs.Numbering.{spliced_kept, kept_cases}
use Rattle.x_recheck.proofs.StaleLists.{item_of, new_none, new_other, new_last, ascending_more, among_old}
use Rattle.x_recheck.proofs.StaleLists.{among_new, among_either}

-- ---- an item that is unchanged

-- is not stale
pub unchanged_fresh : (e : TextEdit) (after : List (Option Outcome)) (k : ℕ) → IsUnchanged e after k
    → IsStale e after k → ⊥
unchanged_fresh e after k h s =
    let kept = h.kept s.definition s.has in
    by kept.0 kept.1 (subst (λ n. IsOutdated e after n k (names_of s.definition)) kept.1 s.outdated)
  where
    by : (was : ℕ) → old_number e.place k ≡ Some was
        → IsOutdated e after (Some was) k (names_of s.definition) → ⊥
    by was kept o =
        o.2 (h.same o.0
        (record { definition = s.definition; was = was; has = s.has; kept = kept; sees = o.1 }))

-- and the names that it declares first mean what they meant
unchanged_means : (e : TextEdit) (after : List (Option Outcome)) (name : List ℕ) (o f : Declarer) → IsEdit e
    → AreResults e.known (definitions_after e) after → IsUnchanged e after f.item
    → first_declarer e.old name ≡ Some o → first_declarer (definitions_after e) name ≡ Some f
    → HasAlike e name → meaning_at (result_at e.outcomes) o ≡ meaning_at (result_at after) f
unchanged_means e after name o f is are h before now alike =
    let there = first_defined (definitions_after e) name f now in
    let kept = h.kept there.0 there.1 in
    let former : IsAlike e.place (Some o) (Some f) = subst (λ x. IsAlike e.place x (Some f)) before
    (subst (IsAlike e.place (first_declarer e.old name)) now alike) in
    let was : o.item ≡ kept.0 = subst (IsFormer e.place o.item) kept.1 former.0 in
    let number : old_number e.place f.item ≡ Some o.item = kept.1 ∙ ap Some (sym was) in
    let result : result_at e.outcomes o.item ≡ result_at after f.item =
    sym (ap (option_and_then (result_at e.outcomes)) number) ∙ unchanged_result e after f.item is are h in
    let place : o.place ≡ f.place =
    same_place e name o f is before now (spliced_kept e.old e.put e.place f.item o.item is.within is.added
    (kept_cases e.place f.item o.item number)) in
    λ i. unwrap_or (option_map (λ x. meaning_in x (place i)) (result i)) Bad

-- ---- one item more

at_low : (P : ℕ → Type 0) (low j : ℕ) → j < suc low → (j < low → P j) → P low → P j
at_low P low j lt before here = by (cases_lt j low)
  where
    by : (j < low) ⊎ (low ≤ j) → P j
    by (inl l) = before l
    by (inr l) = let same : low ≡ j = omega (arith, l, lt) in subst P same here

-- what a settled item knows, once the users of the names that the next item declares first are told
settled_next : (e : TextEdit) (after : List (Option Outcome)) (low k : ℕ) → IsSettled e after low k
    → ((name : List ℕ) (o f : Declarer) → IsKeptUser e k name → first_declarer e.old name ≡ Some o
    → first_declarer (definitions_after e) name ≡ Some f → f.item ≡ low
    → meaning_at (result_at e.outcomes) o ≡ meaning_at (result_at after) f)
    → IsSettled e after (suc low) k
settled_next e after low k h tell = record {
  kept = h.kept;
  alike = h.alike;
  means = λ name u o f before now lt. ⊎_elim
      (λ (l : f.item < low). h.means name u o f before now l)
      (λ (l : low ≤ f.item). tell name o f u before now (omega (arith, l, lt)))
      (cases_lt f.item low);
}

among_below : (e : TextEdit) (after : List (Option Outcome)) (waits : ℕ → Bool) (rs : List Rechecked)
    (low j : ℕ) → IsDecided e after waits rs low → IsAmong (map item_of rs) j → j < low
among_below e after waits rs low j d h = ((d.stale j).0 h).0

none_at : (e : TextEdit) (after : List (Option Outcome)) (waits : ℕ → Bool) (rs : List Rechecked) (low : ℕ)
    → IsDecided e after waits rs low → new_result rs low ≡ None
none_at e after waits rs low d =
    new_none rs low (λ h. let lt = among_below e after waits rs low low d h in omega (arith, lt))

-- nothing is to be done at an item that is unchanged
pub decided_unchanged : (e : TextEdit) (after : List (Option Outcome)) (waits waits' : ℕ → Bool)
    (rs : List Rechecked) (low : ℕ) → IsEdit e → AreResults e.known (definitions_after e) after
    → IsDecided e after waits rs low → IsUnchanged e after low
    → ((k : ℕ) → low < k → waits' k ≡ false → waits k ≡ false) → IsDecided e after waits' rs (suc low)
decided_unchanged e after waits waits' rs low is are d h stay = record {
  each = λ j lt. at_low (λ k. result_after e rs k ≡ result_at after k) low j lt (d.each j)
      (ap (λ o. option_or o (old_result e.place e.outcomes low)) (none_at e after waits rs low d)
      ∙ unchanged_result e after low is are h);
  ascend = d.ascend;
  stale = λ j. (
    λ among. let s = (d.stale j).0 among in let lt = s.0 in (omega (arith, lt), s.1),
    λ s. (d.stale j).1 (at_low (λ k. IsStale e after k → (k < low) × IsStale e after k) low j s.0
        (λ lt t. (lt, t)) (λ t. absurd (unchanged_fresh e after low h t)) s.1),
  );
  settled = λ k le lt rests.
      let settled : IsSettled e after low k =
      d.settled k (omega (arith, le)) lt (stay k (omega (arith, le)) rests) in
      settled_next e after low k settled
      (λ name o f u before now same. unchanged_means e after name o f is are
      (subst (IsUnchanged e after) (sym same) h) before now (settled.alike name u));
}

-- a stale item was checked, and the users were told of what it declares
pub decided_stale : (e : TextEdit) (after : List (Option Outcome)) (waits waits' : ℕ → Bool)
    (rs : List Rechecked) (r : Rechecked) (low : ℕ)
    → IsDecided e after waits rs low → r.item ≡ low → IsStale e after low
    → Some r.checked ≡ result_at after low → ((k : ℕ) → low < k → waits' k ≡ false → waits k ≡ false)
    → ((name : List ℕ) (f : Declarer) → first_declarer (definitions_after e) name ≡ Some f → f.item ≡ low
    → IsSpread e after waits' low name) → IsDecided e after waits' (rs ++ r ∷ []) (suc low)
decided_stale e after waits waits' rs r low d here stale result stay spread = record {
  each = λ j lt. at_low (λ k. result_after e (rs ++ r ∷ []) k ≡ result_at after k) low j lt
      (λ l. ap (λ o. option_or o (old_result e.place e.outcomes j))
      (new_other rs r j (λ same. omega (arith, same, here, l))) ∙ d.each j l)
      (ap (λ o. option_or o (old_result e.place e.outcomes low))
      (new_last rs r low (none_at e after waits rs low d) (sym here)) ∙ result);
  ascend = ascending_more rs r d.ascend
      (λ j h. let lt = among_below e after waits rs low j d h in omega (arith, lt, here));
  stale = λ j. (
    λ among. ⊎_elim
        (λ (h : IsAmong (map item_of rs) j). let s = (d.stale j).0 h in let lt = s.0 in
        (omega (arith, lt), s.1))
        (λ (same : j ≡ r.item). let at : low ≡ j = sym (same ∙ here) in
        (omega (arith, at), subst (IsStale e after) at stale))
        (among_either rs r j among),
    λ s. at_low (λ k. IsStale e after k → IsAmong (map item_of (rs ++ r ∷ [])) k) low j s.0
        (λ lt t. among_old rs r j ((d.stale j).1 (lt, t))) (λ t. among_new rs r low here) s.1,
  );
  settled = λ k le lt rests.
      let settled : IsSettled e after low k =
      d.settled k (omega (arith, le)) lt (stay k (omega (arith, le)) rests) in
      settled_next e after low k settled
      (λ name o f u before now same. spread name f now same k (omega (arith, le)) lt u rests o f
      before now same);
}

-- up to an item before which none waits
pub decided_skip : (e : TextEdit) (after : List (Option Outcome)) (waits : ℕ → Bool) (rs : List Rechecked)
    (low n : ℕ) → IsEdit e → AreResults e.known (definitions_after e) after
    → IsDecided e after waits rs low → low + n ≤ length (definitions_after e)
    → ((k : ℕ) → low ≤ k → k < low + n → waits k ≡ false) → IsDecided e after waits rs (low + n)
decided_skip e after waits rs low zero is are d fits none =
    let same : low ≡ low + zero = omega arith in subst (IsDecided e after waits rs) same d
decided_skip e after waits rs low (suc n) is are d fits none =
    let same : suc low + n ≡ low + suc n = omega arith in
    let unchanged = settled_unchanged e after low
    (d.settled low (omega arith) (omega (arith, fits)) (none low (omega arith) (omega arith))) in
    let next = decided_unchanged e after waits waits rs low is are d unchanged (λ k l h. h) in
    subst (IsDecided e after waits rs) same
    (decided_skip e after waits rs (suc low) n is are next (omega (arith, fits))
    (λ k le lt. none k (omega (arith, le)) (omega (arith, lt))))

pub decided_to : (e : TextEdit) (after : List (Option Outcome)) (waits : ℕ → Bool) (rs : List Rechecked)
    (low k : ℕ) → IsEdit e → AreResults e.known (definitions_after e) after
    → IsDecided e after waits rs low → low ≤ k → k ≤ length (definitions_after e)
    → ((j : ℕ) → j < k → waits j ≡ false) → IsDecided e after waits rs k
decided_to e after waits rs low k is are d le fits none =
    let same : low + (k - low) ≡ k = omega (arith, le) in
    subst (IsDecided e after waits rs) same
    (decided_skip e after waits rs low (k - low) is are d (omega (arith, same, fits))
    (λ j l lt. none j (omega (arith, lt, same))))

-- before anything is checked, where all fresh items wait that have a
-- definition, and the users of each name whose first declarers differ
pub decided_first : (e : TextEdit) (after : List (Option Outcome)) (waits : ℕ → Bool)
    → ((k : ℕ) → k < length (definitions_after e) → waits k ≡ false → IsOfOld e k)
    → ((name : List ℕ) → IsCovered e waits name) → IsDecided e after waits [] 0
decided_first e after waits kept covered = record {
  each = λ j lt. absurd (omega (arith, lt));
  ascend = tt;
  stale = λ j. (
    λ h. let lt = h.1.0 in absurd (omega (arith, lt)),
    λ s. let lt = s.0 in absurd (omega (arith, lt)),
  );
  settled = λ k le lt rests. record {
    kept = kept k lt rests;
    alike = λ name u. covered name k lt u rests;
    means = λ name u o f before now l. absurd (omega (arith, l));
  };
}

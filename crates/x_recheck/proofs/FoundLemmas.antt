-- What checking an item finds by the results so far.
use Rattle.std.specs.List.{IsAmong}
use Rattle.std.proofs.Common.{◌≡◌, ◌<◌, ℕ, ◌+◌, ◌^◌, List, [], ◌∷◌, map, Option, Some, None, sym, ap, subst}
use Rattle.std.proofs.Common.{◌∙◌, arith}
use Rattle.std.proofs.lemmas.Option.{same_Some}
use Rattle.x_text.specs.Counts.{Counts}
use Rattle.x_streams.specs.Counters.{raised}
use Rattle.x_trees.specs.Tree.{Definition}
use Rattle.x_rules.specs.Results.{KnownNames, Outcome, IsOutcome, IsResult, AreResults, result_at, view_by}
use Rattle.x_rules.specs.Views.{View}
use Rattle.x_trees.specs.Seen.{names_of}
use Rattle.x_rules.proofs.ResultLaws.{AgreeBefore, one_outcome, same_views}
use Rattle.x_recheck.specs.Editing.{TextEdit, definitions_after, definition_at, old_number}
use Rattle.x_recheck.specs.Staleness.{IsOutdated, checked_more}
use Rattle.x_recheck.specs.inside.Deciding.{IsUnchanged, SeesSame, SeesOther}
use Rattle.x_recheck.proofs.AlikeLemmas.{result_by_index}

-- the view of a name by results that agree as far as it reads them
same_view : (known : KnownNames) (ds : List (Option Definition)) (r s : ℕ → Option Outcome) (k : ℕ)
    (name : List ℕ) → AgreeBefore r s k → view_by known ds r k name ≡ view_by known ds s k name
same_view known ds r s k name agree =
    let both : map (view_by known ds r k) (name ∷ []) ≡ map (view_by known ds s k) (name ∷ []) =
    same_views known ds r s k agree (name ∷ []) in cc

-- an item that sees its names as before is unchanged
pub unchanged_by : (e : TextEdit) (results : ℕ → Option Outcome) (after : List (Option Outcome)) (k was : ℕ)
    (d : Definition) → AgreeBefore results (result_at after) k → old_number e.place k ≡ Some was
    → definition_at (definitions_after e) k ≡ Some d
    → ((name : List ℕ) → IsAmong (names_of d) name → SeesSame e results was k name) → IsUnchanged e after k
unchanged_by e results after k was d agree kept has same = record {
  kept = λ x h. (was, kept);
  same = λ name u.
      let definition : u.definition ≡ d = same_Some u.definition d (sym u.has ∙ has) in
      let number : u.was ≡ was = same_Some u.was was (sym u.kept ∙ kept) in
      ap (λ j. view_by e.known e.old (result_at e.outcomes) j name) number
      ∙ same name (subst (λ x. IsAmong (names_of x) name) definition u.sees)
      ∙ same_view e.known (definitions_after e) results (result_at after) k name agree;
}

-- one that does not, or that is fresh, is outdated
pub outdated_kept : (e : TextEdit) (results : ℕ → Option Outcome) (after : List (Option Outcome)) (k was : ℕ)
    (names : List (List ℕ)) → AgreeBefore results (result_at after) k → old_number e.place k ≡ Some was
    → SeesOther e results was k names → IsOutdated e after (old_number e.place k) k names
outdated_kept e results after k was names agree kept other =
    subst (λ n. IsOutdated e after n k names) (sym kept) (
      other.0,
      other.1,
      λ same. other.2
          (same ∙ sym (same_view e.known (definitions_after e) results (result_at after) k other.0 agree)),
    )

pub outdated_fresh : (e : TextEdit) (after : List (Option Outcome)) (k : ℕ) (names : List (List ℕ))
    → old_number e.place k ≡ None → IsOutdated e after (old_number e.place k) k names
outdated_fresh e after k names fresh = subst (λ n. IsOutdated e after n k names) (sym fresh) tt

one_result : (known : KnownNames) (ds : List (Option Definition)) (r : ℕ → Option Outcome) (k : ℕ)
    (d : Definition) (c : Outcome) (o : Option Outcome)
    → IsOutcome d (map (view_by known ds r k) (names_of d)) c → IsResult known ds r k (Some d) o → Some c ≡ o
one_result known ds r k d c None is h = absurd h
one_result known ds r k d c (Some o) is h =
    ap Some (one_outcome d (map (view_by known ds r k) (names_of d)) c o is h)

-- what is found by the results so far is the result
pub found_result : (known : KnownNames) (ds : List (Option Definition)) (results : ℕ → Option Outcome)
    (after : List (Option Outcome)) (k : ℕ) (d : Definition) (views : List View) (c : Outcome)
    → AreResults known ds after → AgreeBefore results (result_at after) k
    → definition_at ds k ≡ Some d → views ≡ map (view_by known ds results k) (names_of d)
    → IsOutcome d views c → Some c ≡ result_at after k
found_result known ds results after k d views c are agree has same is =
    one_result known ds (result_at after) k d c (result_at after k)
    (subst (λ vs. IsOutcome d vs c) (same
    ∙ same_views known ds results (result_at after) k agree (names_of d)) is)
    (subst (λ x. IsResult known ds (result_at after) k x (result_at after k)) has
    (result_by_index known ds after are k))

-- ---- counts

raised_one : (c n : ℕ) → raised (raised c n) 1 ≡ raised c (n + 1)
raised_one c n = omega arith

pub counted_next : (base a b : Counts) (n : ℕ) → a ≡ checked_more base n
    → b ≡ record a { checked = raised a.checked 1 } → b ≡ checked_more base (n + 1)
counted_next base a b n so step = step ∙ ap (λ (c : Counts). record c { checked = raised c.checked 1 }) so
    ∙ ap (λ k. record base { checked = k }) (raised_one base.checked n)

pub counted_none : (base : Counts) → base.checked < 2 ^ 64 → base ≡ checked_more base 0
counted_none base fits =
    let same : base.checked ≡ raised base.checked 0 = omega (arith, fits) in
    ap (λ k. record base { checked = k }) same

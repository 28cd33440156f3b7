-- Changes of a text, one after another.
use Rattle.std.proofs.Common.{◌≡◌, ◌∙◌, ℕ, true, List, [], ◌∷◌, ◌++◌, length, ap, sym, subst, arith, inl, inr}
use Rattle.std.proofs.Common.{refl, Option, Some, None, Result, Ok, Err, drop, append-nil}
use Rattle.std.specs.Prelude.{◌↔◌, OnOk, is_none}
use Rattle.x_text.specs.Edits.{Change, FitsText, Judges, LiesWithin, Refuses, edited_by}
use Rattle.x_text.specs.declared.text.fault.TextFault.{TextFault}
use Rattle.x_text.specs.declared.text.fault.TextFault.TheVariants.{BadRange, TooLarge, NoMemory}
use Rattle.x_frames.specs.Params.{Replacement}
use Rattle.x_positions.specs.declared.encoding.Encoding.{Encoding}
use Rattle.x_positions.specs.declared.range.Range.{Range}
use Rattle.x_documents.specs.Changes.{change_by, change_in, changed_by_all}
use Rattle.x_documents.specs.Noting.{Fit, IsStopped, begin_whole}

-- a change is refused for its fault
pub judged : {T : Type 0} (change : Change) (fault : TextFault) → Judges {T = T} change (Err fault)
    → Refuses change fault
judged change BadRange h = h.bad_range.0 refl
judged change TooLarge h = h.too_large.0 refl
judged change NoMemory h = tt

-- ---- of a whole text

gone : (a : List ℕ) → drop (length a) a ≡ []
gone [] = refl
gone (b ∷ a) = gone a

whole_edited : (encoding : Encoding) (a insert : List ℕ) (range : Option Range) → is_none range ≡ true
    → edited_by (change_in encoding a range insert) ≡ insert
whole_edited encoding a insert None h = ap (λ l. insert ++ l) (gone a) ∙ append-nil insert
whole_edited encoding a insert (Some range) h = absurd (cc)

same_edited : (encoding : Encoding) (a b : List ℕ) (change : Replacement) → is_none change.range ≡ true
    → edited_by (change_by encoding a change) ≡ edited_by (change_by encoding b change)
same_edited encoding a b change h = whole_edited encoding a change.text change.range h
    ∙ sym (whole_edited encoding b change.text change.range h)

-- changes that begin with one leave the same of every text
pub whole_same : (encoding : Encoding) (a b : List ℕ) (changes : List Replacement)
    → begin_whole changes ≡ true
    → changed_by_all encoding a changes ≡ changed_by_all encoding b changes
whole_same encoding a b [] h = absurd (cc)
whole_same encoding a b (change ∷ changes) h = ap (λ t. changed_by_all encoding t changes)
    (same_edited encoding a b change h)

whole_lies : (encoding : Encoding) (a insert : List ℕ) (range : Option Range) → is_none range ≡ true
    → LiesWithin (change_in encoding a range insert)
whole_lies encoding a insert None h = record { forward = omega arith; within = omega arith }
whole_lies encoding a insert (Some range) h = absurd (cc)

whole_refuses : (encoding : Encoding) (a b : List ℕ) (change : Replacement) (fault : TextFault)
    → is_none change.range ≡ true
    → Refuses (change_by encoding a change) fault → Refuses (change_by encoding b change) fault
whole_refuses encoding a b change BadRange h refuses = absurd
    (refuses (whole_lies encoding a change.text change.range h))
whole_refuses encoding a b change TooLarge h refuses = (
  whole_lies encoding b change.text change.range h,
  omega
      (arith, refuses.1, ap length (same_edited encoding a b change h)),
)
whole_refuses encoding a b change NoMemory h refuses = tt

whole_fits : (encoding : Encoding) (a b : List ℕ) (change : Replacement) → is_none change.range ≡ true
    → FitsText (change_by encoding a change) → FitsText (change_by encoding b change)
whole_fits encoding a b change h fits = record {
  lies_within = whole_lies encoding b change.text change.range h;
  small = omega (arith, fits.small, ap length (same_edited encoding a b change h));
}

-- and are refused of every text for the same
pub whole_stopped : (encoding : Encoding) (a b : List ℕ) (fault : TextFault) (changes : List Replacement)
    → begin_whole changes ≡ true
    → IsStopped encoding a fault changes → IsStopped encoding b fault changes
whole_stopped encoding a b fault [] h stopped = stopped
whole_stopped encoding a b fault (change ∷ changes) h (inl refuses) = inl
    (whole_refuses encoding a b change fault h refuses)
whole_stopped encoding a b fault (change ∷ changes) h (inr rest) =
    inr (
      whole_fits encoding a b change h rest.0,
      subst (λ t. IsStopped encoding t fault changes)
          (same_edited encoding a b change h) rest.1,
    )

-- and fit every text
pub whole_fit : (encoding : Encoding) (a b : List ℕ) (changes : List Replacement)
    → begin_whole changes ≡ true → Fit encoding a changes → Fit encoding b changes
whole_fit encoding a b [] h fit = tt
whole_fit encoding a b (change ∷ changes) h fit = (
  whole_fits encoding a b change h fit.0,
  subst (λ t. Fit encoding t changes)
      (same_edited encoding a b change h) fit.1,
)

-- ---- one more

-- the first change fits, and a later one is refused
pub stopped_later : {T : Type 0} (encoding : Encoding) (text : List ℕ) (change : Replacement)
    (changes : List Replacement) (x : T) (fault : TextFault)
    → Judges (change_by encoding text change) (Ok x)
    → IsStopped encoding (edited_by (change_by encoding text change)) fault changes
    → IsStopped encoding text fault (change ∷ changes)
stopped_later encoding text change changes x fault judges stopped = inr (judges.fits, stopped)

-- ---- one edit for another

fits_alike : {T : Type 0} (a b : Change) (result : Result T TextFault) → edited_by a ≡ edited_by b
    → (LiesWithin a ↔ LiesWithin b)
    → OnOk result (FitsText a) → OnOk result (FitsText b)
fits_alike a b (Ok x) same within fits =
    record { lies_within = within.0 fits.lies_within; small = omega (arith, fits.small, ap length same) }
fits_alike a b (Err fault) same within fits = tt

-- two changes that lie within their texts or not, and leave the same, are judged alike
pub judged_alike : {T : Type 0} (a b : Change) (result : Result T TextFault) → edited_by a ≡ edited_by b
    → (LiesWithin a ↔ LiesWithin b)
    → Judges a result → Judges b result
judged_alike a b result same within h = record {
  fits = fits_alike a b result same within h.fits;
  bad_range = (
    λ e lies. h.bad_range.0 e (within.1 lies),
    λ refuses. h.bad_range.1
        (λ lies. refuses (within.0 lies)),
  );
  too_large = (
    λ e. let r = h.too_large.0 e in (within.0 r.0, omega (arith, r.1, ap length same)),
    λ r. h.too_large.1 (within.1 r.0, omega (arith, r.1, ap length same)),
  );
}

-- a change of all lies within the text
pub whole_within : (encoding : Encoding) (text insert : List ℕ)
    → LiesWithin (change_in encoding text None insert)
whole_within encoding text insert = whole_lies encoding text insert None refl

pub whole_makes : (encoding : Encoding) (text insert : List ℕ)
    → edited_by (change_in encoding text None insert) ≡ insert
whole_makes encoding text insert = whole_edited encoding text insert None refl

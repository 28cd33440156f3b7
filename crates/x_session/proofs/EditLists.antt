-- One edit after another.
use Rattle.std.proofs.Common.{◌≡◌, ℕ, ◌+◌, Err, List, [], ◌∷◌, ◌++◌, length, arith, append_assoc, append-nil}
use Rattle.std.proofs.Common.{length-append, refl, sym, ap, subst, ◌∙◌}
use Rattle.x_text.specs.Edits.{change_of, edited_by, FitsText, Judges}
use Rattle.x_text.specs.declared.text.edit.Edit.{Edit}
use Rattle.x_text.specs.declared.text.fault.TextFault.{TextFault}
use Rattle.x_session.specs.Session.{edited_by_all, TakesAll, StopsAt}
use Rattle.x_session.specs.declared.session.work.Work.{Work}

-- the edits but for those that are left were taken, and leave this text
pub record HasTaken (text : List ℕ) (edits left : List Edit) (now : List ℕ) (count : ℕ) : Type 0 where
  pub before : List Edit
  pub split : before ++ left ≡ edits
  pub counted : count ≡ length before
  pub takes : TakesAll text before
  pub now_is : now ≡ edited_by_all text before

pub taken_none : (text : List ℕ) (edits : List Edit) → HasTaken text edits edits text 0
taken_none text edits = record { before = []; split = refl; counted = refl; takes = tt; now_is = refl }

edited_more : (text : List ℕ) (es : List Edit) (e : Edit)
    → edited_by_all text (es ++ e ∷ []) ≡ edited_by (change_of (edited_by_all text es) e)
edited_more text [] e = refl
edited_more text (d ∷ ds) e = edited_more (edited_by (change_of text d)) ds e

takes_more : (text : List ℕ) (es : List Edit) (e : Edit) → TakesAll text es
    → FitsText (change_of (edited_by_all text es) e)
    → TakesAll text (es ++ e ∷ [])
takes_more text [] e all fits = (fits, tt)
takes_more text (d ∷ ds) e all fits = (all.0, takes_more (edited_by (change_of text d)) ds e all.1 fits)

pub taken_more : (text : List ℕ) (edits left : List Edit) (e : Edit) (now new : List ℕ) (count : ℕ)
    → HasTaken text edits (e ∷ left) now count
    → FitsText (change_of now e) → new ≡ edited_by (change_of now e)
    → HasTaken text edits left new (count + 1)
taken_more text edits left e now new count h fits is = record {
  before = h.before ++ e ∷ [];
  split = append_assoc h.before (e ∷ []) left ∙ h.split;
  counted = let n = h.counted in omega (arith, n, length-append h.before (e ∷ []));
  takes = takes_more text h.before e h.takes (subst (λ t. FitsText (change_of t e)) h.now_is fits);
  now_is = is ∙ ap (λ t. edited_by (change_of t e)) h.now_is ∙ sym (edited_more text h.before e);
}

pub taken_all : (text : List ℕ) (edits left : List Edit) (now : List ℕ) (count : ℕ) → left ≡ []
    → HasTaken text edits left now count → (now ≡ edited_by_all text edits) × TakesAll text edits
taken_all text edits left now count none h =
    let whole : h.before ≡ edits = sym (append-nil h.before) ∙ ap (λ l. h.before ++ l) (sym none) ∙ h.split in
    (h.now_is ∙ ap (edited_by_all text) whole, subst (λ es. TakesAll text es) whole h.takes)

pub stops_at : (text : List ℕ) (edits left : List Edit) (e : Edit) (now new : List ℕ) (count : ℕ)
    (fault : TextFault) → HasTaken text edits (e ∷ left) now count → new ≡ now
    → Judges {T = Work} (change_of now e) (Err fault)
    → StopsAt text edits new count fault
stops_at text edits left e now new count fault h same refuses = record {
  before = h.before;
  edit = e;
  behind = left;
  edits_are = sym h.split;
  index_is = h.counted;
  takes = h.takes;
  left_is = same ∙ h.now_is;
  refuses = subst (λ t. Judges {T = Work} (change_of t e) (Err fault)) (sym same) refuses;
}

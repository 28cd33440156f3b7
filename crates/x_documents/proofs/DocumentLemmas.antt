-- The document of a URI among those that are open.
use Rattle.std.proofs.Common.{◌≡◌, ◌∙◌, ◌<◌, ℕ, zero, suc, Bool, true, false, cond, List, [], ◌∷◌, ◌++◌}
use Rattle.std.proofs.Common.{length, map, get_or, arith, ap, refl, sym, Some, None}
use Rattle.std.specs.List.{list_any}
use Rattle.std.specs.Prelude.{◌||◌, bytes_eq, filter, if◌then◌else◌, is_some, not, slice_set}
use Rattle.x_documents.specs.DocumentNames.{name_of}
use Rattle.x_documents.specs.Documents.{Document, document_of, is_in_step, is_of, lost, put, without}
use Rattle.x_documents.specs.Views.{IsFoundAt, view_document, views}
use Rattle.x_documents.specs.declared.document.OpenDocument.{OpenDocument}

-- ---- where it stands

-- none of the first so many documents is that of a URI
abbrev pub none_before : (uri : List ℕ) → ℕ → List OpenDocument → Type 0
none_before uri zero ds = Unit {0}
none_before uri (suc n) [] = Unit {0}
none_before uri (suc n) (d ∷ ds) = (is_of uri (view_document d) ≡ false) × none_before uri n ds

-- and not the one behind them
pub one_more : (uri : List ℕ) (n : ℕ) (ds : List OpenDocument) (x : OpenDocument) → n < length ds
    → x ≡ get_or ds n x
    → is_of uri (view_document x) ≡ false → none_before uri n ds → none_before uri (suc n) ds
one_more uri zero [] x lt is fails h = tt
one_more uri zero (d ∷ ds) x lt is fails h = (ap (λ y. is_of uri (view_document y)) (sym is) ∙ fails, tt)
one_more uri (suc n) [] x lt is fails h = tt
one_more uri (suc n) (d ∷ ds) x lt is fails h = (h.0, one_more uri n ds x (omega (arith, lt)) is fails h.1)

here : (uri : List ℕ) (d x : OpenDocument) → x ≡ d → is_of uri (view_document x) ≡ true
    → is_of uri (view_document d) ≡ true
here uri d x is holds = ap (λ y. is_of uri (view_document y)) (sym is) ∙ holds

found_here : (uri : List ℕ) (n : ℕ) (ds : List OpenDocument) (x : OpenDocument) → n < length ds
    → x ≡ get_or ds n x
    → is_of uri (view_document x) ≡ true → none_before uri n ds
    → document_of uri (views ds) ≡ Some (view_document x)
found_here uri n [] x lt is holds h = absurd (omega (arith, lt))
found_here uri zero (d ∷ ds) x lt is holds h =
    ap (λ t. cond t (Some (view_document d)) (document_of uri (views ds))) (here uri d x is holds)
    ∙ ap (λ y. Some (view_document y)) (sym is)
found_here uri (suc n) (d ∷ ds) x lt is holds h =
    ap (λ t. cond t (Some (view_document d)) (document_of uri (views ds))) h.0
    ∙ found_here uri n ds x (omega (arith, lt)) is holds h.1

put_here : (uri : List ℕ) (n : ℕ) (ds : List OpenDocument) (x new : OpenDocument) → n < length ds
    → x ≡ get_or ds n x
    → is_of uri (view_document x) ≡ true → none_before uri n ds
    → put uri (view_document new) (views ds) ≡ views (slice_set ds n new)
put_here uri n [] x new lt is holds h = absurd (omega (arith, lt))
put_here uri zero (d ∷ ds) x new lt is holds h =
    ap (λ t. cond t (view_document new ∷ views ds)
    (view_document d ∷ put uri (view_document new) (views ds))) (here uri d x is holds)
put_here uri (suc n) (d ∷ ds) x new lt is holds h =
    ap (λ t. cond t (view_document new ∷ views ds)
    (view_document d ∷ put uri (view_document new) (views ds))) h.0
    ∙ ap (λ l. view_document d ∷ l) (put_here uri n ds x new (omega (arith, lt)) is holds h.1)

any_default : (ds : List OpenDocument) (n : ℕ) (x d : OpenDocument) → n < length ds → x ≡ get_or ds n x
    → x ≡ get_or ds n d
any_default [] n x d lt is = absurd (omega (arith, lt))
any_default (y ∷ ds) zero x d lt is = is
any_default (y ∷ ds) (suc n) x d lt is = any_default ds n x d (omega (arith, lt)) is

pub found_at : (uri : List ℕ) (n : ℕ) (ds : List OpenDocument) (x : OpenDocument) → n < length ds
    → x ≡ get_or ds n x
    → is_of uri (view_document x) ≡ true → none_before uri n ds → IsFoundAt ds uri (Some n)
found_at uri n ds x lt is holds h = (
  lt,
  λ d. found_here uri n ds x lt is holds h ∙ ap (λ y. Some (view_document y)) (any_default ds n x d lt is),
  λ new. put_here uri n ds x new lt is holds h,
)

pub found_nowhere : (uri : List ℕ) (ds : List OpenDocument) → none_before uri (length ds) ds
    → document_of uri (views ds) ≡ None
found_nowhere uri [] h = refl
found_nowhere uri (d ∷ ds) h =
    ap (λ t. cond t (Some (view_document d)) (document_of uri (views ds))) h.0 ∙ found_nowhere uri ds h.1

-- ---- where there is none

behind_by : (t : Bool) (uri : List ℕ) (d new : Document) (ds : List Document)
    → cond t (Some d) (document_of uri ds) ≡ None
    → (document_of uri ds ≡ None → put uri new ds ≡ ds ++ new ∷ [])
    → cond t (new ∷ ds) (d ∷ put uri new ds) ≡ (d ∷ ds) ++ new ∷ []
behind_by true uri d new ds none rest = absurd (cc)
behind_by false uri d new ds none rest = ap (λ l. d ∷ l) (rest none)

pub put_behind : (uri : List ℕ) (new : Document) (ds : List Document) → document_of uri ds ≡ None
    → put uri new ds ≡ ds ++ new ∷ []
put_behind uri new [] none = refl
put_behind uri new (d ∷ ds) none = behind_by (is_of uri d) uri d new ds none (put_behind uri new ds)

pub views_more : (ds : List OpenDocument) (x : OpenDocument) → views (ds ++ x ∷ []) ≡ views ds
    ++ view_document x ∷ []
views_more [] x = refl
views_more (d ∷ ds) x = ap (λ l. view_document d ∷ l) (views_more ds x)

-- ---- without it

named_so : (uri : List ℕ) (d : OpenDocument) → not (bytes_eq d.name.items (name_of uri)) ≡ not
    (is_of uri (view_document d))
named_so uri d = ap (λ n. not (bytes_eq n (name_of uri))) d.named

kept_by : (t : Bool) (d : OpenDocument) (ds : List OpenDocument) (rest : List Document) → views ds ≡ rest
    → views (cond t (d ∷ ds) ds) ≡ cond t (view_document d ∷ rest) rest
kept_by true d ds rest e = ap (λ l. view_document d ∷ l) e
kept_by false d ds rest e = e

pub views_without : (uri : List ℕ) (ds : List OpenDocument)
    → views (filter (λ d. not (bytes_eq d.name.items (name_of uri))) ds) ≡ without uri (views ds)
views_without uri [] = refl
views_without uri (d ∷ ds) =
    kept_by (not (bytes_eq d.name.items (name_of uri))) d
    (filter (λ d. not (bytes_eq d.name.items (name_of uri))) ds) (without uri (views ds))
    (views_without uri ds)
    ∙ ap (λ t. cond t (view_document d ∷ without uri (views ds)) (without uri (views ds))) (named_so uri d)

-- ---- all out of step

abbrev head_or : Document → List Document → Document
head_or d [] = d
head_or d (e ∷ ds) = e

abbrev tail_of : List Document → List Document
tail_of [] = []
tail_of (e ∷ ds) = ds

or_false : (a : Bool) → (a || false) ≡ a
or_false true = refl
or_false false = refl

or_assoc : (a b c : Bool) → (a || (b || c)) ≡ ((a || b) || c)
or_assoc true b c = refl
or_assoc false b c = refl

-- the first so many are out of step, and one of them was in step
abbrev pub lost_before : ℕ → List Document → List Document
lost_before zero ds = ds
lost_before (suc n) [] = []
lost_before (suc n) (d ∷ ds) = lost d ∷ lost_before n ds

abbrev pub any_before : ℕ → List Document → Bool
any_before zero ds = false
any_before (suc n) [] = false
any_before (suc n) (d ∷ ds) = is_in_step d || any_before n ds

pub all_lost : (ds : List Document) → lost_before (length ds) ds ≡ map lost ds
all_lost [] = refl
all_lost (d ∷ ds) = ap (λ l. lost d ∷ l) (all_lost ds)

pub any_of_all : (ds : List Document) → any_before (length ds) ds ≡ list_any is_in_step ds
any_of_all [] = refl
any_of_all (d ∷ ds) = ap (λ t. is_in_step d || t) (any_of_all ds)

pub views_length : (ds : List OpenDocument) → length (views ds) ≡ length ds
views_length [] = refl
views_length (d ∷ ds) = ap suc (views_length ds)

-- one more, among documents of which those before it are out of step
pub lost_then : (n : ℕ) (items : List OpenDocument) (x new : OpenDocument) (old : List Document)
    → n < length items → x ≡ get_or items n x
    → views items ≡ lost_before n old → view_document new ≡ lost (view_document x)
    → views (slice_set items n new) ≡ lost_before (suc n) old
lost_then n [] x new old lt is so lost_is = absurd (omega (arith, lt))
lost_then zero (d ∷ ds) x new [] lt is so lost_is = absurd (cc)
lost_then zero (d ∷ ds) x new (o ∷ old) lt is so lost_is =
    (λ i. (lost_is ∙ ap (λ y. lost (view_document y)) is ∙ ap lost (ap (head_or (view_document d)) so)) i ∷
    (ap tail_of so) i)
lost_then (suc n) (d ∷ ds) x new [] lt is so lost_is = absurd (cc)
lost_then (suc n) (d ∷ ds) x new (o ∷ old) lt is so lost_is =
    (λ i. (ap (head_or (view_document d)) so) i ∷
    (lost_then n ds x new old (omega (arith, lt)) is (ap tail_of so) lost_is) i)

pub any_then : (n : ℕ) (items : List OpenDocument) (x : OpenDocument) (old : List Document)
    → n < length items → x ≡ get_or items n x
    → views items ≡ lost_before n old → any_before (suc n) old ≡
    (any_before n old || is_in_step (view_document x))
any_then n [] x old lt is so = absurd (omega (arith, lt))
any_then zero (d ∷ ds) x [] lt is so = absurd (cc)
any_then zero (d ∷ ds) x (o ∷ old) lt is so =
    or_false (is_in_step o) ∙ ap is_in_step (sym (ap (head_or (view_document d)) so))
    ∙ ap (λ y. is_in_step (view_document y)) (sym is)
any_then (suc n) (d ∷ ds) x [] lt is so = absurd (cc)
any_then (suc n) (d ∷ ds) x (o ∷ old) lt is so =
    ap (λ t. is_in_step o || t) (any_then n ds x old (omega (arith, lt)) is (ap tail_of so))
    ∙ or_assoc (is_in_step o) (any_before n old) (is_in_step (view_document x))

-- what is in step, as it is seen
pub step_seen : (in_step : Bool) (shown : List ℕ) → is_some (if in_step then Some shown else None) ≡ in_step
step_seen true shown = refl
step_seen false shown = refl

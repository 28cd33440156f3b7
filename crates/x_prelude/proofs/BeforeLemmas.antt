-- What stands before a text.
use Rattle.std.proofs.Common.{◌≡◌, ◌⊎◌, ◌<◌, ℕ, Bool, true, false, List, [], ◌++◌, append-nil, length, inl}
use Rattle.std.proofs.Common.{inr}
use Rattle.std.proofs.Common.{Vec, vec_len, arith, refl, sym, ap, subst, ◌∙◌}
use Rattle.std.specs.Global.{Global}
use Rattle.std.proofs.lemmas.Grind.{common_steps}
use Rattle.std.specs.Prelude.{◌==◌, Result, Ok, Err, IfOk, IsErrOf, IsErrAnd, if◌then◌else◌, ◌||◌}
use Rattle.x_text.specs.Limits.{most_text}
use Rattle.x_text.specs.declared.text.fault.TextFault.{TextFault}
use Rattle.x_compile.specs.Compile.{Item, definitions_of}
use Rattle.x_compile.specs.Known.{KnownText, known_names}
use Rattle.x_rules.specs.Results.{KnownNames}
use Rattle.x_session.specs.Session.{Compiles, Document}
use Rattle.x_session.proofs.DeclaredLemmas.{of_each}
use Rattle.x_prelude.specs.Before.{IsBefore, IsCrowded, IsKnownOf, IsOpenBy, IsOpenOver, IsPrelude}
use Rattle.x_prelude.specs.Before.{StandsBefore}
use Rattle.x_prelude.specs.Before.{by_files, by_names}
use Rattle.x_prelude.specs.CTypes.{c_types}
use Rattle.x_prelude.specs.Lacking.{lacking}
use Rattle.x_prelude.specs.Prelude.{definitions_of_names, prelude, types_in}
use Rattle.x_prelude.specs.declared.definition.FromC.{FromC}

-- an error that is passed on
pub passed_on : {T E : Type 0} (P : Result T E → Type 0) (r : Result T E) (e : E) → IsErrAnd r (λ x. x ≡ e)
    → P (Err e) → P r
passed_on P (Ok x) e again h = absurd again
passed_on P (Err x) e again h = subst (λ y. P (Err y)) (sym again) h

-- an error is the same whatever there is without it
abbrev err_or : {T E : Type 0} → E → Result T E → E
err_or d (Ok x) = d
err_or d (Err e) = e

pub same_error : {T U E : Type 0} (x y : E) → IsErrOf {T = T} (Err x) y → IsErrOf {T = U} (Err x) y
same_error x y e = ap Err (ap (err_or x) e)

-- a list that is tested for being empty, and is
pub no_items : (v : Vec ℕ Global) (b : Bool) → b ≡ (vec_len v == 0) → b ≡ true → v.items ≡ []
no_items v b is empty = grind (arith, common_steps)

-- types, and then the other names
pub both_parts : {known : KnownText} (text : List ℕ) (own : KnownNames) (from : FromC) (old mid new : List ℕ)
    → old ≡ [] → Compiles known text (λ items. mid ≡ old
    ++ (if from.types then types_in c_types own (definitions_of items) else []))
    → Compiles known text (λ items. new ≡ mid
    ++ (if from.foreign then definitions_of_names from (lacking own (definitions_of items)) else []))
    → Compiles known text (λ items. new ≡ prelude from own (definitions_of items))
both_parts text own from old mid new none first second =
    let items = second.1 in
    let types = if from.types then types_in c_types own (definitions_of items) else [] in
    let names = if from.foreign then definitions_of_names from (lacking own (definitions_of items)) else [] in
    let begun = of_each text first second.0 items second.2 ∙ ap (λ l. l ++ types) none in
    (second.0, items, second.2, second.3 ∙ ap (λ l. l ++ names) begun)

-- ---- what is lacking stands behind the files

pub is_prelude : {known : KnownText} (files : List ℕ) (from : FromC) (text lacking : List ℕ) (own : KnownText)
    → IsKnownOf files own
    → Compiles known text (λ items. lacking ≡ prelude from (known_names own) (definitions_of items))
    → IsPrelude files from text lacking
is_prelude {known} files from text lacking own files_are compiled = (own, files_are, (known, compiled))

pub stands : (files : List ℕ) (from : FromC) (text lacking : List ℕ) → IsPrelude files from text lacking
    → StandsBefore files from text (files ++ lacking)
stands files from text lacking is = (lacking, is, refl)

pub is_before : (files : List ℕ) (from : FromC) (text lacking : List ℕ) (all : KnownText)
    → IsPrelude files from text lacking → IsKnownOf (files ++ lacking) all → IsBefore files from text all
is_before files from text lacking all is known = (files ++ lacking, stands files from text lacking is, known)

pub crowds : (files : List ℕ) (from : FromC) (text lacking bytes before : List ℕ)
    → IsPrelude files from text lacking → bytes ≡ text → before ≡ files ++ lacking
    → (most_text < length bytes) ⊎ (most_text < length before)
    → (most_text < length text) ⊎ IsCrowded files from text
crowds files from text lacking bytes before is same front large = elim large [
  | inl long ↦ inl (subst (λ t. most_text < length t) same long)
  | inr long ↦ inr (by_names (files ++ lacking) (stands files from text lacking is)
      (subst (λ t. most_text < length t) front long))
]

-- ---- where nothing is taken from C

takes_nothing : (from : FromC) → (from.types || from.foreign) ≡ false
    → (own : KnownNames) (items : List Item) → [] ≡ prelude from own (definitions_of items)
takes_nothing from none own items = by from.types from.foreign none
  where
    by : (t f : Bool) → (t || f) ≡ false
        → [] ≡ (if t then types_in c_types own (definitions_of items) else [])
        ++ (if f then definitions_of_names from (lacking own (definitions_of items)) else [])
    by true f e = absurd (cc)
    by false true e = absurd (cc)
    by false false e = refl

pub opened_alone : (files : List ℕ) (from : FromC) (base text : List ℕ) (r : Result Document TextFault)
    → (from.types || from.foreign) ≡ false → (most_text < length text → ⊥) → IsOpenOver files base text r
    → IsOpenBy files from base text r
opened_alone files from base text r none few over = record {
  base_is = over.base_is;
  text_is = over.text_is;
  known_is = by r over.text_is over.known_is over.items;
  too_large = λ long. absurd (few long);
  large = λ e. elim (over.large e) [ inl long ↦ inl long | inr long ↦ inr (by_files long) ];
  in_range = over.in_range;
}
  where
    by : (r : Result Document TextFault) → IfOk r (λ s. s.text ≡ text) → IfOk r (λ s. IsKnownOf files s.known)
        → IfOk r (λ s. Compiles s.known s.text (λ items. s.item_seat ≡ length items))
        → IfOk r (λ s. IsBefore files from text s.known)
    by (Ok s) is known items =
        let here = subst (λ t. Compiles s.known t (λ items. s.item_seat ≡ length items)) is items in
        let lacks : IsPrelude files from text [] = (
          s.known,
          known,
          (s.known, (here.0, here.1, here.2, takes_nothing from none (known_names s.known) here.1)),
        ) in
        is_before files from text [] s.known lacks
        (subst (λ t. IsKnownOf t s.known) (sym (append-nil files)) known)
    by (Err e) is known items = tt

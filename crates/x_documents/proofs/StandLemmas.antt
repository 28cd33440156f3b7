-- Texts that are compiled as they stand.
use Rattle.std.proofs.Common.{◌≡◌, ◌∙◌, ◌<◌, ◌⊎◌, ◌++◌, ◌∷◌, [], ℕ, ℤ, Bool, true, false, List, cond, length}
use Rattle.std.proofs.Common.{take, drop}
use Rattle.std.proofs.Common.{ap, append-nil, inl, inr, map, refl, subst, sym}
use Rattle.std.specs.List.{flat_map}
use Rattle.std.specs.Prelude.{◌&&◌, ◌==◌, Result, Ok, Err, IfErr, IsErrOf, OnOk, codes, not}
use Rattle.std.proofs.lemmas.List.Elements.{All-append, All-drop, All-take}
use Rattle.serde_json.specs.Written.{compact_text}
use Rattle.x_text.specs.Edits.{FitsText, Refuses, change_of, edited_by}
use Rattle.x_text.specs.Limits.{most_text}
use Rattle.x_text.specs.declared.text.edit.Edit.{Edit}
use Rattle.x_text.specs.declared.text.fault.TextFault.{TextFault}
use Rattle.x_text.specs.declared.text.fault.TextFault.TheVariants.{BadRange, TooLarge}
use Rattle.x_compile.specs.Compile.{Item, places_of}
use Rattle.x_session.specs.Foreign.{ForeignName}
use Rattle.x_directives.specs.Blanked.{blanked}
use Rattle.x_directives.specs.Branches.{in_later_branch}
use Rattle.x_directives.specs.Constants.{defined}
use Rattle.x_directives.proofs.BlankedLemmas.{no_hash}
use Rattle.x_directives.proofs.BranchLemmas.{all_said}
use Rattle.x_directives.proofs.PlainLemmas.{no_conditionals, no_constants, no_turns}
use Rattle.x_prelude.specs.Before.{IsBefore, IsCrowded}
use Rattle.x_prelude.specs.declared.followed.FollowedText.{FollowedText}
use Rattle.x_frames.specs.Params.{Replacement}
use Rattle.x_positions.specs.declared.encoding.Encoding.{Encoding}
use Rattle.x_told.specs.Telling.{told_of}
use Rattle.x_told.proofs.SilentLemmas.{all_free}
use Rattle.x_told.proofs.ToldLemmas.{all_are_free, none_of_branch}
use Rattle.x_published.specs.Diagnostics.{hint_data, hints_of, published_data}
use Rattle.x_published.specs.declared.client.Client.{Client}
use Rattle.x_documents.specs.Changes.{change_by}
use Rattle.x_documents.specs.Compiled.{HasNoHash, IsAsItStands, IsCompiled, Stands}
use Rattle.x_documents.specs.Grounds.{compiled_of, constant_text, constants_of, ground_with, has_mark}
use Rattle.x_documents.specs.Grounds.{unmarked}
use Rattle.x_documents.specs.Noting.{Fit, IsNotCompiled, IsStopped}
use Rattle.x_documents.specs.Publishing.{AreShown, IsPublishedOf}
use Rattle.x_documents.proofs.CompiledLemmas.{not_compiled}

-- ---- what is compiled of them

unmarked_same : (shown : List ℕ) → has_mark shown ≡ false → unmarked shown ≡ shown
unmarked_same shown none = ap (λ t. cond t (codes "   " ++ drop 3 shown) shown) none

pub stood_text : (blanks : Bool) (shown : List ℕ) → Stands blanks shown → compiled_of blanks shown ≡ shown
stood_text false shown stands = refl
stood_text true shown stands = ap blanked (unmarked_same shown (stands.no_mark refl))
    ∙ no_hash shown (stands.no_hash refl)

no_constant : (blanks : Bool) (shown : List ℕ) → Stands blanks shown → constants_of blanks shown ≡ []
no_constant false shown stands = refl
no_constant true shown stands =
    ap (λ t. flat_map constant_text (defined t)) (unmarked_same shown (stands.no_mark refl))
    ∙ ap (flat_map constant_text) (sym (no_constants shown (stands.no_hash refl)))

pub stood_files : (files : List ℕ) (blanks : Bool) (shown : List ℕ) → Stands blanks shown
    → files ++ constants_of blanks shown ≡ files
stood_files files blanks shown stands = ap (λ l. files ++ l) (no_constant blanks shown stands)
    ∙ append-nil files

-- ---- an edit of them

no_hash_behind : (old : List ℕ) (edit : Edit) → HasNoHash old → HasNoHash edit.insert.now
    → HasNoHash (edited_by (change_of old edit))
no_hash_behind old edit had fresh =
    let P : ℕ → Type 0 = λ byte. (byte == 35) ≡ false in
    All-append P (take edit.start old ++ edit.insert.now) (drop edit.end old)
    (All-append P (take edit.start old) edit.insert.now (All-take P edit.start old had) fresh)
    (All-drop P edit.end old had)

-- a text stands behind an edit that puts in no `#` and no mark
pub stands_behind : (blanks : Bool) (old new : List ℕ) (edit : Edit) → Stands blanks old
    → edited_by (change_of old edit) ≡ new → (blanks ≡ true → HasNoHash edit.insert.now)
    → (blanks ≡ true → has_mark new ≡ false) → Stands blanks new
stands_behind blanks old new edit had makes hash mark = record {
  no_hash = λ yes. subst HasNoHash makes (no_hash_behind old edit (had.no_hash yes) (hash yes));
  no_mark = mark;
}

pub text_was : (files shown : List ℕ) (blanks : Bool) (text : FollowedText)
    → IsAsItStands files blanks shown text → text.session.text ≡ shown
text_was files shown blanks text was = was.compiled.text_is ∙ stood_text blanks shown was.stands

files_stay : (files shown new : List ℕ) (blanks : Bool) (text : FollowedText)
    → IsAsItStands files blanks shown text → Stands blanks new
    → text.files.items ≡ files ++ constants_of blanks new
files_stay files shown new blanks text was stands =
    was.compiled.files_are ∙ stood_files files blanks shown was.stands
    ∙ sym (stood_files files blanks new stands)

text_now : (files shown new : List ℕ) (blanks : Bool) (text : FollowedText) (edit : Edit)
    → IsAsItStands files blanks shown text
    → edited_by (change_of shown edit) ≡ new → Stands blanks new
    → edited_by (change_of text.session.text edit) ≡ compiled_of blanks new
text_now files shown new blanks text edit was makes stands =
    ap (λ s. edited_by (change_of s edit)) (text_was files shown blanks text was) ∙ makes
    ∙ sym (stood_text blanks new stands)

-- the same edit of what is compiled makes of it what is compiled of the new text
pub edit_compiled : (files shown new : List ℕ) (blanks : Bool) (old text : FollowedText) (edit : Edit)
    → IsAsItStands files blanks shown old
    → edited_by (change_of shown edit) ≡ new → Stands blanks new → text.files ≡ old.files
    → text.from_c ≡ old.from_c
    → text.session.text ≡ edited_by (change_of old.session.text edit)
    → ∥ IsBefore old.files.items old.from_c (edited_by
    (change_of old.session.text edit)) text.session.known ∥₁
    → IsCompiled files blanks new text
edit_compiled files shown new blanks old text edit was makes stands same_files same_from text_is before =
    record {
      files_are = ap (λ f. f.items) same_files ∙ files_stay files shown new blanks old was stands;
      text_is = text_is ∙ text_now files shown new blanks old edit was makes stands;
      before = subst (λ f. ∥ IsBefore f.items text.from_c text.session.text text.session.known ∥₁)
          (sym same_files)
          (subst (λ c. ∥ IsBefore old.files.items c text.session.text text.session.known ∥₁) (sym same_from)
          (subst (λ t. ∥ IsBefore old.files.items old.from_c t text.session.known ∥₁) (sym text_is) before));
    }

-- or it is refused for what the new text is refused for
pub edit_refused : {T : Type 0} (r : Result T TextFault) (files shown new : List ℕ) (blanks : Bool)
    (old : FollowedText) (edit : Edit)
    → IsAsItStands files blanks shown old → edited_by (change_of shown edit) ≡ new → Stands blanks new
    → (IsErrOf r TooLarge → ∥ (most_text < length (edited_by (change_of old.session.text edit)))
    ⊎ IsCrowded old.files.items old.from_c (edited_by (change_of old.session.text edit)) ∥₁)
    → (IsErrOf r BadRange → ⊥) → IfErr r (IsNotCompiled (ground_with files old.from_c blanks false 0) new)
edit_refused r files shown new blanks old edit was makes stands large range =
    not_compiled r files old.from_c blanks false 0 new old.files.items
    (edited_by (change_of old.session.text edit))
    (files_stay files shown new blanks old was stands)
    (text_now files shown new blanks old edit was makes stands) large range

-- ---- one change

pub one_fits : {T : Type 0} (r : Result T TextFault) (encoding : Encoding) (text : List ℕ)
    (change : Replacement)
    → OnOk r (FitsText (change_by encoding text change)) → OnOk r (Fit encoding text (change ∷ []))
one_fits (Ok x) encoding text change fits = (fits, tt)
one_fits (Err e) encoding text change fits = tt

pub one_stopped : {T : Type 0} (N : TextFault → Type 0) (r : Result T TextFault) (encoding : Encoding)
    (text : List ℕ) (change : Replacement)
    → IfErr r (λ fault. Refuses (change_by encoding text change) fault ⊎ N fault)
    → IfErr r (λ fault. IsStopped encoding text fault (change ∷ []) ⊎ N fault)
one_stopped N (Ok x) encoding text change why = tt
one_stopped N (Err e) encoding text change (inl refuses) = inl (inl refuses)
one_stopped N (Err e) encoding text change (inr other) = inr other

-- ---- what is told of them

no_branch : (shown : List ℕ) → HasNoHash shown → (place : ℕ) → in_later_branch shown place ≡ false
no_branch shown none place = sym (all_said [] shown (no_turns shown none) place)

all_told : (shown : List ℕ) (items : List Item) → HasNoHash shown
    → told_of false shown items ≡ told_of true shown items
all_told shown items none =
    sym (all_free shown items (inl (none_of_branch shown (no_branch shown none) (places_of items)))
    ∙ all_are_free shown (no_branch shown none) (places_of items))

told_alike : (blanks stands : Bool) (shown : List ℕ) (items : List Item)
    → (stands ≡ true → Stands blanks shown)
    → told_of (blanks && not stands) shown items ≡ told_of blanks shown items
told_alike false stands shown items so = refl
told_alike true false shown items so = refl
told_alike true true shown items so = all_told shown items ((so refl).no_hash refl)

hints_alike : (blanks stands : Bool) (encoding : Encoding) (shown : List ℕ)
    → (stands ≡ true → Stands blanks shown)
    → hints_of (blanks && not stands) encoding shown ≡ hints_of blanks encoding shown
hints_alike false stands encoding shown so = refl
hints_alike true false encoding shown so = refl
hints_alike true true encoding shown so = ap (map (hint_data encoding shown))
    (no_conditionals shown ((so refl).no_hash refl))

-- lines of cpp need not be looked for in a text that stands
pub published_alike : (client : Client) (uri : List ℕ) (version : ℤ) (blanks stands warns : Bool) (most : ℕ)
    (foreign : List ForeignName)
    (shown text : List ℕ) (items : List Item) (said : List ℕ) (looked : Bool)
    → looked ≡ (blanks && not stands)
    → (stands ≡ true → Stands blanks shown)
    → IsPublishedOf client uri version looked warns most foreign shown text items said
    → IsPublishedOf client uri version blanks warns most foreign shown text items said
published_alike client uri version blanks stands warns most foreign shown text items said looked is so h = (
  h.0,
  h.1,
  h.2,
  subst (λ t. AreShown client uri most shown text items t h.0)
      (ap (λ b. told_of b shown items) is ∙ told_alike blanks stands shown items so) h.3,
  h.4,
  h.5,
  h.6 ∙ ap (λ hints. compact_text (published_data uri version (h.0 ++ hints ++ h.1 ++ h.2)))
      (ap (λ b. hints_of b client.encoding shown) is ∙ hints_alike blanks stands client.encoding shown so),
)

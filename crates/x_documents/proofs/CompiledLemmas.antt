-- What is compiled of the text that a client has.
use mathlib.Core.HLevel.{hedberg}
use mathlib.Core.List.{is_set}
use mathlib.Core.Logic.{∥∥₁_elim}
use native.Mathlib.Decide.{ℕ_discrete}
use Rattle.std.proofs.Common.{◌≡◌, ◌<◌, ◌⊎◌, ℕ, Bool, List, ◌++◌, length, refl, subst, sym, ◌∙◌}
use Rattle.std.specs.Prelude.{Result, Ok, Err, IfErr, IfOk, IsErrOf, OnErr, OnOk}
use Rattle.std.proofs.Math.Logic.{∥∥₁_map}
use Rattle.std.proofs.lemmas.Grind.{merely}
use Rattle.x_text.specs.Limits.{most_text}
use Rattle.x_text.specs.declared.text.fault.TextFault.{TextFault}
use Rattle.x_text.specs.declared.text.fault.TextFault.TheVariants.{BadRange, TooLarge, NoMemory}
use Rattle.x_prelude.specs.Before.{IsBefore, IsCrowded}
use Rattle.x_prelude.specs.Followed.{IsOver}
use Rattle.x_prelude.specs.declared.definition.FromC.{FromC}
use Rattle.x_prelude.specs.declared.followed.FollowedText.{FollowedText}
use Rattle.x_documents.specs.Compiled.{IsCompiled}
use Rattle.x_documents.specs.Grounds.{compiled_of, constants_of, ground_with}
use Rattle.x_documents.specs.Noting.{IsNotCompiled}

-- what stands before what is opened behind these files, of this text, by its own names
before_so : (files : List ℕ) (blanks : Bool) (shown front bytes : List ℕ) (from : FromC) (text : FollowedText)
    → front ≡ files ++ constants_of blanks shown → bytes ≡ compiled_of blanks shown
    → text.files.items ≡ front → text.session.text ≡ bytes → text.from_c ≡ from
    → IsBefore front from bytes text.session.known
    → IsBefore text.files.items text.from_c text.session.text text.session.known
before_so files blanks shown front bytes from text front_is bytes_are own own_text own_from before =
    subst (λ f. IsBefore f text.from_c text.session.text text.session.known) (sym own)
    (subst (λ c. IsBefore front c text.session.text text.session.known) (sym own_from)
    (subst (λ t. IsBefore front from t text.session.known) (sym own_text) before))

-- what is opened behind these files, of this text
is_compiled : (files : List ℕ) (blanks : Bool) (shown front bytes : List ℕ) (from : FromC)
    (text : FollowedText)
    → front ≡ files ++ constants_of blanks shown → bytes ≡ compiled_of blanks shown
    → text.files.items ≡ front → text.session.text ≡ bytes → text.from_c ≡ from
    → IsBefore front from bytes text.session.known → IsCompiled files blanks shown text
is_compiled files blanks shown front bytes from text front_is bytes_are own own_text own_from before =
    record {
      files_are = own ∙ front_is;
      text_is = own_text ∙ bytes_are;
      before = merely (before_so files blanks shown front bytes from text front_is bytes_are own own_text
          own_from before);
    }

pub opened_so : {E : Type 0} (r : Result FollowedText E) (files : List ℕ) (blanks : Bool)
    (shown front bytes : List ℕ)
    (from : FromC) → front ≡ files ++ constants_of blanks shown → bytes ≡ compiled_of blanks shown
    → IfOk r (λ t. t.files.items ≡ front) → IfOk r (λ t. t.session.text ≡ bytes)
    → IfOk r (λ t. t.from_c ≡ from)
    → IfOk r (λ t. IsBefore front from bytes t.session.known) → IfOk r (IsCompiled files blanks shown)
opened_so (Ok t) files blanks shown front bytes from f b own text own_from before =
    is_compiled files blanks shown front bytes from t f b own text own_from before
opened_so (Err e) files blanks shown front bytes from f b own text own_from before = tt

pub followed_so : {T E : Type 0} (r : Result T E) (files : List ℕ) (blanks : Bool)
    (shown front bytes : List ℕ)
    (from : FromC) (t : FollowedText) → front ≡ files ++ constants_of blanks shown
    → bytes ≡ compiled_of blanks shown → OnOk r (t.files.items ≡ front) → OnOk r (t.session.text ≡ bytes)
    → t.from_c ≡ from → OnOk r ∥ IsBefore front from bytes t.session.known ∥₁
    → OnOk r (IsCompiled files blanks shown t)
followed_so (Ok x) files blanks shown front bytes from t f b own text own_from before = record {
  files_are = own ∙ f;
  text_is = text ∙ b;
  before = ∥∥₁_map before (before_so files blanks shown front bytes from t f b own text own_from);
}
followed_so (Err e) files blanks shown front bytes from t f b own text own_from before = tt

-- what follows where there is no error, of what is merely there
pub merely_on : {T E A : Type 0} (B : Type 0) (r : Result T E) → ∥ A ∥₁ → (A → OnOk r B) → OnOk r ∥ B ∥₁
merely_on B (Ok x) a f = ∥∥₁_map a f
merely_on B (Err e) a f = tt

-- and what is so is merely so
pub on_merely : {T E : Type 0} (A : Type 0) (r : Result T E) → OnOk r A → OnOk r ∥ A ∥₁
on_merely A (Ok x) a = merely a
on_merely A (Err e) a = tt

pub opened_over : {E : Type 0} (r : Result FollowedText E) → IfOk r IsOver → IfOk r (λ t. ∥ IsOver t ∥₁)
opened_over (Ok t) over = merely over
opened_over (Err e) over = tt

-- it stands over what stands before it, also where it could not be replaced
pub over_replaced : {T E : Type 0} (r : Result T E) (old new : FollowedText) → OnOk r (IsOver new)
    → OnErr r (new ≡ old) → ∥ IsOver old ∥₁ → ∥ IsOver new ∥₁
over_replaced (Ok x) old new over same had = merely over
over_replaced (Err e) old new over same had = subst (λ t. ∥ IsOver t ∥₁) (sym same) had

-- why it is not compiled, behind these files
pub not_compiled : {T : Type 0} (r : Result T TextFault) (files : List ℕ) (from : FromC)
    (blanks warns : Bool) (most : ℕ)
    (shown front bytes : List ℕ) → front ≡ files ++ constants_of blanks shown
    → bytes ≡ compiled_of blanks shown
    → (IsErrOf r TooLarge → ∥ (most_text < length bytes) ⊎ IsCrowded front from bytes ∥₁)
    → (IsErrOf r BadRange → ⊥)
    → IfErr r (IsNotCompiled (ground_with files from blanks warns most) shown)
not_compiled (Ok x) files from blanks warns most shown front bytes f b large range = tt
not_compiled (Err BadRange) files from blanks warns most shown front bytes f b large range = range refl
not_compiled (Err TooLarge) files from blanks warns most shown front bytes f b large range =
    subst (λ t. ∥ (most_text < length t) ⊎ IsCrowded (files ++ constants_of blanks shown) from t ∥₁) b
    (subst (λ g. ∥ (most_text < length bytes) ⊎ IsCrowded g from bytes ∥₁) f (large refl))
not_compiled (Err NoMemory) files from blanks warns most shown front bytes f b large range = tt

-- one of two is too large, by other names
pub large_so : (files files' : List ℕ) (from from' : FromC) (text text' : List ℕ) → files' ≡ files
    → from' ≡ from → text' ≡ text
    → (most_text < length text') ⊎ IsCrowded files' from' text' → (most_text < length text)
    ⊎ IsCrowded files from text
large_so files files' from from' text text' f c t large =
    subst (λ s. (most_text < length s) ⊎ IsCrowded files from s) t
    (subst (λ d. (most_text < length text') ⊎ IsCrowded files d text') c
    (subst (λ g. (most_text < length text') ⊎ IsCrowded g from' text') f large))

-- texts are the same where that follows of what is merely there
pub text_same : {A : Type 0} (a b : List ℕ) → ∥ A ∥₁ → (A → a ≡ b) → a ≡ b
text_same a b h f = ∥∥₁_elim h (is_set (hedberg ℕ_discrete) a b) f

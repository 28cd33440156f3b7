-- The numbers of an enum, one after another.
use Rattle.std.specs.Prelude.{ℤ, option_map}
use Rattle.std.proofs.Common.{◌≡◌, Option, None, Some, List, [], ◌∷◌, ◌++◌, refl, sym, ap, ◌∙◌, append_assoc}
use Rattle.std.proofs.Common.{append-nil}
use Rattle.x_rules.specs.Types.{if_all}

-- these numbers, and then all others, if there are all
abbrev pub with_all : List ℤ → List (Option ℤ) → Option (List ℤ)
with_all now os = option_map (λ zs. now ++ zs) (if_all os)

pub with_all_start : (os : List (Option ℤ)) → with_all [] os ≡ if_all os
with_all_start os = by (if_all os)
  where
    by : (o : Option (List ℤ)) → option_map (λ zs. [] ++ zs) o ≡ o
    by None = refl
    by (Some zs) = refl

pub with_all_more : (now next : List ℤ) (z : ℤ) (os rest : List (Option ℤ)) (whole : Option (List ℤ))
    → os ≡ Some z ∷ rest → next ≡ now ++ z ∷ [] → with_all now os ≡ whole → with_all next rest ≡ whole
with_all_more now next z os rest whole is step h = ap (λ l. with_all l rest) step ∙ by (if_all rest)
    ∙ sym (ap (with_all now) is) ∙ h
  where
    by : (o : Option (List ℤ)) → option_map (λ zs. (now ++ z ∷ []) ++ zs) o
        ≡ option_map (λ zs. now ++ zs) (option_map (λ zs. z ∷ zs) o)
    by None = refl
    by (Some zs) = ap Some (append_assoc now (z ∷ []) zs)

pub with_all_none : (now : List ℤ) (os rest : List (Option ℤ)) (whole : Option (List ℤ)) → os ≡ None ∷ rest
    → with_all now os ≡ whole → None ≡ whole
with_all_none now os rest whole is h = sym (ap (with_all now) is) ∙ h

pub with_all_end : (now : List ℤ) (os : List (Option ℤ)) (whole : Option (List ℤ)) → os ≡ []
    → with_all now os ≡ whole → Some now ≡ whole
with_all_end now os whole none h = ap Some (sym (append-nil now)) ∙ sym (ap (with_all now) none) ∙ h

-- Looking keys up in a list of entries.
use Rattle.std.proofs.Common.{◌≡◌, Bool, true, false, cond, List, [], ◌∷◌, ◌++◌, Option, None, Some, refl}
use Rattle.std.specs.Map.{lookup}
use Rattle.std.specs.Option.{option_or}
use Rattle.std.specs.Prelude.{is_some}

-- an entry more at the end
pub lookup_more : {K X : Type 0} (test : K → Bool) (es : List (K × X)) (k : K) (x : X)
    → lookup test (es ++ (k, x) ∷ []) ≡ option_or (lookup test es) (cond (test k) (Some x) None)
lookup_more test [] k x = refl
lookup_more test (e ∷ es) k x = step (test e.0) (lookup_more test es k x)
  where
    step : (b : Bool) → lookup test (es ++ (k, x) ∷ [])
        ≡ option_or (lookup test es) (cond (test k) (Some x) None)
        → cond b (Some e.1) (lookup test (es ++ (k, x) ∷ []))
        ≡ option_or (cond b (Some e.1) (lookup test es)) (cond (test k) (Some x) None)
    step true h = refl
    step false h = h

pub or_none : {X : Type 0} (a : Option X) → a ≡ option_or a None
or_none None = refl
or_none (Some x) = refl

pub none_is : {X : Type 0} (r : Option X) → is_some r ≡ false → r ≡ None
none_is None h = refl
none_is (Some x) h = absurd (cc)

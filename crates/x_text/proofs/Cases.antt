-- Cases of truth values and of options.
use Rattle.std.proofs.Common.{◌≡◌, Bool, true, false, Option, None, Some, refl, subst}
use Rattle.std.specs.Prelude.{MatchOption}

abbrev IsFalse : Bool → Type 0
IsFalse true = ⊥
IsFalse false = Unit {0}

pub false_true : false ≡ true → ⊥
false_true is = subst IsFalse is tt

pub match_some : {X : Type 0} (o : Option X) (P : X → Type 0) → ((x : X) → o ≡ Some x → P x)
    → MatchOption o (Unit {0}) P
match_some None P h = tt
match_some (Some x) P h = h x refl

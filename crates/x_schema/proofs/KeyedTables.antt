-- Tables in which the first of a key has it.
use Rattle.std.proofs.Common.{◌≡◌, ℤ, Bool, true, false, cond, is_some, map, List, [], ◌∷◌, ◌++◌, Option}
use Rattle.std.proofs.Common.{None, Some, refl, sym, ap, ◌∙◌}
use Rattle.std.specs.Borrow.{Bor}
use Rattle.std.specs.Map.{lookup}
use Rattle.std.specs.Option.{option_copied}
use Rattle.x_trees.specs.Tree.{Enumerator}
use Rattle.x_numbers.specs.Numbers.{next_number}
use Rattle.x_numbers.proofs.Lookups.{none_is}
use Rattle.x_schema.specs.SchemaOf.{Numbers, with_first, number_given, with_number, with_enumerators}

-- entries whose keys are seen as something else
abbrev pub keyed : {K L X : Type 0} → (K → L) → List (K × X) → List (L × X)
keyed {K} {L} {X} f es = map {B = L × X} (λ e. (f e.0, e.1)) es

pub lookup_mapped : {K L X : Type 0} (f : K → L) (test : L → Bool) (es : List (K × X))
    → lookup test (keyed f es) ≡ lookup (λ k. test (f k)) es
lookup_mapped f test [] = refl
lookup_mapped f test (e ∷ es) = ap (λ r. cond (test (f e.0)) (Some e.1) r) (lookup_mapped f test es)

keyed_behind : {K L X : Type 0} (f : K → L) (es : List (K × X)) (k : K) (x : X)
    → keyed f (es ++ (k, x) ∷ []) ≡ keyed f es ++ (f k, x) ∷ []
keyed_behind f [] k x = refl
keyed_behind f (e ∷ es) k x = ap (λ l. (f e.0, e.1) ∷ l) (keyed_behind f es k x)

-- a new key goes behind the others
pub added : {K L X : Type 0} (f : K → L) (same : L → L → Bool) (es : List (K × X)) (k : K) (x : X)
    → is_some (lookup (same (f k)) (keyed f es)) ≡ false
    → keyed f (es ++ (k, x) ∷ []) ≡ with_first same (keyed f es) (f k) x
added f same es k x none = keyed_behind f es k x
    ∙ sym (ap (λ b. cond b (keyed f es) (keyed f es ++ (f k, x) ∷ [])) none)

pub absent : {K L X : Type 0} (f : K → L) (test : L → Bool) (es : List (K × X))
    → is_some (lookup test (keyed f es)) ≡ false → lookup (λ k. test (f k)) es ≡ None
absent f test es none = sym (lookup_mapped f test es) ∙ none_is (lookup test (keyed f es)) none

pub kept : {K X : Type 0} (eq : K → K → Bool) (es : List (K × X)) (k : K) (x : X)
    → is_some (lookup (eq k) es) ≡ true → es ≡ with_first eq es k x
kept eq es k x some = sym (ap (λ b. cond b es (es ++ (k, x) ∷ [])) some)

-- one enumerator more
pub enumerators_more : (now more : Numbers) (next number after : Option ℤ) (e : Enumerator)
    (rest : List Enumerator) → number ≡ number_given now next e.value
    → more ≡ with_number now e.name number → after ≡ next_number number
    → with_enumerators more after rest ≡ with_enumerators now next (e ∷ rest)
enumerators_more now more next number after e rest is step then =
    ap (λ n. with_enumerators n after rest) (step ∙ ap (with_number now e.name) is)
    ∙ ap (λ x. with_enumerators (with_number now e.name (number_given now next e.value)) x rest)
    (then ∙ ap next_number is)

pub copied_some : {X : Type 0} (o : Option (Bor X)) → is_some (option_copied o) ≡ is_some o
copied_some None = refl
copied_some (Some x) = refl

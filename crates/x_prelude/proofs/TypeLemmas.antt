-- The types of C that a text lacks, one entry of a table after another.
use Rattle.std.proofs.Common.{◌≡◌, ℕ, suc, zero, ◌<◌, ◌≤◌, ◌++◌, Bor, List, [], ◌∷◌, Option, length, take}
use Rattle.std.proofs.Common.{get_or, append-nil, append_assoc, arith, sym, ap, ◌∙◌}
use Rattle.std.proofs.lemmas.List.{take_all}
use Rattle.x_trees.specs.Tree.{Definition}
use Rattle.x_rules.specs.Results.{KnownNames}
use Rattle.x_prelude.specs.CTypes.{view_types}
use Rattle.x_prelude.specs.Prelude.{lacks_name, type_text, types_in}

-- one entry more
types_after : (table : List (Bor (List ℕ) × Bor (List ℕ))) (i : ℕ) (d : Bor (List ℕ) × Bor (List ℕ))
    (own : KnownNames) (ds : List (Option Definition)) → i < length table
    → types_in (view_types (take (suc i) table)) own ds ≡ types_in (view_types (take i table)) own ds
    ++ type_text (lacks_name own ds (get_or table i d).0.now) (get_or table i d).1.now
types_after [] i d own ds lt = absurd (omega (arith, lt))
types_after (e ∷ es) zero d own ds lt = append-nil (type_text (lacks_name own ds e.0.now) e.1.now)
types_after (e ∷ es) (suc i) d own ds lt =
    let here = type_text (lacks_name own ds e.0.now) e.1.now in
    ap (λ l. here ++ l) (types_after es i d own ds (omega (arith, lt)))
    ∙ sym (append_assoc here (types_in (view_types (take i es)) own ds)
    (type_text (lacks_name own ds (get_or es i d).0.now) (get_or es i d).1.now))

pub types_more : (table : List (Bor (List ℕ) × Bor (List ℕ))) (i m : ℕ) (d : Bor (List ℕ) × Bor (List ℕ))
    (own : KnownNames) (ds : List (Option Definition)) (name declaration old mid new : List ℕ)
    → m ≡ suc i → i < length table → name ≡ (get_or table i d).0.now → declaration ≡ (get_or table i d).1.now
    → mid ≡ old ++ types_in (view_types (take i table)) own ds
    → new ≡ mid ++ type_text (lacks_name own ds name) declaration
    → new ≡ old ++ types_in (view_types (take m table)) own ds
types_more table i m d own ds name declaration old mid new next lt named declared had more =
    let before = types_in (view_types (take i table)) own ds in
    let here = type_text (lacks_name own ds (get_or table i d).0.now) (get_or table i d).1.now in
    more ∙ (λ k. had k ++ type_text (lacks_name own ds (named k)) (declared k))
    ∙ append_assoc old before here
    ∙ ap (λ l. old ++ l) (sym (types_after table i d own ds lt))
    ∙ ap (λ k. old ++ types_in (view_types (take k table)) own ds) (sym next)

-- all entries
pub all_types : (table : List (Bor (List ℕ) × Bor (List ℕ))) (i : ℕ) (own : KnownNames)
    (ds : List (Option Definition)) (old new : List ℕ) → length table ≤ i
    → new ≡ old ++ types_in (view_types (take i table)) own ds
    → new ≡ old ++ types_in (view_types table) own ds
all_types table i own ds old new past is =
    is ∙ ap (λ t. old ++ types_in (view_types t) own ds) (take_all i table past)

-- How long a text of a list of items is.
use Rattle.std.proofs.Common.{◌≡◌, ℕ, suc, ◌+◌, ◌<◌, ◌^◌, List, [], ◌∷◌, ◌++◌, length, take, drop, Option}
use Rattle.std.proofs.Common.{Some, None, Bor, arith, sym, ap, ◌∙◌, length-append, append-nil}
use Rattle.std.specs.Prelude.{slice_get}
use Rattle.std.specs.List.{flat_map}
use Rattle.std.specs.Option.{option_map_or, option_copied}
use Rattle.std.proofs.lemmas.List.Concat.{flat_map-append}
use Rattle.x_lists.proofs.ListLemmas.{some_at, get_at, take_next}
use Rattle.x_pieces.specs.Pieces.{Pieces}

-- one element more
pub length_more : {X : Type 0} (f : X → List ℕ) (all : List X) (i : ℕ) → i < length all
    → length (flat_map f (take (i + 1) all))
    ≡ length (flat_map f (take i all)) + length (option_map_or f (slice_get all i) [])
length_more f all i lt =
    let one = some_at all i lt in
    let next : i + 1 ≡ suc i = omega arith in
    let grown : take (i + 1) all ≡ take i all ++ one.0 ∷ [] = ap (λ n. take n all) next
    ∙ take_next all i one.0 (drop (suc i) all) one.1 in
    let joined : flat_map f (take (i + 1) all) ≡ flat_map f (take i all) ++ f one.0 =
    ap (flat_map f) grown ∙ flat_map-append f (take i all) (one.0 ∷ [])
    ∙ ap (λ l. flat_map f (take i all) ++ l) (append-nil (f one.0)) in
    ap length joined ∙ length-append (flat_map f (take i all)) (f one.0)
    ∙ ap (λ it. length (flat_map f (take i all)) + length (option_map_or f it []))
    (sym (get_at all i one.0 (drop (suc i) all) one.1))

-- what a list has in a place was counted, or nothing was
pub record IsCounted (before now : ℕ) (more : List ℕ) : Type 0 where
  pub sum : now ≡ before + length more
  pub small : length more < 2 ^ 64

pub some_counted : (f : Pieces → List ℕ) (answer : Option (Bor Pieces)) (it : Option Pieces) (d : Bor Pieces)
    (bytes : List ℕ) (before now : ℕ)
    → option_copied answer ≡ it → answer ≡ Some d → bytes ≡ f d.now → now ≡ before + length bytes
    → length bytes < 2 ^ 64 → IsCounted before now (option_map_or f it [])
some_counted f answer it d bytes before now copied is of sum small =
    let some : it ≡ Some d.now = sym copied ∙ ap option_copied is in
    rw (some, ← of) (record { sum = sum; small = small })

pub none_counted : (f : Pieces → List ℕ) (answer : Option (Bor Pieces)) (it : Option Pieces) (before now : ℕ)
    → option_copied answer ≡ it → answer ≡ None → now ≡ before → IsCounted before now (option_map_or f it [])
none_counted f answer it before now copied is same =
    let none : it ≡ None = sym copied ∙ ap option_copied is in
    rw none (record { sum = omega arith; small = omega arith })

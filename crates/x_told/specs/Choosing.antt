-- Which of the faults that are told of a text are shown, where there are many (LSP 3.17,
-- `textDocument/publishDiagnostics`, leaves that to a server).
use Rattle.std.specs.Prelude.{◌≡◌, ℕ, zero, suc, ◌-◌, Bool, not, List, [], ◌∷◌, length, if◌then◌else◌}
use Rattle.std.specs.List.{filter}
use Rattle.x_compile.specs.declared.fault.FaultPlace.{FaultPlace}
use Rattle.x_explain.specs.Found.{AreFound}
use Rattle.x_explain.specs.declared.found.FoundFault.{FoundFault}
use Rattle.x_told.specs.Telling.{is_of_faulty}

-- the fault follows from others: a name is used whose first declarer has faults
abbrev pub is_consequence : FaultPlace → Bool
is_consequence p = is_of_faulty p.code

-- it does not
abbrev pub is_error : FaultPlace → Bool
is_error p = not (is_consequence p)

-- a list without the elements that pass a test, but with the first so many of these
abbrev pub with_first : {X : Type 0} → ℕ → (X → Bool) → List X → List X
with_first zero test xs = filter (λ x. not (test x)) xs
with_first (suc n) test [] = []
with_first (suc n) test (x ∷ xs) = x ∷ with_first (if test x then n else suc n) test xs

-- The faults that are shown, if `most` are at most: the first errors, and the first consequences for which
-- all errors leave room; in their order.
abbrev pub chosen : (most : ℕ) → List FaultPlace → List FaultPlace
chosen most told =
    with_first (most - length (filter is_error told)) is_consequence (with_first most is_error told)

-- how many are not shown
abbrev pub left_out : (most : ℕ) → List FaultPlace → ℕ
left_out most told = length told - most

-- these are shown, and so many more are told
abbrev pub AreChosen : (most : ℕ) → (text : List ℕ) → (told : List FaultPlace) → List FoundFault → (left : ℕ)
    → Type 0
AreChosen most text told shown left = AreFound text (chosen most told) shown × (left ≡ left_out most told)

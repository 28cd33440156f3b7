-- The faults that are told.
use Rattle.std.proofs.Common.{◌≡◌, ℕ, ◌+◌, ◌<◌, Bool, true, false, cond, List, [], ◌∷◌, ◌++◌, drop}
use Rattle.std.proofs.Common.{get_or, length, append_assoc, refl, sym, ap, ◌∙◌}
use Rattle.std.proofs.lemmas.List.{drop_more}
use Rattle.std.specs.Prelude.{not, ◌&&◌, ◌||◌}
use Rattle.std.specs.List.{filter, list_any}
use Rattle.x_compile.specs.declared.fault.FaultPlace.{FaultPlace}
use Rattle.x_directives.specs.Branches.{SayBranchesOf, in_later_branch}
use Rattle.x_directives.specs.declared.branches.Turn.{Turn}
use Rattle.x_told.specs.Telling.{is_of_branch, is_repeat}
use Rattle.x_told.specs.Voices.{is_of_branch_by}

-- a fault that does not repeat a name in a later branch
abbrev pub is_free : List ℕ → FaultPlace → Bool
is_free shown p = not (is_of_branch shown p)

abbrev pub is_free_by : List Turn → FaultPlace → Bool
is_free_by turns p = not (is_of_branch_by turns p.code p.start)

-- by what is kept of the branches the same faults do
same_branch : (shown : List ℕ) (turns : List Turn) → SayBranchesOf turns shown → (p : FaultPlace)
    → is_of_branch_by turns p.code p.start ≡ is_of_branch shown p
same_branch shown turns say p = ap (λ s. is_repeat p.code && s) (say p.start)

pub same_free : (shown : List ℕ) (turns : List Turn) → SayBranchesOf turns shown → (ps : List FaultPlace)
    → filter (is_free_by turns) ps ≡ filter (is_free shown) ps
same_free shown turns say ps = ap (λ t. filter t ps) (λ i p. not (same_branch shown turns say p i))

pub any_of_branch : (shown : List ℕ) (turns : List Turn) → SayBranchesOf turns shown → (ps : List FaultPlace)
    → list_any (λ p. is_of_branch_by turns p.code p.start) ps ≡ list_any (is_of_branch shown) ps
any_of_branch shown turns say ps = ap (λ t. list_any t ps) (λ i p. same_branch shown turns say p i)

-- where no place is in a later branch, none is left out
of_no_branch : (shown : List ℕ) → ((place : ℕ) → in_later_branch shown place ≡ false) → (p : FaultPlace)
    → is_of_branch shown p ≡ false
of_no_branch shown none p = ap (λ b. is_repeat p.code && b) (none p.start) ∙ by (is_repeat p.code)
  where
    by : (b : Bool) → (b && false) ≡ false
    by true = refl
    by false = refl

pub none_of_branch : (shown : List ℕ) → ((place : ℕ) → in_later_branch shown place ≡ false)
    → (ps : List FaultPlace) → list_any (is_of_branch shown) ps ≡ false
none_of_branch shown none [] = refl
none_of_branch shown none (p ∷ ps) =
    ap (λ b. b || list_any (is_of_branch shown) ps) (of_no_branch shown none p) ∙ none_of_branch shown none ps

pub all_are_free : (shown : List ℕ) → ((place : ℕ) → in_later_branch shown place ≡ false)
    → (ps : List FaultPlace) → filter (is_free shown) ps ≡ ps
all_are_free shown none [] = refl
all_are_free shown none (p ∷ ps) =
    ap (λ b. cond (not b) (p ∷ filter (is_free shown) ps) (filter (is_free shown) ps))
    (of_no_branch shown none p)
    ∙ ap (λ l. p ∷ l) (all_are_free shown none ps)

-- one fault more of which it is asked whether it is told
kept_more : (turns : List Turn) (told new : List FaultPlace) (found : List FaultPlace) (i : ℕ)
    (none : FaultPlace) (b : Bool) → i < length found → is_free_by turns (get_or found i none) ≡ b
    → new ≡ cond b (told ++ get_or found i none ∷ []) told
    → told ++ filter (is_free_by turns) (drop i found) ≡ filter (is_free_by turns) found
    → new ++ filter (is_free_by turns) (drop (i + 1) found) ≡ filter (is_free_by turns) found
kept_more turns told new found i none b lt is new_is had =
    let rest = filter (is_free_by turns) (drop (i + 1) found) in
    let f = get_or found i none in
    ap (λ l. l ++ rest) new_is ∙ both b f rest
    ∙ sym (ap (λ l. told ++ filter (is_free_by turns) l) (drop_more found i none lt)
    ∙ ap (λ q. told ++ cond q (f ∷ rest) rest) is) ∙ had
  where
    both : (b : Bool) (f : FaultPlace) (rest : List FaultPlace)
        → cond b (told ++ f ∷ []) told ++ rest ≡ told ++ cond b (f ∷ rest) rest
    both true f rest = append_assoc told (f ∷ []) rest
    both false f rest = refl

pub is_kept : (turns : List Turn) (told new : List FaultPlace) (found : List FaultPlace) (i : ℕ)
    (none : FaultPlace) → i < length found → is_free_by turns (get_or found i none) ≡ true
    → new ≡ told ++ get_or found i none ∷ []
    → told ++ filter (is_free_by turns) (drop i found) ≡ filter (is_free_by turns) found
    → new ++ filter (is_free_by turns) (drop (i + 1) found) ≡ filter (is_free_by turns) found
is_kept turns told new found i none lt is new_is had =
    kept_more turns told new found i none true lt is new_is had

pub is_left_out : (turns : List Turn) (told : List FaultPlace) (found : List FaultPlace) (i : ℕ)
    (none : FaultPlace) → i < length found → is_free_by turns (get_or found i none) ≡ false
    → told ++ filter (is_free_by turns) (drop i found) ≡ filter (is_free_by turns) found
    → told ++ filter (is_free_by turns) (drop (i + 1) found) ≡ filter (is_free_by turns) found
is_left_out turns told found i none lt is had = kept_more turns told told found i none false lt is refl had

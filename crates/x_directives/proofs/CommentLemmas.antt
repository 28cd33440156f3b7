-- Where comments go on, two bytes after two.
use Rattle.std.proofs.Common.{◌≡◌, ℕ, ◌<◌, ◌≤◌, Bool, true, false, not, cond, ◌&&◌, ◌||◌, List, [], ◌∷◌}
use Rattle.std.proofs.Common.{length, drop, get_or, eqb, arith, refl, sym, ap, ◌∙◌, Option, None, Some}
use Rattle.std.proofs.Common.{is_some}
use Rattle.std.proofs.lemmas.List.Elements.{All-head, All-tail}
use Rattle.x_lex.specs.Bytes.{is_space}
use Rattle.x_directives.specs.Comments.{turns, commented_behind, is_bare}
use Rattle.x_directives.proofs.LineLemmas.{HasNo}

abbrev pub first_turns : Bool → List ℕ → Bool
first_turns commented bytes = turns commented (get_or bytes 0 0) (get_or bytes 1 0)

-- ---- the end of a comment

pub behind_turn : (commented : Bool) (bytes : List ℕ) → 2 ≤ length bytes → first_turns commented bytes ≡ true
    → commented_behind (not commented) (drop 2 bytes) ≡ commented_behind commented bytes
unfolding commented_behind
behind_turn commented [] long is = absurd (omega arith)
behind_turn commented (a ∷ []) long is = absurd (omega arith)
behind_turn commented (a ∷ b ∷ bytes) long is =
    sym (ap (λ t. cond t (commented_behind (not commented) bytes)
    (commented_behind commented (b ∷ bytes))) is)

pub behind_other : (commented : Bool) (bytes : List ℕ) → 2 ≤ length bytes
    → first_turns commented bytes ≡ false
    → commented_behind commented (drop 1 bytes) ≡ commented_behind commented bytes
unfolding commented_behind
behind_other commented [] long is = absurd (omega arith)
behind_other commented (a ∷ []) long is = absurd (omega arith)
behind_other commented (a ∷ b ∷ bytes) long is =
    sym (ap (λ t. cond t (commented_behind (not commented) bytes)
    (commented_behind commented (b ∷ bytes))) is)

pub behind_all : (commented : Bool) (bytes : List ℕ) → length bytes < 2
    → commented_behind commented bytes ≡ commented
unfolding commented_behind
behind_all commented [] short = refl
behind_all commented (a ∷ []) short = refl
behind_all commented (a ∷ b ∷ bytes) short = absurd (omega arith)

and_false : (t : Bool) → (t && false) ≡ false
and_false true = refl
and_false false = refl

no_turn : (commented : Bool) (a b : ℕ) → eqb a 47 ≡ false → eqb b 47 ≡ false → turns commented a b ≡ false
unfolding turns
no_turn true a b first second = ap (λ t. eqb a 42 && t) second ∙ and_false (eqb a 42)
no_turn false a b first second = ap (λ t. t && eqb b 42) first

-- without a `/` none ends and none begins
pub behind_no_slash : (commented : Bool) (bytes : List ℕ) → HasNo 47 bytes
    → commented_behind commented bytes ≡ commented
unfolding commented_behind
behind_no_slash commented [] none = refl
behind_no_slash commented (a ∷ []) none = refl
behind_no_slash commented (a ∷ b ∷ bytes) none =
    let P : ℕ → Type 0 = λ x. eqb x 47 ≡ false in
    let later = All-tail P a (b ∷ bytes) none in
    ap (λ t. cond t (commented_behind (not commented) bytes) (commented_behind commented (b ∷ bytes)))
    (no_turn commented a b (All-head P a (b ∷ bytes) none) (All-head P b bytes later))
    ∙ behind_no_slash commented (b ∷ bytes) later

-- ---- bare bytes

pub bare_turn : (commented : Bool) (bytes : List ℕ) → 2 ≤ length bytes → first_turns commented bytes ≡ true
    → is_bare (not commented) (drop 2 bytes) ≡ is_bare commented bytes
unfolding is_bare
bare_turn commented [] long is = absurd (omega arith)
bare_turn commented (a ∷ []) long is = absurd (omega arith)
bare_turn commented (a ∷ b ∷ bytes) long is =
    sym (ap (λ t. cond t (is_bare (not commented) bytes)
    ((commented || is_space a) && is_bare commented (b ∷ bytes))) is)

pub bare_other : (commented : Bool) (bytes : List ℕ) → 2 ≤ length bytes
    → first_turns commented bytes ≡ false
    → ((commented || is_space (get_or bytes 0 0)) && is_bare commented (drop 1 bytes))
    ≡ is_bare commented bytes
unfolding is_bare
bare_other commented [] long is = absurd (omega arith)
bare_other commented (a ∷ []) long is = absurd (omega arith)
bare_other commented (a ∷ b ∷ bytes) long is =
    sym (ap (λ t. cond t (is_bare (not commented) bytes)
    ((commented || is_space a) && is_bare commented (b ∷ bytes))) is)

pub bare_last : (commented : Bool) (bytes : List ℕ) → length bytes ≡ 1
    → (commented || is_space (get_or bytes 0 0)) ≡ is_bare commented bytes
unfolding is_bare
bare_last commented [] one = absurd (omega arith)
bare_last commented (a ∷ []) one = refl
bare_last commented (a ∷ b ∷ bytes) one = absurd (omega arith)

pub bare_none : (commented : Bool) (bytes : List ℕ) → length bytes ≡ 0 → is_bare commented bytes ≡ true
unfolding is_bare
bare_none commented [] none = refl
bare_none commented (a ∷ bytes) none = absurd (omega arith)

-- ---- a search

pub not_found : (found : Option ℕ) (t : Bool) → is_some found ≡ not t → t ≡ true → found ≡ None
not_found None t is true_is = refl
not_found (Some at) t is true_is = absurd (cc)

-- Which bytes stand in a word.
use Rattle.std.proofs.Common.{◌≡◌, ℕ, ◌+◌, not, cond, if◌then◌else◌, ◌<◌, ◌==◌, ◌||◌, Bool, true, false, List}
use Rattle.std.proofs.Common.{[], ◌∷◌, ◌++◌, inl, inr, length, get_or, set, ap, sym, ◌∙◌, refl}
use Rattle.std.specs.List.{filter, list_any}
use Rattle.std.proofs.lemmas.Bool.Decides.{eqb_tells}
use Rattle.std.proofs.lemmas.List.{length-append, get_or-set_other, get_or-set_same, get_or-replicate}
use Rattle.std.proofs.lemmas.List.Elements.{filter-append}
use Rattle.std.proofs.Math.ListN.{replicate}
use Rattle.std.proofs.lemmas.List.Folds.{list_any-append}
use Rattle.x_explain.specs.Suggestions.{HasBytes, strange}

or_true : (x : Bool) → (x || true) ≡ true
or_true true = refl
or_true false = refl

or_no : (x : Bool) → (x || false) ≡ x
or_no true = refl
or_no false = refl

-- of no byte yet
pub no_bytes : HasBytes (replicate 256 false) []
no_bytes b small = get_or-replicate 256 b false false small

-- and of one more
pub one_more : (has : List Bool) (word : List ℕ) (b : ℕ) → b < length has → HasBytes has word
    → HasBytes (set has b true) (word ++ b ∷ [])
one_more has word b fits known j small = elim (eqb_tells b j) [
  | inl same ↦ ap (λ k. get_or (set has b true) k false) (sym same.1) ∙ get_or-set_same has b true false fits
      ∙ sym (list_any-append (λ y. y == j) word (b ∷ [])
      ∙ ap (λ t. list_any (λ y. y == j) word || (t || false)) same.0
      ∙ or_true (list_any (λ y. y == j) word))
  | inr other ↦ get_or-set_other has b j true false (λ e. other.1 (sym e)) ∙ known j small
      ∙ sym (list_any-append (λ y. y == j) word (b ∷ [])
      ∙ ap (λ t. list_any (λ y. y == j) word || (t || false)) other.0
      ∙ or_no (list_any (λ y. y == j) word))
]

-- ---- those of a name that stand in none

counted : (b : ℕ) (word : List ℕ) (in_word : Bool) → list_any (λ y. y == b) word ≡ in_word
    → strange (b ∷ []) word ≡ cond in_word 0 1
counted b word true is = ap (λ t. length (if not t then b ∷ [] else [])) is
counted b word false is = ap (λ t. length (if not t then b ∷ [] else [])) is

pub strange_more : (name word : List ℕ) (b : ℕ) (in_word : Bool) → list_any (λ y. y == b) word ≡ in_word
    → strange (name ++ b ∷ []) word ≡ strange name word + cond in_word 0 1
strange_more name word b in_word is =
    ap length (filter-append (λ x. not (list_any (λ y. y == x) word)) name (b ∷ []))
    ∙ length-append (filter (λ x. not (list_any (λ y. y == x) word)) name) (filter (λ x. not (list_any (λ y.
    y == x) word)) (b ∷ []))
    ∙ ap (λ n. strange name word + n) (counted b word in_word is)

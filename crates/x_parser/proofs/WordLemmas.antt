-- The words of tokens, one by one.
use Rattle.std.proofs.Common.{◌≡◌, List, ◌∷◌, ◌++◌, ◌⊎◌, inl, inr, Bool, true, false, cond, IsTrue, refl, ap}
use Rattle.std.proofs.Common.{◌∙◌, map}
use Rattle.std.proofs.lemmas.List.{map-append}
use Rattle.std.proofs.lemmas.List.Elements.{filter-append}
use Rattle.std.specs.List.{filter}
use Rattle.x_lex.specs.Places.{Lexeme}
use Rattle.x_trees.specs.Words.{word_of, words_of, is_significant}

pub words_of-append : (a b : List Lexeme) → words_of (a ++ b) ≡ words_of a ++ words_of b
words_of-append a b =
    ap (map word_of) (filter-append (λ t. is_significant t.kind) a b)
    ∙ map-append word_of (filter (λ t. is_significant t.kind) a) (filter (λ t. is_significant t.kind) b)

pub words_of-word : (t : Lexeme) (ts : List Lexeme) → IsTrue (is_significant t.kind)
    → words_of (t ∷ ts) ≡ word_of t ∷ words_of ts
words_of-word t ts is =
    ap (λ b. map word_of (cond b (t ∷ filter (λ x. is_significant x.kind) ts)
    (filter (λ x. is_significant x.kind) ts))) is

pub words_of-other : (t : Lexeme) (ts : List Lexeme) → is_significant t.kind ≡ false
    → words_of (t ∷ ts) ≡ words_of ts
words_of-other t ts is =
    ap (λ b. map word_of (cond b (t ∷ filter (λ x. is_significant x.kind) ts)
    (filter (λ x. is_significant x.kind) ts))) is

pub cases_word : (t : Lexeme) → IsTrue (is_significant t.kind) ⊎ (is_significant t.kind ≡ false)
cases_word t = both (is_significant t.kind)
  where
    both : (b : Bool) → (b ≡ true) ⊎ (b ≡ false)
    both true = inl refl
    both false = inr refl

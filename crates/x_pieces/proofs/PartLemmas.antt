-- Texts that are put together of parts.
use Rattle.std.proofs.Common.{◌≡◌, ℕ, List, [], ◌∷◌, ◌++◌, refl, sym, ap, ◌∙◌, append_assoc, append-nil}
use Rattle.x_pieces.specs.Parts.{behind, together}

behind_front : (text p : List ℕ) (ps : List (List ℕ)) → behind (text ++ p) ps ≡ text ++ behind p ps
behind_front text p [] = refl
behind_front text p (q ∷ qs) = ap (λ t. behind t qs) (append_assoc text p q) ∙ behind_front text (p ++ q) qs

pub behind_is : (text : List ℕ) (ps : List (List ℕ)) → behind text ps ≡ text ++ together ps
behind_is text [] = sym (append-nil text)
behind_is text (p ∷ ps) = behind_front text p ps

-- one thing behind another
pub then : {X : Type 0} (a b c x y : List X) → b ≡ a ++ x → c ≡ b ++ y → c ≡ a ++ (x ++ y)
then a b c x y one two = two ∙ ap (λ t. t ++ y) one ∙ append_assoc a x y

pub then_two : {X : Type 0} (a b c d x y z : List X) → b ≡ a ++ x → c ≡ b ++ y → d ≡ c ++ z
    → d ≡ a ++ (x ++ y ++ z)
then_two a b c d x y z one two three = then a c d (x ++ y) z (then a b c x y one two) three

pub then_three : {X : Type 0} (a b c d e w x y z : List X) → b ≡ a ++ w → c ≡ b ++ x → d ≡ c ++ y → e ≡ d ++ z
    → e ≡ a ++ (w ++ x ++ y ++ z)
then_three a b c d e w x y z one two three four =
    then a d e (w ++ x ++ y) z (then_two a b c d w x y one two three) four

pub then_four : {X : Type 0} (a b c d e f v w x y z : List X) → b ≡ a ++ v → c ≡ b ++ w → d ≡ c ++ x
    → e ≡ d ++ y → f ≡ e ++ z → f ≡ a ++ (v ++ w ++ x ++ y ++ z)
then_four a b c d e f v w x y z one two three four five =
    then a e f (v ++ w ++ x ++ y) z (then_three a b c d e v w x y one two three four) five

-- one element of a list more
pub next : {X : Type 0} (text : List X → List ℕ) (left rest : List X) (x : X) (one before now all : List ℕ)
    → left ≡ x ∷ rest → text (x ∷ rest) ≡ one ++ text rest → now ≡ before ++ one → before ++ text left ≡ all
    → now ++ text rest ≡ all
next text left rest x one before now all is parts added so =
    ap (λ t. t ++ text rest) added ∙ append_assoc before one (text rest) ∙ ap (λ l. before ++ l) (sym parts)
    ∙ ap (λ xs. before ++ text xs) (sym is) ∙ so

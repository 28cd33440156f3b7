-- What a token does to the depth, by the tests that pass.
use Rattle.std.proofs.Common.{◌≡◌, ℕ, Bool, true, false, List, refl, sym, ap, ◌∙◌}
use Rattle.x_lex.specs.declared.kind.Kind.{Kind}
use Rattle.x_cutting.specs.Items.{is_punct}
use Rattle.x_cutting.specs.Cutting.{opening, closing, semicolon, plain, chosen, role_by}

pub is_opening : (k : Kind) (t : List ℕ) (p : Bool) → p ≡ is_punct 123 k t → p ≡ true → role_by k t ≡ opening
unfolding role_by
is_opening k t p is holds = ap (λ b. chosen b (is_punct 125 k t) (is_punct 59 k t)) (sym is ∙ holds)

pub is_closing : (k : Kind) (t : List ℕ) (p q : Bool) → p ≡ is_punct 123 k t → p ≡ false
    → q ≡ is_punct 125 k t → q ≡ true → role_by k t ≡ closing
unfolding role_by
is_closing k t p q is is_not js holds = ap (λ b. chosen b (is_punct 125 k t) (is_punct 59 k t))
    (sym is ∙ is_not) ∙ ap (λ b. chosen false b (is_punct 59 k t)) (sym js ∙ holds)

pub is_semicolon : (k : Kind) (t : List ℕ) (p q r : Bool) → p ≡ is_punct 123 k t → p ≡ false
    → q ≡ is_punct 125 k t → q ≡ false → r ≡ is_punct 59 k t → r ≡ true → role_by k t ≡ semicolon
unfolding role_by
is_semicolon k t p q r is is_not js js_not ks holds =
    ap (λ b. chosen b (is_punct 125 k t) (is_punct 59 k t)) (sym is ∙ is_not)
    ∙ ap (λ b. chosen false b (is_punct 59 k t)) (sym js ∙ js_not)
    ∙ ap (λ b. chosen false false b) (sym ks ∙ holds)

pub is_plain : (k : Kind) (t : List ℕ) (p q r : Bool) → p ≡ is_punct 123 k t → p ≡ false
    → q ≡ is_punct 125 k t → q ≡ false → r ≡ is_punct 59 k t → r ≡ false → role_by k t ≡ plain
unfolding role_by
is_plain k t p q r is is_not js js_not ks ks_not =
    ap (λ b. chosen b (is_punct 125 k t) (is_punct 59 k t)) (sym is ∙ is_not)
    ∙ ap (λ b. chosen false b (is_punct 59 k t)) (sym js ∙ js_not)
    ∙ ap (λ b. chosen false false b) (sym ks ∙ ks_not)

-- the role of a token by the three tests
pub role_is : (k : Kind) (t : List ℕ)
    → role_by k t ≡ chosen (is_punct 123 k t) (is_punct 125 k t) (is_punct 59 k t)
unfolding role_by
role_is k t = refl

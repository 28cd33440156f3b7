-- The loop of `next_item`: what it keeps.
use Rattle.std.proofs.Common.{◌≡◌, ℕ, Bool, true, false, List, [], ◌∷◌, ◌++◌, map, refl, ap, sym, ◌∙◌, subst}
use Rattle.std.proofs.Common.{append_assoc, true≢false}
use Rattle.std.proofs.lemmas.List.{append-nil, map-append}
use Rattle.x_lex.specs.Places.{Lexeme, lexeme}
use Rattle.x_lex.specs.declared.tokens.token.Token.{Token}
use Rattle.x_cutting.specs.Items.{HasNoEnd, IsNext, depth}
use Rattle.x_cutting.specs.Cutting.{role_of, depth_after, ends_at}
use Rattle.x_cutting.proofs.CuttingLemmas.{depth_next, ends_from, ends_yes}
use Rattle.x_cutting.proofs.ItemListLemmas.{no_end_none, no_end_on}

-- of what was left the part is read, no token of which ends an item, and the cutter is as deep
pub record IsWithin (all part left : List Lexeme) (reached : ℕ) : Type 0 where
  pub split : all ≡ part ++ left
  pub endless : HasNoEnd part
  pub reached_is : reached ≡ depth part

pub within_none : (all : List Lexeme) → IsWithin all [] all 0
within_none all = record { split = refl; endless = no_end_none; reached_is = refl }

pub pushed : (tokens more : List Token) (token : Token) → more ≡ tokens ++ token ∷ []
    → map lexeme more ≡ map lexeme tokens ++ lexeme token ∷ []
pushed tokens more token is = ap (map lexeme) is ∙ map-append lexeme tokens (token ∷ [])

split_on : (all part left left' : List Lexeme) (t : Lexeme) → left ≡ t ∷ left' → all ≡ part ++ left
    → all ≡ (part ++ t ∷ []) ++ left'
split_on all part left left' t is split = split ∙ ap (λ l. part ++ l) is
    ∙ sym (append_assoc part (t ∷ []) left')

-- whether the token ends the item, by the cutter and by the definition
says : (part : List Lexeme) (t : Lexeme) (reached : ℕ) (ends : Bool) → ends ≡ ends_at reached (role_of t)
    → reached ≡ depth part → ends_at (depth part) (role_of t) ≡ ends
says part t reached ends is deep = sym (is ∙ ap (λ d. ends_at d (role_of t)) deep)

-- a token that ends no item
pub within_on : (all part part' left left' : List Lexeme) (t : Lexeme) (reached next : ℕ) (ends : Bool)
    → left ≡ t ∷ left' → part' ≡ part ++ t ∷ [] → ends ≡ ends_at reached (role_of t)
    → next ≡ depth_after reached (role_of t) → ends ≡ false → IsWithin all part left reached
    → IsWithin all part' left' next
within_on all part part' left left' t reached next ends is more tells moved goes_on h =
    subst (λ p. IsWithin all p left' next) (sym more) (record {
      split = split_on all part left left' t is h.split;
      endless = no_end_on part t h.endless
          (λ e. true≢false (sym (ends_yes part t e) ∙ says part t reached ends tells h.reached_is ∙ goes_on));
      reached_is = moved ∙ ap (λ d. depth_after d (role_of t)) h.reached_is ∙ sym (depth_next part t);
    })

-- a token that ends the item
pub whole_here : (all part part' left left' : List Lexeme) (t : Lexeme) (reached : ℕ) (ends : Bool)
    → left ≡ t ∷ left' → part' ≡ part ++ t ∷ [] → ends ≡ ends_at reached (role_of t)
    → ends ≡ true → IsWithin all part left reached → IsNext true all part' left'
whole_here all part part' left left' t reached ends is more tells stops h =
    subst (λ p. IsNext true all p left') (sym more) (
      record {
        front = part;
        token = t;
        parts = refl;
        ends = ends_from part t (says part t reached ends tells h.reached_is ∙ stops);
        before = h.endless;
      },
      split_on all part left left' t is h.split,
    )

-- no token is left
pub last_here : (all part left left' : List Lexeme) (reached : ℕ) → left ≡ [] → left' ≡ []
    → IsWithin all part left reached → IsNext false all part left'
last_here all part left left' reached none over h =
    (h.endless, h.split ∙ ap (λ l. part ++ l) none ∙ append-nil part, over)

-- Cutting tokens into items, token by token.
use Rattle.std.proofs.Common.{◌≡◌, ℕ, ◌+◌, ◌-◌, ◌≤◌, Bool, true, false, cond, List, [], ◌∷◌, ◌++◌, length}
use Rattle.std.proofs.Common.{count_by, refl, ap, sym, ◌∙◌, subst, append_assoc, arith, ◌⊎◌, inl, inr, ⊎_elim}
use Rattle.std.proofs.Common.{true≢false}
use Rattle.std.specs.Str.{bytes_eq}
use Rattle.std.proofs.lemmas.List.{append-nil}
use Rattle.std.proofs.lemmas.List.Sums.{sum_by-append, count_by-le-length}
use Rattle.std.proofs.lemmas.Grind.{flat_map-append}
use Rattle.std.proofs.lemmas.Slice.Eq.{bytes_eq-Decides}
use Rattle.x_lex.specs.declared.kind.Kind.{Kind}
use Rattle.x_lex.specs.declared.kind.Kind.TheVariants as kinds
use Rattle.x_lex.specs.Places.{Lexeme}
use Rattle.x_cutting.specs.Items.{is_punct, is_open, is_close, depth, Ends, HasNoEnd, IsWhole, AreWhole}
use Rattle.x_cutting.specs.Items.{joined, AreItems}

-- one mark of punctuation is no other
no_other : (k : Kind) (t : List ℕ) → is_punct 123 k t ≡ true → is_punct 125 k t ≡ false
no_other kinds.Punct t h =
    let is : t ≡ 123 ∷ [] = (bytes_eq-Decides t (123 ∷ [])).0 h in
    ap (λ x. bytes_eq x (125 ∷ [])) is
no_other k t h = absurd (true≢false (sym h))

close_if_open : (t : Lexeme) → is_open t ≡ true → is_close t ≡ false
close_if_open t h = no_other t.kind t.text h

open_if_close : (t : Lexeme) → is_close t ≡ true → is_open t ≡ false
open_if_close t h = turned (is_open t) refl
  where
    turned : (b : Bool) → b ≡ is_open t → b ≡ false
    turned true e = absurd (true≢false (sym h ∙ close_if_open t (sym e)))
    turned false e = refl

count_at : (b : Bool) → ℕ
count_at b = cond b 1 0

count_push : (p : Lexeme → Bool) (ts : List Lexeme) (t : Lexeme) (b : Bool) → p t ≡ b
    → count_by p (ts ++ t ∷ []) ≡ count_by p ts + cond b 1 0
count_push p ts t b is = sum_by-append (λ x. cond (p x) 1 0) ts (t ∷ [])
    ∙ ap (λ (x : Bool). count_by p ts + (0 + cond x 1 0)) is ∙ omega arith

-- the depth one token on
pub depth-open : (ts : List Lexeme) (t : Lexeme) → is_open t ≡ true → depth (ts ++ t ∷ []) ≡ depth ts + 1
depth-open [] t h =
    let opens : count_by is_open (t ∷ []) ≡ 1 = count_push is_open [] t true h in
    let closes : count_by is_close (t ∷ []) ≡ 0 = count_push is_close [] t false (close_if_open t h) in
    omega arith
depth-open (x ∷ ts) t h =
    let opens : count_by is_open (x ∷ ts ++ t ∷ []) ≡ count_by is_open (x ∷ ts) + 1 =
    count_push is_open (x ∷ ts) t true h in
    let closes : count_by is_close (x ∷ ts ++ t ∷ []) ≡ count_by is_close (x ∷ ts) + 0 =
    count_push is_close (x ∷ ts) t false (close_if_open t h) in
    let rest : depth (ts ++ t ∷ []) ≡ depth ts + 1 = depth-open ts t h in
    omega arith

pub depth-close : (ts : List Lexeme) (t : Lexeme) → is_close t ≡ true → depth (ts ++ t ∷ []) ≡ depth ts - 1
depth-close [] t h =
    let opens : count_by is_open (t ∷ []) ≡ 0 = count_push is_open [] t false (open_if_close t h) in
    omega arith
depth-close (x ∷ ts) t h =
    let opens : count_by is_open (x ∷ ts ++ t ∷ []) ≡ count_by is_open (x ∷ ts) + 0 =
    count_push is_open (x ∷ ts) t false (open_if_close t h) in
    let closes : count_by is_close (x ∷ ts ++ t ∷ []) ≡ count_by is_close (x ∷ ts) + 1 =
    count_push is_close (x ∷ ts) t true h in
    let rest : depth (ts ++ t ∷ []) ≡ depth ts - 1 = depth-close ts t h in
    omega arith

pub depth-other : (ts : List Lexeme) (t : Lexeme) → is_open t ≡ false → is_close t ≡ false
    → depth (ts ++ t ∷ []) ≡ depth ts
depth-other [] t o h =
    let opens : count_by is_open (t ∷ []) ≡ 0 = count_push is_open [] t false o in
    omega arith
depth-other (x ∷ ts) t o h =
    let opens : count_by is_open (x ∷ ts ++ t ∷ []) ≡ count_by is_open (x ∷ ts) + 0 =
    count_push is_open (x ∷ ts) t false o in
    let closes : count_by is_close (x ∷ ts ++ t ∷ []) ≡ count_by is_close (x ∷ ts) + 0 =
    count_push is_close (x ∷ ts) t false h in
    let rest : depth (ts ++ t ∷ []) ≡ depth ts = depth-other ts t o h in
    omega arith

-- the same, of a number that is the depth
pub deeper : (n : ℕ) (ts : List Lexeme) (t : Lexeme) → n ≡ depth ts → is_open t ≡ true
    → n + 1 ≡ depth (ts ++ t ∷ [])
deeper n ts t is h = ap (λ x. x + 1) is ∙ sym (depth-open ts t h)

pub shallower : (n : ℕ) (ts : List Lexeme) (t : Lexeme) → n ≡ depth ts → is_close t ≡ true
    → n - 1 ≡ depth (ts ++ t ∷ [])
shallower n ts t is h = ap (λ x. x - 1) is ∙ sym (depth-close ts t h)

pub as_deep : (n : ℕ) (ts : List Lexeme) (t : Lexeme) → n ≡ depth ts → is_open t ≡ false → is_close t ≡ false
    → n ≡ depth (ts ++ t ∷ [])
as_deep n ts t is o h = is ∙ sym (depth-other ts t o h)

pub ruleset depths = (deeper, shallower, as_deep)

-- the depth is at most the number of tokens
pub depth-le-length : (ts : List Lexeme) → depth ts ≤ length ts
depth-le-length [] = omega arith
depth-le-length (t ∷ ts) =
    let opens : count_by is_open (t ∷ ts) ≤ length (t ∷ ts) = count_by-le-length is_open (t ∷ ts) in
    let rest : depth ts ≤ length ts = depth-le-length ts in
    omega arith

-- the tokens that were seen are whole items, and then a part that has no end
pub record Cuts (seen : List Lexeme) (whole : List (List Lexeme)) (part : List Lexeme) : Type 0 where
  pub all : joined whole ++ part ≡ seen
  pub each : AreWhole whole
  pub rest : HasNoEnd part

same_cons : {x y : Lexeme} {xs ys : List Lexeme} → x ≡ y → xs ≡ ys → x ∷ xs ≡ y ∷ ys
same_cons {x} {y} {xs} {ys} h t = ap (λ z. z ∷ xs) h ∙ ap (λ zs. y ∷ zs) t

pub same_head : {x y : Lexeme} {xs ys : List Lexeme} → x ∷ xs ≡ y ∷ ys → x ≡ y
same_head e = cc

pub same_tail : {x y : Lexeme} {xs ys : List Lexeme} → x ∷ xs ≡ y ∷ ys → xs ≡ ys
same_tail e = cc

-- where a list that ends with t is cut: at t, or before
cut_before : (part : List Lexeme) (t : Lexeme) (front : List Lexeme) (x : Lexeme) (rear : List Lexeme)
    → part ++ t ∷ [] ≡ front ++ x ∷ rear
    → ((front ≡ part) × (x ≡ t)) ⊎ ((behind : List Lexeme) × (part ≡ front ++ x ∷ behind))
cut_before [] t [] x rear e = inl (refl, sym (same_head e))
cut_before [] t (y ∷ []) x rear e = cc
cut_before [] t (y ∷ z ∷ front) x rear e = cc
cut_before (p ∷ part) t [] x rear e = inr (part, same_cons (same_head e) refl)
cut_before (p ∷ part) t (y ∷ front) x rear e =
    ⊎_elim
    (λ h. inl (same_cons (sym (same_head e)) h.0, h.1))
    (λ h. inr (h.0, same_cons (same_head e) h.1))
    (cut_before part t front x rear (same_tail e))

pub no_end_on : (part : List Lexeme) (t : Lexeme) → HasNoEnd part → (Ends part t → ⊥)
    → HasNoEnd (part ++ t ∷ [])
no_end_on part t none here = record {
  never = λ front x rear e ends.
      ⊎_elim
      (λ h. here (subst (λ (y : Lexeme). Ends part y) h.1 (subst (λ (f : List Lexeme). Ends f x) h.0 ends)))
      (λ h. none.never front x h.0 h.1 ends)
      (cut_before part t front x rear e);
}

pub no_end_none : HasNoEnd []
no_end_none = record { never = λ front x rear e ends. never front x rear e }
  where
    never : (front : List Lexeme) (x : Lexeme) (rear : List Lexeme) → [] ≡ front ++ x ∷ rear → ⊥
    never [] x rear e = cc
    never (y ∷ front) x rear e = cc

pub whole_push : (whole : List (List Lexeme)) (item : List Lexeme) → AreWhole whole → IsWhole item
    → AreWhole (whole ++ item ∷ [])
whole_push [] item each this = (this, tt)
whole_push (x ∷ whole) item each this = (each.0, whole_push whole item each.1 this)

pub joined_push : (whole : List (List Lexeme)) (item : List Lexeme)
    → joined (whole ++ item ∷ []) ≡ joined whole ++ item
joined_push whole item = flat_map-append (λ (part : List Lexeme). part) whole (item ∷ [])
    ∙ ap (λ x. joined whole ++ x) (append-nil item)

-- before the first token
pub cuts_none : Cuts [] [] []
cuts_none = record { all = refl; each = tt; rest = no_end_none }

-- a token that does not end the item
pub cuts_on : (seen : List Lexeme) (whole : List (List Lexeme)) (part : List Lexeme) (t : Lexeme)
    → Cuts seen whole part → (Ends part t → ⊥) → Cuts (seen ++ t ∷ []) whole (part ++ t ∷ [])
cuts_on seen whole part t h here = record {
  all = sym (append_assoc (joined whole) part (t ∷ [])) ∙ ap (λ x. x ++ t ∷ []) h.all;
  each = h.each;
  rest = no_end_on part t h.rest here;
}

-- a token that ends the item
pub cuts_end : (seen : List Lexeme) (whole : List (List Lexeme)) (part : List Lexeme) (t : Lexeme)
    → Cuts seen whole part → Ends part t → Cuts (seen ++ t ∷ []) (whole ++ (part ++ t ∷ []) ∷ []) []
cuts_end seen whole part t h here = record {
  all =
      append-nil (joined (whole ++ (part ++ t ∷ []) ∷ [])) ∙ joined_push whole (part ++ t ∷ [])
      ∙ sym (append_assoc (joined whole) part (t ∷ [])) ∙ ap (λ x. x ++ t ∷ []) h.all;
  each = whole_push whole (part ++ t ∷ []) h.each
      (record { front = part; token = t; parts = refl; ends = here; before = h.rest });
  rest = no_end_none;
}

-- behind the last token
pub cuts_all : (tokens : List Lexeme) (whole : List (List Lexeme)) (part : List Lexeme)
    → Cuts tokens whole part → AreItems tokens (whole ++ part ∷ [])
cuts_all tokens whole part h = record {
  whole = whole;
  last = part;
  parts = refl;
  all = joined_push whole part ∙ h.all;
  each = h.each;
  rest = h.rest;
}

-- The items that the definition speaks of are those that a running depth finds.
use Rattle.std.proofs.Common.{◌≡◌, ℕ, ◌+◌, Bool, true, false, List, [], ◌∷◌, ◌++◌, length, map, refl, ap, sym}
use Rattle.std.proofs.Common.{◌∙◌, subst, append_assoc, arith, true≢false}
use Rattle.std.specs.Prelude.{◌==◌}
use Rattle.std.specs.Str.{bytes_eq}
use Rattle.std.proofs.lemmas.Bool.{cond-true, cond-false}
use Rattle.std.proofs.lemmas.Bool.Decides.{nat_tests}
use Rattle.std.proofs.lemmas.List.{append-nil, length_push}
use Rattle.std.proofs.lemmas.Slice.Eq.{bytes_eq-Decides}
use Rattle.x_lex.specs.declared.kind.Kind.{Kind}
use Rattle.x_lex.specs.declared.kind.Kind.TheVariants as kinds
use Rattle.x_lex.specs.Places.{Lexeme}
use Rattle.x_cutting.specs.Items.{is_punct, is_open, is_close, is_semicolon, depth, Ends, HasNoEnd, AreWhole}
use Rattle.x_cutting.specs.Items.{joined, AreItems, IsCut}
use Rattle.x_cutting.specs.Cutting.{semicolon, chosen, role_of, roles_of, depth_after, ends_at, counts_from}
use Rattle.x_cutting.proofs.RoleLemmas.{role_is}
use Rattle.x_cutting.proofs.ItemListLemmas.{depth-open, depth-close, depth-other, Cuts, cuts_none, cuts_on}
use Rattle.x_cutting.proofs.ItemListLemmas.{cuts_end, cuts_all}

-- the depth one token on
pub depth_next : (part : List Lexeme) (t : Lexeme)
    → depth (part ++ t ∷ []) ≡ depth_after (depth part) (role_of t)
depth_next part t = by (is_open t) refl (is_close t) refl (is_semicolon t)
    ∙ ap (depth_after (depth part)) (sym (role_is t.kind t.text))
  where
    by : (p : Bool) → p ≡ is_open t → (q : Bool) → q ≡ is_close t → (r : Bool)
        → depth (part ++ t ∷ []) ≡ depth_after (depth part) (chosen p q r)
    by true e q f r = depth-open part t (sym e)
    by false e true f r = depth-close part t (sym f)
    by false e false f true = depth-other part t (sym e) (sym f)
    by false e false f false = depth-other part t (sym e) (sym f)

-- `;` is no brace
no_open : (k : Kind) (t : List ℕ) → is_punct 59 k t ≡ true → is_punct 123 k t ≡ false
no_open kinds.Punct t h =
    let is : t ≡ 59 ∷ [] = (bytes_eq-Decides t (59 ∷ [])).0 h in ap (λ x. bytes_eq x (123 ∷ [])) is
no_open k t h = absurd (true≢false (sym h))

no_close : (k : Kind) (t : List ℕ) → is_punct 59 k t ≡ true → is_punct 125 k t ≡ false
no_close kinds.Punct t h =
    let is : t ≡ 59 ∷ [] = (bytes_eq-Decides t (59 ∷ [])).0 h in ap (λ x. bytes_eq x (125 ∷ [])) is
no_close k t h = absurd (true≢false (sym h))

semicolon_role : (t : Lexeme) → is_semicolon t ≡ true → role_of t ≡ semicolon
semicolon_role t h =
    role_is t.kind t.text
    ∙ ap (λ b. chosen b (is_close t) (is_semicolon t)) (no_open t.kind t.text h)
    ∙ ap (λ b. chosen false b (is_semicolon t)) (no_close t.kind t.text h)
    ∙ ap (λ b. chosen false false b) h

zero_from : (n : ℕ) → (n == 0) ≡ true → n ≡ 0
zero_from n h = grind (arith, nat_tests)

-- the token ends the item
pub ends_yes : (part : List Lexeme) (t : Lexeme) → Ends part t → ends_at (depth part) (role_of t) ≡ true
ends_yes part t e = ap (ends_at (depth part)) (semicolon_role t e.semicolon) ∙ ap (λ d. d == 0) e.outside

pub ends_from : (part : List Lexeme) (t : Lexeme) → ends_at (depth part) (role_of t) ≡ true → Ends part t
ends_from part t h = by (is_open t) (is_close t) (is_semicolon t) refl
    (ap (ends_at (depth part)) (sym (role_is t.kind t.text)) ∙ h)
  where
    by : (p q r : Bool) → r ≡ is_semicolon t → ends_at (depth part) (chosen p q r) ≡ true → Ends part t
    by true q r e h = absurd (true≢false (sym h))
    by false true r e h = absurd (true≢false (sym h))
    by false false true e h = record { semicolon = sym e; outside = zero_from (depth part) h }
    by false false false e h = absurd (true≢false (sym h))

ends_no : (part : List Lexeme) (t : Lexeme) → (Ends part t → ⊥) → ends_at (depth part) (role_of t) ≡ false
ends_no part t h = by (ends_at (depth part) (role_of t)) refl
  where
    by : (b : Bool) → ends_at (depth part) (role_of t) ≡ b → b ≡ false
    by true e = absurd (h (ends_from part t e))
    by false e = refl

-- a token that ends no item
on_token : (part : List Lexeme) (t : Lexeme) (rest : List Lexeme) → (Ends part t → ⊥)
    → counts_from (depth part) (length part) (roles_of (t ∷ rest))
    ≡ counts_from (depth (part ++ t ∷ [])) (length (part ++ t ∷ [])) (roles_of rest)
on_token part t rest h =
    cond-false (ends_at (depth part) (role_of t)) ((length part + 1) ∷ counts_from 0 0 (roles_of rest))
    (counts_from (depth_after (depth part) (role_of t)) (length part + 1) (roles_of rest)) (ends_no part t h)
    ∙ ap (λ d. counts_from d (length part + 1) (roles_of rest)) (sym (depth_next part t))
    ∙ ap (λ n. counts_from (depth (part ++ t ∷ [])) n (roles_of rest)) (sym (length_push part t))

-- a token that ends one
end_token : (part : List Lexeme) (t : Lexeme) (rest : List Lexeme) → Ends part t
    → counts_from (depth part) (length part) (roles_of (t ∷ rest))
    ≡ length (part ++ t ∷ []) ∷ counts_from 0 0 (roles_of rest)
end_token part t rest e =
    cond-true (ends_at (depth part) (role_of t)) ((length part + 1) ∷ counts_from 0 0 (roles_of rest))
    (counts_from (depth_after (depth part) (role_of t)) (length part + 1) (roles_of rest)) (ends_yes part t e)
    ∙ ap (λ n. n ∷ counts_from 0 0 (roles_of rest)) (sym (length_push part t))

push_assoc : (pre : List Lexeme) (x : Lexeme) (post : List Lexeme) → (pre ++ x ∷ []) ++ post ≡ pre ++ x ∷ post
push_assoc pre x post = append_assoc pre (x ∷ []) post

-- the rest of a whole item
whole_rest : (pre post : List Lexeme) (t : Lexeme) (rest : List Lexeme) → HasNoEnd (pre ++ post)
    → Ends (pre ++ post) t → counts_from (depth pre) (length pre) (roles_of (post ++ t ∷ rest))
    ≡ length ((pre ++ post) ++ t ∷ []) ∷ counts_from 0 0 (roles_of rest)
whole_rest pre [] t rest none e =
    let nil : pre ++ [] ≡ pre = append-nil pre in
    end_token pre t rest (subst (λ p. Ends p t) nil e)
    ∙ ap (λ p. length (p ++ t ∷ []) ∷ counts_from 0 0 (roles_of rest)) (sym nil)
whole_rest pre (x ∷ post) t rest none e =
    let same = push_assoc pre x post in
    on_token pre x (post ++ t ∷ rest) (none.never pre x post refl)
    ∙ whole_rest (pre ++ x ∷ []) post t rest (subst HasNoEnd (sym same) none)
    (subst (λ p. Ends p t) (sym same) e)
    ∙ ap (λ p. length (p ++ t ∷ []) ∷ counts_from 0 0 (roles_of rest)) same

-- the rest of the last item
last_rest : (pre post : List Lexeme) → HasNoEnd (pre ++ post)
    → counts_from (depth pre) (length pre) (roles_of post) ≡ length (pre ++ post) ∷ []
last_rest pre [] none = ap (λ p. length p ∷ []) (sym (append-nil pre))
last_rest pre (x ∷ post) none =
    let same = push_assoc pre x post in
    on_token pre x post (none.never pre x post refl)
    ∙ last_rest (pre ++ x ∷ []) post (subst HasNoEnd (sym same) none)
    ∙ ap (λ p. length p ∷ []) same

items_counts : (whole : List (List Lexeme)) (last : List Lexeme) → AreWhole whole → HasNoEnd last
    → counts_from 0 0 (roles_of (joined (whole ++ last ∷ []))) ≡ map length (whole ++ last ∷ [])
items_counts [] last each none = ap (λ l. counts_from 0 0 (roles_of l)) (append-nil last)
    ∙ last_rest [] last none
items_counts (item ∷ whole) last each none =
    let w = each.0 in
    let front = w.front in
    let t = w.token in
    let rest = joined (whole ++ last ∷ []) in
    ap (λ l. counts_from 0 0 (roles_of (l ++ rest))) w.parts
    ∙ ap (λ l. counts_from 0 0 (roles_of l)) (push_assoc front t rest)
    ∙ whole_rest [] front t rest w.before w.ends
    ∙ ap (λ l. length l ∷ counts_from 0 0 (roles_of rest)) (sym w.parts)
    ∙ ap (λ l. length item ∷ l) (items_counts whole last each.1 none)

-- the definition gives what the running depth gives
pub cut_counts : (tokens : List Lexeme) (cs : List ℕ) → IsCut tokens cs
    → cs ≡ counts_from 0 0 (roles_of tokens)
cut_counts tokens cs h =
    let are = h.are in
    h.lengths
    ∙ ap (map length) are.parts
    ∙ sym (items_counts are.whole are.last are.each are.rest)
    ∙ ap (λ l. counts_from 0 0 (roles_of (joined l))) (sym are.parts)
    ∙ ap (λ l. counts_from 0 0 (roles_of l)) are.all

abbrev Has : List Lexeme → Type 0
Has tokens = (items : List (List Lexeme)) × AreItems tokens items

-- tokens have items
items_of : (left seen : List Lexeme) (whole : List (List Lexeme)) (part : List Lexeme) → Cuts seen whole part
    → Has (seen ++ left)
items_of [] seen whole part h = (
  whole ++ part ∷ [],
  subst (λ l. AreItems l (whole ++ part ∷ [])) (sym (append-nil seen)) (cuts_all seen whole part h),
)
items_of (t ∷ left) seen whole part h =
    by (ends_at (depth part) (role_of t)) refl
    (λ k. items_of left (seen ++ t ∷ []) (whole ++ (part ++ t ∷ []) ∷ []) [] (cuts_end seen whole part t h k))
    (λ k. items_of left (seen ++ t ∷ []) whole (part ++ t ∷ []) (cuts_on seen whole part t h k))
  where
    on : Has ((seen ++ t ∷ []) ++ left) → Has (seen ++ t ∷ left)
    on r = (r.0, subst (λ l. AreItems l r.0) (push_assoc seen t left) r.1)

    by : (b : Bool) → ends_at (depth part) (role_of t) ≡ b → (Ends part t → Has ((seen ++ t ∷ []) ++ left))
        → ((Ends part t → ⊥) → Has ((seen ++ t ∷ []) ++ left)) → Has (seen ++ t ∷ left)
    by true e ended gone_on = on (ended (ends_from part t e))
    by false e ended gone_on = on (gone_on (λ k. true≢false (sym (ends_yes part t k) ∙ e)))

-- what the running depth gives is what the definition gives
pub counts_cut : (tokens : List Lexeme) (cs : List ℕ) → cs ≡ counts_from 0 0 (roles_of tokens)
    → IsCut tokens cs
counts_cut tokens cs e =
    let h = items_of tokens [] [] [] cuts_none in
    let c : IsCut tokens (map length h.0) = record { items = h.0; are = h.1; lengths = refl } in
    subst (λ l. IsCut tokens l) (cut_counts tokens (map length h.0) c ∙ sym e) c

-- there is one cut
pub same_cut : (tokens : List Lexeme) (cs ds : List ℕ) → IsCut tokens cs → IsCut tokens ds → cs ≡ ds
same_cut tokens cs ds h k = cut_counts tokens cs h ∙ sym (cut_counts tokens ds k)

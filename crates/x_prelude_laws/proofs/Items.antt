-- The items of a text by their words.
use Rattle.std.proofs.Common.{◌≡◌, ℕ, ◌+◌, Bool, true, false, cond, List, [], ◌∷◌, ◌++◌, map, length, take}
use Rattle.std.proofs.Common.{drop, arith, refl, sym, ap, ◌∙◌}
use Rattle.std.specs.Prelude.{if◌then◌else◌, ◌==◌}
use Rattle.std.specs.List.{filter}
use Rattle.std.proofs.lemmas.Bool.Decides.{nat_tests}
use Rattle.std.proofs.lemmas.List.{append-nil, append_assoc, length_push, take_at, drop_at}
use Rattle.x_lex.specs.declared.kind.Kind.{Kind}
use Rattle.x_lex.specs.declared.kind.Kind.TheVariants as kinds
use Rattle.x_lex.specs.Places.{Lexeme}
use Rattle.x_cutting.specs.Items.{AreItems, IsCut, joined}
use Rattle.x_cutting.specs.Cutting.{DepthRole, opening, closing, semicolon, plain, counts_from, depth_after}
use Rattle.x_cutting.specs.Cutting.{ends_at, role_by, role_of, roles_of}
use Rattle.x_cutting.proofs.CuttingLemmas.{cut_counts}
use Rattle.x_trees.specs.Words.{Word, is_significant, word_by, word_of, words_of}
use Rattle.x_prelude_laws.proofs.Pieces.{Piece, piece_of}

-- the word that a piece is, or none
abbrev pub words_in : Kind → List ℕ → List Word
words_in kind text = if is_significant kind then word_by kind text ∷ [] else []

abbrev pub words : Piece → List Word
words p = words_in p.0 p.1

abbrev pub role : Piece → DepthRole
role p = role_by p.0 p.1

-- these words in front of the first item, or as one
abbrev pub put : Bool → List Word → List (List Word) → List (List Word)
put true ws items = ws ∷ items
put false ws [] = ws ∷ []
put false ws (i ∷ is) = (ws ++ i) ∷ is

-- the words of each item, where in front of these pieces the depth is d
abbrev pub items : ℕ → List Piece → List (List Word)
items d [] = [] ∷ []
items d (p ∷ ps) = put (ends_at d (role p)) (words p) (items (depth_after d (role p)) ps)

-- ---- one item at least

pub data HasFirst (items : List (List Word)) : Type 0 where
  first_is : (i : List Word) (is : List (List Word)) → items ≡ i ∷ is → HasFirst items

put_first : (b : Bool) (ws : List Word) (is : List (List Word)) → HasFirst (put b ws is)
put_first true ws is = first_is ws is refl
put_first false ws [] = first_is ws [] refl
put_first false ws (i ∷ is) = first_is (ws ++ i) is refl

pub has_first : (d : ℕ) (ps : List Piece) → HasFirst (items d ps)
has_first d [] = first_is [] [] refl
has_first d (p ∷ ps) = put_first (ends_at d (role p)) (words p) (items (depth_after d (role p)) ps)

pub put_none : (is : List (List Word)) → HasFirst is → put false [] is ≡ is
put_none is (first_is i rest e) = ap (put false []) e ∙ sym e

put_twice : (ws us : List Word) (is : List (List Word)) → HasFirst is
    → put false (ws ++ us) is ≡ put false ws (put false us is)
put_twice ws us is (first_is i rest e) =
    ap (put false (ws ++ us)) e ∙ ap (λ l. l ∷ rest) (append_assoc ws us i)
    ∙ sym (ap (λ l. put false ws (put false us l)) e)

-- ---- the depth

zero_from : (n : ℕ) → (n == 0) ≡ true → n ≡ 0
zero_from n h = grind (arith, nat_tests)

-- behind an end it is 0
pub after_end : (d : ℕ) (r : DepthRole) → ends_at d r ≡ true → depth_after d r ≡ 0
after_end d opening e = absurd (cc)
after_end d closing e = absurd (cc)
after_end d semicolon e = zero_from d e
after_end d plain e = absurd (cc)

plain_in : (kind : Kind) (text : List ℕ) → words_in kind text ≡ [] → role_by kind text ≡ plain
unfolding role_by
plain_in kinds.Space text e = refl
plain_in kinds.Comment text e = refl
plain_in kinds.Percent text e = refl
plain_in kinds.Marker text e = refl
plain_in kind text e = absurd (cc)

-- a piece without a word is plain
pub no_word_plain : (p : Piece) → words p ≡ [] → role p ≡ plain
no_word_plain p e = plain_in p.0 p.1 e

-- ---- the items of tokens

pub words_next : (t : Lexeme) (ts : List Lexeme) → words_of (t ∷ ts) ≡ words (piece_of t) ++ words_of ts
words_next t ts = by (is_significant t.kind)
  where
    by : (b : Bool) → map word_of (cond b (t ∷ filter (λ x. is_significant x.kind) ts)
        (filter (λ x. is_significant x.kind) ts))
        ≡ cond b (word_by t.kind t.text ∷ []) [] ++ words_of ts
    by true = refl
    by false = refl

words_push : (front : List Lexeme) (t : Lexeme) → words_of (front ++ t ∷ []) ≡ words_of front ++ words
    (piece_of t)
words_push [] t = words_next t [] ∙ append-nil (words (piece_of t))
words_push (x ∷ front) t =
    words_next x (front ++ t ∷ []) ∙ ap (λ l. words (piece_of x) ++ l) (words_push front t)
    ∙ sym (append_assoc (words (piece_of x)) (words_of front) (words (piece_of t)))
    ∙ ap (λ l. l ++ words (piece_of t)) (sym (words_next x front))

push_assoc : (front : List Lexeme) (t : Lexeme) (ts : List Lexeme) → front ++ t ∷ ts ≡ (front ++ t ∷ []) ++ ts
push_assoc front t ts = sym (append_assoc front (t ∷ []) ts)

-- where this part of the first item has gone by
cut_from : (d : ℕ) (front tokens : List Lexeme) (is : List (List Lexeme)) → joined is ≡ front ++ tokens
    → map length is ≡ counts_from d (length front) (roles_of tokens)
    → map words_of is ≡ put false (words_of front) (items d (map piece_of tokens))
cut_from d front [] [] all counts = absurd (cc)
cut_from d front [] (i ∷ j ∷ is) all counts = absurd (cc)
cut_from d front [] (i ∷ []) all counts =
    let same : i ≡ front = sym (append-nil i) ∙ all ∙ append-nil front in
    ap (λ x. words_of x ∷ []) same ∙ ap (λ l. l ∷ []) (sym (append-nil (words_of front)))
cut_from d front (t ∷ ts) is all counts =
    by (ends_at d (role_of t)) refl is (all ∙ push_assoc front t ts) counts
    (λ js every many. cut_from 0 [] ts js every many)
    (λ js every many. cut_from (depth_after d (role_of t)) (front ++ t ∷ []) ts js every many)
  where
    rest : List (List Word)
    rest = items (depth_after d (role_of t)) (map piece_of ts)

    by : (b : Bool) → ends_at d (role_of t) ≡ b → (is : List (List Lexeme))
        → joined is ≡ (front ++ t ∷ []) ++ ts
        → map length is ≡ cond b ((length front + 1) ∷ counts_from 0 0 (roles_of ts))
        (counts_from (depth_after d (role_of t)) (length front + 1) (roles_of ts))
        → ((js : List (List Lexeme)) → joined js ≡ ts → map length js ≡ counts_from 0 0 (roles_of ts)
        → map words_of js ≡ put false [] (items 0 (map piece_of ts)))
        → ((js : List (List Lexeme)) → joined js ≡ (front ++ t ∷ []) ++ ts
        → map length js ≡ counts_from (depth_after d (role_of t)) (length (front ++ t ∷ [])) (roles_of ts)
        → map words_of js ≡ put false (words_of (front ++ t ∷ [])) rest)
        → map words_of is ≡ put false (words_of front) (put (ends_at d (role_of t)) (words (piece_of t)) rest)
    by true e [] all counts next on = absurd (cc)
    by true e (i ∷ is) all counts next on =
        let long : length i ≡ length (front ++ t ∷ []) = (cc) ∙ sym (length_push front t) in
        let first : i ≡ front ++ t ∷ [] =
        sym (take_at i (joined is) (length i) refl) ∙ ap (take (length i)) all
        ∙ take_at (front ++ t ∷ []) ts (length i) (sym long) in
        let others : joined is ≡ ts =
        sym (drop_at i (joined is) (length i) refl) ∙ ap (drop (length i)) all
        ∙ drop_at (front ++ t ∷ []) ts (length i) (sym long) in
        let left : map length is ≡ counts_from 0 0 (roles_of ts) = cc in
        let behind : map words_of is ≡ rest = next is others left
        ∙ put_none (items 0 (map piece_of ts)) (has_first 0 (map piece_of ts))
        ∙ ap (λ n. items n (map piece_of ts)) (sym (after_end d (role_of t) e)) in
        let here : words_of i ≡ words_of front ++ words (piece_of t) = ap words_of first
        ∙ words_push front t in
        (λ k. here k ∷ behind k)
        ∙ ap (λ b. put false (words_of front) (put b (words (piece_of t)) rest)) (sym e)
    by false e is all counts next on =
        on is all (counts ∙ ap (λ n. counts_from (depth_after d (role_of t)) n (roles_of ts))
        (sym (length_push front t)))
        ∙ ap (λ l. put false l rest) (words_push front t)
        ∙ put_twice (words_of front) (words (piece_of t)) rest
        (has_first (depth_after d (role_of t)) (map piece_of ts))
        ∙ ap (λ b. put false (words_of front) (put b (words (piece_of t)) rest)) (sym e)

-- the words of the items of tokens
pub items_are : (tokens : List Lexeme) (is : List (List Lexeme)) → AreItems tokens is
    → map words_of is ≡ items 0 (map piece_of tokens)
items_are tokens is h =
    let cut : IsCut tokens (map length is) = record { items = is; are = h; lengths = refl } in
    cut_from 0 [] tokens is h.all (cut_counts tokens (map length is) cut)
    ∙ put_none (items 0 (map piece_of tokens)) (has_first 0 (map piece_of tokens))

-- ---- two texts one behind the other

nothing_left : (ws us : List Word) → ws ++ us ≡ [] → (ws ≡ []) × (us ≡ [])
nothing_left [] us e = (refl, e)
nothing_left (w ∷ ws) us e = absurd (cc)

-- behind items of which the last has no words others follow as they are
pub items_both : (d : ℕ) (ps qs : List Piece) (whole : List (List Word)) → items d ps ≡ whole ++ [] ∷ []
    → (whole ≡ [] → d ≡ 0) → items d (ps ++ qs) ≡ whole ++ items 0 qs
items_both d [] qs [] e none = ap (λ n. items n qs) (none refl)
items_both d [] qs (w ∷ []) e none = absurd (cc)
items_both d [] qs (w ∷ v ∷ whole) e none = absurd (cc)
items_both d (p ∷ ps) qs whole e none =
    by (ends_at d (role p)) refl whole (items d' ps) refl (has_first d' ps) e none
    (λ w f n. items_both d' ps qs w f n)
  where
    d' : ℕ
    d' = depth_after d (role p)

    same_depth : words p ≡ [] → d ≡ 0 → d' ≡ 0
    same_depth e is = ap (depth_after d) (no_word_plain p e) ∙ is

    by : (b : Bool) → ends_at d (role p) ≡ b → (whole is : List (List Word)) → items d' ps ≡ is → HasFirst is
        → put (ends_at d (role p)) (words p) (items d' ps) ≡ whole ++ [] ∷ [] → (whole ≡ [] → d ≡ 0)
        → ((w : List (List Word)) → items d' ps ≡ w ++ [] ∷ [] → (w ≡ [] → d' ≡ 0)
        → items d' (ps ++ qs) ≡ w ++ items 0 qs)
        → put (ends_at d (role p)) (words p) (items d' (ps ++ qs)) ≡ whole ++ items 0 qs
    by true ends [] is same (first_is i rest f) e none next =
        absurd (let g : words p ∷ (i ∷ rest) ≡ [] ∷ [] = ap (λ l. words p ∷ l) (sym f ∙ sym same)
        ∙ sym (ap (λ b. put b (words p) (items d' ps)) ends) ∙ e in cc)
    by true ends (w ∷ whole) is same has e none next =
        let all : words p ∷ items d' ps ≡ w ∷ (whole ++ [] ∷ []) =
        sym (ap (λ b. put b (words p) (items d' ps)) ends) ∙ e in
        let first : words p ≡ w = cc in
        let left : items d' ps ≡ whole ++ [] ∷ [] = cc in
        let rest = next whole left (λ x. after_end d (role p) ends) in
        ap (λ b. put b (words p) (items d' (ps ++ qs))) ends ∙ (λ k. first k ∷ rest k)
    by false ends whole is same (first_is i rest f) e none next = inner whole all none
      where
        all : (words p ++ i) ∷ rest ≡ whole ++ [] ∷ []
        all = ap (put false (words p)) (sym f ∙ sym same) ∙ sym
            (ap (λ b. put b (words p) (items d' ps)) ends) ∙ e

        inner : (whole : List (List Word)) → (words p ++ i) ∷ rest ≡ whole ++ [] ∷ [] → (whole ≡ [] → d ≡ 0)
            → put (ends_at d (role p)) (words p) (items d' (ps ++ qs)) ≡ whole ++ items 0 qs
        inner [] all none =
            let front : words p ++ i ≡ [] = cc in
            let last : rest ≡ [] = cc in
            let parts = nothing_left (words p) i front in
            let left : items d' ps ≡ [] ∷ [] = same ∙ f ∙ (λ k. parts.1 k ∷ last k) in
            ap (λ b. put b (words p) (items d' (ps ++ qs))) ends
            ∙ ap (λ l. put false l (items d' (ps ++ qs))) parts.0
            ∙ put_none (items d' (ps ++ qs)) (has_first d' (ps ++ qs))
            ∙ next [] left (λ x. same_depth parts.0 (none refl))
        inner (w ∷ whole) all none =
            let front : words p ++ i ≡ w = cc in
            let last : rest ≡ whole ++ [] ∷ [] = cc in
            let left : items d' ps ≡ i ∷ (whole ++ [] ∷ []) = same ∙ f ∙ ap (λ l. i ∷ l) last in
            ap (λ b. put b (words p) (items d' (ps ++ qs))) ends
            ∙ ap (put false (words p)) (next (i ∷ whole) left (λ x. absurd (cc)))
            ∙ ap (λ l. l ∷ (whole ++ items 0 qs)) front

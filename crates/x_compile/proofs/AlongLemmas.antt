-- Items along tokens: what becomes of them where tokens before or behind them change.
use Rattle.std.proofs.Common.{◌≡◌, ℕ, ◌+◌, ◌≤◌, List, [], ◌∷◌, ◌++◌, length, map, take, drop, refl, sym, ap}
use Rattle.std.proofs.Common.{subst, ◌∙◌, arith, length-append, length-drop}
use Rattle.std.proofs.lemmas.List.{drop-map, drop-drop, take-append-le, take-append-drop}
use Rattle.std.specs.List.{take-map}
use Rattle.x_lists.proofs.LengthLemmas.{total-append}
use Rattle.x_lists.proofs.ListLemmas.{map_append}
use Rattle.x_lists.proofs.SeqLemmas.{drop_front}
use Rattle.x_lex.specs.Places.{Lexeme}
use Rattle.x_cutting.specs.ItemList.{counts, tokens_before, tokens_in, total}
use Rattle.x_cutting.specs.Items.{IsCut, joined}
use Rattle.x_cutting.specs.declared.cutting.item_entry.ItemEntry.{ItemEntry}
use Rattle.x_compile.specs.KeptView.{AreAlong, AreEach, AreParsed, IsItem, kept_parse}
use Rattle.x_compile.specs.declared.content.Content.{Content}
use Rattle.x_compile.proofs.ItemLemmas.{take_part, drop_part}
use Rattle.x_compile.proofs.LookLemmas.{look, bytes_alike, lines_alike, many_alike, parse_alike}
use Rattle.x_compile.proofs.WalkLemmas.{take-short}

-- ---- tokens that look alike

item_alike : (xs ys : List Lexeme) (e : ItemEntry Content) → map look xs ≡ map look ys → IsItem xs e
    → IsItem ys e
item_alike xs ys e same h = record {
  count = h.count ∙ many_alike xs ys same;
  bytes = h.bytes ∙ bytes_alike xs ys same;
  parsed = parse_alike xs ys (kept_parse e.kept) same h.parsed;
  lines = h.lines ∙ lines_alike xs ys same;
  marked = h.marked;
}

pub along_alike : (es : List (ItemEntry Content)) (xs ys : List Lexeme) → map look xs ≡ map look ys
    → AreAlong xs es → AreAlong ys es
along_alike [] xs ys same h = tt
along_alike (e ∷ es) xs ys same h =
    let front : map look (take e.tokens xs) ≡ map look (take e.tokens ys) = sym (take-map look e.tokens xs)
    ∙ ap (take e.tokens) same ∙ take-map look e.tokens ys in
    let rest : map look (drop e.tokens xs) ≡ map look (drop e.tokens ys) = sym (drop-map look e.tokens xs)
    ∙ ap (drop e.tokens) same ∙ drop-map look e.tokens ys in (
      item_alike (take e.tokens xs) (take e.tokens ys) e front h.0,
      along_alike es (drop e.tokens xs) (drop e.tokens ys) rest h.1,
    )

-- ---- more tokens behind, or fewer

pub along_more : (es : List (ItemEntry Content)) (xs zs : List Lexeme) → AreAlong xs es
    → AreAlong (xs ++ zs) es
along_more [] xs zs h = tt
along_more (e ∷ es) xs zs h =
    let few = take-short e.tokens xs in
    let count = h.0.count in
    let le : e.tokens ≤ length xs = omega (arith, few, count) in
    let front : take e.tokens xs ≡ take e.tokens (xs ++ zs) = sym (take-append-le e.tokens xs zs le) in
    let rest : drop e.tokens xs ++ zs ≡ drop e.tokens (xs ++ zs) = sym (drop_front xs zs e.tokens le) in (
      subst (λ l. IsItem l e) front h.0,
      subst (λ l. AreAlong l es) rest (along_more es (drop e.tokens xs) zs h.1),
    )

pub along_less : (es : List (ItemEntry Content)) (xs zs : List Lexeme) → total (counts es) ≤ length xs
    → AreAlong (xs ++ zs) es → AreAlong xs es
along_less [] xs zs few h = tt
along_less (e ∷ es) xs zs few h =
    let le : e.tokens ≤ length xs = omega (arith, few) in
    let front : take e.tokens (xs ++ zs) ≡ take e.tokens xs = take-append-le e.tokens xs zs le in
    let rest : drop e.tokens (xs ++ zs) ≡ drop e.tokens xs ++ zs = drop_front xs zs e.tokens le in
    let d = length-drop e.tokens xs in
    let left : total (counts es) ≤ length (drop e.tokens xs) = omega (arith, few, d) in (
      subst (λ l. IsItem l e) front h.0,
      along_less es (drop e.tokens xs) zs left (subst (λ l. AreAlong l es) rest h.1),
    )

-- ---- items one behind another

pub along_append : (es fs : List (ItemEntry Content)) (xs : List Lexeme) → AreAlong xs es
    → AreAlong (drop (total (counts es)) xs) fs → AreAlong xs (es ++ fs)
along_append [] fs xs h k = k
along_append (e ∷ es) fs xs h k = (
  h.0,
  along_append es fs (drop e.tokens xs) h.1
      (subst (λ l. AreAlong l fs) (sym (drop-drop (total (counts es)) e.tokens xs)) k),
)

pub along_front : (es fs : List (ItemEntry Content)) (xs : List Lexeme) → AreAlong xs (es ++ fs)
    → AreAlong xs es
along_front [] fs xs h = tt
along_front (e ∷ es) fs xs h = (h.0, along_front es fs (drop e.tokens xs) h.1)

pub along_back : (es fs : List (ItemEntry Content)) (xs : List Lexeme) → AreAlong xs (es ++ fs)
    → AreAlong (drop (total (counts es)) xs) fs
along_back [] fs xs h = h
along_back (e ∷ es) fs xs h = subst (λ l. AreAlong l fs) (drop-drop (total (counts es)) e.tokens xs)
    (along_back es fs (drop e.tokens xs) h.1)

-- ---- items that were cut

pub along_each : (parts : List (List Lexeme)) (es : List (ItemEntry Content)) (xs : List Lexeme)
    → joined parts ≡ xs → AreEach parts es → AreAlong xs es
along_each [] [] xs all each = tt
along_each [] (e ∷ es) xs all each = absurd each
along_each (p ∷ ps) [] xs all each = absurd each
along_each (p ∷ ps) (e ∷ es) xs all each =
    let front : p ≡ take e.tokens xs = sym (take_part p (joined ps) e.tokens each.0.count)
    ∙ ap (take e.tokens) all in
    let rest : joined ps ≡ drop e.tokens xs = sym (drop_part p (joined ps) e.tokens each.0.count)
    ∙ ap (drop e.tokens) all in
    (subst (λ l. IsItem l e) front each.0, along_each ps es (drop e.tokens xs) rest each.1)

pub each_along : (parts : List (List Lexeme)) (es : List (ItemEntry Content)) (xs : List Lexeme)
    → joined parts ≡ xs → counts es ≡ map length parts → AreAlong xs es → AreEach parts es
each_along [] [] xs all many h = tt
each_along [] (e ∷ es) xs all many h = absurd (cc)
each_along (p ∷ ps) [] xs all many h = absurd (cc)
each_along (p ∷ ps) (e ∷ es) xs all many h =
    let count : e.tokens ≡ length p = cc in
    let others : counts es ≡ map length ps = cc in
    let front : take e.tokens xs ≡ p = ap (take e.tokens) (sym all)
    ∙ take_part p (joined ps) e.tokens count in
    let rest : joined ps ≡ drop e.tokens xs = sym (drop_part p (joined ps) e.tokens count)
    ∙ ap (drop e.tokens) all in
    (subst (λ l. IsItem l e) front h.0, each_along ps es (drop e.tokens xs) rest others h.1)

counts_each : (parts : List (List Lexeme)) (es : List (ItemEntry Content)) → AreEach parts es
    → counts es ≡ map length parts
counts_each [] [] each = refl
counts_each [] (e ∷ es) each = absurd each
counts_each (p ∷ ps) [] each = absurd each
counts_each (p ∷ ps) (e ∷ es) each = let others = counts_each ps es each.1 in λ i. each.0.count i ∷ others i

-- how the tokens are cut
pub cut_of : (tokens : List Lexeme) (es : List (ItemEntry Content)) → AreParsed tokens es
    → IsCut tokens (counts es)
cut_of tokens es h = record { items = h.parts; are = h.are; lengths = counts_each h.parts es h.each }

-- items that are cut so, along the tokens
pub parsed_along : (tokens : List Lexeme) (es : List (ItemEntry Content)) → IsCut tokens (counts es)
    → AreAlong tokens es → AreParsed tokens es
parsed_along tokens es cut h =
    record {
      parts = cut.items;
      are = cut.are;
      each = each_along cut.items es tokens cut.are.all cut.lengths h;
    }

total_lengths : (parts : List (List Lexeme)) → total (map length parts) ≡ length (joined parts)
total_lengths [] = refl
total_lengths (p ∷ ps) =
    let r = total_lengths ps in let l = length-append p (joined ps) in omega (arith, r, l)

-- the items have all tokens together
pub total_cut : (tokens : List Lexeme) (cs : List ℕ) → IsCut tokens cs → total cs ≡ length tokens
total_cut tokens cs h = ap total h.lengths ∙ total_lengths h.items ∙ ap length h.are.all

pub total_counts : (es fs : List (ItemEntry Content))
    → total (counts (es ++ fs)) ≡ total (counts es) + total (counts fs)
total_counts es fs = ap total (map_append tokens_in es fs) ∙ total-append (λ c. c) (counts es) (counts fs)

pub total_before : (es : List (ItemEntry Content)) (i : ℕ)
    → total (counts (take i es)) ≡ tokens_before (counts es) i
total_before es i = ap total (sym (take-map tokens_in i es))

-- all tokens before an index and from it on
pub total_parts : (es : List (ItemEntry Content)) (i : ℕ)
    → tokens_before (counts es) i + total (counts (drop i es)) ≡ total (counts es)
total_parts es i =
    let a = total_counts (take i es) (drop i es) in
    let b = ap (λ l. total (counts l)) (take-append-drop i es) in
    let c = total_before es i in
    omega (arith, a, b, c)

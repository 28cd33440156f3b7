-- The items of a text, one after another.
use Rattle.std.proofs.Common.{◌≡◌, ℕ, zero, suc, ◌<◌, ◌≤◌, Bool, true, false, Some, List, [], ◌∷◌, ◌++◌}
use Rattle.std.proofs.Common.{length, map, take, drop, refl, ap, sym, subst, ◌∙◌, arith}
use Rattle.std.proofs.lemmas.List.{append-nil, length-map}
use Rattle.x_lex.specs.Places.{Lexeme}
use Rattle.x_cutting.specs.Cutting.{counts_from, roles_of}
use Rattle.x_cutting.specs.Items.{AreItems, AreWhole, HasNoEnd, IsCut, IsNext, joined}
use Rattle.x_cutting.proofs.CuttingLemmas.{counts_cut, same_cut}
use Rattle.x_trees.specs.Tree.{Definition}
use Rattle.x_trees.specs.Spell.{spell}
use Rattle.x_trees.specs.Words.{word_of}
use Rattle.x_item.specs.Parse.{Parse, Nothing, Def, Fault, IsParse}
use Rattle.x_compile.specs.Compile.{Item, AreParses, definition_at, parsed_definition}
use Rattle.x_compile.proofs.ItemLemmas.{take_part, drop_part}
use Rattle.x_session.specs.DeclaredNames.{words_in}

-- the items of the tokens that are left, if there is one
abbrev pub AreLeft : List Lexeme → List (List Lexeme) → Type 0
AreLeft left [] = Unit {0}
AreLeft left (item ∷ rest) = AreItems left (item ∷ rest)

-- two lists of items of one list of tokens begin with the same item
same_first : (left part left' : List Lexeme) (item : List Lexeme) (rest more : List (List Lexeme))
    → AreItems left (item ∷ rest) → AreItems left (part ∷ more) → left ≡ part ++ left'
    → (item ≡ part) × (joined rest ≡ left') × (map length rest ≡ map length more)
same_first left part left' item rest more h k is =
    let one : IsCut left (map length (item ∷ rest)) =
    record { items = item ∷ rest; are = h; lengths = refl } in
    let two : IsCut left (map length (part ∷ more)) =
    record { items = part ∷ more; are = k; lengths = refl } in
    let same : length item ∷ map length rest ≡ length part ∷ map length more =
    same_cut left (map length (item ∷ rest)) (map length (part ∷ more)) one two in
    let count : length item ≡ length part = cc in
    let counts : map length rest ≡ map length more = cc in
    let all : item ++ joined rest ≡ part ++ left' = h.all ∙ is in (
      sym (take_part item (joined rest) (length part) (sym count)) ∙ ap (take (length part)) all
          ∙ take_part part left' (length part) refl,
      sym (drop_part item (joined rest) (length part) (sym count)) ∙ ap (drop (length part)) all
          ∙ drop_part part left' (length part) refl,
      counts,
    )

behind : (whole : List (List Lexeme)) (last item next : List Lexeme) (rest : List (List Lexeme))
    (left : List Lexeme) → item ∷ next ∷ rest ≡ whole ++ last ∷ [] → AreWhole whole → HasNoEnd last
    → joined (next ∷ rest) ≡ left
    → AreItems left (next ∷ rest)
behind [] last item next rest left parts each none all = absurd (cc)
behind (w ∷ whole) last item next rest left parts each none all = record {
  whole = whole;
  last = last;
  parts = cc;
  all = all;
  each = each.1;
  rest = none;
}

left_behind : (left left' item : List Lexeme) (rest : List (List Lexeme)) → AreItems left (item ∷ rest)
    → joined rest ≡ left' → AreLeft left' rest
left_behind left left' item [] h all = tt
left_behind left left' item (next ∷ rest) h all =
    behind h.whole h.last item next rest left' h.parts h.each h.rest all

-- the part that is taken next is the first item, and the others are those of what is left then
pub next_item_is : (whole : Bool) (left part left' item : List Lexeme) (rest : List (List Lexeme))
    → AreItems left (item ∷ rest) → IsNext whole left part left' → (part ≡ item) × AreLeft left' rest
next_item_is true left part left' item rest h next =
    let cut = counts_cut left' (counts_from 0 0 (roles_of left')) refl in
    let are = cut.are in
    let two : AreItems left (part ∷ cut.items) = record {
      whole = part ∷ are.whole;
      last = are.last;
      parts = ap (λ l. part ∷ l) are.parts;
      all = ap (λ l. part ++ l) are.all ∙ sym next.1;
      each = (next.0, are.each);
      rest = are.rest;
    } in
    let same = same_first left part left' item rest cut.items h two next.1 in
    (sym same.0, left_behind left left' item rest h same.1)
next_item_is false left part left' item rest h next =
    let two : AreItems left (part ∷ []) = record {
      whole = [];
      last = part;
      parts = refl;
      all = append-nil part ∙ sym next.1;
      each = tt;
      rest = next.0;
    } in
    let same = same_first left part left' item rest [] h two
    (next.1 ∙ sym (append-nil part) ∙ ap (λ l. part ++ l) (sym next.2)) in
    (sym same.0, left_behind left left' item rest h same.1)

-- the item at an index, with what stands behind it
pub record ItemAt (items : List Item) (n : ℕ) : Type 0 where
  pub item : Item
  pub here : drop n items ≡ item ∷ drop (suc n) items
  pub definition : definition_at items n ≡ parsed_definition item.parse
  pub parsed : IsParse item.tokens item.parse

pub item_at : (items : List Item) (n : ℕ) → n < length items → AreParses items → ItemAt items n
item_at [] n lt parses = absurd (omega arith)
item_at (i ∷ is) zero lt parses = record { item = i; here = refl; definition = refl; parsed = parses.0 }
item_at (i ∷ is) (suc n) lt parses =
    let at = item_at is n (omega arith) parses.1 in
    record { item = at.item; here = at.here; definition = at.definition; parsed = at.parsed }

pub all_left : (all walk : List Lexeme) (parts : List (List Lexeme)) → AreItems all parts → walk ≡ all
    → AreLeft walk parts
all_left all walk [] h is = tt
all_left all walk (p ∷ ps) h is = subst (λ l. AreItems l (p ∷ ps)) (sym is) h

pub none_left : (items : List Item) (n : ℕ) → length items ≤ n → drop n items ≡ []
none_left [] zero le = refl
none_left [] (suc n) le = refl
none_left (i ∷ is) zero le = absurd (omega arith)
none_left (i ∷ is) (suc n) le = none_left is n (omega arith)

-- the words of a definition are as many as fit
pub short_definition : (part : List Lexeme) (p : Parse) (d : Definition) (n : ℕ) → IsParse part p
    → Some d ≡ parsed_definition p → length (words_in part) ≡ n → length (spell d) ≡ n
short_definition part Nothing d n parsed is long = absurd (cc)
short_definition part (Def e) d n parsed is long =
    let same : d ≡ e = cc in
    ap length (ap spell same ∙ parsed.1) ∙ length-map (words_in part) word_of ∙ long
short_definition part (Fault token code) d n parsed is long = absurd (cc)

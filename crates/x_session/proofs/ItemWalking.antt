-- A walk over the items of a text, which finds something in each.
use Rattle.std.proofs.Common.{◌≡◌, ◌+◌, ◌<◌, ◌≤◌, ℕ, suc, Bool, List, ◌∷◌, Option, length, map, drop, ap, sym}
use Rattle.std.proofs.Common.{subst, refl, arith, ◌∙◌}
use Rattle.x_lex.specs.declared.kind.Kind.{Kind}
use Rattle.x_lex.specs.Places.{Lexeme}
use Rattle.x_trees.specs.Tree.{Definition}
use Rattle.x_cutting.specs.Items.{AreItems, IsNext}
use Rattle.x_item.specs.Parse.{IsParse, Parse}
use Rattle.x_compile.specs.Compile.{Item, IsCompilation, definition_at, parsed_definition, tokens_of}
use Rattle.x_compile.specs.Known.{KnownText}
use Rattle.x_compile.proofs.Compiled.{one_compilation}
use Rattle.x_session.specs.Session.{Compiles}
use Rattle.x_session.specs.ItemWalks.{over_items}
use Rattle.x_session.proofs.ItemsLeft.{AreLeft, all_left, item_at, next_item_is, none_left}

-- this was found in the items before one, and the tokens of the others are left
pub record HasWalked {S : Type 0} (known : KnownText) (text : List ℕ)
    (step : S → List Lexeme → Option Definition → S) (first : S) (n : ℕ) (walk : List Lexeme) (found : S) :
    Type 0 where
  pub tokens : List (Kind × ℕ)
  pub items : List Item
  pub compiles : IsCompilation known text tokens items
  pub left : AreLeft walk (map (λ i. i.tokens) (drop n items))
  pub found_is : over_items step found (drop n items) ≡ over_items step first items

pub walked_none : {S : Type 0} {known : KnownText} (text : List ℕ)
    (step : S → List Lexeme → Option Definition → S) (first : S) (walk : List Lexeme)
    → Compiles known text (λ items. walk ≡ tokens_of items)
    → HasWalked known text step first 0 walk first
walked_none text step first walk c = record {
  tokens = c.0;
  items = c.1;
  compiles = c.2;
  left = all_left (tokens_of c.1) walk (map (λ i. i.tokens) c.1)
      (subst (λ l. AreItems l (map (λ i. i.tokens) c.1)) (sym c.2.are_items.all) c.2.are_items) c.3;
  found_is = refl;
}

-- one item more
pub walked_item : {S : Type 0} {known : KnownText} (text : List ℕ)
    (step : S → List Lexeme → Option Definition → S) (first : S) (n m count : ℕ) (whole : Bool)
    (walk walk' part : List Lexeme) (found found' : S) (o : Option Definition)
    → m ≡ n + 1 → n < count → Compiles known text (λ items. count ≡ length items)
    → Compiles known text (λ items. o ≡ definition_at items n)
    → HasWalked known text step first n walk found → IsNext whole walk part walk'
    → ((parse : Parse) → IsParse part parse → o ≡ parsed_definition parse → found' ≡ step found part o)
    → HasWalked known text step first m walk' found'
walked_item {S} {known} text step first n m count whole walk walk' part found found' o next lt many has had
    is_next more =
    let same : had.items ≡ many.1 =
    (one_compilation known text had.tokens many.0 had.items many.1 had.compiles many.2).1 in
    let same' : has.1 ≡ had.items =
    (one_compilation known text has.0 had.tokens has.1 had.items has.2 had.compiles).1 in
    let count_is : count ≡ length had.items = many.3 ∙ ap length (sym same) in
    let at = item_at had.items n (omega (arith, lt, count_is)) had.compiles.are_parses in
    let rest = drop (suc n) had.items in
    let here : map (λ i. i.tokens) (drop n had.items) ≡ at.item.tokens ∷ map (λ i. i.tokens) rest =
    ap (map (λ i. i.tokens)) at.here in
    let left = next_item_is whole walk part walk' at.item.tokens (map (λ i. i.tokens) rest)
    (subst (AreLeft walk) here had.left) is_next in
    let o_is : o ≡ parsed_definition at.item.parse = has.3 ∙ ap (λ is. definition_at is n) same'
    ∙ at.definition in
    let found_so = more at.item.parse (subst (λ l. IsParse l at.item.parse) (sym left.0) at.parsed) o_is
    ∙ (λ k. step found (left.0 k) (o_is k)) in
    let suc_is : suc n ≡ m = omega (arith, next) in
    subst (λ k. HasWalked known text step first k walk' found') suc_is record {
      tokens = had.tokens;
      items = had.items;
      compiles = had.compiles;
      left = left.1;
      found_is = ap (λ s. over_items step s rest) found_so ∙ sym (ap (over_items step found) at.here)
          ∙ had.found_is;
    }

-- all of them
pub walked_all : {S : Type 0} {known : KnownText} (text : List ℕ)
    (step : S → List Lexeme → Option Definition → S) (first : S) (n count : ℕ) (walk : List Lexeme)
    (found : S) → count ≤ n
    → Compiles known text (λ items. count ≡ length items) → HasWalked known text step first n walk found
    → Compiles known text (λ items. found ≡ over_items step first items)
walked_all {S} {known} text step first n count walk found le many had =
    let same : had.items ≡ many.1 =
    (one_compilation known text had.tokens many.0 had.items many.1 had.compiles many.2).1 in
    let count_is : count ≡ length had.items = many.3 ∙ ap length (sym same) in
    let none = none_left had.items n (omega (arith, le, count_is)) in
    (had.tokens, had.items, had.compiles, sym (ap (over_items step found) none) ∙ had.found_is)

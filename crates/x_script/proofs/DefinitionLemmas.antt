-- The definitions of a text, listed item by item.
use Rattle.std.proofs.Common.{◌≡◌, ℕ, zero, suc, ◌+◌, ◌≤◌, List, [], ◌∷◌, drop, length, Option, None, Some}
use Rattle.std.proofs.Common.{refl, sym, ap, subst, ◌∙◌, arith}
use Rattle.x_streams.specs.Streams.{Stream}
use Rattle.std.specs.Prelude.{slice_get, option_and_then}
use Rattle.std.specs.List.{flat_map}
use Rattle.x_streams.specs.Writing.{Inked, Adds}
use Rattle.x_lex.specs.declared.kind.Kind.{Kind}
use Rattle.x_trees.specs.Tree.{Definition}
use Rattle.x_compile.specs.Compile.{Item, IsCompilation, definitions_of, definition_at}
use Rattle.x_compile.specs.Known.{KnownText}
use Rattle.x_compile.specs.Definitions.{numbered}
use Rattle.x_script.specs.Answers.{definition_line}
use Rattle.x_session.specs.Session.{Compiles}
use Rattle.x_compile.proofs.Compiled.{one_compilation}
use Rattle.x_lists.proofs.ListLemmas.{drop_none}
use Rattle.x_text.proofs.Listing.{HasListed, lists_none, lists_more, lists_all}

-- the definitions of the first items are listed
pub record HasDefinitions (known : KnownText) (text : List ℕ) (n : ℕ) (p : Inked) (before : Stream)
    (q : Inked) (now : Stream) : Type 0 where
  pub tokens : List (Kind × ℕ)
  pub items : List Item
  pub compiles : IsCompilation known text tokens items
  pub listed : HasListed (ℕ × Definition) definition_line (numbered 0 (definitions_of items))
      (numbered n (drop n (definitions_of items))) p before q now

-- what stands at an index
data IsAt (ds : List (Option Definition)) (n : ℕ) (o : Option Definition) : Type 0 where
  Behind : o ≡ None → drop n ds ≡ [] → drop (suc n) ds ≡ [] → IsAt ds n o
  At : drop n ds ≡ o ∷ drop (suc n) ds → IsAt ds n o

at : (ds : List (Option Definition)) (n : ℕ) → IsAt ds n (option_and_then (λ d. d) (slice_get ds n))
at [] zero = Behind refl refl refl
at [] (suc n) = Behind refl refl refl
at (d ∷ ds) zero = At refl
at (d ∷ ds) (suc n) = by (at ds n)
  where
    by : {o : Option Definition} → IsAt ds n o → IsAt (d ∷ ds) (suc n) o
    by (Behind i e f) = Behind i e f
    by (At e) = At e

passed : (ds : List (Option Definition)) (n : ℕ) (o : Option Definition) → IsAt ds n o → o ≡ None
    → numbered n (drop n ds) ≡ numbered (suc n) (drop (suc n) ds)
passed ds n o (Behind i e f) none = ap (numbered n) e ∙ sym (ap (numbered (suc n)) f)
passed ds n o (At e) none = ap (numbered n) (e ∙ ap (λ d. d ∷ drop (suc n) ds) none)

met : (ds : List (Option Definition)) (n : ℕ) (o : Option Definition) (t : Definition) → IsAt ds n o
    → o ≡ Some t → numbered n (drop n ds) ≡ (n, t) ∷ numbered (suc n) (drop (suc n) ds)
met ds n o t (Behind i e f) some = absurd (cc)
met ds n o t (At e) some = ap (numbered n) (e ∙ ap (λ d. d ∷ drop (suc n) ds) some)

pub definitions_none : (known : KnownText) (text : List ℕ) (p : Inked) (now : Stream)
    → Compiles known text (λ items. Unit {0}) → HasDefinitions known text 0 p now p now
definitions_none known text p now c =
    record {
      tokens = c.0;
      items = c.1;
      compiles = c.2;
      listed = lists_none definition_line (numbered 0 (definitions_of c.1)) p now;
    }

-- the item has no definition
pub definitions_on : (known : KnownText) (text : List ℕ) (n m : ℕ) (o : Option Definition) (p q : Inked)
    (a b : Stream) → m ≡ n + 1 → o ≡ None
    → Compiles known text (λ items. o ≡ definition_at items n) → HasDefinitions known text n p a q b
    → HasDefinitions known text m p a q b
definitions_on known text n m o p q a b next none c h =
    let same : c.1 ≡ h.items = (one_compilation known text c.0 h.tokens c.1 h.items c.2 h.compiles).1 in
    let ds = definitions_of h.items in
    let here : definition_at h.items n ≡ None = sym (c.3 ∙ ap (λ is. definition_at is n) same) ∙ none in
    let step = passed ds n (definition_at h.items n) (at ds n) here in
    let suc_is : suc n ≡ m = omega (arith, next) in
    record {
      tokens = h.tokens;
      items = h.items;
      compiles = h.compiles;
      listed = subst (λ k. HasListed (ℕ × Definition) definition_line (numbered 0 ds) (numbered k (drop k ds))
          p a q b) suc_is
          (subst (λ l. HasListed (ℕ × Definition) definition_line (numbered 0 ds) l p a q b) step h.listed);
    }

-- the item's definition is added
pub definitions_more : (known : KnownText) (text : List ℕ) (n m : ℕ) (o : Option Definition) (t : Definition)
    (p q r : Inked) (a b c : Stream) → m ≡ n + 1 → o ≡ Some t
    → Compiles known text (λ items. o ≡ definition_at items n) → HasDefinitions known text n p a q b
    → Adds q b r c (definition_line (n, t)) → HasDefinitions known text m p a r c
definitions_more known text n m o t p q r a b c next some found so more =
    let same : found.1 ≡ so.items =
    (one_compilation known text found.0 so.tokens found.1 so.items found.2 so.compiles).1 in
    let ds = definitions_of so.items in
    let here : definition_at so.items n ≡ Some t =
    sym (found.3 ∙ ap (λ is. definition_at is n) same) ∙ some in
    let step = met ds n (definition_at so.items n) t (at ds n) here in
    let suc_is : suc n ≡ m = omega (arith, next) in
    let listed = subst (λ l. HasListed (ℕ × Definition) definition_line (numbered 0 ds) l p a q b) step
    so.listed in
    record {
      tokens = so.tokens;
      items = so.items;
      compiles = so.compiles;
      listed = subst (λ k. HasListed (ℕ × Definition) definition_line (numbered 0 ds) (numbered k (drop k ds))
          p a r c) suc_is
          (lists_more definition_line (numbered 0 ds) (numbered (suc n) (drop (suc n) ds)) (n, t) p q r a b c
          listed more);
    }

length-definitions : (items : List Item) → length (definitions_of items) ≡ length items
length-definitions [] = refl
length-definitions (i ∷ is) = ap suc (length-definitions is)

-- no item is left
pub definitions_all : (known : KnownText) (text : List ℕ) (n count : ℕ) (p q : Inked) (a b : Stream)
    → count ≤ n → Compiles known text (λ items. count ≡ length items)
    → HasDefinitions known text n p a q b
    → Compiles known text
    (λ items. Adds p a q b (flat_map definition_line (numbered 0 (definitions_of items))))
definitions_all known text n count p q a b over c h =
    let same : c.1 ≡ h.items = (one_compilation known text c.0 h.tokens c.1 h.items c.2 h.compiles).1 in
    let ds = definitions_of h.items in
    let long : length ds ≡ count = length-definitions h.items ∙ sym (c.3 ∙ ap length same) in
    let none = ap (numbered n) (drop_none ds n (omega (arith, over, long))) in (
      h.tokens,
      h.items,
      h.compiles,
      lists_all definition_line (numbered 0 ds) (numbered n (drop n ds)) p q a b none h.listed,
    )

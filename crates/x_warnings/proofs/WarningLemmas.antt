-- The names of a text that clash, and the lines that tell them.
use Rattle.std.proofs.Common.{◌≡◌, ◌<◌, ◌≤◌, ◌+◌, ◌^◌, ℕ, suc, Bool, true, nat_eq, List, [], ◌∷◌, Option, map}
use Rattle.std.proofs.Common.{drop}
use Rattle.std.proofs.Common.{get_or, length, refl, sym, ap, subst, ◌∙◌, arith}
use Rattle.std.proofs.lemmas.Bool.Decides.{nat_tests}
use Rattle.std.specs.List.{flat_map}
use Rattle.std.proofs.lemmas.List.{drop_more}
use Rattle.x_streams.specs.Streams.{Stream}
use Rattle.x_streams.specs.Writing.{Adds, Inked}
use Rattle.x_streams.proofs.Pens.{adds_trans}
use Rattle.x_trees.specs.Tree.{Definition}
use Rattle.x_names.specs.Declarers.{AreShort}
use Rattle.x_compile.specs.Compile.{Item, definitions_of, tokens_of}
use Rattle.x_compile.specs.Known.{KnownText}
use Rattle.x_session.specs.Session.{Compiles}
use Rattle.x_session.specs.DeclaredNames.{IsTableOf}
use Rattle.x_session.specs.declared.declared.DeclaredNames.{DeclaredNames}
use Rattle.x_session.proofs.DeclaredLemmas.{of_each, short_each, word_items}
use Rattle.x_taken.specs.TakenNames.{taken_as}
use Rattle.x_taken.specs.declared.taken.TakenAs.{TakenAs}
use Rattle.x_clash.specs.Clashes.{AreClashes}
use Rattle.x_clash.specs.declared.clash.Clash.{Clash}
use Rattle.x_warnings.specs.WarningLines.{warning_line}
use Rattle.x_warnings.specs.Warnings.{AreWarnings, Warning, spots_in, spots_of, view_warning, warning_of}
use Rattle.x_warnings.specs.declared.warning.Warning as rust

-- what is found by a table of a text's definitions is what clashes in the text
pub clashes_are : {known : KnownText} (text : List ℕ) (definitions : List (Option Definition))
    (taken : List ℕ → Option TakenAs) (found : List Clash) (count : ℕ) → count < 2 ^ 64
    → Compiles known text (λ items. count ≡ length (tokens_of items))
    → Compiles known text (λ items. definitions ≡ definitions_of items)
    → ((name : List ℕ) → taken name ≡ taken_as name)
    → (AreShort definitions → AreClashes taken 0 [] definitions found)
    → Compiles known text (λ items. AreClashes taken_as 0 [] (definitions_of items) found)
clashes_are text definitions taken found count few tokens are same clash =
    let items = are.1 in
    let many = of_each text tokens are.0 items are.2 in
    let le : length (tokens_of items) ≤ count = omega (arith, many) in
    let short : AreShort definitions =
    subst AreShort (sym are.3)
    (λ index d there. short_each items index d count are.2.are_parses le few there) in
    let kinds : taken ≡ taken_as = λ i name. same name i in
    let P : (List ℕ → Option TakenAs) → Type 0 = λ f. AreClashes f 0 [] definitions found in
    let Q : List (Option Definition) → Type 0 = λ ds. AreClashes taken_as 0 [] ds found in
    (are.0, items, are.2, subst Q are.3 (subst P kinds (clash short)))

-- where nothing clashes there are no warnings
pub none_are : {known : KnownText} (text : List ℕ) (found : List Clash) (ws : List Warning)
    → found ≡ [] → ws ≡ []
    → Compiles known text (λ items. AreClashes taken_as 0 [] (definitions_of items) found)
    → Compiles known text (λ items. AreWarnings text items ws)
none_are text found ws none is h =
    let spots = warning_of (spots_of text h.1) in
    (h.0, h.1, h.2, (found, h.3, is ∙ sym (ap (map spots) none)))

-- clashes at their places are the warnings
pub placed_are : {known : KnownText} (text : List ℕ) (found : List Clash) (table : DeclaredNames)
    (ws : List Warning) → Compiles known text (λ items. AreClashes taken_as 0 [] (definitions_of items) found)
    → Compiles known text (λ items. IsTableOf text items table)
    → ws ≡ map (warning_of (spots_in table)) found → Compiles known text (λ items. AreWarnings text items ws)
placed_are text found table ws h tabled is =
    let items = h.1 in
    let table_is = of_each text tabled h.0 items h.2 in
    let spots : spots_in table ≡ spots_of text items =
    λ i p. word_items text items table p.item p.word table_is i in
    (h.0, items, h.2, (found, h.3, is ∙ ap (λ s. map (warning_of s) found) spots))

-- one line more
pub line_more : (file : List ℕ) (ws : List rust.Warning) (i : ℕ) (w : rust.Warning) (p q r : Inked)
    (a b c : Stream) → i < length ws → w ≡ get_or ws i w → Adds p a q b (warning_line file (view_warning w))
    → Adds q b r c (flat_map (warning_line file) (map view_warning (drop (i + 1) ws)))
    → Adds p a r c (flat_map (warning_line file) (map view_warning (drop i ws)))
line_more file ws i w p q r a b c lt is one others =
    let rest = drop (i + 1) ws in
    let split : drop i ws ≡ w ∷ rest = drop_more ws i w lt ∙ ap (λ x. x ∷ rest) (sym is) in
    subst (λ l. Adds p a r c (flat_map (warning_line file) (map view_warning l))) (sym split)
    (adds_trans p q r a b c (warning_line file (view_warning w))
    (flat_map (warning_line file) (map view_warning rest)) one others)

-- a list that is empty by its length
pub empty_is : {X : Type 0} (xs : List X) (is_empty : Bool) → is_empty ≡ nat_eq (length xs) 0
    → is_empty ≡ true → xs ≡ []
empty_is [] is_empty is so = refl
empty_is (x ∷ xs) is_empty is so = absurd (never (length xs) (sym is ∙ so))
  where
    never : (n : ℕ) → nat_eq (suc n) 0 ≡ true → ⊥
    never n e = grind (arith, nat_tests)

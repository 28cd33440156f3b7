-- What stands before a text says one thing of it.
use Rattle.std.proofs.Common.{◌≡◌, ℕ, List, [], ◌∷◌, ◌++◌, map, sym, ap, subst, ◌∙◌}
use Rattle.x_lex.specs.declared.kind.Kind.{Kind}
use Rattle.x_rules.specs.Results.{KnownNames, AreResults, result_at}
use Rattle.x_compile.specs.Compile.{IsCompilation, Item, definitions_of}
use Rattle.x_compile.specs.Known.{KnownText, known_definitions, known_names, names_known, nothing_known}
use Rattle.x_compile.proofs.Compiled.{one_compilation}
use Rattle.x_prelude.specs.Before.{IsBefore, IsKnownOf, IsPrelude}
use Rattle.x_prelude.specs.Prelude.{prelude}
use Rattle.x_prelude.specs.declared.definition.FromC.{FromC}
use Rattle.x_prelude_laws.proofs.Found.{same_definitions}

-- two known texts define the same, and check to the same
pub record AreSame (a b : KnownText) : Type 0 where
  pub definitions : known_definitions a ≡ known_definitions b
  pub outcomes : a.outcomes ≡ b.outcomes

same_nothing : (a b : KnownText) → a ≡ b → AreSame a b
same_nothing a b e =
    record { definitions = λ i. known_definitions (e i); outcomes = λ i. (e i).outcomes }

pub one_known : (text : List ℕ) (a b : KnownText) → IsKnownOf text a → IsKnownOf text b → AreSame a b
one_known [] a b h k = same_nothing a b (h ∙ sym k)
one_known (x ∷ xs) a b h k =
    let same = (one_compilation nothing_known (x ∷ xs) h.0 k.0 h.1 k.1 h.2 k.2).1 in
    record {
      definitions = h.3.definitions ∙ ap definitions_of same ∙ sym k.3.definitions;
      outcomes = h.3.outcomes ∙ ap (map (λ (i : Item). i.result)) same ∙ sym k.3.outcomes;
    }

pub same_names : (a b : KnownText) → AreSame a b → known_names a ≡ known_names b
same_names a b s = λ i. names_known (s.definitions i) (result_at (s.outcomes i))

-- the same is compiled over both
pub over_other : (a b : KnownText) (text : List ℕ) (tokens : List (Kind × ℕ)) (items : List Item)
    → AreSame a b → IsCompilation a text tokens items → IsCompilation b text tokens items
over_other a b text tokens items s c = record {
  are_tokens = c.are_tokens;
  are_items = c.are_items;
  are_parses = c.are_parses;
  are_results = subst (λ (k : KnownNames). AreResults k (definitions_of items) (map (λ i. i.result) items))
      (same_names a b s) c.are_results;
}

pub one_prelude : (files : List ℕ) (from : FromC) (text a b : List ℕ) → IsPrelude files from text a
    → IsPrelude files from text b → a ≡ b
one_prelude files from text a b h k =
    let names = same_names h.0 k.0 (one_known files h.0 k.0 h.1 k.1) in
    let mine = h.2.1 in
    let other = k.2.1 in
    let definitions = same_definitions h.2.0 k.2.0 text mine.0 other.0 mine.1 other.1 mine.2 other.2 in
    mine.3 ∙ (λ i. prelude from (names i) (definitions i)) ∙ sym other.3

pub one_before : (files : List ℕ) (from : FromC) (text : List ℕ) (a b : KnownText)
    → IsBefore files from text a
    → IsBefore files from text b → AreSame a b
one_before files from text a b h k =
    let lacking = one_prelude files from text h.1.0 k.1.0 h.1.1 k.1.1 in
    let same : h.0 ≡ k.0 = h.1.2 ∙ ap (λ l. files ++ l) lacking ∙ sym k.1.2 in
    one_known k.0 a b (subst (λ t. IsKnownOf t a) same h.2) k.2

-- Where a text has no fault, none of its results has one.
use Rattle.std.proofs.Common.{◌≡◌, ℕ, zero, suc, Bool, true, false, cond, List, [], ◌∷◌, ◌++◌, map, Option}
use Rattle.std.proofs.Common.{None, Some, option_map, refl, sym, ap, subst, ◌∙◌}
use Rattle.std.proofs.lemmas.Option.{same_Some}
use Rattle.x_trees.specs.Tree.{Definition}
use Rattle.x_item.specs.Parse.{Parse, Nothing, Def, Fault}
use Rattle.x_lex.specs.Places.{Lexeme}
use Rattle.x_names.specs.Declarers.{first_declarer, is_beforehand}
use Rattle.x_names.specs.declared.names.Declarer.{Declarer}
use Rattle.x_rules.specs.Results.{AreResults, Outcome, meaning_at, no_names, result_at}
use Rattle.x_rules.specs.Views.{Earlier}
use Rattle.x_rules.specs.declared.fault.WordFault.{WordFault}
use Rattle.x_compile.specs.Compile.{Item, at_token, definitions_of, faults_at, faults_from, faults_of}
use Rattle.x_compile.specs.Compile.{item_faults, placed, rule_faults, token_faults}
use Rattle.x_compile.specs.Known.{known_names, nothing_known}
use Rattle.x_laws.specs.Meant.{AreFaultless, IsFaultless}

front_empty : {X : Type 0} (xs ys : List X) → xs ++ ys ≡ [] → xs ≡ []
front_empty [] ys e = refl
front_empty (x ∷ xs) ys e = absurd cc

rear_empty : {X : Type 0} (xs ys : List X) → xs ++ ys ≡ [] → ys ≡ []
rear_empty [] ys e = e
rear_empty (x ∷ xs) ys e = absurd cc

unmapped : {X Y : Type 0} (f : X → Y) (xs : List X) → map f xs ≡ [] → xs ≡ []
unmapped f [] e = refl
unmapped f (x ∷ xs) e = absurd cc

ruled_empty : (tokens : List Lexeme) (parse : Parse) (ruled : List WordFault)
    → faults_at tokens parse ruled ≡ [] → ruled ≡ []
ruled_empty tokens Nothing ruled e = unmapped (at_token tokens) ruled e
ruled_empty tokens (Def d) ruled e = unmapped (at_token tokens) ruled e
ruled_empty tokens (Fault token code) ruled e = absurd cc

item_fine : (text : List ℕ) (index : ℕ) (i : Item) (o : Outcome) → item_faults text index i ≡ []
    → i.result ≡ Some o → o.faults ≡ []
item_fine text index i o none is =
    sym (ap rule_faults is)
    ∙ ruled_empty i.tokens i.parse (rule_faults i.result)
    (unmapped (placed text index i.tokens) (token_faults i) none)

pub faultless : (text : List ℕ) (index : ℕ) (items : List Item) → faults_from text index items ≡ []
    → AreFaultless (map (λ i. i.result) items)
faultless text index [] none item o there = absurd cc
faultless text index (i ∷ is) none zero o there = item_fine text index i o
    (front_empty (item_faults text index i) (faults_from text (suc index) is) none)
    (same_Some i.result (Some o) there)
faultless text index (i ∷ is) none (suc item) o there =
    faultless text (suc index) is
    (rear_empty (item_faults text index i) (faults_from text (suc index) is) none) item o there

pub faultless_results : (text : List ℕ) (items : List Item) → faults_of text items ≡ []
    → AreFaultless (map (λ i. i.result) items)
faultless_results text items none = faultless text 0 items none

-- ---- where nothing is known before a text

-- no item declares a name where there is none
none_first : (name : List ℕ) → first_declarer [] name ≡ None
none_first name = by (is_beforehand name)
  where
    none : Option Declarer
    none = None

    by : (b : Bool) → cond b none none ≡ None
    by true = refl
    by false = refl

pub nothing_is_known : known_names nothing_known ≡ no_names
nothing_is_known =
    λ i name. ap (option_map (λ (at : Declarer). Earlier at.kind at.lifted (meaning_at (result_at []) at)))
    (none_first name) i

-- ---- a text without a fault

-- what holds of faultless results holds of the items of such a text
pub by_text : {P : List (Option Definition) → List (Option Outcome) → Type 0}
    → ((definitions : List (Option Definition)) (results : List (Option Outcome))
    → AreResults no_names definitions results → AreFaultless results → P definitions results)
    → (text : List ℕ) (items : List Item) → IsFaultless text items
    → P (definitions_of items) (map (λ i. i.result) items)
by_text law text items h =
    law (definitions_of items) (map (λ i. i.result) items)
    (subst (λ k. AreResults k (definitions_of items) (map (λ i. i.result) items)) nothing_is_known
    h.compiles.are_results)
    (faultless_results text items h.none)

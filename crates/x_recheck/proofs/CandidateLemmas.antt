-- Which items wait before any is checked.
use Rattle.std.proofs.Common.{◌≡◌, ◌<◌, ◌≤◌, ◌⊎◌, inl, inr, ℕ, ◌+◌, Bool, true, false, List, [], map, length}
use Rattle.std.proofs.Common.{Option, Some, None, refl, sym, ap, subst, ◌∙◌, arith}
use Rattle.std.proofs.lemmas.Bool.{cases_lt, true≢false}
use Rattle.x_trees.specs.Tree.{Definition}
use Rattle.x_trees.specs.Names.{declared}
use Rattle.x_trees.specs.Collected.{view_name}
use Rattle.x_trees.specs.declared.names.declared_name.DeclaredName.{DeclaredName}
use Rattle.x_trees.specs.Spell.{IsShort}
use Rattle.x_names.specs.Declarers.{AreShort, first_declarer}
use Rattle.x_names.specs.declared.names.Declarer.{Declarer}
use Rattle.x_recheck.specs.Editing.{TextEdit, definitions_after, IsEdit, definition_at, old_number}
use Rattle.x_recheck.specs.inside.Deciding.{IsCovered, IsOfOld, IsNamed, IsReady, AddsItems, is_waiting}
use Rattle.x_recheck.specs.declared.rechecking.queue.Queue.{Queue}
use Rattle.x_recheck.proofs.DecidedLemmas.{decided_first}
use Rattle.x_recheck.proofs.FirstDeclarers.{alike_everywhere, first_defined, first_named}
use Rattle.x_recheck.proofs.Numbering.{definition_there, fresh_cases}
use Rattle.x_recheck.proofs.WaitingLemmas.{adds_more, rests_before}

-- what is known of the names that are listed of a definition is known of those that its item declares first
pub listed_first : (P : List ℕ → Type 0) (ds : List (Option Definition)) (item : ℕ) (view : Definition)
    (lent items : List DeclaredName) → Some view ≡ definition_at ds item
    → (definition_at ds item ≡ Some view → IsShort view)
    → (IsShort view → map view_name items ≡ declared view) → lent ≡ items
    → ((name : List ℕ) (f : Declarer) → first_declarer ds name ≡ Some f → f.item ≡ item
    → IsNamed lent f.place name → P name)
    → (d : Definition) → definition_at ds item ≡ Some d → (name : List ℕ) (f : Declarer)
    → first_declarer ds name ≡ Some f → f.item ≡ item → P name
listed_first P ds item view lent items is short are same each d has name f first here =
    each name f first here (first_named ds name f view lent first (ap (definition_at ds) here ∙ sym is)
    (ap (map view_name) same ∙ are (short (sym is))))

pub short_at : (ds : List (Option Definition)) (i : ℕ) (d : Definition) → AreShort ds
    → definition_at ds i ≡ Some d → IsShort d
short_at ds i d short h = short i d (definition_there ds i d h)

-- what holds of each number below one more
pub each_number : (P Q : ℕ → Type 0) (low n : ℕ) → ((i : ℕ) → P i → Q i) → ((i : ℕ) → low ≤ i → i < n → P i)
    → Q n → (i : ℕ) → low ≤ i → i < n + 1 → Q i
each_number P Q low n more so here i le lt = by (cases_lt i n)
  where
    by : (i < n) ⊎ (n ≤ i) → Q i
    by (inl l) = more i (so i le l)
    by (inr l) = let same : n ≡ i = omega (arith, l, lt) in subst Q same here

-- what holds of the items in a range holds of each name that is declared first there
pub first_covered : (P : List ℕ → Type 0) (ds : List (Option Definition)) (low high end : ℕ) → high ≤ end
    → ((i : ℕ) → low ≤ i → i < end → (d : Definition) → definition_at ds i ≡ Some d
    → (name : List ℕ) (f : Declarer) → first_declarer ds name ≡ Some f → f.item ≡ i → P name)
    → (name : List ℕ) (f : Declarer) → first_declarer ds name ≡ Some f → low ≤ f.item → f.item < high → P name
first_covered P ds low high end all each name f first le lt =
    let there = first_defined ds name f first in
    each f.item le (omega (arith, all, lt)) there.0 there.1 name f first refl

-- an item that does not wait is kept, where all fresh ones wait that have a definition
pub kept_resting : (e : TextEdit) (waits : ℕ → Bool) (end : ℕ) → e.place.at + e.place.added ≤ end
    → ((i : ℕ) → e.place.at ≤ i → i < end → (d : Definition) → definition_at (definitions_after e) i ≡ Some d
    → waits i ≡ true) → (k : ℕ) → waits k ≡ false → IsOfOld e k
kept_resting e waits end all each k rests d has = by (old_number e.place k) refl
  where
    by : (n : Option ℕ) → old_number e.place k ≡ n → (was : ℕ) × (old_number e.place k ≡ Some was)
    by (Some was) kept = (was, kept)
    by None fresh =
        let c = fresh_cases e.place k fresh in
        let le = c.0 in
        let lt = c.1 in
        absurd (true≢false (sym (each k le (omega (arith, lt, all)) d has) ∙ rests))

-- so all is ready before the first check
pub ready_first : (e : TextEdit) (none a b : Queue) → IsEdit e → ((k : ℕ) → is_waiting none k ≡ false)
    → AddsItems none a 0 (length (definitions_after e)) → AddsItems a b 0 (length (definitions_after e))
    → ((name : List ℕ) (f : Declarer) → first_declarer e.old name ≡ Some f → e.place.at ≤ f.item
    → f.item < e.place.at + e.place.removed → IsCovered e (is_waiting a) name)
    → ((name : List ℕ) (f : Declarer) → first_declarer (definitions_after e) name ≡ Some f
    → e.place.at ≤ f.item → f.item < e.place.at + e.place.added → IsCovered e (is_waiting b) name)
    → ((k : ℕ) → is_waiting b k ≡ false → IsOfOld e k) → IsReady e b [] 0
ready_first e none a b is empty first next without come kept = record {
  within = omega arith;
  range = λ k w. (adds_more none a b 0 (length (definitions_after e)) first next).range k w (empty k);
  ascend = tt;
  decided = λ after are. decided_first e after (is_waiting b) (λ k lt rests. kept k rests)
      (λ name k lt u rests. alike_everywhere e name is
      (λ o h le l. without name o h le l k lt u
      (rests_before a b 0 (length (definitions_after e)) k next rests))
      (λ f h le l. come name f h le l k lt u rests));
}

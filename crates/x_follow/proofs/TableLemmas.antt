-- The table of a session's items, by what is kept of its text.
use Rattle.std.proofs.Common.{◌≡◌, ℕ, List, [], Option, ap, subst, sym, ◌∙◌}
use Rattle.std.specs.Prelude.{All}
use Rattle.x_lex.specs.declared.kind.Kind.{Kind}
use Rattle.x_lex.specs.Places.{lexemes}
use Rattle.x_cutting.specs.ItemList as items
use Rattle.x_cutting.specs.declared.cutting.item_entry.ItemEntry.{ItemEntry}
use Rattle.x_names.specs.Declarers.{AreShort}
use Rattle.x_rules.specs.Results.{AreResults, KnownNames}
use Rattle.x_uses.specs.Occurrences.{UseTable}
use Rattle.x_compile.specs.Checking.{IsSound}
use Rattle.x_compile.specs.Counting.{own_faults}
use Rattle.x_follow.specs.Following.{AreUsed, IsCheckedTable}
use Rattle.x_compile.specs.KeptView.{entry_definitions, entry_results}
use Rattle.x_follow.specs.Planned.{overlaid}
use Rattle.x_compile.specs.KeptText.{IsKept}
use Rattle.x_compile.specs.Known.{KnownText, known_names}
use Rattle.x_compile.specs.declared.item_table.ItemTable.{ItemTable}
use Rattle.x_compile.specs.declared.content.Content.{Content}
use Rattle.x_compile.proofs.KeptLemmas.{count_found}
use Rattle.x_follow.proofs.PlannedLemmas.{faults_own, with_none}

pub table_checked : (known : KnownText) (text : List ℕ) (tokens : List (Kind × ℕ)) (t : ItemTable)
    → IsKept known text tokens t.entries.list t.faults t.uses → IsCheckedTable (known_names known) t
table_checked known text tokens t h =
    let es = t.entries.list in
    let ks = items.kept es in
    record {
      short = h.short;
      results = h.are_results;
      sound = h.sound;
      count = h.count_is ∙ sym (count_found text 0 (lexemes text tokens) es (overlaid 0 ks []) es
          (with_none 0 es)) ∙ faults_own 0 ks;
      uses = h.uses_are;
    }

-- another table with the same items
pub table_same : (known : KnownNames) (t u : ItemTable) → IsCheckedTable known t → u.entries.list
    ≡ t.entries.list → u.faults ≡ t.faults → AreUsed t.entries.list u.uses → IsCheckedTable known u
table_same known t u h list faults used = record {
  short = subst (λ es. AreShort (entry_definitions es)) (sym list) h.short;
  results = subst (λ es. AreResults known (entry_definitions es) (entry_results es)) (sym list) h.results;
  sound = subst (λ es. All (λ e. IsSound e.kept) es) (sym list) h.sound;
  count = faults ∙ h.count ∙ ap (λ es. own_faults (items.kept es)) (sym list);
  uses = subst (λ es. AreUsed es u.uses) (sym list) used;
}

pub used_of : (es fs : List (ItemEntry Content)) (uses : Option UseTable) → fs ≡ es → AreUsed fs uses
    → AreUsed es uses
used_of es fs uses same used = subst (λ l. AreUsed l uses) same used

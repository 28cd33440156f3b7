-- What an edit does to what a session keeps of its text.
use Rattle.std.specs.Prelude.{◌≡◌, ℕ, ◌+◌, ◌≤◌, List, All, IfSome, Option, None, Some, drop, length}
use Rattle.std.specs.Prelude.{map, take}
use Rattle.std.specs.Global.{Box}
use Rattle.x_text.specs.Edits.{Change, edited_by, LiesWithin}
use Rattle.x_lists.specs.Seqs.{Gapped}
use Rattle.x_lex.specs.declared.kind.Kind.{Kind}
use Rattle.x_lex.specs.Places.{lexemes}
use Rattle.x_lex.specs.Relex.{IsPatch}
use Rattle.x_lex.specs.Tiling.{AreTokens, end_of}
use Rattle.x_lex.specs.TokenList.{TokenList, TokenPatch}
use Rattle.x_lex.specs.TokenList as tokens
use Rattle.x_cutting.specs.ItemList as items
use Rattle.x_cutting.specs.ItemList.{AreOfText, ItemChange, counts}
use Rattle.x_cutting.specs.Recut.{IsRelexed, IsItemPatch}
use Rattle.x_cutting.specs.declared.cutting.item_entry.ItemEntry.{ItemEntry}
use Rattle.x_names.specs.Declarers.{AreShort}
use Rattle.x_rules.specs.Results.{AreResults, KnownNames}
use Rattle.x_recheck.specs.Editing.{TextEdit}
use Rattle.x_uses.specs.Occurrences.{HasRoomFor, IsUsesOf, UseTable}
use Rattle.x_recheck.specs.Staleness.{AreStale, Ascending}
use Rattle.x_compile.specs.Checking.{AreRendered, IsSound, kept_definitions}
use Rattle.x_compile.specs.Counting.{faults_found, own_faults}
use Rattle.x_compile.specs.KeptView.{AreParsed, entry_definitions, entry_results, found_result}
use Rattle.x_follow.specs.Moves.{splice_of}
use Rattle.x_follow.specs.Planned.{ArePlanned, numbers_of, overlaid}
use Rattle.x_compile.specs.declared.item_table.ItemTable.{ItemTable}
use Rattle.x_compile.specs.declared.content.CheckResult.{CheckResult}
use Rattle.x_compile.specs.declared.content.Content.{Content}
use Rattle.x_follow.specs.declared.planned.PlannedResult.{PlannedResult}
use Rattle.x_follow.specs.declared.planning.Plan.{Plan}
use Rattle.x_follow.specs.declared.naming.NameChange.{NameChange}

-- the table of names, where there is one, is that of the items
abbrev pub AreUsed : List (ItemEntry Content) → Option UseTable → Type 0
AreUsed es uses = IfSome uses (IsUsesOf (entry_definitions es))

-- What checking each item gives is kept with it, what is generated of it, how many faults all have, and the
-- table of names where there is one.
pub record IsCheckedTable (known : KnownNames) (t : ItemTable) : Type 0 where
  pub short : AreShort (entry_definitions t.entries.list)
  pub results : AreResults known (entry_definitions t.entries.list) (entry_results t.entries.list)
  pub sound : All (λ e. IsSound e.kept) t.entries.list
  pub count : t.faults ≡ own_faults (items.kept t.entries.list)
  pub uses : AreUsed t.entries.list t.uses

-- the change makes `new` of a text that has these tokens and items, with all that is kept of them
pub record IsToFollow (known : KnownNames) (change : Change) (new : List ℕ) (ts : List (Kind × ℕ))
    (t : ItemTable) : Type 0 where
  pub within : LiesWithin change
  pub edited : new ≡ edited_by change
  pub are_tokens : AreTokens change.old ts
  pub parsed : AreParsed (lexemes change.old ts) t.entries.list
  pub checked : IsCheckedTable known t

-- Some change makes `new` of a text that has these tokens and items, and does this to the tokens: those that
-- stay behind the patch stand behind the bytes that the change takes out.
pub record AreFollowed (new : List ℕ) (ts : List (Kind × ℕ)) (es : List (ItemEntry Content))
    (patch : TokenPatch) : Type 0 where
  pub change : Change
  pub relexed : IsRelexed change new ts (counts es) patch
  pub parsed : AreParsed (lexemes change.old ts) es
  pub behind : change.end ≤ end_of ts (patch.at + patch.removed)

-- What becomes of the table of names: the names of the items that go, and of the fresh ones.
pub record IsNameChange (es : List (ItemEntry Content)) (p : ItemChange Content)
    (n : NameChange) : Type 0 where
  pub at : n.place.at ≡ p.at
  pub removed : n.place.removed ≡ p.removed
  pub added : n.place.added ≡ length p.fresh
  pub gone : IsUsesOf (take p.removed (drop p.at (entry_definitions es))) n.gone
  pub fresh : IsUsesOf (entry_definitions p.fresh) n.fresh

-- there is a table, and it has room for the change
pub record HasRoomForNames (uses : Option UseTable) (n : NameChange) : Type 0 where
  pub table : UseTable
  pub is : uses ≡ Some table
  pub room : HasRoomFor table n.fresh

-- the edit of the items, which the patch makes, as an edit of their definitions
abbrev pub edit_of : KnownNames → List (ItemEntry Content) → ItemChange Content → TextEdit
edit_of known es p = record {
  known = known;
  old = entry_definitions es;
  outcomes = entry_results es;
  place = splice_of p;
  put = entry_definitions p.fresh;
}

-- what is kept with the items that the patch leaves, before the stale ones are checked
abbrev pub kept_behind : List (ItemEntry Content) → ItemChange Content → List Content
kept_behind es p = items.kept (items.patched es p)

-- what will be kept of the items that the patch leaves
abbrev pub behind : List (ItemEntry Content) → ItemChange Content → List PlannedResult
    → List (Option (Box CheckResult))
behind es p ps = overlaid 0 (kept_behind es p) ps

-- Each stale item is planned, and no other; with what it has then, each item has what checking it gives.
pub record AreStaleChecked (known : KnownNames) (es : List (ItemEntry Content)) (p : ItemChange Content)
    (ps : List PlannedResult) : Type 0 where
  pub planned : ArePlanned (kept_behind es p) ps
  pub results : AreResults known (kept_definitions (kept_behind es p)) (map found_result (behind es p ps))
  pub rendered : AreRendered (kept_behind es p) (behind es p ps)
  pub stale : AreStale (edit_of known es p) (map found_result (behind es p ps)) (numbers_of ps)

-- The plan has what the change does to the tokens and items, what the fresh items parse to, and what checking
-- the stale items gives then.
pub record IsPlan (known : KnownNames) (change : Change) (ts : List (Kind × ℕ))
    (es : List (ItemEntry Content)) (p : Plan) : Type 0 where
  pub patch : IsPatch change ts p.tokens
  pub recut : IsItemPatch change ts (tokens.patched ts p.tokens) es p.items
  pub parsed : AreParsed (lexemes (edited_by change) (tokens.patched ts p.tokens)) (items.patched es p.items)
  pub short : AreShort (entry_definitions (items.patched es p.items))
  pub checked : AreStaleChecked known es p.items p.found.items
  pub count : p.faults ≡ faults_found (kept_behind es p.items) (behind es p.items p.found.items)

-- the patch can be carried out in room that is there
pub record CanPut (entries : Gapped (ItemEntry Content)) (p : ItemChange Content) : Type 0 where
  pub among : items.LiesAmong entries.list p
  pub room : items.HasRoom entries p
  pub of_text : AreOfText (counts (items.patched entries.list p))

-- the plan fits these tokens and items, and there is room for it
pub record CanCarryOut (ts : TokenList) (t : ItemTable) (p : Plan) : Type 0 where
  pub tokens_among : tokens.LiesAmong ts.list p.tokens
  pub token_room : tokens.HasRoom ts p.tokens
  pub tokens_of_text : tokens.IsOfText (tokens.patched ts.list p.tokens)
  pub items : CanPut t.entries p.items
  pub planned : ArePlanned (kept_behind t.entries.list p.items) p.found.items
  pub ascending : Ascending 0 (numbers_of p.found.items)
  pub names : IsNameChange t.entries.list p.items p.names
  pub name_room : HasRoomForNames t.uses p.names

-- the items that the patch will leave where it is still to be carried out, and else these
abbrev pub whole : List (ItemEntry Content) → Option (ItemChange Content) → List (ItemEntry Content)
whole es None = es
whole es (Some p) = items.patched es p

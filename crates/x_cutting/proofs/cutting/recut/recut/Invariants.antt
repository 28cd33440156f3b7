use Rattle.std.proofs.Common.{◌≡◌, ◌-◌, length}
use Rattle.std.specs.Prelude.{All}
use Rattle.x_text.specs.Edits.{Change}
use Rattle.x_lex.specs.Tiling.{end_of}
use Rattle.x_lex.specs.TokenList.{patched}
use Rattle.x_cutting.specs.ItemList.{counts}
use Rattle.x_cutting.specs.Cutting.{roles}
use Rattle.x_cutting.specs.Recut.{IsRelexed}
use Rattle.x_cutting.proofs.RecutEnds.{Ready}
use Rattle.x_cutting.proofs.RecutRun.{Recutting}
use Rattle.x_cutting.proofs.cutting.recut.recut.Given as goal

abbrev pub invariant-cutting : goal.invariant-cutting
invariant-cutting g l = record {
  known : (change : Change) → IsRelexed change l.new l.tokens.list (counts l.items.list) l.patch
      → Ready change l.text l.tokens.list l.items.list l.patch l.kept l.start;
  recutting : Recutting (counts l.items.list) (roles l.text (patched l.tokens.list l.patch)) l.patch.at
      (length l.patch.fresh) l.patch.removed l.kept l.start (counts l.fresh.items) l.index l.back
      l.back_index;
  place_is : l.place ≡ end_of (patched l.tokens.list l.patch) l.index;
  blank : All (λ item. g.K.Default.is_default item.kept) l.fresh.items;
}

abbrev pub decreases-cutting : goal.decreases-cutting
decreases-cutting g l = length (patched l.tokens.list l.patch) - l.index

use Rattle.std.proofs.Common.{ap}
use Rattle.x_lists.specs.Seqs.{Gapped}
use Rattle.x_cutting.specs.declared.cutting.item_entry.ItemEntry.{ItemEntry}
use Rattle.x_compile.specs.Known.{known_names}
use Rattle.x_compile.specs.declared.content.Content.{Content}
use Rattle.x_follow.proofs.TableLemmas.{table_same}
use Rattle.x_follow.proofs.planning.plan_checks.Goals as goal

pub check_stale_items-requires-clause-checked : goal.check_stale_items-requires-clause-checked
check_stale_items-requires-clause-checked c =
    table_same (known_names c.args.known.now) c.args.items.now c.change_names.new.items c.requires.checked
    (ap (λ (g : Gapped (ItemEntry Content)). g.list) c.in_ok-names.ensures.entries)
    c.in_ok-names.ensures.faults c.in_ok-names.ensures.uses

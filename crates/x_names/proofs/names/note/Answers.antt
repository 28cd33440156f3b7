use Rattle.std.proofs.Common.{refl, ap, ◌∙◌}
use Rattle.std.specs.Cow.{cow_slice_items}
use Rattle.std.specs.Map.{lookup}
use Rattle.std.specs.Str.{bytes_eq}
use Rattle.x_names.proofs.NameLemmas.{lookup_put}
use Rattle.x_names.proofs.names.note.Goals as goal

pub returns : goal.returns
returns c other =
    ap (lookup (λ key. bytes_eq other (cow_slice_items key))) c.in_ok-insert.ensures.entries
    ∙ lookup_put _ cow_slice_items (λ a b. refl) other c.args.table.now.entries c.args.name c.args.declarer

use Rattle.std.proofs.Common.{ap, sym, ◌∙◌}
use Rattle.std.specs.Map.{lookup}
use Rattle.std.specs.Str.{bytes_eq}
use Rattle.x_schema.proofs.KeyedTables.{lookup_mapped}
use Rattle.x_schema.proofs.constants.Constants.number_named.Goals as goal

pub returns : goal.returns
returns c =
    c.copied.ensures ∙ c.get.ensures.value
    ∙ sym (lookup_mapped (λ k. k.now) (bytes_eq c.args.name.now) c.self.inside.table.entries)
    ∙ ap (lookup (bytes_eq c.args.name.now)) c.self.view_is

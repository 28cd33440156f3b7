use Rattle.std.proofs.Common.{sym, ◌∙◌}
use Rattle.std.specs.Str.{bytes_eq}
use Rattle.x_schema.proofs.KeyedTables.{lookup_mapped}
use Rattle.x_schema.proofs.maker.named.Goals as goal

pub returns : goal.returns
returns c = c.copied.ensures ∙ c.get.ensures.value
    ∙ sym (lookup_mapped (λ k. k.items) (bytes_eq c.args.name.now) c.args.types.now.entries)

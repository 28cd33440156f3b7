use Rattle.std.proofs.Common.{sym, subst, ◌∙◌}
use Rattle.std.specs.Prelude.{IfSome}
use Rattle.x_schema.specs.Schema.{Schema, IsTypeId, type_id}
use Rattle.x_schema.proofs.SchemaLemmas.{known_named, lookup_read}
use Rattle.x_schema.proofs.schema.Schema.named.Goals as goal

pub returns-clause-known : goal.returns-clause-known
returns-clause-known c =
    subst (λ (s : Schema). IfSome c.copied.result (λ t. IsTypeId s (type_id t))) c.self.view_is
    (known_named _ c.args.name.now c.copied.result c.self.invariant
    (c.copied.ensures ∙ c.get.ensures.value ∙ sym (lookup_read c.args.name.now c.self.inside.types.entries)))

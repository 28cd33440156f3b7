use Rattle.std.proofs.Common.{length, subst, ◌∙◌}
use Rattle.std.specs.Prelude.{IfSome}
use Rattle.x_schema.specs.Schema.{Schema, IsKeptWithin}
use Rattle.x_schema.proofs.SchemaLemmas.{known_kept}
use Rattle.x_schema.proofs.schema.Schema.kept.Goals as goal

pub returns-clause-within : goal.returns-clause-within
returns-clause-within c =
    subst (λ (s : Schema). IfSome c.copied.result (λ of. IsKeptWithin (length s.names) (length s.forms) of))
    c.self.view_is
    (known_kept _ c.args.numbers c.copied.result c.self.invariant (c.copied.ensures ∙ c.get.ensures.value))

use Rattle.std.proofs.Common.{Some, length, subst, sym}
use Rattle.x_schema.specs.Schema.{Schema, IsKeptWithin}
use Rattle.x_schema.proofs.SchemaLemmas.{known_kept}
use Rattle.x_schema.proofs.schema.Schema.kept_at.Goals as goal

pub returns-in-Some-clause-within : goal.returns-in-Some-clause-within
returns-in-Some-clause-within c =
    subst (λ (s : Schema). IsKeptWithin (length s.names) (length s.forms) c.in-Some.kept.now) c.self.view_is
    (known_kept _ c.in-Some.field-0-0.now (Some c.in-Some.kept.now) c.self.invariant
    (sym c.in-Some.ensures.value))

use Rattle.std.proofs.Common.{◌≡◌, ◌++◌, Some, OnOk, sym, subst}
use Rattle.x_trees.specs.declared.names.mention.Use.{Use}
use Rattle.x_prelude.specs.Prelude.{foreign_text}
use Rattle.x_prelude.proofs.definition.add_keyed.Goals as goal

pub returns-in-Enum : goal.returns-in-Enum
returns-in-Enum c =
    subst (λ t. OnOk c.add_enum.result ((usage : Use) → c.add_enum.new.text.items ≡ c.args.text.now.items
    ++ foreign_text c.args.number c.args.name.now usage (Some t))) (sym c.in-Enum.is) c.add_enum.ensures

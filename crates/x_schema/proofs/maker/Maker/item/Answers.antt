use Rattle.std.proofs.Common.{ap, subst}
use Rattle.std.proofs.lemmas.Result.{on_ok_weaker}
use Rattle.x_trees.specs.View.{tree_at}
use Rattle.x_schema.specs.Schema.{named_types}
use Rattle.x_schema.specs.SchemaOf.{Known}
use Rattle.x_schema.specs.SchemaMaking.{TakesFound}
use Rattle.x_schema.proofs.MakerItems.{item_found}
use Rattle.x_schema.proofs.maker.Maker.item.Goals as goal

pub returns : goal.returns
returns c =
    let types = named_types c.take_found.new.types.entries in
    let after : Known = record { numbers = c.known.inside.constants; types = types } in
    on_ok_weaker c.take_found.result
    (λ x. item_found c.args.self.now c.find.new.self c.take_found.new.self c.args.known.now after
    (tree_at c.args.definition) c.in_ok-find.ensures
    (subst (λ (k : Known). TakesFound c.find.new.self c.take_found.new.self k.types types) c.known.view_is x)
    (ap (λ (k : Known). k.numbers) c.known.view_is))
    c.take_found.ensures

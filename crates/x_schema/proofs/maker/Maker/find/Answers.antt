use Rattle.std.proofs.Common.{sym, subst}
use Rattle.std.proofs.lemmas.Result.{on_ok_weaker}
use Rattle.x_trees.specs.View.{tree_at}
use Rattle.x_schema.specs.SchemaOf.{typedefs}
use Rattle.x_schema.specs.SchemaMaking.{PutsAll}
use Rattle.x_schema.proofs.MakerItems.{nothing_put}
use Rattle.x_schema.proofs.maker.Maker.find.Goals as goal

pub returns-in-Some : goal.returns-in-Some
returns-in-Some c =
    on_ok_weaker c.definition.result
    (λ x. subst (λ d. PutsAll c.args.known.now c.args.self.now c.definition.new.self (typedefs (tree_at d))
    (λ n i s. Unit {0})) (sym c.in-Some.is) x)
    c.definition.ensures

pub returns-in-None : goal.returns-in-None
returns-in-None c =
    subst (λ d. PutsAll c.args.known.now c.args.self.now c.args.self.now (typedefs (tree_at d))
    (λ n i s. Unit {0})) (sym c.in-None.is)
    (nothing_put c.args.known.now c.args.self.now)

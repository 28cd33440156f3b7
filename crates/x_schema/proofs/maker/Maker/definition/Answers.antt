use Rattle.std.proofs.Common.{◌++◌, ◌∷◌, [], Some, sym, subst}
use Rattle.std.proofs.lemmas.Result.{on_ok_weaker}
use Rattle.x_trees.specs.Tree as tree
use Rattle.x_trees.specs.View.{view_body, view_declaration, view_definition}
use Rattle.x_schema.specs.SchemaOf.{IsBody, as_typedef, typedefs, typedefs_inside}
use Rattle.x_schema.specs.SchemaMaking.{PutsAll, PutsPlace}
use Rattle.x_schema.proofs.MakerItems.{type_put, nothing_put}
use Rattle.x_schema.proofs.maker.Maker.definition.Goals as goal

pub returns-in-Typedef : goal.returns-in-Typedef
returns-in-Typedef c =
    let known = c.args.known.now in
    on_ok_weaker c.typedef.result
    (λ x. let put : PutsAll known c.args.self.now c.typedef.new.self
    (typedefs (Some (tree.Typedef (view_declaration c.in-Typedef.declaration.value)))) (λ n i s. Unit {0}) =
    rw c.deref.ensures at x in
    subst (λ d. PutsAll known c.args.self.now c.typedef.new.self (typedefs (Some (view_definition d)))
    (λ n i s. Unit {0})) (sym c.in-Typedef.is) put)
    c.typedef.ensures

pub returns-in_ok-named_body-in-NewType : goal.returns-in_ok-named_body-in-NewType
returns-in_ok-named_body-in-NewType c =
    let known = c.args.known.now in
    let name = c.in-NewType.name.items in
    let body = view_body c.in-NewType.body in
    let place = c.in_ok-named_body-in-NewType.field-0 in
    let put : PutsPlace known c.args.self.now c.named_body.new.self
    (typedefs_inside name body ++ as_typedef name body ∷ []) place (λ s at. IsBody s known body at) =
    rw c.deref-in-NewType.ensures at c.in_ok-named_body-in-NewType.ensures in
    subst (λ d. PutsAll known c.args.self.now c.named_body.new.self (typedefs (Some (view_definition d)))
    (λ n i s. Unit {0})) (sym c.in-NewType.is)
    (type_put known c.args.self.now c.named_body.new.self name body place put)

pub returns-in-Const : goal.returns-in-Const
returns-in-Const c =
    let known = c.args.known.now in
    subst (λ d. PutsAll known c.args.self.now c.args.self.now (typedefs (Some (view_definition d)))
    (λ n i s. Unit {0})) (sym c.in-Const.is) (nothing_put known c.args.self.now)

pub returns-in-Program : goal.returns-in-Program
returns-in-Program c =
    let known = c.args.known.now in
    subst (λ d. PutsAll known c.args.self.now c.args.self.now (typedefs (Some (view_definition d)))
    (λ n i s. Unit {0})) (sym c.in-Program.is) (nothing_put known c.args.self.now)

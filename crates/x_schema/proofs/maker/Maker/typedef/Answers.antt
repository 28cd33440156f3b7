use Rattle.std.proofs.Common.{sym, ◌∙◌}
use Rattle.std.proofs.lemmas.Result.{on_ok_weaker}
use Rattle.x_trees.specs.View.{view_declaration}
use Rattle.x_schema.proofs.MakerItems.{typedef_void, typedef_put}
use Rattle.x_schema.proofs.maker.Maker.typedef.Goals as goal

pub returns-then-is_void : goal.returns-then-is_void
returns-then-is_void c =
    typedef_void c.args.known.now c.args.self.now (view_declaration c.args.declaration.now)
    (sym c.is_void.ensures ∙ c.if-is_void.true)

pub returns : goal.returns
returns c =
    on_ok_weaker c.add_named_type.result
    (λ x. typedef_put c.args.known.now c.args.self.now c.declaration.new.self c.add_named_type.new.self
    (view_declaration c.args.declaration.now) c.name-name.result.now c.in_ok-place.place
    (sym c.is_void.ensures ∙ c.if-is_void.false) c.name-name.ensures c.in_ok-place.ensures x)
    c.add_named_type.ensures

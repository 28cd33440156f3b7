use Rattle.x_outline.specs.declared.bodies.BodyWalk.{BodyWalk}
use Rattle.x_outline.proofs.BodyWalkLemmas.{finds_own}
use Rattle.x_outline.proofs.bodies.BodyWalk.own.Goals as goal

pub returns : goal.returns
returns c =
    let to : BodyWalk = record { list = c.insert.new.self; word = c.inside.new.self.word } in
    finds_own c.args.self.now c.inside.new.self to c.args.body c.in_ok-contents.contents
    c.in_ok-contents.ensures c.in_ok-insert.ensures.items

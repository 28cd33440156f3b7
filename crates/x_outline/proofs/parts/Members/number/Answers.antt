use Rattle.std.proofs.Common.{map, refl, ap, ◌∙◌}
use Rattle.x_outline.specs.Parts.{view_number_at}
use Rattle.x_outline.specs.declared.parts.Members.{Members}
use Rattle.x_lists.proofs.ListLemmas.{map_append}
use Rattle.x_outline.proofs.MemberWalkLemmas.{adds_number}
use Rattle.x_outline.proofs.parts.Members.number.Goals as goal

pub returns : goal.returns
returns c =
    let to : Members = record { names = c.args.self.now.names; numbers = c.push.new.self } in
    adds_number c.args.word c.args.self.now to c.args.text.now
    (ap (map view_number_at) c.in_ok-push.ensures.items
    ∙ map_append view_number_at c.args.self.now.numbers.items _) refl

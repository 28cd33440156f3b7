use Rattle.std.proofs.Common.{map, refl, ap, ◌∙◌}
use Rattle.x_outline.specs.Parts.{view_name_at}
use Rattle.x_outline.specs.declared.parts.Members.{Members}
use Rattle.x_lists.proofs.ListLemmas.{map_append}
use Rattle.x_outline.proofs.MemberWalkLemmas.{adds_name}
use Rattle.x_outline.proofs.parts.Members.name.Goals as goal

pub returns : goal.returns
returns c =
    let to : Members = record { names = c.push.new.self; numbers = c.args.self.now.numbers } in
    adds_name c.args.word c.args.self.now to c.args.name.now (ap (map view_name_at) c.in_ok-push.ensures.items
    ∙ map_append view_name_at c.args.self.now.names.items _) refl

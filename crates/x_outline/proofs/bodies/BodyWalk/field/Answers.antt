use Rattle.std.proofs.Common.{map, refl, ap, ◌∙◌}
use Rattle.x_outline.specs.Parts.{view_name_at}
use Rattle.x_outline.specs.BodyWalks.{stand}
use Rattle.x_outline.specs.declared.bodies.Contents.{Contents}
use Rattle.x_lists.proofs.ListLemmas.{map_append}
use Rattle.x_outline.proofs.BodyWalkLemmas.{goes_name, goes_before}
use Rattle.x_outline.proofs.bodies.BodyWalk.field.Goals as goal

pub returns : goal.returns
returns c =
    let contents : Contents =
    record {
      fields = c.push.new.self;
      cases = c.args.contents.now.cases;
      behind_discriminant = c.args.contents.now.behind_discriminant;
    } in
    goes_before (goes_name (stand c.args.self.now c.args.contents.now) (stand c.args.self.now contents)
    c.args.name.now refl refl
    (ap (map view_name_at) c.in_ok-push.ensures.items
    ∙ map_append view_name_at c.args.contents.now.fields.items _) refl)
    (c.skip.ensures _ _)

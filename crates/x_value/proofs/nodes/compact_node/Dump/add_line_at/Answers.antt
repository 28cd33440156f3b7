use Rattle.std.proofs.Common.{ap, sym, ◌∙◌}
use Rattle.std.specs.Prelude.{option_map}
use Rattle.x_value.specs.NodeList.{shown_node}
use Rattle.x_value.proofs.LineLemmas.{not_none}
use Rattle.x_value.proofs.nodes.compact_node.Dump.add_line_at.Goals as goal

pub returns-in-Some : goal.returns-in-Some
returns-in-Some g c = (
  shown_node c.in-Some.node,
  sym c.get.ensures ∙ ap (option_map shown_node) c.in-Some.is,
  c.add_node.ensures,
)

pub returns-in_default : goal.returns-in_default
returns-in_default g c =
    absurd (not_none c.args.self.now c.args.index c.requires
    (sym c.get.ensures ∙ ap (option_map shown_node) c.in_default.is))

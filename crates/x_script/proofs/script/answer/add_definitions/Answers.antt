use Rattle.std.proofs.Common.{◌≡◌, ◌++◌, ◌+◌, length, codes, refl, sym, ap, subst, ◌∙◌}
use Rattle.std.specs.List.{flat_map}
use Rattle.x_streams.specs.Writing.{Adds}
use Rattle.x_streams.proofs.Pens.{adds_trans}
use Rattle.x_trees.specs.View.{view_definition}
use Rattle.x_trees.specs.View.{tree_at}
use Rattle.x_compile.specs.Compile.{definitions_of}
use Rattle.x_compile.specs.Definitions.{numbered}
use Rattle.x_script.specs.Answers.{definition_line}
use Rattle.x_script.specs.Answers.{counted_line, definitions_answer}
use Rattle.x_compile.proofs.Compiled.{one_compilation}
use Rattle.x_script.proofs.DefinitionLemmas.{HasDefinitions, definitions_none, definitions_on}
use Rattle.x_script.proofs.DefinitionLemmas.{definitions_more, definitions_all}
use Rattle.x_script.proofs.script.answer.add_definitions.Goals as goal
use Rattle.x_script.proofs.script.answer.add_definitions.Goals.{in-Some, in_default}

pub loop-item-init : goal.loop-item-init
loop-item-init g c =
    let one = c.definition_count.ensures in
    definitions_none c.args.session.now.known c.args.session.now.text c.add_counted.new.pen
    (g.S.Sink.state c.add_counted.new.sink) (one.0, one.1, one.2, tt)

pub loop-item-preserved : goal.loop-item-preserved
loop-item-preserved g c =
    let text = c.args.session.now.text in
    let known = c.args.session.now.known in
    let item = c.loop-item.item in
    let start = g.S.Sink.state c.add_counted.new.sink in
    let mid = g.S.Sink.state c.loop-item.sink in
    elim c.match-definition.branch [
      | in-Some w ↦
          let listed = definitions_more known text item (item + 1) (tree_at c.definition.result)
          (view_definition w.in-Some.definition.now) c.add_counted.new.pen c.loop-item.pen
          w.add_definition.new.pen
          start mid (g.S.Sink.state w.add_definition.new.sink) refl (ap tree_at w.in-Some.is)
          c.definition.ensures c.loop-item.invariant w.add_definition.ensures in
          subst (λ p. HasDefinitions known text (item + 1) c.add_counted.new.pen start p
          (g.S.Sink.state c.match-definition.sink)) (sym w.pen-is)
          (subst (λ s. HasDefinitions known text (item + 1) c.add_counted.new.pen start
          w.add_definition.new.pen (g.S.Sink.state s)) (sym w.sink-is) listed)
      | in_default w ↦
          let listed = definitions_on known text item (item + 1) (tree_at c.definition.result)
          c.add_counted.new.pen c.loop-item.pen start mid refl (ap tree_at w.in_default.is)
          c.definition.ensures c.loop-item.invariant in
          subst (λ p. HasDefinitions known text (item + 1) c.add_counted.new.pen start p
          (g.S.Sink.state c.match-definition.sink)) (sym w.pen-is)
          (subst (λ s. HasDefinitions known text (item + 1) c.add_counted.new.pen start c.loop-item.pen
          (g.S.Sink.state s)) (sym w.sink-is) listed)
    ]

pub returns : goal.returns
returns g c =
    let text = c.args.session.now.text in
    let known = c.args.session.now.known in
    let one = c.definition_count.ensures in
    let start = g.S.Sink.state c.args.sink.now in
    let mid = g.S.Sink.state c.add_counted.new.sink in
    let end = g.S.Sink.state c.loop-item.sink in
    let two = definitions_all known text c.loop-item.item c.item_count-item-end.result c.add_counted.new.pen
    c.loop-item.pen mid end c.loop-item-test.false c.item_count-item-end.ensures c.loop-item.invariant in
    let same : one.1 ≡ two.1 = (one_compilation known text one.0 two.0 one.1 two.1 one.2 two.2).1 in
    let count : c.definition_count.result ≡ length (numbered 0 (definitions_of two.1)) = one.3
    ∙ ap (λ is. length (numbered 0 (definitions_of is))) same in
    let told = adds_trans c.args.pen.now c.add_counted.new.pen c.loop-item.pen start mid end
    (counted_line (codes "definitions") c.definition_count.result)
    (flat_map definition_line (numbered 0 (definitions_of two.1))) c.add_counted.ensures two.3 in
    let whole : counted_line (codes "definitions") c.definition_count.result ++ flat_map definition_line
    (numbered 0 (definitions_of two.1)) ≡ definitions_answer (definitions_of two.1) =
    λ i. counted_line (codes "definitions") (count i)
    ++ flat_map definition_line (numbered 0 (definitions_of two.1)) in
    (two.0, two.1, two.2, subst (λ t. Adds c.args.pen.now start c.loop-item.pen end t) whole told)

use Rattle.std.proofs.Common.{map, ◌++◌}
use Rattle.std.specs.Prelude.{None}
use Rattle.x_published.specs.Diagnostics.{diagnostic_data, hint_data}
use Rattle.x_positions.specs.PositionData.{range_data}
use Rattle.x_published.specs.Published.{data_of}
use Rattle.x_published.specs.declared.published.Diagnostic.{Diagnostic}
use Rattle.x_published.specs.declared.published.Message.TheVariants.{OfFault}
use Rattle.x_published.specs.declared.published.Severity.TheVariants.{Hint}
use Rattle.x_documents.proofs.HintLemmas.{one_more}
use Rattle.x_documents.proofs.diagnostics.add_hints.Goals as goal

pub loop-place-preserved : goal.loop-place-preserved
loop-place-preserved c =
    let message = c.in_ok-branch_message.field-0 in
    let made : Diagnostic = record
    { severity = Hint; message = OfFault message; range = c.range.result; related = None } in
    one_more data_of (hint_data c.args.marks.now.encoding c.args.shown.now) c.loop-place.list.items made
    c.push.new.self.items c.deref-place-items.result.now c.loop-place.place-index _
    (map data_of c.args.list.now.items ++ map (hint_data c.args.marks.now.encoding c.args.shown.now)
    c.deref-place-items.result.now) c.loop-place-test.true c.in_ok-push.ensures.items
    (λ i. diagnostic_data Hint (c.in_ok-branch_message.ensures.number i)
    (range_data (c.range.ensures.start i) (c.range.ensures.end i))
    (c.in_ok-branch_message.ensures.text i) None)
    c.loop-place.invariant

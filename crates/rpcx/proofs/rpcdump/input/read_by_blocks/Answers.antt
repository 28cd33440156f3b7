use Rattle.std.proofs.Common.{◌∙◌, ◌≤◌, refl, sym, subst}
use Rattle.std.specs.Prelude.{IfErr}
use Rattle.std.specs.Io.KnownBytes.{Consumes}
use Rattle.x_text.specs.declared.text.source.TheConstants.{MAX_TEXT}
use Rattle.rpcx.specs.Dumping.{StopsAt}
use Rattle.x_opening.proofs.Passing.{passed_on}
use Rattle.rpcx.proofs.Dumping.{consumes_none, reads_all, reads_more, stops_behind}
use Rattle.rpcx.proofs.rpcdump.input.read_by_blocks.Goals as goal

pub loop-bytes-init : goal.loop-bytes-init
loop-bytes-init g c =
    let bytes = (g.I.Tap.state c.args.input.now).bytes in
    record {
      read = subst (λ t. Consumes bytes bytes t) (sym c.new-bytes.ensures.items) (consumes_none bytes);
      working = refl;
    }

pub returns-in_err-read_more-clause-stops : goal.returns-in_err-read_more-clause-stops
returns-in_err-read_more-clause-stops g c =
    let start = g.I.Tap.state c.args.input.now in
    let now = g.I.Tap.state c.read_more.new.input in
    passed_on (λ r. IfErr r (StopsAt start now)) c.from_residual.result c.in_err-read_more.field-0.0
    c.from_residual.ensures.1
    (stops_behind start (g.I.Tap.state c.loop-bytes.input) now c.loop-bytes.bytes.items
    c.in_err-read_more.field-0.0 c.loop-bytes.invariant.read c.in_err-read_more.ensures)

pub returns-then-not-branch-clause-read : goal.returns-then-not-branch-clause-read
returns-then-not-branch-clause-read g c =
    reads_all (g.I.Tap.state c.args.input.now) (g.I.Tap.state c.loop-bytes.input)
    (g.I.Tap.state c.read_more.new.input) c.loop-bytes.bytes.items c.read_more.new.bytes.items
    c.in_ok-read_more.field-0 c.in_ok-read_more.ensures c.if-not-branch.true c.loop-bytes.invariant.read
    c.loop-bytes.invariant.working
    (subst (λ n. n ≤ MAX_TEXT) (c.len.ensures ∙ c.loop-bytes.bytes.ok.0) c.loop-bytes-test.true)

pub loop-bytes-preserved : goal.loop-bytes-preserved
loop-bytes-preserved g c =
    let h = reads_more (g.I.Tap.state c.args.input.now) (g.I.Tap.state c.loop-bytes.input)
    (g.I.Tap.state c.read_more.new.input) c.loop-bytes.bytes.items c.read_more.new.bytes.items
    c.in_ok-read_more.field-0 c.in_ok-read_more.ensures c.if-not-branch.false c.loop-bytes.invariant.read
    c.loop-bytes.invariant.working in
    record { read = h.0; working = h.1 }

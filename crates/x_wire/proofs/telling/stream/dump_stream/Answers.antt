use Rattle.std.proofs.Common.{◌≡◌, arith, ap, refl, sym, ◌∙◌, vec_len}
use Rattle.x_text.proofs.Cases.{match_some}
use Rattle.x_wire.proofs.Turning.{run_start, run_on, turned, tap_still, none_dumped, unread_dumped}
use Rattle.x_wire.proofs.Turning.{stopped_dumped, unwritten_dumped, sink_failed, all_dumped, want_dumped}
use Rattle.x_wire.proofs.telling.stream.dump_stream.Goals as goal

pub returns-in_default-clause-dumps : goal.returns-in_default-clause-dumps
returns-in_default-clause-dumps g c =
    match_some (g.R.Tap.state c.args.tap.now).bytes _
    (λ stream from. none_dumped c.args.schema.now stream (g.R.Tap.state c.args.tap.now).bytes
    (g.S.Sink.state c.args.sink.now) from)

pub loop-init : goal.loop-init
loop-init g c = record {
  is_open = c.new-dumper.ensures.is_open;
  room = (let h : vec_len c.in-Ok.block ≡ 65536 = c.in-Ok.ensures.len in omega (arith, h));
  few = (let h : vec_len c.in-Ok.block ≡ 65536 = c.in-Ok.ensures.len in omega (arith, h));
  tap_is = refl;
  runs = run_start c.args.schema.now (g.S.Sink.state c.args.sink.now) (g.R.Tap.state c.args.tap.now).bytes
      c.new-dumper.result c.new-pen.result
      (c.new-dumper.ensures.at c.args.schema.now) c.new-pen.ensures;
}

pub returns-in_default-tell_block-clause-dumps : goal.returns-in_default-tell_block-clause-dumps
returns-in_default-tell_block-clause-dumps g c =
    match_some (g.R.Tap.state c.args.tap.now).bytes _ (λ stream from.
    unread_dumped c.args.schema.now (g.S.Sink.state c.args.sink.now) (g.R.Tap.state c.args.tap.now).bytes
    (g.R.Tap.state c.loop.tap).bytes
    (g.R.Tap.state c.tell_block.new.tap).bytes c.loop.dumper c.loop.pen c.tell_block.new.pen
    (g.S.Sink.state c.loop.sink)
    (g.S.Sink.state c.tell_block.new.sink) c.written.result stream c.loop.invariant.runs
    c.in_default-tell_block.ensures.kept
    c.in_default-tell_block.ensures.same.0 (ap g.S.Sink.state c.in_default-tell_block.ensures.same.1)
    c.written.ensures from)

pub returns-in_default-tell_block-clause-cause : goal.returns-in_default-tell_block-clause-cause
returns-in_default-tell_block-clause-cause g c = (
  c.in_default-tell_block.ensures.fails.failed,
  λ works. ap (λ s. (g.S.Sink.state s).failed) c.in_default-tell_block.ensures.same.1
      ∙ c.loop.invariant.runs.works works,
)

pub returns-then-has_stopped-clause-dumps : goal.returns-then-has_stopped-clause-dumps
returns-then-has_stopped-clause-dumps g c =
    let start = g.S.Sink.state c.args.sink.now in
    let before = (g.R.Tap.state c.args.tap.now).bytes in
    let later = (g.R.Tap.state c.tell_block.new.tap).bytes in
    let now = g.S.Sink.state c.flush.new.sink in
    let turn = c.in-Ok-tell_block.turn in
    let d = c.tell_block.new.dumper in
    let pen = c.flush.new.self in
    let k = turned c.args.schema.now start before (g.R.Tap.state c.loop.tap).bytes later
    c.in-Ok-tell_block.turn c.loop.dumper c.tell_block.new.dumper
    c.loop.pen c.tell_block.new.pen c.flush.new.self (g.S.Sink.state c.loop.sink)
    (g.S.Sink.state c.tell_block.new.sink) (g.S.Sink.state c.flush.new.sink)
    c.loop.invariant.runs c.in-Ok-tell_block.ensures.told c.flush.ensures.adds in
    let stops = sym c.has_stopped.ensures ∙ c.if-has_stopped.true in
    match_some (g.R.Tap.state c.args.tap.now).bytes _ (λ stream from.
    unwritten_dumped c.args.schema.now start before later turn d pen now c.written-written.result stream k
    stops c.written-written.ensures from)

pub returns-then-has_stopped-clause-cause : goal.returns-then-has_stopped-clause-cause
returns-then-has_stopped-clause-cause g c =
    let start = g.S.Sink.state c.args.sink.now in
    let before = (g.R.Tap.state c.args.tap.now).bytes in
    let later = (g.R.Tap.state c.tell_block.new.tap).bytes in
    let now = g.S.Sink.state c.flush.new.sink in
    let turn = c.in-Ok-tell_block.turn in
    let d = c.tell_block.new.dumper in
    let pen = c.flush.new.self in
    let k = turned c.args.schema.now start before (g.R.Tap.state c.loop.tap).bytes later
    c.in-Ok-tell_block.turn c.loop.dumper c.tell_block.new.dumper
    c.loop.pen c.tell_block.new.pen c.flush.new.self (g.S.Sink.state c.loop.sink)
    (g.S.Sink.state c.tell_block.new.sink) (g.S.Sink.state c.flush.new.sink)
    c.loop.invariant.runs c.in-Ok-tell_block.ensures.told c.flush.ensures.adds in
    let stops = sym c.has_stopped.ensures ∙ c.if-has_stopped.true in (
      tap_still (g.R.Tap.state c.loop.tap) (g.R.Tap.state c.tell_block.new.tap) c.in-Ok-tell_block.turn
          c.in-Ok-tell_block.ensures.fails ∙ c.loop.invariant.tap_is,
      sink_failed c.args.schema.now start before later turn d pen now k stops,
    )

pub returns-in-Ended-clause-dumps : goal.returns-in-Ended-clause-dumps
returns-in-Ended-clause-dumps g c =
    let start = g.S.Sink.state c.args.sink.now in
    let before = (g.R.Tap.state c.args.tap.now).bytes in
    let later = (g.R.Tap.state c.tell_block.new.tap).bytes in
    let now = g.S.Sink.state c.flush.new.sink in
    let turn = c.in-Ok-tell_block.turn in
    let d = c.tell_block.new.dumper in
    let pen = c.flush.new.self in
    let k = turned c.args.schema.now start before (g.R.Tap.state c.loop.tap).bytes later
    c.in-Ok-tell_block.turn c.loop.dumper c.tell_block.new.dumper
    c.loop.pen c.tell_block.new.pen c.flush.new.self (g.S.Sink.state c.loop.sink)
    (g.S.Sink.state c.tell_block.new.sink) (g.S.Sink.state c.flush.new.sink)
    c.loop.invariant.runs c.in-Ok-tell_block.ensures.told c.flush.ensures.adds in
    let goes = sym c.has_stopped.ensures ∙ c.if-has_stopped.false in
    match_some (g.R.Tap.state c.args.tap.now).bytes _ (λ stream from.
    all_dumped c.args.schema.now start before later turn c.in-Ended.outcome d pen now stream k c.in-Ended.is
    goes (c.flush.ensures.empty goes) from)

pub returns-in-Ended-clause-cause : goal.returns-in-Ended-clause-cause
returns-in-Ended-clause-cause g c = (
  tap_still (g.R.Tap.state c.loop.tap) (g.R.Tap.state c.tell_block.new.tap) c.in-Ok-tell_block.turn
      c.in-Ok-tell_block.ensures.fails ∙ c.loop.invariant.tap_is,
  λ works. c.flush.ensures.working (sym c.has_stopped.ensures ∙ c.if-has_stopped.false),
)

pub returns-in-NoMemory-clause-dumps : goal.returns-in-NoMemory-clause-dumps
returns-in-NoMemory-clause-dumps g c =
    let start = g.S.Sink.state c.args.sink.now in
    let before = (g.R.Tap.state c.args.tap.now).bytes in
    let later = (g.R.Tap.state c.tell_block.new.tap).bytes in
    let now = g.S.Sink.state c.flush.new.sink in
    let turn = c.in-Ok-tell_block.turn in
    let d = c.tell_block.new.dumper in
    let pen = c.flush.new.self in
    let k = turned c.args.schema.now start before (g.R.Tap.state c.loop.tap).bytes later
    c.in-Ok-tell_block.turn c.loop.dumper c.tell_block.new.dumper
    c.loop.pen c.tell_block.new.pen c.flush.new.self (g.S.Sink.state c.loop.sink)
    (g.S.Sink.state c.tell_block.new.sink) (g.S.Sink.state c.flush.new.sink)
    c.loop.invariant.runs c.in-Ok-tell_block.ensures.told c.flush.ensures.adds in
    let goes = sym c.has_stopped.ensures ∙ c.if-has_stopped.false in
    match_some (g.R.Tap.state c.args.tap.now).bytes _ (λ stream from.
    want_dumped c.args.schema.now start before later turn d pen now c.written-written.result stream k
    c.in-NoMemory.is goes (c.flush.ensures.empty goes) c.written-written.ensures from)

pub returns-in-NoMemory-clause-cause : goal.returns-in-NoMemory-clause-cause
returns-in-NoMemory-clause-cause g c = (
  tap_still (g.R.Tap.state c.loop.tap) (g.R.Tap.state c.tell_block.new.tap) c.in-Ok-tell_block.turn
      c.in-Ok-tell_block.ensures.fails ∙ c.loop.invariant.tap_is,
  λ works. c.flush.ensures.working (sym c.has_stopped.ensures ∙ c.if-has_stopped.false),
)

pub loop-preserved : goal.loop-preserved
loop-preserved g c =
    let start = g.S.Sink.state c.args.sink.now in
    let before = (g.R.Tap.state c.args.tap.now).bytes in
    let later = (g.R.Tap.state c.tell_block.new.tap).bytes in
    let now = g.S.Sink.state c.flush.new.sink in
    let turn = c.in-Ok-tell_block.turn in
    let d = c.tell_block.new.dumper in
    let pen = c.flush.new.self in
    let k = turned c.args.schema.now start before (g.R.Tap.state c.loop.tap).bytes later
    c.in-Ok-tell_block.turn c.loop.dumper c.tell_block.new.dumper
    c.loop.pen c.tell_block.new.pen c.flush.new.self (g.S.Sink.state c.loop.sink)
    (g.S.Sink.state c.tell_block.new.sink) (g.S.Sink.state c.flush.new.sink)
    c.loop.invariant.runs c.in-Ok-tell_block.ensures.told c.flush.ensures.adds in
    let goes = sym c.has_stopped.ensures ∙ c.if-has_stopped.false in
    record {
      is_open = c.in-Ok-tell_block.ensures.is_open;
      room = c.loop.invariant.room;
      few = c.loop.invariant.few;
      tap_is = tap_still (g.R.Tap.state c.loop.tap) (g.R.Tap.state c.tell_block.new.tap)
          c.in-Ok-tell_block.turn c.in-Ok-tell_block.ensures.fails ∙ c.loop.invariant.tap_is;
      runs = run_on c.args.schema.now start before later turn d pen now k c.in-GoesOn.is goes
          (c.flush.ensures.empty goes) (c.flush.ensures.working goes);
    }

pub returns-clause-dumps : goal.returns-clause-dumps
returns-clause-dumps g c =
    match_some (g.R.Tap.state c.args.tap.now).bytes _ (λ stream from.
    stopped_dumped c.args.schema.now (g.S.Sink.state c.args.sink.now) (g.R.Tap.state c.args.tap.now).bytes
    (g.R.Tap.state c.loop.tap).bytes
    c.loop.dumper c.loop.pen (g.S.Sink.state c.loop.sink) c.written-2.result stream c.loop.invariant.runs
    c.written-2.ensures from)

pub returns-clause-cause : goal.returns-clause-cause
returns-clause-cause g c = (c.loop.invariant.tap_is, c.loop.invariant.runs.works)

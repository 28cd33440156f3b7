use Rattle.std.proofs.Common.{◌<◌, ◌≤◌, take, length, subst, sym}
use Rattle.x_wire.specs.Limits.{most_block}
use Rattle.x_wire.proofs.Turning.{some_taken, few_taken, turn_on, turn_want, turn_end, whole_of}
use Rattle.x_wire.proofs.telling.stream.tell_block.Goals as goal

pub returns-in_default-clause-told : goal.returns-in_default-clause-told
returns-in_default-clause-told g c read t h =
    turn_want c.args.schema.now read (take c.in_ok-count.count c.take.new.buffer) t
    (g.R.Tap.state c.args.tap.now).bytes (g.R.Tap.state c.take.new.self).bytes c.take-2.new.self
    c.args.pen.now c.take-2.new.pen (g.S.Sink.state c.args.sink.now) (g.S.Sink.state c.take-2.new.sink)
    c.in_ok-count.ensures.taken.taken.0
    (few_taken c.in_ok-count.count c.take.new.buffer
    (subst (λ n. n ≤ most_block) (sym c.take.auto.buffer) c.requires.few))
    (c.in_default.ensures.front read t h)

pub returns-then-count-gt0-clause-told : goal.returns-then-count-gt0-clause-told
returns-then-count-gt0-clause-told g c read t h =
    turn_on c.args.schema.now read (take c.in_ok-count.count c.take.new.buffer) t
    (g.R.Tap.state c.args.tap.now).bytes (g.R.Tap.state c.take.new.self).bytes c.take-2.new.self
    c.args.pen.now c.take-2.new.pen (g.S.Sink.state c.args.sink.now) (g.S.Sink.state c.take-2.new.sink)
    c.in_ok-count.ensures.taken.taken.0 (few_taken c.in_ok-count.count c.take.new.buffer
    (subst (λ n. n ≤ most_block) (sym c.take.auto.buffer) c.requires.few)) (c.in-Ok.ensures.told read t h)
    (let room : 0 < length c.take.new.buffer = subst (λ n. 0 < n) (sym c.take.auto.buffer) c.requires.some in
    c.in-Ok.ensures.under c.if-goes_on.true
    (some_taken c.in_ok-count.count c.take.new.buffer c.if-count-gt0.true room))

pub returns-clause-told : goal.returns-clause-told
returns-clause-told g c read t h =
    let piece = take c.in_ok-count.count c.take.new.buffer in
    let later = (g.R.Tap.state c.take.new.self).bytes in
    let told = c.in-Ok.ensures.told read t h in
    let room : 0 < length c.take.new.buffer = subst (λ n. 0 < n) (sym c.take.auto.buffer) c.requires.some in
    turn_end c.args.schema.now read piece t (g.R.Tap.state c.args.tap.now).bytes later c.take-2.new.self
    c.tell_end.result
    c.args.pen.now c.take-2.new.pen c.tell_end.new.pen (g.S.Sink.state c.args.sink.now)
    (g.S.Sink.state c.take-2.new.sink) (g.S.Sink.state c.tell_end.new.sink)
    c.in_ok-count.ensures.taken.taken.0 (few_taken c.in_ok-count.count c.take.new.buffer
    (subst (λ n. n ≤ most_block) (sym c.take.auto.buffer) c.requires.few)) told
    (whole_of _ later c.take-2.new.self c.in-Ok.goes_on c.in_ok-count.count told.is_at.left_is
    c.else-goes_on.either c.in-Ok.ensures.over
    (λ none. c.in_ok-count.ensures.taken.taken.1 none room))
    c.tell_end.ensures.added c.tell_end.ensures.refused

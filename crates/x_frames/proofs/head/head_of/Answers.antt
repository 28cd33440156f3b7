use Rattle.std.proofs.Common.{◌∙◌, ap, sym, drop, take, length, arith}
use Rattle.std.proofs.lemmas.List.{length-map, length-take}
use Rattle.httparse.specs.Spans.{header_bytes, name_and_value}
use Rattle.x_frames.specs.Framing.{announced}
use Rattle.x_frames.proofs.FrameLemmas.{refused_head}
use Rattle.x_frames.proofs.head.head_of.Goals as goal

pub returns-then-end-gt-MOST_HEAD : goal.returns-then-end-gt-MOST_HEAD
returns-then-end-gt-MOST_HEAD c =
    let s = c.requires.section in
    let len = s.2.len_is in
    let over = c.if-end-gt-MOST_HEAD.true in
    refused_head c.args.bytes.now (drop c.args.end c.args.bytes.now) s.0 s.1 s.2.reads
    (λ n e short. omega (arith, len, over, short))

pub returns-in_default : goal.returns-in_default
returns-in_default c =
    let s = c.requires.section in
    let none = c.in_default.ensures ∙ ap announced s.2.fields_are in
    refused_head c.args.bytes.now (drop c.args.end c.args.bytes.now) s.0 s.1 s.2.reads
    (λ n e short. let wrong = none ∙ e in cc)

pub returns : goal.returns
returns c =
    let s = c.requires.section in
    let one = ap length s.2.fields_are in
    let two = length-map (take c.args.count c.args.spans.now) (header_bytes c.args.bytes.now) in
    let three = length-map s.0 name_and_value in
    let four = length-take c.args.count c.args.spans.now in
    let room = c.requires.room in
    record {
      fields = s.0;
      last = s.1;
      reads = s.2.reads;
      length_is = (let len = s.2.len_is in omega (arith, len));
      body_is = sym (c.in-Some.ensures ∙ ap announced s.2.fields_are);
      within = c.requires.within.len_fits;
      few = omega (arith, one, two, three, four, room);
      short_head = c.if-end-gt-MOST_HEAD.false;
    }

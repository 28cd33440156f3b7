use Rattle.std.proofs.Common.{◌+◌, ◌≤◌, length, sym, ◌∙◌, arith}
use Rattle.x_lex.proofs.EndLemmas.{end_mono}
use Rattle.x_cutting.proofs.PatchedLemmas.{end_get, none_past}
use Rattle.x_cutting.proofs.cutting.recut.place_before.Goals as goal
use Rattle.x_cutting.proofs.cutting.recut.place_before.Goals.{in-Some, in_default}

pub overflow_add-length : goal.overflow_add-length
overflow_add-length c =
    let e = end_get c.args.tokens.now.list c.loop-kept.kept c.in-Some.field-0-0 c.in-Some.bytes
    (sym c.kind_and_length.ensures ∙ c.in-Some.is) in
    let at = c.at-kept-end.ensures in
    let m = end_mono c.args.tokens.now.list (c.loop-kept.kept + 1) c.args.patch.now.at (omega (arith, at)) in
    let s = c.start-start.ensures in
    let r = c.requires.start in
    omega (arith, e, m, s, r)

pub loop-kept-preserved : goal.loop-kept-preserved
loop-kept-preserved c =
    elim c.match-kind_and_length.branch [
      | in-Some w ↦
          let e = end_get c.args.tokens.now.list c.loop-kept.kept w.in-Some.field-0-0 w.in-Some.bytes
          (sym c.kind_and_length.ensures ∙ w.in-Some.is) in
          let l = w.length-is in
          omega (arith, e, l)
      | in_default w ↦
          let p = none_past c.args.tokens.now.list c.loop-kept.kept
          (sym c.kind_and_length.ensures ∙ w.in_default.is) in
          let a : c.args.patch.now.at + c.args.patch.now.removed ≤ length c.args.tokens.now.list =
          c.requires.among in
          let at = c.at-kept-end.ensures in
          absurd (omega (arith, p, a, at))
    ]

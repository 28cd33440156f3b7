use Rattle.std.proofs.Common.{◌∙◌, ◌+◌, ◌≤◌, ap, refl, subst, sym, drop, slice_range}
use Rattle.std.proofs.lemmas.Result.{err_from_is_err_and}
use Rattle.x_frames.specs.Framing.{IsFramed, most_body}
use Rattle.x_frames.specs.FrameSteps.{HasCome, IsHeadOf, Passes}
use Rattle.std.proofs.Common.{Ok, Err}
use Rattle.x_frames.proofs.FrameLemmas.{come_more, whole_message, body_fault, head_fault, long_found}
use Rattle.x_frames.proofs.FrameLemmas.{pass_fault}
use Rattle.x_frames.proofs.framing.MessageReader.next.Goals as goal

pub returns-in_err-read_body-clause-frame : goal.returns-in_err-read_body-clause-frame
returns-in_err-read_body-clause-frame g c =
    let p = err_from_is_err_and c.from_residual-in_err-read_body.result
    c.from_residual-in_err-read_body.ensures.1 in
    let unread = c.args.self.now.unread in
    let mid = c.read_head.new.buffer.items in
    let all = c.read_body.new.buffer.items in
    let left = (g.R.Tap.state c.args.tap.now).bytes in
    let left' = (g.R.Tap.state c.read_head.new.tap).bytes in
    let left'' = (g.R.Tap.state c.read_body.new.tap).bytes in
    let first = subst (λ u. HasCome u mid left left')
    (c.drop_front.ensures ∙ ap (λ v. v.unread) c.self.view_is) c.read_head.ensures.come in
    let come = come_more unread mid all left left' left'' first c.read_body.ensures.come in
    let head : IsHeadOf mid c.in-Some.head = rw c.in-Some.is at c.in_ok-head.ensures.found in
    rw (p.1, p.2) (record {
      come = come.come;
      from_tap = come.from_tap;
      found = body_fault c.in_err-read_body.field-0.0 unread mid all
          (record { body = slice_range all 0 0; unread = drop 0 all }) left left' left'' c.in-Some.head head
          come c.read_body.ensures.come refl c.in_err-read_body.ensures.found;
    })

pub returns-clause-frame : goal.returns-clause-frame
returns-clause-frame g c =
    let unread = c.args.self.now.unread in
    let mid = c.read_head.new.buffer.items in
    let all = c.read_body.new.buffer.items in
    let left = (g.R.Tap.state c.args.tap.now).bytes in
    let left' = (g.R.Tap.state c.read_head.new.tap).bytes in
    let left'' = (g.R.Tap.state c.read_body.new.tap).bytes in
    let n = c.in-Some.head.length in
    let m = c.in-Some.head.body in
    let first = subst (λ u. HasCome u mid left left')
    (c.drop_front.ensures ∙ ap (λ v. v.unread) c.self.view_is) c.read_head.ensures.come in
    let come = come_more unread mid all left left' left'' first c.read_body.ensures.come in
    let head : IsHeadOf mid c.in-Some.head = rw c.in-Some.is at c.in_ok-head.ensures.found in
    let whole = whole_message mid all left' left'' c.in-Some.head head c.read_body.ensures.come
    c.in_ok-read_body.ensures.found in
    record {
      come = come.come;
      from_tap = come.from_tap;
      found = (
        subst (λ b. IsFramed b (slice_range all n (n + m))
            (drop (n + m) all)) come.new_is whole.0,
        subst (λ k. k ≤ most_body)
            (sym whole.1) c.if-head-gt-MOST_BODY.false,
      );
    }

pub returns-in_err-head-clause-frame : goal.returns-in_err-head-clause-frame
returns-in_err-head-clause-frame g c =
    let p = err_from_is_err_and c.from_residual.result c.from_residual.ensures.1 in
    let unread = c.args.self.now.unread in
    let all = c.read_head.new.buffer.items in
    let left = (g.R.Tap.state c.args.tap.now).bytes in
    let left' = (g.R.Tap.state c.read_head.new.tap).bytes in
    let come = subst (λ u. HasCome u all left left')
    (c.drop_front.ensures ∙ ap (λ v. v.unread) c.self.view_is) c.read_head.ensures.come in
    rw (p.1, p.2) (record {
      come = come.come;
      from_tap = come.from_tap;
      found = head_fault c.in_err-head.field-0.0 unread all
          (record { body = slice_range all 0 0; unread = drop 0 all }) left left' come refl
          c.in_err-head.ensures.found;
    })

pub returns-then-head-gt-MOST_BODY-clause-frame : goal.returns-then-head-gt-MOST_BODY-clause-frame
returns-then-head-gt-MOST_BODY-clause-frame g c =
    let unread = c.args.self.now.unread in
    let mid = c.read_head.new.buffer.items in
    let new = c.pass.new.buffer.items in
    let left = (g.R.Tap.state c.args.tap.now).bytes in
    let left' = (g.R.Tap.state c.read_head.new.tap).bytes in
    let left'' = (g.R.Tap.state c.pass.new.tap).bytes in
    let first = subst (λ u. HasCome u mid left left')
    (c.drop_front.ensures ∙ ap (λ v. v.unread) c.self.view_is) c.read_head.ensures.come in
    let head : IsHeadOf mid c.in-Some.head = rw c.in-Some.is at c.in_ok-head.ensures.found in
    let passes = subst (λ l. Passes
    (Ok _) c.in-Some.head.body l new left' left'') c.drop_front-then-head-gt-MOST_BODY.ensures
    c.in_ok-pass.ensures.passes in
    let found = long_found unread mid new (record
    { body = slice_range new 0 0; unread = drop 0 new }) left left' left'' c.in-Some.head head
    c.if-head-gt-MOST_BODY.true first passes refl in
    record { come = found.0; from_tap = found.1; found = found.2 }

pub returns-in_err-pass-clause-frame : goal.returns-in_err-pass-clause-frame
returns-in_err-pass-clause-frame g c =
    let p = err_from_is_err_and c.from_residual-in_err-pass.result c.from_residual-in_err-pass.ensures.1 in
    let unread = c.args.self.now.unread in
    let mid = c.read_head.new.buffer.items in
    let new = c.pass.new.buffer.items in
    let left = (g.R.Tap.state c.args.tap.now).bytes in
    let left' = (g.R.Tap.state c.read_head.new.tap).bytes in
    let left'' = (g.R.Tap.state c.pass.new.tap).bytes in
    let first = subst (λ u. HasCome u mid left left')
    (c.drop_front.ensures ∙ ap (λ v. v.unread) c.self.view_is) c.read_head.ensures.come in
    let head : IsHeadOf mid c.in-Some.head = rw c.in-Some.is at c.in_ok-head.ensures.found in
    let fault = c.in_err-pass.field-0.0 in
    let passes = subst (λ l. Passes
    (Err fault) c.in-Some.head.body l new left' left'') c.drop_front-then-head-gt-MOST_BODY.ensures
    c.in_err-pass.ensures.passes in
    let found = pass_fault fault unread mid new (record
    { body = slice_range new 0 0; unread = drop 0 new }) left left' left'' c.in-Some.head head
    c.if-head-gt-MOST_BODY.true first passes in
    rw (p.1, p.2) (record { come = found.0; from_tap = found.1; found = found.2 })

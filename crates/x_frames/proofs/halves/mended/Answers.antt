use Rattle.std.proofs.Common.{◌≡◌, [], ◌∷◌, ◌+◌, ◌++◌, ◌∙◌, ap, drop, get_or, refl, subst, sym}
use Rattle.x_frames.specs.Halves.{behind, mended, mended_from, put}
use Rattle.x_frames.proofs.HalfLemmas.{mended_end, mended_step}
use Rattle.x_frames.proofs.halves.mended.Goals as goal

pub loop-at-preserved : goal.loop-at-preserved
loop-at-preserved c =
    let text = c.args.text.now in
    let now = c.loop-at.bytes.items in
    let then = c.push.new.self.items in
    let escape = c.loop-at.escape in
    let at = c.loop-at.at in
    let byte = get_or text at 0 in
    let next = c.byte_at-next.ensures in
    let step = mended_step now then
    (mended text) escape at byte text c.loop-at-test.true refl c.loop-at.invariant
    (c.in_ok-push.ensures.items ∙ ap (λ b. now ++ b ∷ []) (c.put.ensures ∙ ap (put escape byte) next)) in
    subst (λ e. then ++ mended_from e (drop (at + 1) text) ≡ mended text)
    (sym (c.behind-escape.ensures ∙ ap (behind escape byte) next)) step

pub returns : goal.returns
returns c =
    mended_end c.loop-at.bytes.items (mended c.args.text.now) c.loop-at.escape c.loop-at.at c.args.text.now
    c.loop-at-test.false c.loop-at.invariant

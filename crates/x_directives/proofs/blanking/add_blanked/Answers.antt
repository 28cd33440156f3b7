use Rattle.std.proofs.Common.{[], ◌∷◌, ◌++◌, ◌∙◌, cond, ap, refl, get_or}
use Rattle.x_directives.specs.Blanked.{stays, blanked_bytes}
use Rattle.x_directives.proofs.BlankedLemmas.{blanked_step, blanked_end}
use Rattle.x_directives.proofs.blanking.add_blanked.Goals as goal

pub loop-at-preserved : goal.loop-at-preserved
loop-at-preserved c =
    let line = c.args.line.now in
    let now = c.loop-at.bytes.items in
    let before = c.loop-at.before in
    let at = c.loop-at.at in
    let byte = get_or line at 0 in
    let all = c.args.bytes.now.items ++ blanked_bytes 0 line in
    blanked_step now c.push.new.self.items all before at byte line
    c.loop-at-test.true refl c.loop-at.invariant
    (c.in_ok-push.ensures.items ∙ ap (λ b. now ++ b ∷ []) (c.blanked_byte.ensures
    ∙ ap (λ after. cond (stays before byte after) byte 32) c.byte_at.ensures))

pub returns : goal.returns
returns c =
    let line = c.args.line.now in
    let all = c.args.bytes.now.items ++ blanked_bytes 0 line in
    let now = c.loop-at.bytes.items in
    blanked_end now all c.loop-at.before c.loop-at.at line c.loop-at-test.false c.loop-at.invariant

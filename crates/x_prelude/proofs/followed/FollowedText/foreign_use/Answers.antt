use Rattle.x_session.proofs.DeclaredLemmas.{ok_then}
use Rattle.x_prelude.proofs.followed.FollowedText.foreign_use.Goals as goal

pub returns : goal.returns
returns c over = ok_then c.foreign_use.result (λ spot h. (
  h.0,
  h.1,
  h.2,
  (c.args.self.now.known, over.files, h.3),
)) c.foreign_use.ensures

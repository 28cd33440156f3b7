use Rattle.std.proofs.Common.{refl}
use Rattle.std.proofs.lemmas.Option.{IfSome_then}
use Rattle.serde_json.specs.View.{view}
use Rattle.x_lsp.proofs.server.Server.refuse_cancelled.Goals as goal

pub returns-in-Ok : goal.returns-in-Ok
returns-in-Ok c = IfSome_then c.refused_as.result c.refused_as.ensures (λ reply is. record {
  message = view c.in-Ok.message;
  body_is = c.in-Ok.ensures.ok.1;
  is_running = c.if-not-is_running.ensures refl;
  is_refused = is;
  same = refl;
})

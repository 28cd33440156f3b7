use Rattle.x_text.proofs.Cases.{match_some}
use Rattle.x_lsp.proofs.ServingLemmas.{unserved}
use Rattle.x_documents.specs.Grounds.{ground_of}
use Rattle.x_lsp.proofs.serving.serve.Goals as goal

pub returns-in-Err-clause-serves : goal.returns-in-Err-clause-serves
returns-in-Err-clause-serves g c = match_some (g.I.Tap.state c.args.input.now).bytes _ (λ input e.
    unserved (ground_of c.args.setting) input (g.I.Tap.state c.args.input.now).bytes
    (g.O.Sink.state c.args.out.now))

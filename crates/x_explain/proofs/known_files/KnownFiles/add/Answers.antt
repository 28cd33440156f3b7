use Rattle.x_explain.proofs.KnownFileLemmas.{file_added}
use Rattle.x_explain.proofs.known_files.KnownFiles.add.Goals as goal

pub returns : goal.returns
returns c =
    let t = c.in_ok-names.ensures in (
      t.0,
      t.1,
      t.2,
      file_added c.args.self.now.list.items _ _ c.args.session.now.text t.1 c.in_ok-push.ensures.items t.3,
    )

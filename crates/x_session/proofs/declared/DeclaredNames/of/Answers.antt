use Rattle.x_session.proofs.DeclaredLemmas.{table_found}
use Rattle.x_session.proofs.declared.DeclaredNames.of.Goals as goal

pub returns : goal.returns
returns c = table_found c.args.session.now.text
    (record { names = c.in_ok-names.names; words = c.in_ok-words.words }) c.in_ok-words.ensures
    c.in_ok-names.ensures

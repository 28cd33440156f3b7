use Rattle.x_trees.specs.Collected.{site_in}
use Rattle.x_trees.proofs.GlossaryLemmas.{reads_declared}
use Rattle.x_trees.proofs.names.glossary.Walk.name_word.Goals as goal

pub returns : goal.returns
returns c around = reads_declared (site_in c.args.site around) c.args.name.now c.args.lifted
    (c.in_ok-own_name.ensures around) c.in_ok-inline_name.ensures c.skip.ensures

use Rattle.std.proofs.Common.{◌++◌, Some, true, ap, sym}
use Rattle.std.proofs.lemmas.Result.{on_ok_weaker}
use Rattle.x_trees.specs.View.{view_shape}
use Rattle.x_trees.specs.Gloss.{glossed, name_roles, named_by}
use Rattle.x_trees.specs.Collected.{site_in, roles_of_lifted}
use Rattle.x_trees.proofs.GlossaryLemmas.{reads, reads_next, reads_as}
use Rattle.x_trees.proofs.names.glossary.Walk.declarator.Goals as goal

pub returns-in-Optional : goal.returns-in-Optional
returns-in-Optional c =
    on_ok_weaker c.name_word-in-Optional.result
    (λ x around. reads_as (reads_next (reads c.skip.ensures) (x around))
    (ap (λ s. named_by glossed true (name_roles (Some (site_in c.args.site around)) c.args.name.now
    ++ roles_of_lifted c.args.lifted) c.args.name.now (view_shape s)) (sym c.in-Optional.is)))
    c.name_word-in-Optional.ensures

pub returns-in_ok-name_word-in-Array : goal.returns-in_ok-name_word-in-Array
returns-in_ok-name_word-in-Array c =
    on_ok_weaker c.brackets.result
    (λ x around. reads_as (reads_next (c.in_ok-name_word-in-Array.ensures around) x)
    (ap (λ s. named_by glossed true (name_roles (Some (site_in c.args.site around)) c.args.name.now
    ++ roles_of_lifted c.args.lifted) c.args.name.now (view_shape s)) (sym c.in-Array.is)))
    c.brackets.ensures

use Rattle.std.proofs.Common.{◌≡◌, ◌++◌, [], subst}
use Rattle.std.specs.Prelude.{if◌then◌else◌}
use Rattle.x_compile.specs.Compile.{definitions_of}
use Rattle.x_compile.specs.Known.{known_names}
use Rattle.x_session.specs.Session.{Compiles}
use Rattle.x_prelude.specs.Lacking.{lacking}
use Rattle.x_prelude.specs.Prelude.{definitions_of_names}
use Rattle.x_prelude.proofs.BeforeLemmas.{both_parts}
use Rattle.x_prelude.proofs.prelude.prelude_of.Goals as goal

pub returns-clause-text : goal.returns-clause-text
returns-clause-text c =
    let from = c.args.from in
    let own = known_names c.args.known.now in
    let mid = c.add_lacking_types.new.text.items in
    let new = c.add_lacking_names.new.text.items in
    both_parts c.args.session.now.text own from c.new-text.result.items mid new c.new-text.ensures.items
    c.in_ok-add_lacking_types.ensures.text
    (subst (λ s. Compiles s.known s.text (λ items. new ≡ mid
    ++ (if from.foreign then definitions_of_names from (lacking own (definitions_of items)) else [])))
    c.in_ok-add_lacking_types.ensures.session c.in_ok-add_lacking_names.ensures)

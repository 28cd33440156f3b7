use Rattle.std.proofs.Common.{take, refl, ap, ◌∙◌}
use Rattle.x_trees.specs.View.{view_body}
use Rattle.x_trees.proofs.GlossaryLemmas.{reads, found_here, reads_next, reads_less}
use Rattle.x_trees.proofs.names.glossary.Walk.inline_argument.Goals as goal

pub returns : goal.returns
returns c =
    let noted = c.skip.new.self.glossary in
    let found = c.body.new.self.glossary in
    reads_next (reads (found_here c.in_ok-note.ensures c.skip.ensures))
    (reads_less (view_body c.args.body.now) c.in_ok-body.ensures refl
    (c.truncate.ensures.items
    ∙ ap (λ n. take n found.declared.items) (c.len-declared.ensures ∙ noted.declared.ok.0))
    (c.truncate-2.ensures.items
    ∙ ap (λ n. take n found.mentioned.items) (c.len-mentioned.ensures ∙ noted.mentioned.ok.0))
    (c.truncate-3.ensures.items
    ∙ ap (λ n. take n found.notes.items) (c.len-notes.ensures ∙ noted.notes.ok.0)))

use Rattle.std.proofs.Common.{ℕ, List, [], sym, Bor}
use Rattle.std.proofs.lemmas.List.{get_or-map}
use Rattle.x_lex.specs.declared.mark.Mark.{Mark}
use Rattle.x_lex.proofs.mark.text_in.Goals as goal

pub returns : goal.returns
returns c = sym (get_or-map {X = Bor (List ℕ) × Mark} (λ entry. entry.0.now) c.args.table.now _ _
    [] c.requires)

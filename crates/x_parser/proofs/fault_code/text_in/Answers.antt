use Rattle.std.proofs.Common.{ℕ, List, [], sym, Bor}
use Rattle.std.proofs.lemmas.List.{get_or-map}
use Rattle.x_parser.proofs.fault_code.text_in.Goals as goal

pub returns : goal.returns
returns c = sym (get_or-map {X = Bor (List ℕ)} (λ text. text.now) c.args.table.now _ _ [] c.requires)

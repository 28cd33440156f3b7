use Rattle.std.proofs.Common.{◌++◌, ◌∙◌, ap, sym}
use Rattle.std.specs.Prelude.{option_to_list}
use Rattle.x_contents.specs.Reading.{levels_of}
use Rattle.x_contents.specs.Symbols.{is_below, last_of}
use Rattle.x_contents.proofs.SymbolLemmas.{last_taken}
use Rattle.x_contents.proofs.symbols.take_level.Goals as goal

pub returns-in-Some-clause-children : goal.returns-in-Some-clause-children
returns-in-Some-clause-children c =
    let rest = c.pop.new.self.items in
    last_taken c.args.levels.now.items rest c.in-Some.level c.args.depth
    (c.pop.ensures.items ∙ ap (λ o. rest ++ option_to_list o) c.in-Some.is)
    (ap (λ ls. is_below (last_of (levels_of ls)) c.args.depth) (sym c.deref.ensures.value)
    ∙ sym c.is_below.ensures ∙ c.if-is_below.true)

use Rattle.std.proofs.Common.{map, length, sym, subst}
use Rattle.x_trees.specs.View.{view_enumerator}
use Rattle.x_trees.specs.Spell.{spell_enumerators}
use Rattle.x_outline.specs.BodyWalks.{Passes}
use Rattle.x_outline.proofs.BodyWalkLemmas.{passes_enumerators}
use Rattle.x_outline.proofs.bodies.BodyWalk.enumerators.Goals as goal

pub returns-in-Some : goal.returns-in-Some
returns-in-Some c =
    subst (λ xs. Passes c.args.self.now c.other_enumerators.new.self
    (length (spell_enumerators (map view_enumerator xs)))) (sym c.in-Some.ensures.cases.0)
    (passes_enumerators c.args.self.now c.skip.new.self c.other_enumerators.new.self
    (view_enumerator c.in-Some.first.now) (map view_enumerator c.in-Some.others.now) _
    c.words_of_enumerator.ensures c.skip.ensures c.other_enumerators.ensures)

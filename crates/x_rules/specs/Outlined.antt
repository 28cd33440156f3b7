-- What is known of a definition before its rules are tried, and what is found of it then.
use Rattle.std.specs.Prelude.{◌≡◌, ℕ, List, map}
use Rattle.x_trees.specs.Tree as tree
use Rattle.x_rules.specs.Views.{View}
use Rattle.x_trees.specs.Seen.{names_of}
use Rattle.x_outline.specs.Bodies.{enumerators}
use Rattle.x_outline.specs.Outlines.{outlined}
use Rattle.x_rules.specs.Constants.{knowns}
use Rattle.x_rules.specs.Results.{Outcome, meanings_by}
use Rattle.x_rules.specs.Rules.{AreFaults}
use Rattle.x_rules.specs.Tables.{HasNumbers, seen_by}
use Rattle.x_outline.specs.declared.outline.Outline.{Outline}
use Rattle.x_rules.specs.declared.rules.constants.Constants.{Constants}
use Rattle.x_rules.specs.declared.rules.sights.Sights.{Sights}

-- The names that are seen are those that the item sees, and the constants are the enumerators with their
-- numbers.
pub record AreTables (o : Outline) (sights : Sights) (constants : Constants) : Type 0 where
  pub names : map (λ x. x.now) sights.names ≡ names_of (outlined o)
  pub numbers : HasNumbers constants (enumerators (outlined o))
      (knowns (seen_by sights) (enumerators (outlined o)))

-- what checking a definition gives, by what its item sees of each name
pub record GivesOutcome (d : tree.Definition) (see : List ℕ → View) (o : Outcome) : Type 0 where
  pub are_faults : AreFaults d see o.faults
  pub are_meanings : o.meanings ≡ meanings_by d see o.faults

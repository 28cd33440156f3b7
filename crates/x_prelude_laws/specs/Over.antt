-- Known texts whose items see the same whatever stands behind them.
use Rattle.std.specs.Prelude.{◌≡◌, ℕ, List, [], ◌∷◌, Option, None}
use Rattle.std.specs.List.{All}
use Rattle.x_trees.specs.Tree.{Definition}
use Rattle.x_names.specs.Declarers.{first_declarer}
use Rattle.x_rules.specs.Results.{no_names}
use Rattle.x_compile.specs.Compile.{faults_of}
use Rattle.x_compile.specs.Known.{nothing_known}
use Rattle.x_session.specs.Session.{Compiles}
use Rattle.x_prelude.specs.Lacking.{lacking, name_of}

-- the definitions behind others declare no name that those lack
abbrev pub DeclareNoneLacking : (definitions behind : List (Option Definition)) → Type 0
DeclareNoneLacking definitions behind =
    All (λ o. first_declarer behind (name_of o) ≡ None) (lacking no_names definitions)

-- the text has no fault where nothing is known before it; of the empty one nothing is asked
abbrev pub IsFaultless : (text : List ℕ) → Type 0
IsFaultless [] = Unit {0}
IsFaultless (b ∷ bs) = Compiles nothing_known (b ∷ bs) (λ items. faults_of (b ∷ bs) items ≡ [])

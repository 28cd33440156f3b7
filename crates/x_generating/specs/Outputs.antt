-- What stands under the name of an output.
use Rattle.std.specs.Prelude.{◌≡◌, ℕ, List, [], Option, Some, MatchOption}

-- where the output tells it: the bytes of a file, or that there is none
abbrev pub Standing : Type 0
Standing = Option (Option (List ℕ))

-- what was opened for a text holds nothing yet, where the output tells what stands under its name
abbrev pub IsNew : Standing → (bytes : Option (List ℕ)) → Type 0
IsNew standing bytes = MatchOption standing (Unit {0}) (λ _. bytes ≡ Some [])

-- a file with these bytes stands under the name, where they are told
abbrev pub IsNamed : Standing → (bytes : Option (List ℕ)) → Type 0
IsNamed standing bytes = MatchOption bytes (Unit {0}) (λ all. standing ≡ Some (Some all))

-- a file with this text stands under the name, where the output tells what stands there
abbrev pub Holds : (before after : Standing) → (text : List ℕ) → Type 0
Holds before after text = MatchOption before (Unit {0}) (λ _. after ≡ Some (Some text))

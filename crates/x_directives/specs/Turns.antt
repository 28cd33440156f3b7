-- How deep in later branches a place is. Nothing but private functions cites it.
use Rattle.std.specs.Prelude.{ℕ, ◌+◌, ◌-◌, ◌==◌, if◌then◌else◌, List, Option, None, Some}
use Rattle.x_directives.specs.declared.branches.Role.{Role}
use Rattle.x_directives.specs.declared.branches.Role.TheVariants.{Begins, Alternative, Ends}
use Rattle.x_directives.specs.Branches.{is_alternative, is_end}
use Rattle.x_directives.specs.Conditionals.{is_condition}

-- what the directive of a word does to a conditional
unfoldable pub role_of : List ℕ → Option Role
role_of word =
    if is_end word then Some Ends
    else if is_condition word then Some Begins
    else if is_alternative word then Some Alternative else None

-- How many of the conditionals around have to end until no later branch is around, behind a directive; `deep`
-- says it of the place before it.
unfoldable pub deep_behind : Role → ℕ → ℕ
deep_behind Begins deep = if deep == 0 then 0 else deep + 1
deep_behind Alternative deep = if deep == 0 then 1 else deep
deep_behind Ends deep = deep - 1

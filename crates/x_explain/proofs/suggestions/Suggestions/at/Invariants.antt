use Rattle.std.proofs.Common.{◌≡◌, map, drop}
use Rattle.x_explain.specs.Suggestions.{suggested_at, view_suggestion}
use Rattle.x_explain.proofs.suggestions.Suggestions.at.Given as goal

-- what those that are left have for the place
abbrev pub invariant-loop-suggestion : goal.invariant-loop-suggestion
invariant-loop-suggestion l =
    suggested_at (map view_suggestion (drop l.suggestion-index l.suggestion-items)) l.start
    ≡ suggested_at (map view_suggestion l.suggestion-items) l.start

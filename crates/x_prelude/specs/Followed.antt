-- A text that stays open over what stands before it.
use Rattle.std.specs.Prelude.{◌≡◌, ◌++◌}
use Rattle.x_prelude.specs.Before.{IsKnownOf}
use Rattle.x_prelude.specs.declared.followed.FollowedText.{FollowedText}

-- Known before the text is what the known files define, with the definitions behind them. Each edit and each
-- renewal leaves it so.
pub record IsOver (t : FollowedText) : Type 0 where
  pub files : IsKnownOf t.files.items t.known
  pub all : IsKnownOf (t.files.items ++ t.lacking.items) t.session.known
  pub based : t.session.base ≡ t.base.items

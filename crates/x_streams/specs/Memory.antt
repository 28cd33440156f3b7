-- Sinks and taps over memory, for tests.
use Rattle.std.specs.Prelude.{◌≡◌, ℕ, ◌<◌, ◌⊎◌, min, Bool, true, List, Some}
use Rattle.x_streams.specs.Streams.{Stream}

-- A sink or a tap over memory: the bytes that the sink took or the tap has left, how many it moves a call at
-- the most, how many more it moves before it fails, and whether it has failed.
pub record MemState : Type 0 where
  pub bytes : List ℕ
  pub most : ℕ
  pub left : ℕ
  pub failed : Bool

-- what it is seen as: it tells its bytes
abbrev pub in_memory : MemState → Stream
in_memory state = record { bytes = Some state.bytes; failed = state.failed }

-- how many of the bytes that it could move one call moves, if it does not fail
abbrev pub share : MemState → ℕ → ℕ
share state possible = min possible (min state.most state.left)

-- whether a call with a slice of this length fails: one failed before, or no more bytes may be moved and the
-- slice has room or bytes
abbrev pub Fails : MemState → ℕ → Type 0
Fails state length = (state.failed ≡ true) ⊎ ((state.left ≡ 0) × (0 < length))

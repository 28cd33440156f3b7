-- What sinks and taps are seen as, and what their calls do.
use Rattle.std.specs.Prelude.{◌≡◌, ◌<◌, ◌≤◌, ℕ, List, Option, Bool, Result, IsTrue, IfOk, IsErr, is_err}
use Rattle.std.specs.Prelude.{length}
use Rattle.std.specs.Io.KnownBytes.{WriteAppends, ReadConsumes}
use Rattle.x_streams.specs.declared.sink.Broken.{Broken}

-- the bytes that a sink holds or a tap has left, where it tells them, and whether it has failed
pub record Stream : Type 0 where
  pub bytes : Option (List ℕ)
  pub failed : Bool

-- a call failed where its result says so, and after a failure it fails again
pub record FailsForGood {T : Type 0} (old new : Stream) (result : Result T Broken) : Type 0 where
  pub failed : new.failed ≡ is_err result
  pub for_good : IsTrue old.failed → IsErr result

-- a sink took as many bytes as the result says from the front of these, and at least one where there is one
pub record Puts (old new : Stream) (result : Result ℕ Broken) (bytes : List ℕ) : Type 0 where
  pub taken : WriteAppends old.bytes new.bytes result bytes
  pub within : IfOk result (λ n. n ≤ length bytes)
  pub some : IfOk result (λ n. 0 < length bytes → 0 < n)

-- a tap moved as many bytes as the result says to the front of the buffer, and none only at its end or with
-- no room
pub record Takes (old new : Stream) (result : Result ℕ Broken) (buffer : List ℕ) : Type 0 where
  pub taken : ReadConsumes old.bytes new.bytes result buffer
  pub within : IfOk result (λ n. n ≤ length buffer)

-- What a meter has counted.
use Rattle.std.specs.Prelude.{ℕ}

pub record Counts : Type 0 where
  pub lexed : ℕ
  pub parsed : ℕ
  pub checked : ℕ
  pub moved : ℕ

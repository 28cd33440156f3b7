-- The exit statuses of the programs.
use Rattle.std.specs.Prelude.{ℕ}
use Rattle.x_args.specs.declared.status.Status.{Status}
use Rattle.x_args.specs.declared.status.Status.TheVariants.{Done, Faulty, Failed}

abbrev pub exit_code : Status → ℕ
exit_code Done = 0
exit_code Faulty = 1
exit_code Failed = 2

-- the worse of two
abbrev pub worse : Status → Status → Status
worse Done other = other
worse Faulty Failed = Failed
worse Faulty other = Faulty
worse Failed other = Failed

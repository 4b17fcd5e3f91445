-- The numbers that are PIDs, and those that are modes.
use Rattle.std.specs.Prelude.{ℕ, Bool, ◌&&◌, nat_le, cond, Option, Some, None}

-- Own: a PID is 1 to 4194303.
abbrev pub is_pid : ℕ → Bool
is_pid number = nat_le 1 number && nat_le number 4194303

abbrev pub pid_of : ℕ → Option ℕ
pid_of number = cond (is_pid number) (Some number) None

-- Own: a mode has the nine permission bits, 0 to 0o777.
abbrev pub is_mode : ℕ → Bool
is_mode bits = nat_le bits 511

abbrev pub mode_of : ℕ → Option ℕ
mode_of bits = cond (is_mode bits) (Some bits) None

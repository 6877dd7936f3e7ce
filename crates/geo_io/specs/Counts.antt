-- Counts of calls and of faults. This project's own.
use Rattle.std.specs.Prelude.{◌≡◌, ℕ, ◌+◌, ◌-◌, ◌^◌, ◌<◌, ◌≤◌, ◌⊎◌, min}

-- one more, up to the greatest `u64`
abbrev pub next_count : ℕ → ℕ
next_count n = min (n + 1) (2 ^ 64 - 1)

-- a count of faults rose in a call: it is greater at exit than at entry, or stands at the greatest `u64`
pub record Rose (entry exit : ℕ) : Type 0 where
  pub never_falls : entry ≤ exit
  pub rose : (entry < exit) ⊎ (exit ≡ 2 ^ 64 - 1)

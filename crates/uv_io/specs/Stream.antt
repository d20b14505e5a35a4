-- How a call of a reader or a writer changes its count of failures.
use Rattle.std.specs.Prelude.{ℕ, List, length, Result, Ok, Err, if◌then◌else◌, ◌==◌}

-- a write fails with an error, and where it takes nothing of a piece that has bytes
abbrev pub write_failures : {E : Type 0} → Result ℕ E → List ℕ → ℕ
write_failures (Ok n) piece = if n == 0 then (if length piece == 0 then 0 else 1) else 0
write_failures (Err e) piece = 1

-- a read fails only with an error
abbrev pub read_failures : {E : Type 0} → Result ℕ E → ℕ
read_failures (Ok n) = 0
read_failures (Err e) = 1

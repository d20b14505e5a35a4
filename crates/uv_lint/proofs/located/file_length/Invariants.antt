-- No run is before the place.
use Rattle.std.proofs.Common.{◌≡◌, ◌+◌, drop}
use Rattle.uv_lint.specs.Located.{file_length}
use Rattle.uv_lint.proofs.located.file_length.Given as goal

abbrev pub invariant-loop-place : goal.invariant-loop-place
invariant-loop-place l = file_length l.line ≡ file_length (drop l.place l.line) + l.place

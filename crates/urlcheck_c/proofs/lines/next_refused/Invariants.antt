-- The lines so far are valid.
use Rattle.std.proofs.Common.{ℕ, ◌-◌, ◌<◌, ◌≤◌, List, drop, length}
use Rattle.uv_lines.specs.Lines.{lines_of}
use Rattle.urlcheck_c.specs.NextLine.{IsLineStart, Passes}
use Rattle.urlcheck_c.proofs.lines.next_refused.Given as goal

-- so many lines from a byte on are passed, up to another, where a line begins
pub record ArePassed (number : ℕ) (bytes : List ℕ) (from start passed : ℕ) : Type 0 where
  pub lines : Passes number passed (lines_of (drop from bytes)) (lines_of (drop start bytes))
  pub begins : start < length bytes → IsLineStart bytes from start
  pub after : from ≤ start
  pub within : start ≤ length bytes
  pub few : passed ≤ start

abbrev pub invariant-loop-start : goal.invariant-loop-start
invariant-loop-start l = ArePassed l.profile l.lines l.from l.start l.passed

abbrev pub decreases-loop-start : goal.decreases-loop-start
decreases-loop-start l = length l.lines - l.start

-- What is left is after slashes and backslashes.
use Rattle.std.proofs.Common.{◌≡◌, length}
use Rattle.std.specs.Str.{chars}
use denote.Shadow.{shadow}
use denote.Text.{Utf8}
use Rattle.uv_mend.specs.Slashes as spec
use Rattle.uv_mend.proofs.slashes.after_marks.Given as goal

abbrev pub invariant-loop-c : goal.invariant-loop-c
invariant-loop-c l = record {
  is : spec.after_marks (chars l.rest) ≡ spec.after_marks (chars l.fn.text);
  utf8 : shadow (Utf8 l.rest);
}

abbrev pub decreases-loop-c : goal.decreases-loop-c
decreases-loop-c l = length (chars l.rest)

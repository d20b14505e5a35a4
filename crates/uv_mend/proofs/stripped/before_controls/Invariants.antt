-- What is left is before controls and spaces.
use Rattle.std.proofs.Common.{◌≡◌, length}
use Rattle.std.specs.Str.{chars}
use denote.Shadow.{shadow}
use denote.Text.{Utf8}
use Rattle.uv_mend.specs.Stripped as spec
use Rattle.uv_mend.proofs.stripped.before_controls.Given as goal

abbrev pub invariant-loop-before : goal.invariant-loop-before
invariant-loop-before l = record {
  is : spec.before_controls (chars l.rest) ≡ spec.before_controls (chars l.fn.text);
  utf8 : shadow (Utf8 l.rest);
}

abbrev pub decreases-loop-before : goal.decreases-loop-before
decreases-loop-before l = length (chars l.rest)

-- What is left is after units that need no class.
use Rattle.std.proofs.Common.{◌<◌, length}
use denote.Text.{Utf8}
use denote.Shadow.{shadow}
use Rattle.std.specs.Str.{chars}
use Rattle.uv_text.specs.Splits.{PassesMarks}
use Rattle.uv_text.proofs.splits.after_beyond_ascii.Given as goal

abbrev pub invariant-loop-after : goal.invariant-loop-after
invariant-loop-after l = record {
  is_text : shadow (Utf8 l.rest);
  passes : PassesMarks (chars l.fn.text) (chars l.rest);
  shorter : length (chars l.rest) < length (chars l.fn.text);
}

abbrev pub decreases-loop-after : goal.decreases-loop-after
decreases-loop-after l = length (chars l.rest)

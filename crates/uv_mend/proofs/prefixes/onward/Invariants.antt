-- What is left goes on as the text does.
use Rattle.std.proofs.Common.{◌≡◌, length}
use Rattle.std.specs.Str.{chars}
use denote.Shadow.{shadow}
use denote.Text.{Utf8}
use Rattle.uv_mend.specs.Prefixes.{onward}
use Rattle.uv_mend.proofs.prefixes.onward.Given as goal

abbrev pub invariant-loop-c : goal.invariant-loop-c
invariant-loop-c l = record {
  is : onward l.stop (chars l.rest) ≡ onward l.stop (chars l.fn.text);
  utf8 : shadow (Utf8 l.rest);
}

abbrev pub decreases-loop-c : goal.decreases-loop-c
decreases-loop-c l = length (chars l.rest)

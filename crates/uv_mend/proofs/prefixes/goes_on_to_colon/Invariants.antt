-- What is left goes on as the text does.
use Rattle.std.proofs.Common.{◌≡◌, length}
use Rattle.std.specs.Str.{chars}
use denote.Shadow.{shadow}
use denote.Text.{Utf8}
use Rattle.uv_model.specs.Scheme.{goes_on_to_colon}
use Rattle.uv_mend.proofs.prefixes.goes_on_to_colon.Given as goal

abbrev pub invariant-loop-c : goal.invariant-loop-c
invariant-loop-c l = record {
  is : goes_on_to_colon (chars l.rest) ≡ goes_on_to_colon (chars l.fn.text);
  utf8 : shadow (Utf8 l.rest);
}

abbrev pub decreases-loop-c : goal.decreases-loop-c
decreases-loop-c l = length (chars l.rest)

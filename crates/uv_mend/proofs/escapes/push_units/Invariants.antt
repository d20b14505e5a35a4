-- What was appended and the units of what is left are the text's units.
use Rattle.std.proofs.Common.{◌≡◌, ◌++◌, false, encode_utf8_all, length, string_bytes}
use Rattle.std.specs.Str.{chars}
use denote.Shadow.{shadow}
use denote.Text.{Utf8}
use Rattle.uv_mend.specs.Escapes.{as_units}
use Rattle.uv_mend.proofs.escapes.push_units.Given as goal

abbrev pub invariant-loop-c : goal.invariant-loop-c
invariant-loop-c l = record {
  is : string_bytes l.out ++ encode_utf8_all (as_units l.in_fragment (chars l.rest))
      ≡ string_bytes l.fn.out ++ encode_utf8_all (as_units false (chars l.fn.text));
  utf8 : shadow (Utf8 l.rest);
}

abbrev pub decreases-loop-c : goal.decreases-loop-c
decreases-loop-c l = length (chars l.rest)

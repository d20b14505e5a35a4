-- What was appended and what is left with its slashes are the text with its own.
use Rattle.std.proofs.Common.{◌≡◌, ◌++◌, encode_utf8_all, length, string_bytes}
use Rattle.std.specs.Str.{chars}
use denote.Shadow.{shadow}
use denote.Text.{Utf8}
use Rattle.uv_mend.specs.Slashes.{with_slashes}
use Rattle.uv_mend.proofs.slashes.push_with_slashes.Given as goal

abbrev pub invariant-loop-c : goal.invariant-loop-c
invariant-loop-c l = record {
  is : string_bytes l.out ++ encode_utf8_all (with_slashes l.class (chars l.rest))
      ≡ string_bytes l.fn.out ++ encode_utf8_all (with_slashes l.class (chars l.fn.text));
  utf8 : shadow (Utf8 l.rest);
}

abbrev pub decreases-loop-c : goal.decreases-loop-c
decreases-loop-c l = length (chars l.rest)

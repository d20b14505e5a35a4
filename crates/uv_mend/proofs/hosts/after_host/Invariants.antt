-- What is left ends in what is after the text's host.
use Rattle.std.proofs.Common.{◌≡◌, false, length}
use Rattle.std.specs.Str.{chars}
use denote.Shadow.{shadow}
use denote.Text.{Utf8}
use Rattle.uv_mend.specs.Hosts as spec
use Rattle.uv_mend.proofs.hosts.after_host.Given as goal

abbrev pub invariant-loop-c : goal.invariant-loop-c
invariant-loop-c l = record {
  is : spec.after_host l.class l.within (chars l.rest) ≡ spec.after_host l.class false (chars l.fn.text);
  utf8 : shadow (Utf8 l.rest);
}

abbrev pub decreases-loop-c : goal.decreases-loop-c
decreases-loop-c l = length (chars l.rest)

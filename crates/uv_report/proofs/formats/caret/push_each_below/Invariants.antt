-- Below the code points so far is what is below each of them.
use Rattle.std.proofs.Common.{◌≡◌, ◌++◌, flat_map, string_bytes}
use Rattle.uv_report.specs.Formats.Caret.{below}
use Rattle.uv_report.proofs.formats.caret.push_each_below.Given as goal

abbrev pub invariant-loop-c : goal.invariant-loop-c
invariant-loop-c l = string_bytes l.text ≡ string_bytes l.initial.text ++ flat_map below l.yielded

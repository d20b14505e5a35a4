-- What is left is after a part of the prefix, and begins with no code point of the class.
use Rattle.std.proofs.Common.{◌≡◌, false, length}
use Rattle.std.specs.Str.{chars}
use Rattle.uv_text.specs.Splits.{PassesUnits, class_has, starts_in}
use Rattle.uv_text.proofs.splits.after_rest.Given as goal

abbrev pub invariant-loop-after : goal.invariant-loop-after
invariant-loop-after l = record {
  passes : PassesUnits (class_has l.class) (chars l.fn.text) (chars l.rest);
  stops : starts_in (class_has l.class) (chars l.rest) ≡ false;
}

abbrev pub decreases-loop-after : goal.decreases-loop-after
decreases-loop-after l = length (chars l.rest)

-- More of the prefix, and in the end the whole.
use Rattle.std.specs.Str.{chars}
use Rattle.uv_text.specs.Splits.{class_has}
use Rattle.uv_text.proofs.SplitsLemmas.{passes_nothing}
use Rattle.uv_text.proofs.splits.after_rest.Goals as goal

pub loop-after-init : goal.loop-after-init
loop-after-init c = record { passes = passes_nothing (class_has c.args.class) (chars c.args.text); stops = c.requires }

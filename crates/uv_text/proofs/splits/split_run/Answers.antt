-- A run of bytes of the class is a part of the prefix, and ends on a border of code points.
use Rattle.std.proofs.lemmas.Str.{IsCharBoundary-from_drop}
use Rattle.uv_text.specs.Splits.{class_has}
use Rattle.uv_text.proofs.SplitsLemmas.{class_ascii, run_passes}
use Rattle.uv_text.proofs.splits.split_run.Goals as goal

pub split_at-requires : goal.split_at-requires
split_at-requires c = λ text.
    let run = run_passes (class_has c.args.class) (class_ascii c.args.class) c.args.text.now c.class_run.result text
    c.class_run.ensures.run in
    IsCharBoundary-from_drop c.args.text.now c.class_run.result run.part.inside run.part.utf8

pub returns-clause-passes : goal.returns-clause-passes
returns-clause-passes c =
    let run = run_passes (class_has c.args.class) (class_ascii c.args.class) c.args.text.now c.class_run.result
    c.class_run.ensures.text c.class_run.ensures.run in
    rw c.split_at.ensures.rest run.part.passes

pub returns-clause-stops : goal.returns-clause-stops
returns-clause-stops c =
    let run = run_passes (class_has c.args.class) (class_ascii c.args.class) c.args.text.now c.class_run.result
    c.class_run.ensures.text c.class_run.ensures.run in
    rw c.split_at.ensures.rest run.stops

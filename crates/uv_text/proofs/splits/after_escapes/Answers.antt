-- A run of bytes that begin units is a part of the prefix, and ends on a border of code points.
use Rattle.std.proofs.Common.{arith}
use Rattle.std.proofs.lemmas.Str.{IsCharBoundary-from_drop}
use Rattle.uv_text.specs.Splits.{class_has}
use Rattle.uv_text.proofs.SplitsLemmas.{class_ascii, no_escape, units_pass}
use Rattle.uv_text.proofs.splits.after_escapes.Goals as goal

pub returns-then-run-eq0-clause-passes : goal.returns-then-run-eq0-clause-passes
returns-then-run-eq0-clause-passes c =
    let none = c.if-run-eq0.true in
    no_escape (class_has c.args.class) c.args.text.now c.unit_run-run.ensures.text c.requires
    (omega (arith, none, c.unit_run-run.ensures.run))

pub split_at-rest-requires : goal.split_at-rest-requires
split_at-rest-requires c = λ text.
    let run = units_pass (class_has c.args.class) (class_ascii c.args.class) c.args.text.now c.unit_run-run.result text
    c.unit_run-run.ensures.run in
    IsCharBoundary-from_drop c.args.text.now c.unit_run-run.result run.part.inside run.part.utf8

pub returns-clause-passes : goal.returns-clause-passes
returns-clause-passes c =
    let run = units_pass (class_has c.args.class) (class_ascii c.args.class) c.args.text.now c.unit_run-run.result
    c.unit_run-run.ensures.text c.unit_run-run.ensures.run in
    rw c.split_at-rest.ensures.rest run.part.passes

pub returns-clause-stops : goal.returns-clause-stops
returns-clause-stops c =
    let run = units_pass (class_has c.args.class) (class_ascii c.args.class) c.args.text.now c.unit_run-run.result
    c.unit_run-run.ensures.text c.unit_run-run.ensures.run in
    rw c.split_at-rest.ensures.rest run.stops

pub returns-clause-shorter : goal.returns-clause-shorter
returns-clause-shorter c =
    let run = units_pass (class_has c.args.class) (class_ascii c.args.class) c.args.text.now c.unit_run-run.result
    c.unit_run-run.ensures.text c.unit_run-run.ensures.run in
    rw c.split_at-rest.ensures.rest (omega (arith, run.part.counted, c.if-run-eq0.false))

-- A prefix that comes near the end of 32 bytes is a step; the first that ends before has the end.
use Rattle.std.proofs.Common.{◌≡◌, ℕ, Bool, List, ◌+◌, ◌<◌, ◌≤◌, drop, take, length, ap, ◌∙◌, sym, arith}
use Rattle.std.proofs.lemmas.List.{length-drop, drop-drop}
use Rattle.uv_text.specs.Rows.{is_in_rows}
use Rattle.uv_text.specs.Splits.{ascii_unit_length}
use Rattle.uv_text.proofs.UnitBitsLemmas.{ascii_unit_length-ends, ascii_unit_length-le, ascii_unit_length-past}
use Rattle.uv_text.proofs.UnitBitsLemmas.{ascii_unit_length-taken}
use Rattle.uv_text.proofs.lanes.unit_end.Goals as goal

-- a prefix of the next 32 bytes
module _ (p : ℕ → Bool) (rest : List ℕ) (ahead : ℕ) (is : ahead ≡ ascii_unit_length p (take 32 rest)) where
  -- no more than are left
  inside : ahead ≤ length rest
  inside =
      let part = ascii_unit_length-taken p 32 rest in
      let bound = ascii_unit_length-le p rest in
      omega arith

  -- the whole goes on after it
  past : ascii_unit_length p rest ≡ ahead + ascii_unit_length p (drop ahead rest)
  past =
      let part = ascii_unit_length-taken p 32 rest in
      ascii_unit_length-past p ahead rest (omega arith)

  -- or is no longer
  ends : ahead < 30 → ascii_unit_length p rest ≡ ahead
  ends fewer = ascii_unit_length-ends p 32 rest (omega arith) ∙ sym is

pub loop-run-preserved : goal.loop-run-preserved
loop-run-preserved c =
    let p = is_in_rows c.args.rows.now in
    let xs = c.args.bytes.now in
    let end = c.loop-run.end in
    let ahead = c.loop-run.run in
    let prefix = c.loop-run.invariant.prefix in
    let long = length-drop end xs in
    let room = inside p (drop end xs) ahead prefix in
    let bound = c.loop-run.invariant.in_bounds in
    let step = past p (drop end xs) ahead prefix in
    let further = ap (ascii_unit_length p) (drop-drop ahead end xs) in
    let passed = c.loop-run.invariant.passed in
    record {
      in_bounds = omega arith;
      passed = omega arith;
      prefix = c.unit_prefix-run-in-loop-run.ensures;
    }

pub overflow_add-end : goal.overflow_add-end
overflow_add-end c =
    let rest = drop c.loop-run.end c.args.bytes.now in
    let long = length-drop c.loop-run.end c.args.bytes.now in
    let room = inside (is_in_rows c.args.rows.now) rest c.loop-run.run c.loop-run.invariant.prefix in
    let bound = c.loop-run.invariant.in_bounds in
    omega arith

pub overflow_add-result : goal.overflow_add-result
overflow_add-result c =
    let rest = drop c.loop-run.end c.args.bytes.now in
    let long = length-drop c.loop-run.end c.args.bytes.now in
    let room = inside (is_in_rows c.args.rows.now) rest c.loop-run.run c.loop-run.invariant.prefix in
    let bound = c.loop-run.invariant.in_bounds in
    omega arith

pub unit_prefix-run-requires-in-loop-run : goal.unit_prefix-run-requires-in-loop-run
unit_prefix-run-requires-in-loop-run c =
    let rest = drop c.loop-run.end c.args.bytes.now in
    let long = length-drop c.loop-run.end c.args.bytes.now in
    let room = inside (is_in_rows c.args.rows.now) rest c.loop-run.run c.loop-run.invariant.prefix in
    let bound = c.loop-run.invariant.in_bounds in
    omega arith

pub returns : goal.returns
returns c =
    let p = is_in_rows c.args.rows.now in
    let rest = drop c.loop-run.end c.args.bytes.now in
    let stop = ends p rest c.loop-run.run c.loop-run.invariant.prefix (omega (arith, c.loop-run-test.false)) in
    let passed = c.loop-run.invariant.passed in
    omega arith

-- The place of the first run.
use Rattle.std.proofs.Common.{◌≡◌, ◌+◌, ◌∙◌, drop, is_some, sym, ap, arith, true, false}
use Rattle.uv_lint.specs.Located.{file_length, run_of}
use Rattle.uv_lint.specs.LocatedViews.{run_view}
use Rattle.uv_lint.proofs.LocatedLemmas.{after_none, begins_run, is_some-view}
use Rattle.uv_lint.proofs.located.file_length.Goals as goal

pub returns-then-is_some : goal.returns-then-is_some
returns-then-is_some c =
    let is : is_some (run_of c.split_at.result.1.now) ≡ true =
    sym (ap is_some c.run_of.ensures) ∙ is_some-view run_view c.run_of.result ∙ sym c.is_some.ensures
    ∙ c.if-is_some.true in
    let none : file_length (drop c.loop-place.place c.args.line.now) ≡ 0 =
    rw (← c.split_at.ensures.back) (begins_run c.split_at.result.1.now is) in
    let whole = c.loop-place.invariant in
    omega (arith, whole, none)

pub loop-place-preserved : goal.loop-place-preserved
loop-place-preserved c =
    let is : is_some (run_of c.split_at.result.1.now) ≡ false =
    sym (ap is_some c.run_of.ensures) ∙ is_some-view run_view c.run_of.result ∙ sym c.is_some.ensures
    ∙ c.if-is_some.false in
    let more : file_length (drop c.loop-place.place c.args.line.now)
    ≡ file_length (drop (c.loop-place.place + 1) c.args.line.now) + 1 =
    after_none c.args.line.now c.loop-place.place c.loop-place-test.true (rw c.split_at.ensures.back at is) in
    let whole = c.loop-place.invariant in
    let next : file_length c.args.line.now
    ≡ file_length (drop (c.loop-place.place + 1) c.args.line.now) + (c.loop-place.place + 1) =
    omega (arith, whole, more) in
    next

-- The place of the first whole number.
use Rattle.std.proofs.Common.{◌≡◌, ◌∙◌, ap, is_some, sym, true, false}
use Rattle.uv_lint.specs.LocatedFault.{first_number, whole_number}
use Rattle.uv_lint.specs.LocatedViews.{number_view}
use Rattle.uv_lint.proofs.LocatedLemmas.{is_some-view}
use Rattle.uv_lint.proofs.LocatedFaultLemmas.{after_other, begins_number}
use Rattle.uv_lint.proofs.located_fault.first_number.Goals as goal

pub returns-then-is_some : goal.returns-then-is_some
returns-then-is_some c =
    let is : is_some (whole_number c.split_at.result.1.now) ≡ true =
    sym (ap is_some c.whole_number-number.ensures) ∙ is_some-view number_view c.whole_number-number.result
    ∙ sym c.is_some.ensures ∙ c.if-is_some.true in
    c.whole_number-number.ensures ∙ sym (begins_number c.split_at.result.1.now is)
    ∙ ap first_number c.split_at.ensures.back ∙ sym c.loop-place.invariant

pub loop-place-preserved : goal.loop-place-preserved
loop-place-preserved c =
    let is : is_some (whole_number c.split_at.result.1.now) ≡ false =
    sym (ap is_some c.whole_number-number.ensures) ∙ is_some-view number_view c.whole_number-number.result
    ∙ sym c.is_some.ensures ∙ c.if-is_some.false in
    c.loop-place.invariant
    ∙ after_other c.args.line.now c.loop-place.place c.loop-place-test.true (rw c.split_at.ensures.back at is)

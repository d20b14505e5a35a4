-- What is left of a domain after its last full stop.
use Rattle.std.proofs.Common.{◌≡◌, ℕ, ◌-◌, not, length, take, drop, ap, arith, eq-eqb}
use Rattle.std.specs.List.{suffix_len}
use Rattle.std.proofs.lemmas.Bool.{not_from_true}
use Rattle.std.proofs.lemmas.List.{take_rest}
use Rattle.std.proofs.lemmas.List.Sums.{suffix_len-take_no}
use Rattle.idna.specs.Labels.{is_full_stop}
use Rattle.uv_model.proofs.domain.last_label.Goals as goal
use Rattle.uv_model.proofs.domain.last_label.Goals.{then-loop-start-test+else-name-start-ne46, else-loop-start-test}

pub returns : goal.returns
returns c =
    let prefix = c.without_root-name.result.now in
    let start = c.loop-start.start in
    let other = λ (x : ℕ). not (is_full_stop x) in
    let stops : suffix_len other (take start prefix) ≡ 0 =
    elim c.loop-start-test.branch [
      | then-loop-start-test+else-name-start-ne46 w ↦
          suffix_len-take_no other prefix start _ w.loop-start-test.true c.loop-start.invariant.within
          (not_from_true _ (eq-eqb _ 46 w.if-name-start-ne46.false))
      | else-loop-start-test w ↦ let none : start ≡ 0 = omega arith in rw none
    ] in
    let at : start ≡ length prefix - suffix_len other prefix = omega (arith, c.loop-start.invariant.passed) in
    rw (take_rest, ← c.without_root-name.ensures) (ap (λ n. drop n prefix) at)

-- The loop over a domain's last label, from its end.
use Rattle.std.proofs.Common.{◌≡◌, ℕ, Bool, ◌+◌, ◌≤◌, not, length, take}
use Rattle.std.specs.List.{suffix_len}
use Rattle.idna.specs.Labels.{is_full_stop}
use Rattle.uv_model.proofs.domain.last_label.Given as goal

abbrev pub invariant-loop-start : goal.invariant-loop-start
invariant-loop-start l =
    let other : ℕ → Bool = λ c. not (is_full_stop c) in
    record {
      within : l.start ≤ length l.name;
      passed : l.start + suffix_len other l.name ≡ length l.name + suffix_len other (take l.start l.name);
    }

abbrev pub decreases-loop-start : goal.decreases-loop-start
decreases-loop-start l = l.start

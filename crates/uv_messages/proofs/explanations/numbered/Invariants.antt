-- No rule so far has the number, so that the first of the rest that has it is the first of all.
use Rattle.std.proofs.Common.{◌≡◌, drop, find}
use Rattle.uv_messages.specs.Explanations.{has_number}
use Rattle.uv_messages.proofs.explanations.numbered.Given as goal

abbrev pub invariant-loop-rule : goal.invariant-loop-rule
invariant-loop-rule l =
    find (λ rule. has_number rule l.text) (drop l.rule-index l.rules) ≡ find (λ rule. has_number rule l.text) l.rules

-- The prefix of the buffer has the faults so far, and what is left of the text is after the last of them.
use Rattle.std.proofs.Common.{◌≡◌, ℕ, List, IsUtf8, length, map, take, drop}
use Rattle.std.specs.Str.{chars}
use Rattle.uv_model.specs.declared.rule.Refusal.{Refusal}
use Rattle.urlcheck_c.specs.declared.reports.fault_lists.Fault.{Fault}
use Rattle.urlcheck_c.specs.Faults.{fault_of}
use Rattle.urlcheck_c.proofs.buffers.store_all.Given as goal

-- so many faults are written, and the code points before a place are passed
pub record AreWritten (text : List ℕ) (found : List Refusal) (old now : List Fault) (count passed : ℕ)
    (left : List ℕ) : Type 0 where
  pub utf8 : IsUtf8 left
  pub after : chars left ≡ drop passed (chars text)
  pub prefix : take count now ≡ take count (map (fault_of text) found)
  pub rest : drop count now ≡ drop count old
  pub long : length now ≡ length old

abbrev pub invariant-loop-at : goal.invariant-loop-at
invariant-loop-at l = AreWritten l.fn.text l.fn.found l.initial.out l.out l.at l.passed l.left

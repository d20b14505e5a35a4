-- So many code points have been passed as turns are done.
use Rattle.std.proofs.Common.{◌≡◌, ℕ, List, IsUtf8, drop}
use Rattle.std.specs.Str.{chars}
use Rattle.uv_model.proofs.code_points.after_code_points.Given as goal

-- what is left is after so many code points
pub record IsAfter (text : List ℕ) (passed : ℕ) (left : List ℕ) : Type 0 where
  pub utf8 : IsUtf8 left
  pub after : chars left ≡ drop passed (chars text)

abbrev pub invariant-loop : goal.invariant-loop
invariant-loop l = IsAfter l.fn.text l.counter l.left

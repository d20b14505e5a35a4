-- A text that begins so, and has no backslash, has its slashes as they are read.
use Rattle.std.proofs.Common.{chars, sym, ◌∙◌}
use Rattle.uv_mend.proofs.SameLemmas.{slashed-same}
use Rattle.uv_mend.proofs.slashes.is_slashed.Goals as goal

pub returns-then-has_no_backslash : goal.returns-then-has_no_backslash
returns-then-has_no_backslash c = λ is.
    slashed-same c.args.has_scheme (chars c.args.text.now) (sym c.begins_slashed.ensures ∙ is)
    (c.has_no_backslash.ensures c.if-has_no_backslash.true)

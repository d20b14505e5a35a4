-- The last byte decides.
use Rattle.std.proofs.Common.{◌-◌, arith, length}
use Rattle.uv_model.proofs.Paths.SpacedPaths.{ends_with_space-last}
use Rattle.uv_calls.proofs.url_paths.ends_with_space.Goals as goal

pub returns-in-len1-up : goal.returns-in-len1-up
returns-in-len1-up c =
    let text = c.args.text.now in
    let some = c.in-len1-up.len_at_least in
    ends_with_space-last text (length text - 1) (omega arith)

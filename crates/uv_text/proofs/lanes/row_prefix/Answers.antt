-- By its bits the load has the prefix of the bytes.
use Rattle.std.proofs.Common.{take, drop, ◌∙◌}
use Rattle.uv_text.specs.Rows.{is_in_rows}
use Rattle.uv_text.proofs.StopLemmas.{same-prefix}
use Rattle.uv_text.proofs.lanes.row_prefix.Goals as goal

pub returns : goal.returns
returns c =
    c.row_prefix.ensures
    ∙ same-prefix (is_in_rows c.args.rows.now) c.of.result (take 32 (drop c.args.place c.args.bytes.now))
    (c.of.ensures c.args.rows.now)

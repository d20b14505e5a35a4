-- The first bit belongs to the first lane that isn't in the rows, or to the end.
use Rattle.std.proofs.Common.{◌≡◌, ◌∙◌, ap, bit_or, ◌/◌, ◌^◌, w64, length}
use Rattle.std.specs.Int.{trailing_zeros}
use Rattle.std.specs.List.{prefix_len}
use Rattle.uv_text.specs.Rows.{is_in_rows}
use Rattle.uv_text.proofs.StopLemmas.{first-stop}
use Rattle.uv_text.proofs.lanes.Load.row_prefix.Goals as goal

pub returns : goal.returns
returns c =
    let held = is_in_rows c.args.rows.now in
    let lanes = c.self.inside.lanes in
    let before = c.self.inside.before in
    let long : length lanes ≡ 32 = c.self.invariant.0 in
    ap (λ n. trailing_zeros w64 (bit_or n 4294967296 / 2 ^ before)) c.stop_bits-stops.ensures
    ∙ first-stop held before lanes long c.self.invariant.1
    ∙ ap (prefix_len held) c.self.view_is

-- A shift leaves the bits after the first so many.
use Rattle.std.proofs.Common.{◌/◌, ◌^◌, ℕ, List, ap, map, sym, ◌∙◌}
use Rattle.std.specs.List.{drop-map}
use Rattle.std.specs.Simd.Lanes.{mask_l}
use Rattle.uv_text.specs.Rows.{is_in_rows}
use Rattle.uv_text.proofs.MaskLemmas.{mask-drop}
use Rattle.uv_text.proofs.lanes.Load.row_bits.Goals as goal

pub returns : goal.returns
returns c =
    let held = is_in_rows c.args.rows.now in
    let lanes = c.self.inside.lanes in
    let before = c.self.inside.before in
    ap (λ n. n / 2 ^ before) c.lane_bits.ensures
    ∙ sym (mask-drop before (map held lanes))
    ∙ ap mask_l (drop-map held before lanes)
    ∙ ap (λ (l : List ℕ). mask_l (map held l)) c.self.view_is

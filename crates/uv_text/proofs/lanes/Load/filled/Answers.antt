-- What fills the load up is in no rows.
use Rattle.std.proofs.Common.{◌++◌, ℕ, List, drop, replicate, length, map, ap, ◌∙◌}
use Rattle.std.specs.Simd.Lanes.{mask_l}
use Rattle.uv_text.specs.Rows.{is_in_rows}
use Rattle.uv_text.proofs.MaskLemmas.{mask-filled}
use Rattle.uv_text.proofs.RowsLemmas.{no_row}
use Rattle.uv_text.proofs.lanes.Load.filled.Goals as goal

pub returns : goal.returns
returns c = λ rows.
    let bytes = c.args.bytes.now in
    ap (λ (prefix : List ℕ). mask_l (map (is_in_rows rows) (prefix ++ drop (length bytes) (replicate 32 128))))
    c.copy_from_slice.ensures.after
    ∙ mask-filled (is_in_rows rows) 128 32 (length bytes) bytes (no_row rows)

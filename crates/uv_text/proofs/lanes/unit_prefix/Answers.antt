-- The first bit that isn't set is the first byte that begins no unit.
use Rattle.std.proofs.Common.{take, drop, ◌∙◌, arith}
use Rattle.std.proofs.lemmas.List.{length-take}
use Rattle.uv_text.specs.declared.lanes.TheConstants.{HEX_ROWS, PERCENT_ROWS}
use Rattle.uv_text.proofs.UnitBitsLemmas.{taken_fits, unit_bits-rows}
use Rattle.uv_text.proofs.lanes.unit_prefix.Goals as goal

pub returns : goal.returns
returns c =
    let rest = drop c.args.place c.args.bytes.now in
    let few = length-take 32 rest in
    c.trailing_ones.ensures
    ∙ rw (
      c.row_bits-held.ensures ∙ c.of-load.ensures c.args.rows.now,
      c.row_bits-percents.ensures ∙ c.of-load.ensures PERCENT_ROWS,
      c.row_bits-digits.ensures ∙ c.of-load.ensures HEX_ROWS,
    )
    (unit_bits-rows c.args.rows.now (take 32 rest) (omega arith)
    (taken_fits 32 c.args.place c.args.bytes.now c.type_inv.bytes))

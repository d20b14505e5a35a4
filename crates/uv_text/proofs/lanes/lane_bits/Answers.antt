-- A bit where the row of the low half has the bit of the high half.
use Rattle.std.proofs.Common.{eqb, not}
use Rattle.uv_text.specs.Rows.{row_bit}
use Rattle.uv_text.proofs.LookupLemmas.{tested_is}
use Rattle.uv_text.proofs.lanes.lane_bits.Goals as goal

pub returns : goal.returns
returns c =
    tested_is (λ a b. not (eqb a b)) (row_bit c.args.rows.now) c.args.v _ c.fits-v.0 c.row_bit_of.ensures

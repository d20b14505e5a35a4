-- The bit of each lane in its row.
use Rattle.std.proofs.Common.{bit_and}
use Rattle.std.proofs.lemmas.Simd.{zip2_of_maps}
use Rattle.uv_text.specs.Rows.{high_bit, row_at}
use Rattle.uv_text.proofs.lanes.row_bit_of.Goals as goal

pub returns : goal.returns
returns c = zip2_of_maps bit_and (row_at c.args.rows.now) high_bit c.args.v c.rows_of.ensures c.bits_of.ensures

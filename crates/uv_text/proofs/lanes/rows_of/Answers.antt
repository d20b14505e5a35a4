-- The rows of the low halves.
use Rattle.std.proofs.Common.{bit_and, arith}
use Rattle.std.proofs.lemmas.Nat.{and_le_r}
use Rattle.std.proofs.lemmas.Simd.{zip2_splat}
use Rattle.uv_text.proofs.LookupLemmas.{low_ok, looked_up}
use Rattle.uv_text.proofs.lanes.rows_of.Goals as goal

pub swizzle : goal.swizzle
swizzle c = low_ok c.args.v c.fits-v

pub returns : goal.returns
returns c =
    let v = c.args.v in
    looked_up c.args.rows.now c.twice.result (λ x. bit_and x 15) v _ c.twice.ensures c.fits-v
    (zip2_splat bit_and v 32 15 c.fits-v.0) (λ x h. omega (arith, and_le_r x 15))

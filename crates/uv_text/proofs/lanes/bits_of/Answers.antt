-- The bits of the high halves.
use Rattle.std.proofs.Common.{◌/◌, arith}
use Rattle.std.proofs.lemmas.Simd.{zip2_splat}
use Rattle.uv_text.specs.declared.lanes.TheConstants.{HIGH_BITS}
use Rattle.uv_text.proofs.LookupLemmas.{down, high_ok, looked_up}
use Rattle.uv_text.proofs.lanes.bits_of.Goals as goal

pub swizzle : goal.swizzle
swizzle c = high_ok c.args.v c.fits-v

pub returns : goal.returns
returns c =
    let v = c.args.v in
    looked_up HIGH_BITS c.twice.result (λ x. x / 16) v _ c.twice.ensures c.fits-v (zip2_splat down v 32 4 c.fits-v.0)
    (λ x h. omega arith)

-- A bit where the row of the low half doesn't have the bit of the high half.
use Rattle.std.proofs.Common.{◌≡◌, ◌∙◌, Bool, true, false, eqb, map, not, refl}
use Rattle.std.specs.Simd.Lanes.{mask_l}
use Rattle.uv_text.specs.Rows.{row_bit}
use Rattle.uv_text.proofs.LookupLemmas.{tested_is}
use Rattle.uv_text.proofs.lanes.stop_bits.Goals as goal

-- what isn't refused is so
held : (m : Bool) → m ≡ not (not m)
held true = refl
held false = refl

pub returns : goal.returns
returns c =
    tested_is eqb (row_bit c.args.rows.now) c.args.v _ c.fits-v.0 c.row_bit_of.ensures
    ∙ (λ i. mask_l (map (λ b. held (eqb (row_bit c.args.rows.now b) 0) i) c.args.v))

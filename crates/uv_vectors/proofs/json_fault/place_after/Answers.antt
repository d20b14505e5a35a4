-- No byte came yet.
use Rattle.std.proofs.Common.{refl, arith}
use Rattle.uv_vectors.proofs.json_fault.place_after.Goals as goal

pub loop-byte-init : goal.loop-byte-init
loop-byte-init c = record { after = refl; line = omega arith; column = omega arith }

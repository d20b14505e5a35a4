-- A piece taken joins those before it.
use Rattle.std.proofs.Common.{arith}
use Rattle.std.proofs.lemmas.Grind.{common_steps}
use Rattle.std.proofs.KnownBytes.{Appends-trans}
use Rattle.std.proofs.Math.Seq.{take-add}
use Rattle.uv_io.proofs.stream.write_whole.Goals as goal

pub loop-at-preserved : goal.loop-at-preserved
loop-at-preserved g c =
    let taken = c.in-Ok.ensures in
    let before = c.loop-at.invariant in
    record {
      within = grind (arith, common_steps);
      written =
          rw (take-add c.loop-at.at c.in-Ok.taken c.args.piece.now)
          (Appends-trans _ _ _ _ _ before.written (grind (arith, common_steps)));
      quiet = grind (arith, common_steps);
    }

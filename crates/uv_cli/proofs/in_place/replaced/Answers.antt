-- The filter of the lines was stopped.
use Rattle.std.proofs.Common.{inl}
use Rattle.uv_cli.proofs.in_place.replaced.Goals as goal

pub returns-in-Err : goal.returns-in-Err
returns-in-Err g c = (
  g.S.File.Write.contents c.written_mended-written.result.0,
  inl (rw c.in-Err.is at c.written_mended-written.ensures.stopped),
)

-- What is before a run is within the line.
use Rattle.uv_lint.proofs.LocatedLemmas.{file_length-le}
use Rattle.uv_lint.proofs.located_fault.located_fault.Goals as goal

pub split_at-requires : goal.split_at-requires
split_at-requires c = rw c.file_length.ensures (file_length-le c.args.line.now)

-- The pieces taken so far are a prefix of the whole, and no write has failed.
use Rattle.std.proofs.Common.{◌≡◌, ◌≤◌, ◌-◌, length, take}
use Rattle.std.specs.Io.KnownBytes.{Appends}
use Rattle.uv_io.proofs.stream.write_whole.Given as goal

abbrev pub invariant-loop-at : goal.invariant-loop-at
invariant-loop-at g l = record {
  within : l.at ≤ length l.piece;
  written : Appends (g.S.Sink.contents l.initial.out) (g.S.Sink.contents l.out) (take l.at l.piece);
  quiet : g.S.Sink.failed l.out ≡ g.S.Sink.failed l.initial.out;
}

abbrev pub decreases-loop-at : goal.decreases-loop-at
decreases-loop-at g l = length l.piece - l.at

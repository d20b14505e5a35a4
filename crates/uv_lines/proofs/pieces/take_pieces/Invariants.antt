-- What was read is taken, and nothing waits to be written.
use Rattle.std.proofs.Common.{◌≡◌, ◌≤◌, ◌<◌, ℕ, List, length}
use Rattle.std.specs.Io.KnownBytes.{Consumes}
use Rattle.uv_lines.proofs.pieces.take_pieces.Given as goal

abbrev pub invariant-loop-turn : goal.invariant-loop-turn
invariant-loop-turn g l = record {
  room : 0 < length l.piece;
  stands : (read : List ℕ) × Consumes (g.R.Source.remaining l.initial.reader) (g.R.Source.remaining l.reader) read
      × g.T.Taker.stands l.initial.taker (g.W.Sink.contents l.initial.writer) read l.taker
      (g.W.Sink.contents l.writer) × (l._turn ≤ length read);
  rests : g.T.Taker.rests l.taker;
  reads : g.R.Source.failed l.reader ≡ g.R.Source.failed l.initial.reader;
  writes : g.W.Sink.failed l.writer ≡ g.W.Sink.failed l.initial.writer;
}

-- The lines before `start` are taken, and what is known to be text begins there.
use denote.Shadow.{shadow}
use denote.Text.{Utf8}
use Rattle.std.proofs.Common.{◌≡◌, ◌≤◌, ◌-◌, drop, length, take}
use Rattle.uv_lines.specs.Taking.{Keeps}
use Rattle.uv_lines.proofs.pieces.take_piece.Given as goal

abbrev pub invariant-loop-length : goal.invariant-loop-length
invariant-loop-length g l = record {
  within : l.start ≤ length l.piece;
  is_text : shadow (Utf8 l.text);
  known : l.text ≡ take (length l.text) (drop l.start l.piece);
  quiet : g.W.Sink.failed l.writer ≡ g.W.Sink.failed l.initial.writer;
  keeps : Keeps g.T.Taker.stands l.initial.taker (g.W.Sink.contents l.initial.writer) (take l.start l.piece) l.taker
      (g.W.Sink.contents l.writer);
}

abbrev pub decreases-loop-length : goal.decreases-loop-length
decreases-loop-length g l = length l.piece - l.start

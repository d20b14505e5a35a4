-- The parts so far were said: a beginning of them was written, and the rest waits.
use Rattle.std.proofs.Common.{◌≡◌, ℕ, List, ◌++◌}
use Rattle.uv_lines.specs.Waiting.{Passes}
use Rattle.test_lists.proofs.lines.parts.say_parts.Given as goal

abbrev pub invariant-loop-part : goal.invariant-loop-part
invariant-loop-part g l = record {
  said : (said : List ℕ) × Passes (l.initial.text.items ++ said) (g.W.Sink.contents l.initial.writer)
      (g.W.Sink.contents l.writer) l.text.items;
  quiet : g.W.Sink.failed l.writer ≡ g.W.Sink.failed l.initial.writer;
}

-- What is left of the text is after so many code points, and no violation is before it.
use Rattle.std.proofs.Common.{length}
use Rattle.std.specs.Str.{IsUtf8, chars}
use Rattle.uv_grammar.proofs.SpacedPathLemmas.{SpacedOn}
use Rattle.uv_grammar.proofs.parser_paths.first_spaced_fault.Given as goal

abbrev pub invariant-loop-refusal : goal.invariant-loop-refusal
invariant-loop-refusal l = IsUtf8 l.left × SpacedOn l.followed (chars l.fn.text) l.here (chars l.left)

abbrev pub decreases-loop-refusal : goal.decreases-loop-refusal
decreases-loop-refusal l = length (chars l.left)

-- So many spaces were counted, and the spaces of what is left come to them.
use Rattle.std.proofs.Common.{◌≡◌, ◌+◌, length}
use Rattle.std.specs.List.{prefix_len}
use Rattle.std.specs.Str.{IsUtf8, chars}
use Rattle.uv_grammar.specs.SpacedPaths.{is_space}
use Rattle.uv_grammar.proofs.parser_paths.count_spaces.Given as goal

abbrev pub invariant-loop-c : goal.invariant-loop-c
invariant-loop-c l =
    IsUtf8 l.left × (prefix_len is_space (chars l.fn.text) ≡ l.count + prefix_len is_space (chars l.left))
    × (length (chars l.fn.text) ≡ l.count + length (chars l.left))

abbrev pub decreases-loop-c : goal.decreases-loop-c
decreases-loop-c l = length (chars l.left)

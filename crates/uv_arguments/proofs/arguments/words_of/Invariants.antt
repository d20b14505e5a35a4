-- The words so far.
use Rattle.std.proofs.Common.{◌≡◌, length, map, string_bytes}
use Rattle.uv_arguments.proofs.ArgumentLemmas.{AreFirstWords}
use Rattle.uv_arguments.proofs.arguments.words_of.Given as goal

abbrev pub invariant-loop-number : goal.invariant-loop-number
invariant-loop-number g l =
    (length (map string_bytes l.words.items) ≡ l.number)
    × AreFirstWords (g.A.Arguments.gives l.arguments) (map string_bytes l.words.items)

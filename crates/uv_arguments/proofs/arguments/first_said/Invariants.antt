-- The message about the first of the rest is the message about the first of all.
use Rattle.std.proofs.Common.{◌≡◌, drop, map, string_bytes}
use Rattle.uv_arguments.specs.Arguments.{first_said}
use Rattle.uv_arguments.proofs.arguments.first_said.Given as goal

abbrev pub invariant-loop-text : goal.invariant-loop-text
invariant-loop-text l =
    first_said (map string_bytes (drop l.text-index l.texts)) ≡ first_said (map string_bytes l.texts)

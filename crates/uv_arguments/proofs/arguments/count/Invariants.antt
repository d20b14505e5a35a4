-- How many of the texts so far are marked: no more than they are.
use Rattle.std.proofs.Common.{◌≡◌, ◌≤◌, map, take, string_bytes}
use Rattle.uv_arguments.specs.Arguments.{count_marked}
use Rattle.uv_arguments.proofs.arguments.count.Given as goal

abbrev pub invariant-loop-text : goal.invariant-loop-text
invariant-loop-text l = record {
  counted : l.count ≡ count_marked (map string_bytes (take l.text-index l.texts));
  within : l.count ≤ l.text-index;
}

-- The code points so far are with their escapes.
use Rattle.std.proofs.Common.{◌≡◌, ◌++◌, flat_map, string_bytes}
use Rattle.uv_shown.specs.Escaping.Escapes.{escape}
use Rattle.uv_shown.proofs.escaping.escapes.push_escaped.Given as goal

abbrev pub invariant-loop-c : goal.invariant-loop-c
invariant-loop-c l = string_bytes l.text ≡ string_bytes l.initial.text ++ flat_map (escape l.escapes) l.yielded

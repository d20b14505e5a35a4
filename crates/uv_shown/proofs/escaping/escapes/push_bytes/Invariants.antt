-- The escapes of the bytes so far were pushed.
use Rattle.std.proofs.Common.{◌≡◌, ◌++◌, drop, string_bytes}
use Rattle.std.specs.List.{flat_map}
use Rattle.percent_encoding.specs.Percent.{percent_encode_byte}
use Rattle.uv_shown.proofs.escaping.escapes.push_bytes.Given as goal

abbrev pub invariant-loop-byte : goal.invariant-loop-byte
invariant-loop-byte l =
    string_bytes l.text ++ flat_map percent_encode_byte (drop l.byte-index l.bytes)
    ≡ string_bytes l.initial.text ++ flat_map percent_encode_byte l.bytes

-- The kinds of the bytes so far.
use Rattle.std.proofs.Common.{◌≡◌, ℕ, ◌==◌, bit_and, take}
use Rattle.std.specs.List.{list_all}
use Rattle.uv_host.specs.NameKinds.{is_of_none}
use Rattle.uv_host.proofs.names.kinds_of.Given as goal

abbrev pub invariant-loop-byte : goal.invariant-loop-byte
invariant-loop-byte l =
    (kinds : ℕ) → (bit_and l.seen kinds == 0) ≡ list_all (is_of_none kinds) (take l.byte-index l.bytes)

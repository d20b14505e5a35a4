-- The bytes so far, and those that are left.
use Rattle.std.proofs.Common.{◌≡◌, ◌==◌, ◌&&◌, drop}
use Rattle.std.specs.List.{list_all}
use Rattle.uv_shown.specs.Escaping.Printable.{is_printable}
use Rattle.uv_shown.proofs.escaping.printable.is_printable_text.Given as goal

abbrev pub invariant-loop-byte : goal.invariant-loop-byte
invariant-loop-byte l =
    ((l.seen == 0) && list_all is_printable (drop l.byte-index l.bytes)) ≡ list_all is_printable l.bytes

-- The groups of the pieces so far are after what the text began with, and take five bytes each at most.
use Rattle.std.proofs.Common.{◌≡◌, ◌+◌, ◌*◌, ◌≤◌, ◌++◌, length, take}
use Rattle.uv_model.specs.Records.AddressText.{later_groups}
use Rattle.uv_model.proofs.address_text.push_later_groups.Given as goal

abbrev pub invariant-loop-piece : goal.invariant-loop-piece
invariant-loop-piece l =
    (l.text.bytes ≡ l.fn.text.bytes ++ later_groups (take l.piece-index l.pieces))
    × (length l.text.bytes ≤ length l.fn.text.bytes + 5 * l.piece-index)

-- The pieces so far are written.
use Rattle.std.proofs.Common.{◌≡◌, ◌++◌, flat_map, take}
use Rattle.uv_report.specs.Pieces.{piece_tokens}
use Rattle.uv_report.proofs.json_text.JsonText.write.Given as goal

abbrev pub invariant-loop-piece : goal.invariant-loop-piece
invariant-loop-piece l =
    l.self ≡ l.initial.self ++ flat_map piece_tokens (take l.piece-index l.pieces)

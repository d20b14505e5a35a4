-- What is after an LF of a text begins with a character.
use Rattle.std.proofs.lemmas.Str.{IsCharBoundary-after_ascii}
use Rattle.std.proofs.Common.{◌+◌, arith}
use Rattle.uv_lines.proofs.line.text_after.Goals as goal

pub range_from-requires : goal.range_from-requires
range_from-requires c =
    let feed = c.requires c.if-end-text.true in
    λ _. IsCharBoundary-after_ascii c.args.text.now c.args.end c.utf8.text c.if-end-text.true
    (rw feed (omega arith))

-- The longest beginning in UTF-8 is within the bytes.
use Rattle.std.proofs.Common.{sym}
use Rattle.std.proofs.lemmas.List.{length-take-le}
use Rattle.std.proofs.lemmas.Str.{utf8_valid_len_le}
use Rattle.uv_lint.proofs.line_violations.not_utf8.Goals as goal

pub slice_bounds-points_of-end : goal.slice_bounds-points_of-end
slice_bounds-points_of-end c =
    sym (length-take-le c.args.valid c.args.bytes.now
    (rw c.requires.longest (utf8_valid_len_le c.args.bytes.now)))

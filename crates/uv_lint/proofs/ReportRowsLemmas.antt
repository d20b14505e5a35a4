-- The rows of lists that are written out, by computation.
use Rattle.std.proofs.Common.{refl}
use Rattle.std.specs.Char.{encode_utf8}
use Rattle.std.specs.Str.{chars, is_utf8}
use Rattle.std.specs.Str.Lossy.{utf8_error_len, utf8_lossy, utf8_valid_len}
use Rattle.uv_lint.specs.ReportRows.{LintRows}

-- the rows hold, each by computation
pub lint_rows : LintRows
unfolding chars is_utf8 utf8_lossy utf8_valid_len utf8_error_len encode_utf8
lint_rows = record {
  counts = refl;
  still_first = refl;
  no_more = refl;
  marked = refl;
  mark_alone = refl;
  mark_counted = refl;
  shown_lines = refl;
}

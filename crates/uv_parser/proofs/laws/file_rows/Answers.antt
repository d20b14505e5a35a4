-- The tables of the file rows.
use Rattle.uv_parser.proofs.Rows.File.{file_rows_hold}
use Rattle.uv_parser.proofs.laws.file_rows.Goals as goal

pub returns : goal.returns
returns c = file_rows_hold

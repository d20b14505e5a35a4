-- The rows of specs/Rows/Denotation hold, by computation.
use Rattle.std.specs.Prelude.{refl}
use Rattle.uv_parser.specs.Rows.Denotation.{DenotationRows, readings, expected, authority_readings, path_readings}
use Rattle.uv_parser.specs.Rows.Denotation.{reference_readings, empty_readings, shortened_here, shortened_there}
use Rattle.uv_parser.specs.Rows.Denotation.{shortened_paths, walked_here, walked_there, walked_paths}
use Rattle.uv_parser.proofs.Rows.Computing.{parser}
use Rattle.uv_parser.proofs.Rows.RowsLemmas.{agree}

-- what the parts of the texts denote, by computation
pub denotation_rows_hold : DenotationRows
unfolding parser
denotation_rows_hold = (
  agree readings expected authority_readings refl,
  agree readings expected path_readings refl,
  agree readings expected reference_readings refl,
  agree readings expected empty_readings refl,
  agree shortened_here shortened_there shortened_paths refl,
  agree walked_here walked_there walked_paths refl,
)

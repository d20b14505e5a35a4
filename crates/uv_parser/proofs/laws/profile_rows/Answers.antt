-- The rows of both profiles.
use Rattle.uv_parser.proofs.Rows.Profiles.{profile_rows_hold}
use Rattle.uv_parser.proofs.laws.profile_rows.Goals as goal

pub returns : goal.returns
returns c = profile_rows_hold

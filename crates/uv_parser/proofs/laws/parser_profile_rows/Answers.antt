-- The tables of the parser's profile.
use Rattle.uv_parser.proofs.Rows.ParserProfile.{parser_profile_rows_hold}
use Rattle.uv_parser.proofs.laws.parser_profile_rows.Goals as goal

pub returns : goal.returns
returns c = parser_profile_rows_hold

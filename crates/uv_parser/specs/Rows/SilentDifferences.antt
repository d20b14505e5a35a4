-- The differences of texts that are written out, each by its name: on each of these texts the URL parser (URL Standard,
-- section 4.4) is silent, and none of them is a valid URL string (section 4.3).
use Rattle.std.specs.Prelude.{List, [], ◌∷◌, Option}
use Rattle.uv_model.specs.declared.profile.Profile.TheVariants.{Standard, Parser}
use Rattle.uv_model.specs.Parts.{Parts}
use Rattle.uv_parser.specs.Rows.{Row}
use Rattle.uv_parser.specs.Rows.ParserProfile.{file_rows, host_rows, domain_rows, number_rows, segment_rows}
use Rattle.uv_parser.specs.Rows.ParserProfile.{drive_rows, fewer_rows, space_rows}
use Rattle.uv_parser.specs.Laws.Differences.{HasDriveAfterHost, HasEmptyAuthority, HasEmptyFirstSegment}
use Rattle.uv_parser.specs.Laws.Differences.{HasForeignHost, HasSpaceInPath}
use Rattle.uv_model.specs.Records.Url.{Url}
use Rattle.uv_model.specs.Valid.{Valid}

-- The parser is silent on the row's text, whose parts have the difference, and which has no valid parts.
pub record DiffersSilently (difference : Option Url → Parts → Type 0) (row : Row) : Type 0 where
  pub parts : Parts
  pub silent : Valid Parser row.base row.text parts
  pub differs : difference row.base parts
  pub refused : (other : Parts) → ¬ (Valid Standard row.base row.text other)

-- each row of the table has the difference
abbrev pub AllDiffer : (Option Url → Parts → Type 0) → List Row → Type 0
AllDiffer difference [] = Unit {0}
AllDiffer difference (row ∷ rows) = DiffersSilently difference row × AllDiffer difference rows

-- the texts on which the parser is silent, although they are refused, by their difference
pub record SilentDifferenceRows : Type 0 where
  pub empty_authority : AllDiffer HasEmptyAuthority file_rows
  pub foreign_code_point : AllDiffer HasForeignHost host_rows
  pub strict_or_lengths : AllDiffer HasForeignHost domain_rows
  pub mapped_address : AllDiffer HasForeignHost number_rows
  pub empty_first_segment : AllDiffer (λ base. HasEmptyFirstSegment) segment_rows
  pub drive_after_host : AllDiffer HasDriveAfterHost drive_rows
  pub fewer_numbers : AllDiffer HasForeignHost fewer_rows
  pub space_in_path : AllDiffer (λ base. HasSpaceInPath) space_rows

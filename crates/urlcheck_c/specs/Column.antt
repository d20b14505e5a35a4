-- The column of a place of a text, by numbers.
use Rattle.std.specs.Prelude.{◌≡◌, ℕ, ◌⊎◌, ◌≤◌, ◌<◌, List, length, Some, None, IsUtf8}
use Rattle.std.specs.Str.{chars}
use Rattle.uv_report.specs.declared.places.column.Columns.{Columns}
use Rattle.uv_report.specs.Places.Column.{column_at}
use Rattle.urlcheck_c.specs.declared.columns.Counted.{Counted}
use Rattle.urlcheck_c.specs.declared.finding.Finding.{Finding}
use Rattle.urlcheck_c.specs.declared.finding.CallOutcome.TheVariants.{Done, NoUtf8, NoUnit, NoColumn, NoPlace}
use Rattle.urlcheck_c.specs.Finding.{plain_finding}
use Rattle.urlcheck_c.specs.ReportNumbers.{unit_of}
use Rattle.urlcheck_c.specs.Request.{IsNoText}

-- a line or a column is from 1 to 2^32 - 1
abbrev pub IsInRange : ℕ → Type 0
IsInRange number = (0 < number) × (number ≤ 4294967295)

-- there is no column, since this was found
abbrev pub uncounted : Finding → Counted
uncounted found = record { found = found; column = 0 }

-- what the column of the place is, in the unit
pub record IsCounted (bytes : List ℕ) (unit start place : ℕ) (answer : Counted) : Type 0 where
  pub columns : Columns
  pub unit_is : unit_of unit ≡ Some columns
  pub utf8 : IsUtf8 bytes
  pub start_is : IsInRange start
  pub within : place ≤ length (chars bytes)
  pub found : answer.found ≡ plain_finding Done
  pub column : answer.column ≡ column_at columns start bytes place

-- The text isn't UTF-8, no unit has the number, the column that it begins in is out of range, or the place is after its
-- end; otherwise the column is told.
abbrev pub IsColumnAnswer : List ℕ → ℕ → ℕ → ℕ → Counted → Type 0
IsColumnAnswer bytes unit start place answer =
    ((finding : Finding) × IsNoText NoUtf8 bytes finding × (answer ≡ uncounted finding))
    ⊎ (((unit_of unit ≡ None) × (answer ≡ uncounted (plain_finding NoUnit)))
    ⊎ ((¬ (IsInRange start) × (answer ≡ uncounted (plain_finding NoColumn)))
    ⊎ (((length (chars bytes) < place) × (answer ≡ uncounted (plain_finding NoPlace)))
    ⊎ IsCounted bytes unit start place answer)))

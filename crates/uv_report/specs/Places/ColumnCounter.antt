-- What tells the columns of the places of a text, and how far it has come.
use Rattle.std.specs.Prelude.{◌≡◌, ℕ, List, drop}
use Rattle.std.specs.Str.{chars}
use Rattle.uv_report.specs.declared.places.column.Columns.{Columns}
use Rattle.uv_report.specs.declared.places.column_counter.Mark.{Mark}
use Rattle.uv_report.specs.Places.Column.{column_at}

-- a text whose columns are told, by the unit and the column in which it begins
pub record Counted : Type 0 where
  pub columns : Columns
  pub start : ℕ
  pub text : List ℕ

-- the mark belongs to its place
pub record IsMark (columns : Columns) (start : ℕ) (text : List ℕ) (mark : Mark) : Type 0 where
  pub column : mark.column ≡ column_at columns start text mark.place
  pub rest : chars mark.rest.now ≡ drop mark.place (chars text)

-- the mark and its column belong to its place
pub record Tells (columns : Columns) (start : ℕ) (text : List ℕ) (place : ℕ) (mark : Mark) : Type 0 where
  pub is_mark : IsMark columns start text mark
  pub column : mark.column ≡ column_at columns start text place

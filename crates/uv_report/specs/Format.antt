-- The formats by their names, the columns that they take, and which of them say what to write in place of a text.
use Rattle.std.specs.Prelude.{ℕ, Bool, true, false, List, [], ◌∷◌, codes, Option, find}
use Rattle.std.specs.Str.{bytes_eq}
use Rattle.uv_report.specs.declared.places.column.Columns.{Columns}
use Rattle.uv_report.specs.declared.places.column.Columns.TheVariants.{CodePoints, Bytes, Utf16}
use Rattle.uv_report.specs.declared.format.Format.{Format}
use Rattle.uv_report.specs.declared.format.Format.TheVariants.{Gnu, Caret, Json, Github, Sarif, Checkstyle}
use Rattle.uv_report.specs.declared.format.Format.TheVariants.{Junit, Gitlab, Rdjson}

-- the name of a format
abbrev pub format_name : Format → List ℕ
format_name Gnu = codes "gnu"
format_name Caret = codes "caret"
format_name Json = codes "json"
format_name Github = codes "github"
format_name Sarif = codes "sarif"
format_name Checkstyle = codes "checkstyle"
format_name Junit = codes "junit"
format_name Gitlab = codes "gitlab"
format_name Rdjson = codes "rdjson"

-- all of them
abbrev pub formats : List Format
formats = Gnu ∷ Caret ∷ Json ∷ Github ∷ Sarif ∷ Checkstyle ∷ Junit ∷ Gitlab ∷ Rdjson ∷ []

-- the format with a name, where there is one
abbrev pub named_format : List ℕ → Option Format
named_format name = find (λ format. bytes_eq name (format_name format)) formats

-- the format takes columns that count this: SARIF has words only for code points and for code units of UTF-16 (SARIF
-- 2.1.0, section 3.14), the columns of reviewdog are bytes (Reviewdog Diagnostic Format, Position), and the others
-- leave it open
abbrev pub takes_columns : Format → Columns → Bool
takes_columns Sarif CodePoints = true
takes_columns Sarif Utf16 = true
takes_columns Sarif _ = false
takes_columns Rdjson Bytes = true
takes_columns Rdjson _ = false
takes_columns _ columns = true

-- what columns count if nothing else is said
abbrev pub own_columns : Format → Columns
own_columns Rdjson = Bytes
own_columns _ = CodePoints

-- a diagnostic says in this format what to write in place of its text
abbrev pub shows_mended : Format → Bool
shows_mended Gnu = false
shows_mended Caret = true
shows_mended Json = true
shows_mended Github = false
shows_mended Sarif = true
shows_mended Checkstyle = false
shows_mended Junit = false
shows_mended Gitlab = false
shows_mended Rdjson = true

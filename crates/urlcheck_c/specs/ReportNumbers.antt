-- What reports name by a number.
use Rattle.std.specs.Prelude.{ℕ, ◌==◌, if◌then◌else◌, Option, Some, None, option_map}
use Rattle.uv_model.specs.declared.mend_kind.MendKind.{MendKind}
use Rattle.uv_model.specs.declared.mend_kind.MendKind.TheVariants.{Same, Escaped, Changed}
use Rattle.uv_model.specs.declared.rule.Rule.{Rule}
use Rattle.uv_report.specs.declared.places.column.Columns.{Columns}
use Rattle.uv_report.specs.declared.places.column.Columns.TheVariants.{CodePoints, Bytes, Utf16, Screen}
use Rattle.uv_report.specs.declared.completion.Completion.{Completion}
use Rattle.uv_report.specs.declared.completion.Completion.TheVariants.{Whole, Unread, Stopped}
use Rattle.uv_report.specs.declared.format.Format.{Format}
use Rattle.uv_report.specs.declared.format.Format.TheVariants.{Gnu, Caret, Json, Github, Sarif, Checkstyle}
use Rattle.uv_report.specs.declared.format.Format.TheVariants.{Junit, Gitlab, Rdjson}
use Rattle.uv_report.specs.declared.look.Look.{Look}
use Rattle.uv_report.specs.declared.look.Look.TheVariants.{Plain, Coloured}
use Rattle.uv_rules.specs.declared.line_violation.LineViolation.{LineViolation}
use Rattle.uv_rules.specs.declared.line_violation.LineViolation.TheVariants.{Refused, NotUtf8, TooLong, NotLocated}
use Rattle.uv_rules.specs.declared.located_fault.LocatedFault.TheVariants.{NoFile, NoLine, LineRange, NoColumn}
use Rattle.uv_rules.specs.declared.located_fault.LocatedFault.TheVariants.{ColumnRange, NoLink}
use Rattle.urlcheck_c.specs.Names.{rule_with_number}

-- the format with a number
abbrev pub format_of : ℕ → Option Format
format_of number =
    if number == 0 then Some Gnu
    else (if number == 1 then Some Caret
    else (if number == 2 then Some Json
    else (if number == 3 then Some Github
    else (if number == 4 then Some Sarif
    else (if number == 5 then Some Checkstyle
    else (if number == 6 then Some Junit
    else (if number == 7 then Some Gitlab else (if number == 8 then Some Rdjson else None))))))))

-- the unit of columns with a number
abbrev pub unit_of : ℕ → Option Columns
unit_of number =
    if number == 0 then Some CodePoints
    else (if number == 1 then Some Bytes
    else (if number == 2 then Some Utf16 else (if number == 3 then Some Screen else None)))

-- the look by whether there are to be colours: not 0 for yes
abbrev pub look_of : ℕ → Look
look_of is_coloured = if is_coloured == 0 then Plain else Coloured

-- the completion with a number
abbrev pub completion_of : ℕ → Option Completion
completion_of number =
    if number == 0 then Some Whole
    else (if number == 1 then Some Unread else (if number == 2 then Some Stopped else None))

-- the kind of mended text with a number
abbrev pub kind_of : ℕ → Option MendKind
kind_of number =
    if number == 1 then Some Same
    else (if number == 2 then Some Escaped else (if number == 3 then Some Changed else None))

-- a rule is violated at a place
abbrev pub refused_at : ℕ → Rule → LineViolation
refused_at place rule = Refused (record { place = place; rule = rule })

-- the refusal at a place by the rule with a number
abbrev pub refusal_of : ℕ → ℕ → Option LineViolation
refusal_of number place = option_map (refused_at place) (rule_with_number number)

-- why a line isn't located, by a number, or the refusal at a place
abbrev pub located_or_refused : ℕ → ℕ → Option LineViolation
located_or_refused number place =
    if number == 103 then Some (NotLocated NoFile)
    else (if number == 104 then Some (NotLocated NoLine)
    else (if number == 105 then Some (NotLocated LineRange)
    else (if number == 106 then Some (NotLocated NoColumn)
    else (if number == 107 then Some (NotLocated ColumnRange)
    else (if number == 108 then Some (NotLocated NoLink) else refusal_of number place)))))

-- what is wrong at a place, by the number of a rule of texts or of lines
abbrev pub violation_of : ℕ → ℕ → Option LineViolation
violation_of number place =
    if number == 101 then Some (NotUtf8 place)
    else (if number == 102 then Some TooLong else located_or_refused number place)

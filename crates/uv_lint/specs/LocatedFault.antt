-- Why a line doesn't say where its link is, as `FILE:LINE:COLUMN:LINK` does.
use Rattle.std.specs.Prelude.{ℕ, ◌==◌, Bool, true, List, [], ◌∷◌, Option, Some, None, drop, if◌then◌else◌, is_none}
use Rattle.std.specs.Prelude.{is_some, take}
use Rattle.std.specs.Option.{option_and_then}
use Rattle.uv_rules.specs.declared.located_fault.LocatedFault.{LocatedFault}
use Rattle.uv_rules.specs.declared.located_fault.LocatedFault.TheVariants.{NoFile, NoLine, LineRange, NoColumn}
use Rattle.uv_rules.specs.declared.located_fault.LocatedFault.TheVariants.{ColumnRange, NoLink}
use Rattle.uv_lint.specs.Located.{Number, Run, file_length, number_of, run_of}

-- ---- a run that says no place

-- FILE is empty; otherwise LINE is out of range, or otherwise COLUMN is
abbrev pub run_fault : List ℕ → Run → LocatedFault
run_fault [] run = NoFile
run_fault (b ∷ rest) run = if is_none run.line then LineRange else ColumnRange

-- ---- a line without a run

-- nothing follows a number, or a colon
abbrev pub ends_number : List ℕ → Bool
ends_number [] = true
ends_number (b ∷ rest) = b == 0x3A

-- the number after the colon that a text begins with, where a colon follows it or nothing does
abbrev pub whole_number : List ℕ → Option Number
whole_number text =
    option_and_then (λ number. if ends_number number.rest then Some number else None) (number_of text)

-- the first such number of a text
abbrev pub first_number : List ℕ → Option Number
first_number [] = None
first_number (b ∷ rest) = if is_some (whole_number (b ∷ rest)) then whole_number (b ∷ rest) else first_number rest

-- What is missing in a line without a run, whose LINE is the first such number: LINE, where there is none; COLUMN, if
-- no such number follows it; otherwise LINK.
abbrev pub number_fault : Option Number → LocatedFault
number_fault None = NoLine
number_fault (Some line) = if is_some (whole_number line.rest) then NoLink else NoColumn

-- ---- the line

-- why a line isn't of the form: by its run after this FILE, where it has one, or by its first number
abbrev pub fault_by : List ℕ → List ℕ → Option Run → LocatedFault
fault_by line file (Some run) = run_fault file run
fault_by line file None = number_fault (first_number line)

-- why a line that isn't of the form isn't one
abbrev pub located_fault : List ℕ → LocatedFault
located_fault line = fault_by line (take (file_length line) line) (run_of (drop (file_length line) line))

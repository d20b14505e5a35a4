-- What a filter of lines has come to, its exit status, and its lines on standard error.
use Rattle.std.specs.Prelude.{ℕ, ◌+◌, ◌-◌, ◌^◌, ◌==◌, Bool, false, true, List, [], ◌++◌, Option, Some, None, Result, Ok, Err, codes}
use Rattle.std.specs.Prelude.{decimal, is_some, min, if◌then◌else◌}
use Rattle.uv_filter.specs.declared.counts.FilterCounts.{FilterCounts}
use Rattle.uv_filter.specs.Counts.{both}
use Rattle.uv_lines.specs.declared.fault.StopFault.{StopFault}
use Rattle.uv_cli.specs.declared.filtered.Filtered.{Filtered}
use Rattle.uv_cli.specs.Stopped.{stopped_text}

-- what stopped it, by its answer
abbrev pub fault_of : Result (Unit {0}) StopFault → Option StopFault
fault_of (Ok u) = None
fault_of (Err fault) = Some fault

-- by its counts and its answer
abbrev pub filtered_by : FilterCounts → Result (Unit {0}) StopFault → Bool → Filtered
filtered_by counts answer is_quiet =
    record { counts = counts; stopped = fault_of answer; is_quiet = is_quiet; is_file_left = false }

-- stopped by this fault
abbrev pub with_fault : Filtered → StopFault → Filtered
with_fault filtered fault = record filtered { stopped = Some fault }

-- after a further file of which this was counted
abbrev pub with_counts : Filtered → FilterCounts → Filtered
with_counts filtered counts = record filtered { counts = both filtered.counts counts }

-- after a further file that stays as it was, since something failed
abbrev pub with_file_left : Filtered → Filtered
with_file_left filtered = record filtered { is_file_left = true }

-- two numbers together, 2^64 - 1 at most
abbrev pub sum : ℕ → ℕ → ℕ
sum a b = min (a + b) (2 ^ 64 - 1)

-- how many lines were mended
abbrev pub mended_count : FilterCounts → ℕ
mended_count counts = sum (sum counts.same counts.escaped) counts.changed

-- how many stay as they were and aren't valid
abbrev pub refused_count : FilterCounts → ℕ
refused_count counts = sum (sum counts.refused counts.not_utf8) counts.too_long

-- the exit status
abbrev pub filter_status : Filtered → ℕ
filter_status filtered =
    if is_some filtered.stopped then 3
    else if filtered.is_file_left then 2
    else if refused_count filtered.counts == 0 then 0 else 1

-- the line of counts: how many lines came,
unfoldable pub lines_text : ℕ → List ℕ
lines_text count =
    codes "urlcheck: " ++ (decimal count ++ (codes " " ++ (if count == 1 then codes "line" else codes "lines")))

-- how many were mended, by kind,
unfoldable pub mended_text : FilterCounts → List ℕ
mended_text counts =
    codes ", " ++ (decimal (mended_count counts) ++ (codes " mended (" ++ (decimal counts.same ++ (codes " same, "
    ++ (decimal counts.escaped ++ (codes " escaped, " ++ (decimal counts.changed ++ codes " changed)")))))))

-- and how many stay as they were and aren't valid
unfoldable pub refused_text : ℕ → List ℕ
refused_text count = codes ", " ++ (decimal count ++ codes " refused\n")

-- the line of counts
abbrev pub counts_text : FilterCounts → List ℕ
counts_text counts =
    lines_text counts.lines ++ (mended_text counts ++ refused_text (refused_count counts))

-- the lines on standard error
abbrev pub filtered_text : Filtered → List ℕ
filtered_text filtered =
    (if filtered.is_quiet then [] else counts_text filtered.counts) ++ stopped_text filtered.stopped

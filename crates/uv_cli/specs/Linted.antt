-- What a lint of files has come to, its exit status, and its lines on standard error.
use Rattle.std.specs.Prelude.{ℕ, ◌+◌, ◌-◌, ◌^◌, ◌==◌, ◌&&◌, ◌||◌, Bool, true, false, List, [], ◌++◌, Option, Some, None}
use Rattle.std.specs.Prelude.{Result, Ok, Err, codes, decimal, is_some, min, not, if◌then◌else◌}
use Rattle.uv_lint.specs.declared.counts.LintCounts.{LintCounts}
use Rattle.uv_lines.specs.declared.fault.StopFault.{StopFault}
use Rattle.uv_lines.specs.declared.fault.StopFault.TheVariants.{Read, Write}
use Rattle.uv_lint.specs.Report.{none_counted}
use Rattle.uv_report.specs.declared.completion.Completion.{Completion}
use Rattle.uv_report.specs.declared.completion.Completion.TheVariants.{Whole, Unread, Stopped}
use Rattle.uv_cli.specs.declared.linted.Linted.{Linted}
use Rattle.uv_cli.specs.Stopped.{stopped_text}

-- before the first file
abbrev pub no_file : Bool → Linted
no_file is_quiet = record {
  counts = none_counted;
  unread = 0;
  is_input_unread = false;
  is_document_refused = false;
  stopped = None;
  is_quiet = is_quiet;
}

-- two counts together, each 2^64 - 1 at most
abbrev pub sum_counts : LintCounts → LintCounts → LintCounts
sum_counts a b = record {
  lines = min (a.lines + b.lines) (2 ^ 64 - 1);
  refused = min (a.refused + b.refused) (2 ^ 64 - 1);
}

-- stopped by this fault
abbrev pub with_fault : Linted → StopFault → Linted
with_fault linted fault = record linted { stopped = Some fault }

-- after a file that can't be opened, or not be read to its end: the standard input, or another one
abbrev pub with_unread : Linted → Bool → Linted
with_unread linted is_input =
    record linted { unread = min (linted.unread + 1) (2 ^ 64 - 1); is_input_unread = is_input || linted.is_input_unread }

-- a line of these was refused
abbrev pub has_refused : LintCounts → Bool
has_refused counts = not (counts.refused == 0)

-- after a file with these counts, which has the name of a document or of something else
abbrev pub with_counts : Linted → Bool → LintCounts → Linted
with_counts linted is_document counts =
    record linted {
      counts = sum_counts linted.counts counts;
      is_document_refused = (is_document && has_refused counts) || linted.is_document_refused;
    }

-- after a file with these counts and this answer, which is the standard input or another one, and has the name of a
-- document or of something else: a failed read stops nothing, and each other fault does
abbrev pub with_file : Linted → Bool → Bool → LintCounts → Result (Unit {0}) StopFault → Linted
with_file linted is_input is_document counts (Ok done) = with_counts linted is_document counts
with_file linted is_input is_document counts (Err Read) =
    with_unread (with_counts linted is_document counts) is_input
with_file linted is_input is_document counts (Err fault) = with_fault (with_counts linted is_document counts) fault

-- something stopped it
abbrev pub is_stopped : Linted → Bool
is_stopped linted = is_some linted.stopped

-- no write has failed
abbrev pub is_writable : Option StopFault → Bool
is_writable (Some Write) = false
is_writable _ = true

-- nothing was found
abbrev pub is_clean : Linted → Bool
is_clean linted = linted.counts.refused == 0

-- how the run over the files has ended
abbrev pub completion_of : Linted → Completion
completion_of linted = if is_stopped linted then Stopped else if linted.unread == 0 then Whole else Unread

-- the exit status
abbrev pub lint_status : Linted → ℕ
lint_status linted =
    if is_stopped linted then 3 else if not (linted.unread == 0) then 2 else if is_clean linted then 0 else 1

-- how many lines were checked, and in how many something was found
unfoldable pub lines_text : LintCounts → List ℕ
lines_text counts =
    codes "urlcheck: " ++ (decimal counts.lines ++ (codes " "
    ++ ((if counts.lines == 1 then codes "line" else codes "lines")
    ++ (codes ", " ++ (decimal counts.refused ++ codes " refused")))))

-- how many files weren't read
unfoldable pub unread_text : ℕ → List ℕ
unread_text unread =
    codes ", " ++ (decimal unread ++ (codes " " ++ ((if unread == 1 then codes "file" else codes "files")
    ++ codes " not read")))

-- the line of counts, with how many files weren't read, if one wasn't
abbrev pub counts_text : LintCounts → ℕ → List ℕ
counts_text counts unread =
    (lines_text counts ++ (if unread == 0 then [] else unread_text unread)) ++ codes "\n"

-- the lines on standard error
abbrev pub linted_text : Linted → List ℕ
linted_text linted =
    (if linted.is_quiet then [] else counts_text linted.counts linted.unread) ++ stopped_text linted.stopped

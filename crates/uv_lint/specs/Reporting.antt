-- What reports on the lines of a file: what it is between two lines, and what it says of the next one.
use Rattle.std.specs.Prelude.{◌≡◌, ℕ, ◌+◌, ◌⊎◌, Bool, List, [], ◌++◌, Option}
use Rattle.uv_rules.specs.declared.line_violation.LineViolation.{LineViolation}
use Rattle.uv_sentences.specs.Sentences.Message.{PlacedText}
use Rattle.uv_lines.specs.Waiting.{Passes}
use Rattle.uv_lint.specs.declared.counts.LintCounts.{LintCounts}
use Rattle.uv_lint.specs.Findings.{AreFindings, AreMessages, Findings, IsMended, MendedText}
use Rattle.uv_lint.specs.LineViolations.{AreViolations, FileSetting, link_of}
use Rattle.uv_lint.specs.Report.{ReportedText, checked_line, counted, first_found, is_still_first, line_text}
use Rattle.uv_lint.specs.Report.{reported_by, text_diagnostics}

-- the file's setting, whether no diagnostic of the report was written yet, how many lines came, and the counts of those
pub record Linting : Type 0 where
  pub setting : FileSetting
  pub is_first : Bool
  pub lines : ℕ
  pub counts : LintCounts

-- after a further line
abbrev pub with_line : Linting → Option (List ℕ) → List LineViolation → Linting
with_line before line violations = record {
  setting = before.setting;
  is_first = is_still_first before.is_first violations;
  lines = before.lines + 1;
  counts = counted before.counts line violations;
}

-- a text, or nothing
abbrev pub IsNoneOr : List ℕ → List ℕ → Type 0
IsNoneOr text said = (said ≡ []) ⊎ (said ≡ text)

-- the diagnostics on a text of which this was found came to what waited, with what to write in its place
abbrev pub HasReported : Linting → ReportedText → List LineViolation → List ℕ → Option (List ℕ) → Option (List ℕ)
    → List ℕ → Type 0
HasReported before reported violations waited old new waits =
    (mended : Option MendedText)
    × IsMended before.setting.format before.setting.profile before.setting.base violations reported.text mended
    × ((messages : List PlacedText) × AreMessages violations messages
    × Passes (waited ++ text_diagnostics before.setting reported before.is_first
    (record { violations = violations; messages = messages; mended = mended })) old new waits)

-- some of the first of them, or none
abbrev pub HasBegun : Linting → ReportedText → List LineViolation → List ℕ → Type 0
HasBegun before reported violations parts =
    (parts ≡ []) ⊎ ((mended : Option MendedText)
    × IsMended before.setting.format before.setting.profile before.setting.base violations reported.text mended
    × ((messages : List PlacedText) × AreMessages violations messages
    × ((count : ℕ) × (parts ≡ text_diagnostics before.setting reported before.is_first
    (first_found count (record { violations = violations; messages = messages; mended = mended }))))))

-- what the diagnostics on the next line tell, which is checked so
abbrev pub next_text : Linting → Option (List ℕ) → ReportedText
next_text before line =
    reported_by before.setting.file (before.lines + 1) line (link_of before.setting.form line)

-- the next line, which is checked so, is counted, and the diagnostics on it came to what waited
pub record HasReportedLine (before : Linting) (line : Option (List ℕ)) (waited : List ℕ) (old : Option (List ℕ))
    (after : Linting) (waits : List ℕ) (new : Option (List ℕ)) : Type 0 where
  pub violations : List LineViolation
  pub found : AreViolations before.setting line violations
  pub said : HasReported before (next_text before line) violations waited old new waits
  pub left : after ≡ with_line before line violations

-- nothing was reported of the next line, which is checked so, or what is reported of it has begun
abbrev pub HasBegunLine : Linting → Option (List ℕ) → List ℕ → Type 0
HasBegunLine before line parts =
    (parts ≡ []) ⊎ ((violations : List LineViolation) × AreViolations before.setting line violations
    × HasBegun before (next_text before line) violations parts)

-- the diagnostics on the next line, and what it leaves
pub record Says (before : Linting) (line : Option (List ℕ)) (text : List ℕ) (after : Linting) : Type 0 where
  pub findings : Findings
  pub found : AreFindings before.setting (checked_line before.lines line) findings
  pub written : text
      ≡ line_text before.setting (before.lines + 1) (checked_line before.lines line) before.is_first findings
  pub left : after ≡ with_line before (checked_line before.lines line) findings.violations

-- some of the first diagnostics on the next line
pub record Begins (before : Linting) (line : Option (List ℕ)) (text : List ℕ) : Type 0 where
  pub findings : Findings
  pub found : AreFindings before.setting (checked_line before.lines line) findings
  pub count : ℕ
  pub written : text
      ≡ line_text before.setting (before.lines + 1) (checked_line before.lines line) before.is_first
      (first_found count findings)

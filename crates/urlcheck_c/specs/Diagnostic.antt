-- A diagnostic on a text that is in a file, by numbers and bytes.
use Rattle.std.specs.Prelude.{◌≡◌, ◌≢◌, ℕ, ◌⊎◌, ◌==◌, ◌&&◌, ◌≤◌, ◌<◌, not, Bool, true, false, List, ◌++◌, codes, length}
use Rattle.std.specs.Prelude.{◌||◌, if◌then◌else◌, is_none, max, None, Option, Some, Result, Ok, Err, IsUtf8}
use Rattle.std.specs.Borrow.{Bor}
use Rattle.std.specs.Str.{chars}
use Rattle.uv_report.specs.declared.diagnostic.Diagnostic.{Diagnostic}
use Rattle.uv_report.specs.declared.diagnostic.Fix.{Fix}
use Rattle.uv_report.specs.declared.diagnostic.Region.{Region}
use Rattle.uv_report.specs.declared.format.Format.{Format}
use Rattle.uv_report.specs.declared.look.Look.{Look}
use Rattle.uv_report.specs.Diagnostic.{DiagnosticView, FixView, diagnostic_view, fix_view}
use Rattle.uv_report.specs.Report.{diagnostic_text, separator}
use Rattle.uv_rules.specs.LineViolation.{named_violation, rule_index}
use Rattle.urlcheck_c.specs.declared.reports.diagnostics.ReportedNumbers.{ReportedNumbers}
use Rattle.urlcheck_c.specs.declared.reports.diagnostics.ReportedTexts as code
use Rattle.urlcheck_c.specs.declared.finding.Finding.{Finding}
use Rattle.urlcheck_c.specs.declared.finding.CallOutcome.TheVariants.{NoFormat, NoKind, NoColumn, NoUtf8, NoPlace}
use Rattle.urlcheck_c.specs.declared.finding.CallOutcome.TheVariants.{FileNoUtf8, MendedNoUtf8, ReportedNoUtf8}
use Rattle.urlcheck_c.specs.declared.written.Written.{Written}
use Rattle.urlcheck_c.specs.Column.{IsInRange}
use Rattle.urlcheck_c.specs.Finding.{plain_finding}
use Rattle.urlcheck_c.specs.ReportNumbers.{format_of, kind_of, look_of}
use Rattle.urlcheck_c.specs.Request.{IsNoText}
use Rattle.urlcheck_c.specs.Written.{IsGiven, IsRefusedFor, IsUnwritten}

-- the texts of a diagnostic
pub record ReportedTexts : Type 0 where
  pub file : List ℕ
  pub rule : List ℕ
  pub uri : List ℕ
  pub message : List ℕ
  pub within : List ℕ
  pub text : List ℕ
  pub fix : List ℕ

-- as the code has them
abbrev pub texts_view : code.ReportedTexts → ReportedTexts
texts_view texts = record {
  file = texts.file.now;
  rule = texts.rule.now;
  uri = texts.uri.now;
  message = texts.message.now;
  within = texts.within.now;
  text = texts.text.now;
  fix = texts.fix.now;
}

-- ---- regions

-- a region doesn't end before it begins
abbrev pub IsInOrder : Region → Type 0
IsInOrder region =
    (region.line < region.end_line) ⊎ ((region.line ≡ region.end_line) × (region.column ≤ region.end_column))

-- its lines and columns are in range
abbrev pub IsRegion : Region → Type 0
IsRegion region =
    IsInRange region.line × IsInRange region.column × IsInRange region.end_line × IsInRange region.end_column
    × IsInOrder region

-- a region of zeros isn't one
abbrev pub is_nowhere : Region → Bool
is_nowhere region =
    (region.line == 0) && ((region.column == 0) && ((region.end_line == 0) && (region.end_column == 0)))

-- where a fix may be written: nowhere, or in this region
abbrev pub IsFixRegion : Region → Option Region → Type 0
IsFixRegion given None = is_nowhere given ≡ true
IsFixRegion given (Some region) = (is_nowhere given ≡ false) × (region ≡ given) × IsRegion given

-- it isn't a region
abbrev pub IsNoFixRegion : Region → Finding → Type 0
IsNoFixRegion given finding = (is_nowhere given ≡ false) × ¬ (IsRegion given) × (finding ≡ plain_finding NoColumn)

abbrev pub IsFixRegionRead : Region → Result (Option Region) Finding → Type 0
IsFixRegionRead given (Ok region) = IsFixRegion given region
IsFixRegionRead given (Err finding) = IsNoFixRegion given finding

-- ---- the fix

-- The numbers and the bytes say this fix: its kind, its text, where that may be written, and whether it is offered.
-- Whether the message says what to write instead is a judgement of what was meant, which this leaves open.
pub record IsSomeFix (numbers : ReportedNumbers) (bytes : List ℕ) (fix : FixView) : Type 0 where
  pub told : numbers.kind ≢ 0
  pub kind_is : kind_of numbers.kind ≡ Some fix.kind
  pub utf8 : IsUtf8 bytes
  pub text : fix.text ≡ bytes
  pub region : IsFixRegion numbers.fix_region fix.region
  pub offered : fix.is_offered ≡ not (numbers.offered == 0)

-- there is none, or this one
abbrev pub IsFix : ReportedNumbers → List ℕ → Option FixView → Type 0
IsFix numbers bytes None = numbers.kind ≡ 0
IsFix numbers bytes (Some fix) = IsSomeFix numbers bytes fix

-- They say none of these: no kind has the number, the bytes aren't UTF-8, or the region isn't one.
abbrev pub IsNoFix : ReportedNumbers → List ℕ → Finding → Type 0
IsNoFix numbers bytes finding =
    (numbers.kind ≢ 0)
    × (((kind_of numbers.kind ≡ None) × (finding ≡ plain_finding NoKind))
    ⊎ (IsNoText MendedNoUtf8 bytes finding ⊎ IsNoFixRegion numbers.fix_region finding))

-- there is none, or this one, as the code has it; or why the numbers say neither
abbrev pub IsFixRead : ReportedNumbers → List ℕ → Result (Option Fix) Finding → Type 0
IsFixRead numbers bytes (Ok None) = numbers.kind ≡ 0
IsFixRead numbers bytes (Ok (Some fix)) = IsSomeFix numbers bytes (fix_view fix)
IsFixRead numbers bytes (Err finding) = IsNoFix numbers bytes finding

-- ---- the text

-- the text is UTF-8, and the place isn't after its end
abbrev pub IsText : List ℕ → ℕ → Type 0
IsText bytes place = IsUtf8 bytes × (place ≤ length (chars bytes))

-- it isn't, or the place is
abbrev pub IsNoTextAt : List ℕ → ℕ → Finding → Type 0
IsNoTextAt bytes place finding =
    IsNoText NoUtf8 bytes finding
    ⊎ ((length (chars bytes) < place) × (finding ≡ plain_finding NoPlace))

abbrev pub IsTextFound : List ℕ → ℕ → Result (Bor (List ℕ)) Finding → Type 0
IsTextFound bytes place (Ok text) = (text.now ≡ bytes) × IsText bytes place
IsTextFound bytes place (Err finding) = IsNoTextAt bytes place finding

-- ---- the diagnostic

-- the place of the code point that the message names: not before the place that it is about
abbrev pub named_place : ReportedNumbers → ℕ
named_place numbers = max numbers.place numbers.named

-- a text is shown that violates the rule with this name: one that isn't empty, or also an empty one, but by the rules of
-- lines that aren't checked
abbrev pub is_shown : List ℕ → List ℕ → Bool
is_shown rule text = not (length text == 0) || is_none (named_violation rule)

-- The numbers and the bytes say this diagnostic on the text.
pub record IsDiagnostic (numbers : ReportedNumbers) (texts : ReportedTexts) (text : List ℕ) (found : DiagnosticView)
    : Type 0 where
  pub file : IsUtf8 texts.file
  pub rule : IsUtf8 texts.rule
  pub uri : IsUtf8 texts.uri
  pub message : IsUtf8 texts.message
  pub within : IsUtf8 texts.within
  pub region : IsRegion numbers.region
  pub fix : IsFix numbers texts.fix found.fix
  pub is : found ≡ record {
    file = texts.file;
    region = numbers.region;
    rule = texts.rule;
    index = rule_index texts.rule;
    uri = texts.uri;
    message = texts.message;
    text = text;
    is_shown = is_shown texts.rule text;
    place = numbers.place;
    named = named_place numbers;
    repeat = numbers.repeat;
    fix = found.fix;
  }

-- They say none: one of the texts isn't UTF-8, the region isn't one, or the fix is.
abbrev pub IsNoDiagnostic : ReportedNumbers → ReportedTexts → Finding → Type 0
IsNoDiagnostic numbers texts finding =
    IsNoText FileNoUtf8 texts.file finding
    ⊎ (IsNoText ReportedNoUtf8 texts.rule finding
    ⊎ (IsNoText ReportedNoUtf8 texts.uri finding
    ⊎ (IsNoText ReportedNoUtf8 texts.message finding
    ⊎ (IsNoText ReportedNoUtf8 texts.within finding
    ⊎ ((¬ (IsRegion numbers.region) × (finding ≡ plain_finding NoColumn))
    ⊎ IsNoFix numbers texts.fix finding)))))

-- this one, with what else says where in the file it is; or why there is none
abbrev pub IsDiagnosticRead : ReportedNumbers → ReportedTexts → List ℕ → Result (Diagnostic × Bor (List ℕ)) Finding
    → Type 0
IsDiagnosticRead numbers texts text (Ok found) =
    IsDiagnostic numbers texts text (diagnostic_view found.0) × (found.1.now ≡ texts.within)
IsDiagnosticRead numbers texts text (Err finding) = IsNoDiagnostic numbers texts finding

-- ---- the answer

-- a message, and after it what else says where in the file that is
abbrev pub told : List ℕ → List ℕ → List ℕ
told message within = if length within == 0 then message else message ++ (codes ", in " ++ within)

-- the text of a diagnostic with its whole message, after what comes before it
abbrev pub said_text : Format → Look → Bool → DiagnosticView → List ℕ → List ℕ
said_text format look is_first found within =
    separator format is_first ++ diagnostic_text format look (record found { message = told found.message within })

-- There is no text, or no diagnostic on it, and nothing was written; or its text is given.
abbrev pub IsReportedAnswer : Format → Look → Bool → ReportedNumbers → ReportedTexts → List ℕ → List ℕ → Written → Type 0
IsReportedAnswer format look is_first numbers texts old new answer =
    ((finding : Finding) × IsNoTextAt texts.text (named_place numbers) finding × IsUnwritten finding old new answer)
    ⊎ (IsText texts.text (named_place numbers)
    × (((finding : Finding) × IsNoDiagnostic numbers texts finding × IsUnwritten finding old new answer)
    ⊎ ((found : DiagnosticView) × IsDiagnostic numbers texts texts.text found
    × IsGiven (said_text format look is_first found texts.within) old new answer)))

-- No format has the number, and nothing was written; or it is answered in the format.
abbrev pub IsDiagnosticAnswer : ℕ → ℕ → ℕ → ReportedNumbers → ReportedTexts → List ℕ → List ℕ → Written → Type 0
IsDiagnosticAnswer format is_coloured is_first numbers texts old new answer =
    ((format_of format ≡ None) × IsRefusedFor NoFormat old new answer)
    ⊎ ((known : Format) × (format_of format ≡ Some known)
    × IsReportedAnswer known (look_of is_coloured) (not (is_first == 0)) numbers texts old new answer)

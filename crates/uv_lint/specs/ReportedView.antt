-- What the code's values of a text and its place denote.
use Rattle.std.specs.Prelude.{◌≡◌, ℕ, Bool, List, Option, option_copied, option_map, string_bytes, take}
use Rattle.uv_report.specs.Diagnostic.{DiagnosticView}
use Rattle.uv_rules.specs.declared.line_violation.LineViolation.{LineViolation}
use Rattle.uv_sentences.specs.Sentences.Message.{PlacedText}
use Rattle.uv_lint.specs.declared.mended_line.MendedLine.{MendedLine}
use Rattle.uv_lint.specs.declared.reported_line.Place.{Place}
use Rattle.uv_lint.specs.declared.reported_line.ReportedLine.{ReportedLine}
use Rattle.uv_lint.specs.declared.setting.LintSetting.{LintSetting}
use Rattle.uv_lint.specs.Findings.{AreMessages, MendedText, shown}
use Rattle.uv_lint.specs.LineViolations.{file_setting}
use Rattle.uv_lint.specs.Report.{ReportedText, one_text, text_diagnostics}

-- a text that isn't shown yet
abbrev pub place_view : Place → ReportedText
place_view place = record {
  file = place.file.now;
  line = place.line;
  start = place.start;
  text = shown (option_copied place.bytes);
}

-- with what is shown of it
abbrev pub shown_at : Place → List ℕ → ReportedText
shown_at place text = record { file = place.file.now; line = place.line; start = place.start; text = text }

-- and as it is shown
abbrev pub reported_view : ReportedLine → ReportedText
reported_view reported =
    record { file = reported.file.now; line = reported.line; start = reported.start; text = reported.text.now }

-- a mended text
abbrev pub mended_line_view : MendedLine → MendedText
mended_line_view mended = record {
  text = string_bytes mended.text;
  kind = mended.kind;
  is_offered = mended.is_offered;
  is_named = mended.is_named;
}

-- the text of a diagnostic, with what is round it where lines say where their links are
abbrev pub said_text : LintSetting → Bool → DiagnosticView → List ℕ
said_text setting is_first found = one_text setting.form setting.format setting.look is_first found

-- the report on a text of which this was found, by these messages
abbrev pub text_said : ReportedLine → LintSetting → Bool → Option MendedLine → List LineViolation → List PlacedText
    → List ℕ
text_said line setting is_first mended violations messages =
    text_diagnostics (file_setting line.file.now setting) (reported_view line) is_first
    (record { violations = violations; messages = messages; mended = option_map mended_line_view mended })

-- some of its first diagnostics
abbrev pub AreFirstSaid : ReportedLine → LintSetting → Bool → Option MendedLine → List LineViolation → List ℕ → Type 0
AreFirstSaid line setting is_first mended violations text =
    (messages : List PlacedText) × AreMessages violations messages
    × ((count : ℕ) × (text ≡ text_said line setting is_first mended (take count violations) messages))

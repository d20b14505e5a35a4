-- What is wrong with a line of a file.
use Rattle.std.specs.Prelude.{◌≡◌, ℕ, List, [], ◌∷◌, ◌⊎◌, Option, Some, None, length, map, option_and_then}
use Rattle.std.specs.Prelude.{option_copied, take}
use Rattle.std.specs.Str.{IsUtf8, chars}
use Rattle.std.specs.Str.Lossy.{utf8_valid_len}
use Rattle.uv_model.specs.declared.extent.Extent.{Extent}
use Rattle.uv_model.specs.declared.extent.Extent.TheVariants.{First, All}
use Rattle.uv_model.specs.declared.profile.Profile.{Profile}
use Rattle.uv_model.specs.declared.rule.Refusal.{Refusal}
use Rattle.uv_model.specs.Violations.AllViolations.{AreFaults}
use Rattle.uv_model.specs.Parts.{Parts}
use Rattle.uv_model.specs.Records.Url.{Url}
use Rattle.uv_model.specs.Valid.{Valid}
use Rattle.uv_grammar.specs.Verdict.{IsRefused}
use Rattle.uv_report.specs.declared.places.column.Columns.{Columns}
use Rattle.uv_rules.specs.declared.line_violation.LineViolation.{LineViolation}
use Rattle.uv_rules.specs.declared.line_violation.LineViolation.TheVariants.{Refused, NotUtf8, TooLong, NotLocated}
use Rattle.uv_report.specs.declared.format.Format.{Format}
use Rattle.uv_report.specs.declared.look.Look.{Look}
use Rattle.uv_lint.specs.declared.setting.LineForm.{LineForm}
use Rattle.uv_lint.specs.declared.setting.LineForm.TheVariants.{Plain, Located}
use Rattle.uv_lint.specs.declared.setting.LintSetting.{LintSetting}
use Rattle.uv_lint.specs.Located.{LocatedLink, located}
use Rattle.uv_lint.specs.LocatedFault.{located_fault}

-- a file's name, what its lines are checked by, how what is found is written and looks, what columns count, and what a
-- line is
pub record FileSetting : Type 0 where
  pub file : List ℕ
  pub base : Option Url
  pub profile : Profile
  pub extent : Extent
  pub format : Format
  pub look : Look
  pub columns : Columns
  pub form : LineForm

-- the setting of a file with this name
abbrev pub file_setting : List ℕ → LintSetting → FileSetting
file_setting file setting = record {
  file = file;
  base = option_copied setting.base;
  profile = setting.profile;
  extent = setting.extent;
  format = setting.format;
  look = setting.look;
  columns = setting.columns;
  form = setting.form;
}

-- there is no refusal and the text is valid, or the text is refused by the first of them
abbrev pub Checks : Profile → Option Url → List ℕ → List Refusal → Type 0
Checks profile base text [] = (parts : Parts) × Valid profile base text parts
Checks profile base text (refusal ∷ rest) = IsRefused profile base text refusal

-- no refusal is after the first one
abbrev pub HasOneAtMost : List Refusal → Type 0
HasOneAtMost [] = Unit {0}
HasOneAtMost (refusal ∷ rest) = rest ≡ []

-- these violations of the text are reported: the first of them, or all of them, each once, in their order
abbrev pub AreReported : Extent → Profile → Option Url → List ℕ → List Refusal → Type 0
AreReported First profile base text refusals = HasOneAtMost refusals
AreReported All profile base text refusals = AreFaults profile base text refusals

-- what is wrong with a text: nothing where it is valid, otherwise the violations of it that are reported
pub record AreTextViolations (setting : FileSetting) (text : List ℕ) (violations : List LineViolation) : Type 0 where
  pub refusals : List Refusal
  pub checks : Checks setting.profile setting.base text refusals
  pub reported : AreReported setting.extent setting.profile setting.base text refusals
  pub are : violations ≡ map Refused refusals

-- the place of the first byte that isn't UTF-8: so many code points are before it
abbrev pub foreign_place : List ℕ → ℕ
foreign_place bytes = length (chars (take (utf8_valid_len bytes) bytes))

-- what is wrong with bytes: that they aren't UTF-8, otherwise what is wrong with their text
abbrev pub AreBytesViolations : FileSetting → List ℕ → List LineViolation → Type 0
AreBytesViolations setting bytes violations =
    (IsUtf8 bytes × AreTextViolations setting (chars bytes) violations)
    ⊎ (¬ (IsUtf8 bytes) × (violations ≡ NotUtf8 (foreign_place bytes) ∷ []))

-- what is wrong with a line that is to say where its link is and doesn't: that, or that it isn't UTF-8
abbrev pub AreStrayViolations : List ℕ → List LineViolation → Type 0
AreStrayViolations line violations =
    (IsUtf8 line × (violations ≡ NotLocated (located_fault line) ∷ []))
    ⊎ (¬ (IsUtf8 line) × (violations ≡ NotUtf8 (foreign_place line) ∷ []))

-- what is wrong with a line that isn't empty and has no link, by what a line is
abbrev pub AreWholeViolations : LineForm → FileSetting → List ℕ → List LineViolation → Type 0
AreWholeViolations Plain setting line violations = AreBytesViolations setting line violations
AreWholeViolations Located setting line violations = AreStrayViolations line violations

-- the link of a line that says where it is, where lines are to say it
abbrev pub link_of : LineForm → Option (List ℕ) → Option LocatedLink
link_of Plain line = None
link_of Located line = option_and_then located line

-- What is wrong with a line, and with its link where it has one; none stands for a line that has more bytes than a line
-- may have. Such a line is too long, and nothing is wrong with an empty line. An empty link is checked.
abbrev pub AreViolationsBy : FileSetting → Option LocatedLink → Option (List ℕ) → List LineViolation → Type 0
AreViolationsBy setting (Some link) line violations = AreBytesViolations setting link.link violations
AreViolationsBy setting None None violations = violations ≡ TooLong ∷ []
AreViolationsBy setting None (Some []) violations = violations ≡ []
AreViolationsBy setting None (Some (x ∷ xs)) violations = AreWholeViolations setting.form setting (x ∷ xs) violations

-- what is wrong with a line of the file, and with its link where the line says where that is
abbrev pub AreViolations : FileSetting → Option (List ℕ) → List LineViolation → Type 0
AreViolations setting line violations = AreViolationsBy setting (link_of setting.form line) line violations

-- what is wrong with a line of the file is what is wrong with this text
abbrev pub IsCheckedBy : FileSetting → Option (List ℕ) → List ℕ → Type 0
IsCheckedBy setting line text =
    (violations : List LineViolation) → AreTextViolations setting (chars text) violations
    → AreViolations setting line violations

-- The fixed texts that a caller asks for by numbers.
use Rattle.std.specs.Prelude.{◌≡◌, ℕ, ◌==◌, ◌||◌, if◌then◌else◌, Bool, true, false, List, [], Option, Some, None}
use Rattle.std.specs.Borrow.{Bor}
use Rattle.std.specs.Int.{is_in_range}
use Rattle.uv_model.specs.declared.rule.Rule.{Rule}
use Rattle.uv_report.specs.declared.format.Format.{Format}
use Rattle.uv_rules.specs.declared.explanation.Explanation.{Explanation}
use Rattle.uv_rules.specs.declared.line_violation.LineViolation.{LineViolation}
use Rattle.uv_rules.specs.declared.line_violation.LineViolation.TheVariants.{Refused}
use Rattle.uv_report.specs.declared.places.column.Columns.{Columns}
use Rattle.uv_report.specs.Format.{format_name}
use Rattle.uv_rules.specs.LineViolation.{violation_address, violation_name}
use Rattle.uv_report.specs.Places.Column.{columns_name}
use Rattle.uv_shown.specs.Escaping.Printable.{IsLine}
use Rattle.uv_rules.specs.Explanation.{rule_place}
use Rattle.urlcheck_c.specs.Buffer.{IsWritten}
use Rattle.urlcheck_c.specs.Names.{rule_with_number}
use Rattle.urlcheck_c.specs.ReportNumbers.{format_of, unit_of, violation_of}

-- ---- texts that programs read

-- of what is wrong with a text or a line: the name, or where it is in the Standard
abbrev pub violation_text : ℕ → LineViolation → List ℕ
violation_text what violation =
    if what == 0 then violation_name violation else (if what == 2 then violation_address violation else [])

-- of what is wrong with a text or a line, where something is: the name, or where it is in the Standard
abbrev pub violation_text_or_none : ℕ → Option LineViolation → List ℕ
violation_text_or_none what None = []
violation_text_or_none what (Some violation) = violation_text what violation

-- the name of a format, or no text
abbrev pub format_name_or_none : Option Format → List ℕ
format_name_or_none None = []
format_name_or_none (Some format) = format_name format

-- the name of a unit, or no text
abbrev pub unit_name_or_none : Option Columns → List ℕ
unit_name_or_none None = []
unit_name_or_none (Some columns) = columns_name columns

-- the text that is asked for, by the number of a rule of texts or of lines, of a format or of a unit
abbrev pub known_text : ℕ → ℕ → List ℕ
known_text what number =
    if what == 8 then format_name_or_none (format_of number)
    else (if what == 9 then unit_name_or_none (unit_of number)
    else violation_text_or_none what (violation_of number 0))

-- ---- texts for people

-- a text, where there is one
abbrev pub text_or_none : Option (Bor (List ℕ)) → List ℕ
text_or_none None = []
text_or_none (Some text) = text.now

-- of what explains a rule: its section, the base of its example, the example, or a valid text in its place
abbrev pub explanation_text : ℕ → Explanation → List ℕ
explanation_text what explanation =
    if what == 4 then explanation.section.now
    else (if what == 5 then text_or_none explanation.base
    else (if what == 6 then explanation.wrong.now else (if what == 7 then explanation.mended.now else [])))

-- ---- what is given

-- Words for people are asked for: what is wrong with a text or a line, or what is required; of a rule of texts also its
-- section of the Standard and its example.
abbrev pub has_words : ℕ → Option LineViolation → Bool
has_words what None = false
has_words what (Some (Refused refusal)) = (what == 1) || is_in_range 3 7 what
has_words what (Some violation) = (what == 1) || (what == 3)

-- the text is the one that is asked for: a section and an example are one line each
pub record IsFixedText (what number : ℕ) (text : List ℕ) : Type 0 where
  pub exact : has_words what (violation_of number 0) ≡ false → text ≡ known_text what number
  pub example : is_in_range 4 7 what ≡ true → IsLine text

-- the text is at the start of the buffer where it fits, and its length is given
abbrev pub IsTextAnswer : ℕ → ℕ → List ℕ → List ℕ → ℕ → Type 0
IsTextAnswer what number old new answer =
    (text : List ℕ) × IsFixedText what number text × IsWritten text old new answer

-- ---- the place of an example

-- the place of a rule's example, where there is a rule
abbrev pub place_or_none : Option Rule → ℕ
place_or_none None = 0
place_or_none (Some rule) = rule_place rule

-- the place of the example of the rule with a number
abbrev pub example_place : ℕ → ℕ
example_place number = place_or_none (rule_with_number number)

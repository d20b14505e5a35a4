-- Lists that are written out, with what is found with their lines: the lines as they are checked, and the counts.
use Rattle.std.specs.Prelude.{◌≡◌, ℕ, ◌++◌, true, false, List, [], ◌∷◌, Option, Some, None, codes, map}
use Rattle.uv_model.specs.declared.rule.Rule.TheVariants.{NoScheme, CodePoint}
use Rattle.uv_rules.specs.declared.line_violation.LineViolation.{LineViolation}
use Rattle.uv_rules.specs.declared.line_violation.LineViolation.TheVariants.{Refused, NotUtf8, TooLong}
use Rattle.uv_lines.specs.Lines.{byte_order_mark, lines_of}
use Rattle.uv_lint.specs.Findings.{Findings, shown, untold}
use Rattle.uv_lint.specs.Report.{is_still_first, lines_within, tally}

-- a list of six lines: one with a fault, an empty one, a valid one, one with two faults and a CR before its LF, one
-- that isn't UTF-8, and one of more than twelve bytes
abbrev pub written_list : List ℕ
written_list = codes "b\n\nurn:a\nurn: b " ++ (13 ∷ 10 ∷ 255 ∷ codes "\nabcdefghijklm")

-- its lines, where one may have twelve bytes
abbrev pub short_lines : List (Option (List ℕ))
short_lines = lines_within 12 (lines_of written_list)

-- what is found with them
abbrev pub violations : List (List LineViolation)
violations =
    (Refused (record { place = 0; rule = NoScheme }) ∷ [])
    ∷ []
    ∷ []
    ∷ (Refused (record { place = 4; rule = CodePoint }) ∷ Refused (record { place = 6; rule = CodePoint }) ∷ [])
    ∷ (NotUtf8 0 ∷ [])
    ∷ (TooLong ∷ [])
    ∷ []

-- the findings of these lines, of which nothing more is told than what is wrong
abbrev pub findings : List Findings
findings = map untold violations

-- the lines of it as they are checked, what is shown of them, and the counts
pub record LintRows : Type 0 where
  pub counts : tally short_lines findings ≡ record { lines = 5; refused = 4 }
  pub still_first : is_still_first true [] ≡ true
  pub no_more : is_still_first true (NotUtf8 0 ∷ []) ≡ false
  pub marked : lines_within 12 (lines_of (byte_order_mark ++ (codes "b\n" ++ (byte_order_mark ++ codes "c"))))
      ≡ Some (codes "b") ∷ Some (byte_order_mark ++ codes "c") ∷ []
  pub mark_alone : lines_within 12 (lines_of byte_order_mark) ≡ Some [] ∷ []
  pub mark_counted : lines_within 2 (lines_of byte_order_mark) ≡ None ∷ []
  pub shown_lines : map shown short_lines
      ≡ codes "b" ∷ [] ∷ codes "urn:a" ∷ codes "urn: b " ∷ (0xEF ∷ 0xBF ∷ 0xBD ∷ []) ∷ [] ∷ []

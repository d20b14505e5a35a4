-- The report on a list of links: a line for each line of the list, in order and numbered from 1, and the line of
-- counts.
use Rattle.std.specs.Prelude.{◌≡◌, ◌≢◌, ℕ, ◌+◌, ◌<◌, ◌≤◌, List, [], ◌∷◌, ◌++◌, Option, Some, codes, decimal, length}
use Rattle.std.specs.Prelude.{take, sum_by}
use Rattle.std.specs.Str.{IsUtf8, chars}
use Rattle.uv_model.specs.declared.profile.Profile.{Profile}
use Rattle.uv_model.specs.declared.rule.Refusal.{Refusal}
use Rattle.uv_model.specs.Violations.Rule.{rule_name}
use Rattle.uv_model.specs.Records.Url.{Url}
use Rattle.uv_grammar.specs.Verdict.{IsRefused}
use Rattle.uv_resolve.specs.Resolve.{DenotesText}
use Rattle.uv_links.specs.declared.counts.Counts.{Counts}
use Rattle.uv_lines.specs.Lines.{lines_of}
use Rattle.uv_compare.specs.Second.{second_text}

-- what the lines are checked against: the profile, the base, and how many bytes a line may have
pub record ListSetting : Type 0 where
  pub profile : Profile
  pub base : Option Url
  pub line_bytes : ℕ

-- what the report says of a line
pub data Said : Type 0 where
  Same : List ℕ → Said
  Refused : Refusal → Said
  NotUtf8 : Said
  TooLong : Said
  Differs : Said

-- the line isn't too long, and is UTF-8
pub record IsText (setting : ListSetting) (line : List ℕ) : Type 0 where
  pub short : length line ≤ setting.line_bytes
  pub utf8 : IsUtf8 line

-- The answer about a line: it is too long; otherwise it isn't UTF-8; otherwise it is refused, by its least violation;
-- otherwise it is accepted, and the second parser gives the same text or doesn't.
abbrev pub IsSaid : ListSetting → List ℕ → Said → Type 0
IsSaid setting line TooLong = setting.line_bytes < length line
IsSaid setting line NotUtf8 = (length line ≤ setting.line_bytes) × ¬ (IsUtf8 line)
IsSaid setting line (Refused refusal) = IsText setting line
    × IsRefused setting.profile setting.base (chars line) refusal
IsSaid setting line (Same text) =
    IsText setting line × DenotesText setting.profile setting.base line text
    × (second_text setting.base line ≡ Some text)
IsSaid setting line Differs =
    IsText setting line × ((text : List ℕ) × DenotesText setting.profile setting.base line text
    × (second_text setting.base line ≢ Some text))

-- what the report says of each of the lines
abbrev pub AreSaid : ListSetting → List (List ℕ) → List Said → Type 0
AreSaid setting [] [] = Unit {0}
AreSaid setting (line ∷ lines) (said ∷ rest) = IsSaid setting line said × AreSaid setting lines rest
AreSaid setting _ _ = ⊥

-- ---- the text of the report

-- what is after the number in a line of the report, with the LF
abbrev pub said_text : Said → List ℕ
said_text (Same text) = codes " ok " ++ (text ++ codes "\n")
said_text (Refused refusal) =
    codes " bad " ++ (decimal refusal.place ++ (codes " " ++ (rule_name refusal.rule ++ codes "\n")))
said_text NotUtf8 = codes " bad 0 not-utf8\n"
said_text TooLong = codes " bad 0 line-too-long\n"
said_text Differs = codes " differs\n"

-- a line of the report
unfoldable pub report_line : ℕ → Said → List ℕ
report_line number said = decimal number ++ said_text said

-- the lines of the report from a number on
abbrev pub report_lines : ℕ → List Said → List ℕ
report_lines number [] = []
report_lines number (said ∷ rest) = report_line number said ++ report_lines (number + 1) rest

-- ---- the counts

-- a line counts once: as ok, as bad where it is refused, not UTF-8 or too long, or as differing
abbrev pub ok_of : Said → ℕ
ok_of (Same text) = 1
ok_of _ = 0

-- a line is bad where it is refused, not UTF-8 or too long
abbrev pub bad_of : Said → ℕ
bad_of (Refused refusal) = 1
bad_of NotUtf8 = 1
bad_of TooLong = 1
bad_of _ = 0

-- a line differs where the second parser doesn't give the text that it denotes
abbrev pub differs_of : Said → ℕ
differs_of Differs = 1
differs_of _ = 0

-- the counts of a report
abbrev pub tally : List Said → Counts
tally saids = record {
  lines = length saids;
  ok = sum_by ok_of saids;
  bad = sum_by bad_of saids;
  differs = sum_by differs_of saids;
}

-- the counts with a further line
abbrev pub counted : Counts → Said → Counts
counted counts said = record {
  lines = counts.lines + 1;
  ok = counts.ok + ok_of said;
  bad = counts.bad + bad_of said;
  differs = counts.differs + differs_of said;
}

-- the line of counts
unfoldable pub count_line : Counts → List ℕ
count_line counts =
    codes "links " ++ (decimal counts.lines ++ (codes " ok " ++ (decimal counts.ok ++ (codes " bad "
    ++ (decimal counts.bad ++ (codes " differs " ++ (decimal counts.differs ++ codes "\n")))))))

-- ---- the report

-- the text is the report on the bytes, and these are its counts
pub record IsReport (setting : ListSetting) (bytes text : List ℕ) (counts : Counts) : Type 0 where
  pub saids : List Said
  pub said : AreSaid setting (lines_of bytes) saids
  pub whole : text ≡ report_lines 1 saids ++ count_line (tally saids)
  pub counted : counts ≡ tally saids

-- the text is the report's lines on the first lines of the bytes, so many
pub record IsReportOfFirst (setting : ListSetting) (bytes : List ℕ) (count : ℕ) (text : List ℕ) : Type 0 where
  pub saids : List Said
  pub said : AreSaid setting (take count (lines_of bytes)) saids
  pub lines : text ≡ report_lines 1 saids

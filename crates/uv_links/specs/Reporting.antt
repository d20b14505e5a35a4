-- What reports on a list of links: what it is between two lines, and what it says of the next one.
use Rattle.std.specs.Prelude.{◌≡◌, ℕ, ◌+◌, List, Option, Some, None}
use Rattle.uv_links.specs.declared.counts.Counts.{Counts}
use Rattle.uv_links.specs.Report.{ListSetting, Said, TooLong, IsSaid, counted, report_line}

-- what the lines are checked against, and the counts of those before
pub record Reporting : Type 0 where
  pub setting : ListSetting
  pub counts : Counts

-- what the report says of a line; none stands for one that has more bytes than a line may have
abbrev pub IsSaidOf : ListSetting → Option (List ℕ) → Said → Type 0
IsSaidOf setting None said = said ≡ TooLong
IsSaidOf setting (Some line) said = IsSaid setting line said

-- the line of the report, numbered from 1, and the counts with it
pub record Says (before : Reporting) (line : Option (List ℕ)) (text : List ℕ) (after : Reporting) : Type 0 where
  pub said : Said
  pub is_said : IsSaidOf before.setting line said
  pub written : text ≡ report_line (before.counts.lines + 1) said
  pub setting : after.setting ≡ before.setting
  pub counted : after.counts ≡ counted before.counts said

-- no line was counted yet
abbrev pub none_counted : Counts
none_counted = record { lines = 0; ok = 0; bad = 0; differs = 0 }

-- The answer about a line of a list.
use Rattle.uv_calls.specs.declared.list_lines.Outcome.{Outcome}
use Rattle.uv_calls.specs.declared.list_lines.Outcome.TheVariants as outcome
use Rattle.uv_links.specs.Report.{Said, Same, Refused, NotUtf8, TooLong, Differs}

-- what the report says of a line with this outcome
abbrev pub said_of : Outcome → Said
said_of (outcome.Good text) = Same text.now
said_of (outcome.Bad refusal) = Refused refusal
said_of outcome.NotUtf8 = NotUtf8
said_of outcome.TooLong = TooLong
said_of outcome.Differs = Differs

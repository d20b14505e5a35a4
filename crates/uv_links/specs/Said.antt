-- What is said of a line, as the report has it.
use Rattle.std.specs.Prelude.{ℕ, List}
use Rattle.uv_links.specs.declared.said.Said as declared
use Rattle.uv_links.specs.declared.said.Said.TheVariants as said
use Rattle.uv_links.specs.Report.{Said, Same, Refused, NotUtf8, TooLong, Differs}

-- what the report says of a line, where this is the text of its record
abbrev pub said_of : declared.Said → List ℕ → Said
said_of said.Same text = Same text
said_of (said.Refused refusal) text = Refused refusal
said_of said.NotUtf8 text = NotUtf8
said_of said.TooLong text = TooLong
said_of said.Differs text = Differs

-- A line of a list, by whether it is known to be UTF-8.
use Rattle.std.specs.Prelude.{ℕ, List}
use Rattle.uv_lines.specs.declared.line.Line.{Line}
use Rattle.uv_lines.specs.declared.line.Line.TheVariants.{Text, Bytes}

-- the bytes of a line
abbrev pub bytes_of : Line → List ℕ
bytes_of (Text text) = text.now
bytes_of (Bytes bytes) = bytes.now

-- The line by its words is the one that is defined.
use Rattle.uv_report.specs.Diagnostic.{diagnostic_view}
use Rattle.uv_report.proofs.LookLemmas.{coloured_line, plain_line}
use Rattle.uv_report.proofs.formats.gnu.push_gnu.Goals as goal

pub returns-in-Plain : goal.returns-in-Plain
returns-in-Plain c =
    rw (c.in-Plain.is, ← plain_line (diagnostic_view c.args.found.now)) c.push_line.ensures

pub returns-in-Coloured : goal.returns-in-Coloured
returns-in-Coloured c =
    rw (c.in-Coloured.is, ← coloured_line (diagnostic_view c.args.found.now)) c.push_line-in-Coloured.ensures

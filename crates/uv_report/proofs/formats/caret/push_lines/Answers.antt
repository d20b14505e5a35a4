-- The lines by their pieces are those that are defined.
use Rattle.uv_report.proofs.LookLemmas.{coloured_caret, plain_caret}
use Rattle.uv_report.proofs.formats.caret.push_lines.Goals as goal

pub returns-in-Plain : goal.returns-in-Plain
returns-in-Plain c = rw (c.in-Plain.is, ← plain_caret c.args.line.now c.args.place) c.push_marked.ensures

pub returns-in-Coloured : goal.returns-in-Coloured
returns-in-Coloured c =
    rw (c.in-Coloured.is, ← coloured_caret c.args.line.now c.args.place) c.push_marked-in-Coloured.ensures

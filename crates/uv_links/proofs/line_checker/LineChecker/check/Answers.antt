-- The text of a line that is UTF-8 has the line's bytes.
use Rattle.uv_links.proofs.line_checker.LineChecker.check.Goals as goal

pub returns-in-Ok : goal.returns-in-Ok
returns-in-Ok c = rw (← c.in-Ok.ensures.cases.0) c.check_text.ensures

-- The diagnostic is written in the look that the number says.
use Rattle.std.proofs.Common.{inr, sym}
use Rattle.urlcheck_c.proofs.reports.diagnostics.urlcheck_diagnostic.Goals as goal

pub returns : goal.returns
returns c = inr (c.in-Some.format, sym c.in-Some.ensures, rw c.look_of-look.ensures at c.written.ensures)

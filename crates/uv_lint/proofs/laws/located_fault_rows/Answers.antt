-- The reasons of lines that are written out.
use Rattle.uv_lint.proofs.LocatedRowsLemmas.{located_fault_rows}
use Rattle.uv_lint.proofs.laws.located_fault_rows.Goals as goal

pub returns : goal.returns
returns c = located_fault_rows

-- What ends in its line, and in another one.
use Rattle.std.proofs.Common.{eq-eqb, ne_eqb}
use Rattle.uv_report.proofs.formats.sarif.write_region.Goals as goal

pub returns-then-region : goal.returns-then-region
returns-then-region c =
    rw (eq-eqb c.args.region.end_line c.args.region.line c.if-region.true) c.write.ensures

pub returns-else-region : goal.returns-else-region
returns-else-region c =
    rw (ne_eqb c.args.region.end_line c.args.region.line c.if-region.false) c.write-else-region.ensures

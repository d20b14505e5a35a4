-- The answer about a line waits, and nothing if it can't be said.
use Rattle.std.proofs.Common.{refl, ap}
use Rattle.std.specs.Prelude.{option_map}
use Rattle.uv_lines.specs.Line.{bytes_of}
use Rattle.uv_lines.proofs.WaitingLemmas.{adds_waiting, leaves_none}
use Rattle.uv_links.specs.Reporting.{Says}
use Rattle.uv_links.proofs.ReportedLemmas.{begins_none}
use Rattle.uv_links.proofs.reporter.LinkReporterReporter.report.Goals as goal

pub returns-in-Ok-clause-added : goal.returns-in-Ok-clause-added
returns-in-Ok-clause-added g c =
    let said = c.in-Ok.ensures.said in
    adds_waiting Says (λ r. r.counts.lines) _ _ _ said.0 _ _ _ _ said.1 (ap (λ k. k.lines) said.1.counted) said.2 refl

pub returns-in-Err-clause-fault : goal.returns-in-Err-clause-fault
returns-in-Err-clause-fault g c =
    let contents = g.W.Sink.contents c.args._writer.now in
    leaves_none begins_none c.in-Err.fault c.args.self.now c.args.text.now.items c.say.new.text.items
    (option_map bytes_of c.args.line) contents contents c.in-Err.ensures.none.1 refl

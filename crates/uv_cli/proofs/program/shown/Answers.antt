-- Help is printed, or that failed.
use Rattle.std.proofs.Common.{ap, sym, ◌∙◌}
use Rattle.uv_arguments.specs.Requests.{reason_of}
use Rattle.uv_cli.specs.Ends.{end_without_job}
use Rattle.uv_cli.proofs.ProgramLemmas.{shown-printed}
use Rattle.uv_cli.proofs.program.shown.Goals as goal

pub returns-in-Shown : goal.returns-in-Shown
returns-in-Shown g c =
    shown-printed (reason_of c.args.fault.now) c.end_without_job-end.result c.print.result c.printed.result
    c.printed.ensures (c.end_without_job-end.ensures ∙ ap end_without_job c.reason-reason.ensures)
    (sym c.reason-reason.ensures ∙ c.in-Shown.is)

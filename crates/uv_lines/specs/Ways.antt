-- The ways of a run over lines: from its reporter before the first line to where it is after some bytes of the list.
use Rattle.std.specs.Prelude.{◌≡◌, ℕ, List, length}
use Rattle.uv_lines.specs.declared.fault.LineFault.{LineFault}
use Rattle.uv_lines.specs.declared.fault.ReportFault.{ReportFault}
use Rattle.uv_lines.specs.declared.limits.LineLimits.{LineLimits}
use Rattle.uv_lines.specs.declared.progress.Progress.{Progress}
use Rattle.uv_lines.specs.declared.reporter.Reporter.{Ghosts}
use Rattle.uv_lines.specs.Fault.{is_write}
use Rattle.uv_lines.specs.Lines.{lines_of}
use Rattle.uv_lines.specs.Reported.{Reported}
use Rattle.uv_lines.specs.Run.{EndFault, PassFault, WaitFault, Waits}
use Rattle.uv_lines.specs.Taking.{WayFrom}
use Rattle.uv_lines.specs.Waiting.{Passes}

-- what was said of the lines was written or waits to be
abbrev pub Waiting : {R F : Type 0} {g : Ghosts R F} → LineLimits → WayFrom R (Progress R F g)
Waiting {g = g} limits start old read now new =
    Waits g.reports g.lines limits.line_bytes start old read now.reporter now.begun.items now.text.items new

-- and so after a fault that comes while lines are taken
abbrev pub WaitingFault : {R F : Type 0} {g : Ghosts R F} → LineLimits → LineFault F → WayFrom R (Progress R F g)
WaitingFault {g = g} limits fault start old read now new =
    WaitFault (is_write fault) g.reports g.begins limits start fault old read now.reporter now.text.items new

-- after such a fault nothing waits
abbrev pub PassingFault : {R F : Type 0} {g : Ghosts R F} → LineLimits → LineFault F → WayFrom R (Progress R F g)
PassingFault {g = g} limits fault start old read now new =
    PassFault g.reports g.begins limits start fault old read now.reporter new

-- all lines were reported on
abbrev pub Ending : {R F : Type 0} {g : Ghosts R F} → LineLimits → WayFrom R (Progress R F g)
Ending {g = g} limits start old read now new =
    (said : List ℕ) × Passes said old new now.text.items
    × Reported g.reports limits.line_bytes start (lines_of read) said now.reporter
    × (g.lines now.reporter ≡ length (lines_of read))

-- all but the last line, on which a fault came
abbrev pub EndingFault : {R F : Type 0} {g : Ghosts R F} → LineLimits → ReportFault F → WayFrom R (Progress R F g)
EndingFault {g = g} limits fault start old read now new =
    EndFault g.reports g.begins limits start fault old read now.reporter now.text.items new

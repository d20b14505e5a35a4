-- What the code's values of a located line denote.
use Rattle.uv_lint.specs.declared.located.LocatedLink as code
use Rattle.uv_lint.specs.declared.located.Number as number
use Rattle.uv_lint.specs.declared.located.Run as run
use Rattle.uv_lint.specs.Located.{LocatedLink, Number, Run}

-- a number, and what follows it
abbrev pub number_view : number.Number → Number
number_view n = record { value = n.value; rest = n.rest.now }

-- a run
abbrev pub run_view : run.Run → Run
run_view r = record { line = r.line; column = r.column; link = r.link.now }

-- a link and where it is
abbrev pub link_view : code.LocatedLink → LocatedLink
link_view l = record { file = l.file.now; line = l.line; column = l.column; link = l.link.now }

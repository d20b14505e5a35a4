-- A name that isn't empty.
use Rattle.std.proofs.Common.{◌∙◌, sym}
use Rattle.uv_lint.proofs.LocatedLemmas.{named, unnamed}
use Rattle.uv_lint.proofs.located.name_of.Goals as goal

pub returns-in-Ok : goal.returns-in-Ok
returns-in-Ok c =
    named c.args.file.now c.in-Ok.name.now (sym c.is_empty.ensures ∙ c.if-is_empty.false) c.in-Ok.ensures.cases.0
    c.in-Ok.ensures.cases.1

pub returns-in-Err : goal.returns-in-Err
returns-in-Err c = unnamed c.args.file.now c.in-Err.ensures.cases.0

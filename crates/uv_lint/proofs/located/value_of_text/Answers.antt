-- The number that was read, and none out of range.
use Rattle.std.proofs.Common.{◌∙◌, ap}
use Rattle.uv_lint.specs.Located.{in_range}
use Rattle.uv_lint.proofs.LocatedLemmas.{read_number, unread_number}
use Rattle.uv_lint.proofs.located.value_of_text.Goals as goal

pub returns-in-Ok : goal.returns-in-Ok
returns-in-Ok c =
    c.in_range.ensures ∙ ap in_range (read_number c.args.text.now c.in-Ok.number c.requires c.in-Ok.ensures.value.0)

pub returns-in-Err : goal.returns-in-Err
returns-in-Err c = unread_number c.args.text.now c.requires c.in-Err.ensures.value.0

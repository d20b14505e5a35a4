-- The fault of the start, or otherwise the faults of the checked parts.
use Rattle.std.specs.Str.{chars}
use Rattle.std.proofs.lemmas.Result.{on_ok_weaker}
use Rattle.uv_grammar.proofs.PartFaultLemmas.{start_adds, started_adds}
use Rattle.uv_grammar.proofs.all_faults.push_first_faults.Goals as goal

pub returns-in-Some : goal.returns-in-Some
returns-in-Some c =
    on_ok_weaker c.push_fault.result
    (λ joined. start_adds c.args.setting.now (chars c.args.text.now) c.args.cut.now c.in-Some.refusal
    c.args.found.now.items c.push_fault.new.found.items c.in-Some.ensures joined)
    c.push_fault.ensures

pub returns-in-None : goal.returns-in-None
returns-in-None c =
    on_ok_weaker c.push_checked_faults.result
    (started_adds c.args.setting.now (chars c.args.text.now) c.args.cut.now c.args.found.now.items
    c.push_checked_faults.new.found.items c.in-None.ensures)
    c.push_checked_faults.ensures

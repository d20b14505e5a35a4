-- The host, the port and the path's start, one after another.
use Rattle.std.proofs.lemmas.Result.{on_ok_weaker}
use Rattle.uv_grammar.specs.PartViolations.{OfPathStart}
use Rattle.uv_grammar.proofs.PartFaultLemmas.{checked_adds, path_start_one_at_most}
use Rattle.uv_grammar.proofs.ScanLemmas.{adds_fault}
use Rattle.uv_grammar.proofs.all_faults.push_checked_faults.Goals as goal

pub returns : goal.returns
returns c =
    on_ok_weaker c.push_fault.result
    (λ joined. checked_adds c.args.setting.now c.args.cut.now c.args.found.now.items
    c.push_host_faults.new.found.items c.push_port_faults.new.found.items c.push_fault.new.found.items
    c.in_ok-push_host_faults.ensures c.in_ok-push_port_faults.ensures
    (adds_fault (OfPathStart c.args.setting.now c.args.cut.now) c.push_port_faults.new.found.items
    c.push_fault.new.found.items c.path_start_fault.result
    (path_start_one_at_most c.args.setting.now c.args.cut.now) c.path_start_fault.ensures joined))
    c.push_fault.ensures

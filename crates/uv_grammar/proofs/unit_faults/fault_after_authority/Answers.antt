-- The first fault of the parts in the order of their places.
use Rattle.std.proofs.Common.{Some}
use Rattle.uv_model.proofs.Violations.RefusedLemmas.{path_passes, path_refuses, path_start_passes, path_start_refuses}
use Rattle.uv_model.proofs.Violations.RefusedLemmas.{query_passes, query_refuses}
use Rattle.uv_grammar.proofs.unit_faults.fault_after_authority.Goals as goal

pub returns-in-Some : goal.returns-in-Some
returns-in-Some c = path_start_refuses c.args.setting.now c.args.cut.now c.in-Some.refusal c.in-Some.ensures

pub returns-in-Some-path_fault : goal.returns-in-Some-path_fault
returns-in-Some-path_fault c =
    path_start_passes c.args.setting.now c.args.cut.now (Some c.in-Some-path_fault.refusal) c.in_default.ensures
    (path_refuses c.args.setting.now c.args.cut.now c.in-Some-path_fault.refusal c.in-Some-path_fault.ensures)

pub returns-in-Some-query_fault : goal.returns-in-Some-query_fault
returns-in-Some-query_fault c =
    path_start_passes c.args.setting.now c.args.cut.now (Some c.in-Some-query_fault.refusal) c.in_default.ensures
    (path_passes c.args.setting.now c.args.cut.now (Some c.in-Some-query_fault.refusal) c.in_default-path_fault.ensures
    (query_refuses c.args.cut.now c.in-Some-query_fault.refusal c.in-Some-query_fault.ensures))

pub returns : goal.returns
returns c =
    path_start_passes c.args.setting.now c.args.cut.now c.fragment_fault.result c.in_default.ensures
    (path_passes c.args.setting.now c.args.cut.now c.fragment_fault.result c.in_default-path_fault.ensures
    (query_passes c.args.cut.now c.fragment_fault.result c.in_default-query_fault.ensures c.fragment_fault.ensures))

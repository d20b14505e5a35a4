-- The violations of a scanned path are all of what it holds.
use Rattle.std.proofs.Common.{ap}
use Rattle.std.proofs.lemmas.Result.{on_ok_weaker}
use Rattle.uv_model.specs.Cut.{Cut}
use Rattle.uv_grammar.proofs.SpacedPathLemmas.{path_adds}
use Rattle.uv_grammar.proofs.all_faults.push_path_faults.Goals as goal

pub returns : goal.returns
returns c =
    on_ok_weaker c.push_scan.result
    (path_adds c.args.setting.now c.args.cut.now c.path_scan.result c.path_place.result _ c.args.found.now.items
    c.push_scan.new.found.items c.path_scan.ensures c.path_place.ensures
    (ap (λ (cut : Cut). cut.path_text) c.cut.view_is))
    c.push_scan.ensures

-- The path, the query and the fragment, one after another.
use Rattle.std.proofs.lemmas.Result.{on_ok_weaker}
use Rattle.uv_grammar.proofs.PartFaultLemmas.{held_adds}
use Rattle.uv_grammar.proofs.all_faults.push_held_faults.Goals as goal

pub returns : goal.returns
returns c =
    on_ok_weaker c.push_fragment_faults.result
    (held_adds c.args.setting.now c.args.cut.now c.args.found.now.items c.push_path_faults.new.found.items
    c.push_query_faults.new.found.items c.push_fragment_faults.new.found.items c.in_ok-push_path_faults.ensures
    c.in_ok-push_query_faults.ensures)
    c.push_fragment_faults.ensures

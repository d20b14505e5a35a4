-- The value at the place is the slice's.
use Rattle.uv_vectors.specs.Views.{fault_view}
use Rattle.uv_vectors.proofs.CaseLemmas.{fault-items_view}
use Rattle.uv_vectors.proofs.case_fault.fault_at.Goals as goal

pub returns : goal.returns
returns c =
    fault-items_view c.args.values.now c.args.at c.index-values-at.result (fault_view c.in_ok-fault.fault) c.requires
    c.index-values-at.is c.in_ok-fault.ensures

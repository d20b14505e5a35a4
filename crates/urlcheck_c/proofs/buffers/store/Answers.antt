-- A list that is longer than the buffer is cut off.
use Rattle.std.proofs.Common.{◌∙◌, arith}
use Rattle.urlcheck_c.proofs.StoreLemmas.{prefix_cut}
use Rattle.urlcheck_c.specs.Faults.{fault_of}
use Rattle.urlcheck_c.proofs.buffers.store.Goals as goal

pub returns-else-found-out : goal.returns-else-found-out
returns-else-found-out c =
    c.store_all-else-found-out.ensures
    ∙ prefix_cut (fault_of c.args.text.now) c.args.found.now c.args.out.now (omega (arith, c.if-found-out.false))

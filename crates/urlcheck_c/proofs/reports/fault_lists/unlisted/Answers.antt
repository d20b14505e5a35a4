-- A valid text has no faults, and memory runs out only for one that isn't found valid without it.
use Rattle.std.proofs.Common.{◌∙◌, ap}
use Rattle.urlcheck_c.specs.Faults.{no_faults}
use Rattle.urlcheck_c.proofs.MemoryLemmas.{listing_lacks, refused_lacks, valid_has_none}
use Rattle.urlcheck_c.proofs.reports.fault_lists.unlisted.Goals as goal

pub returns-in-Ok-Yes : goal.returns-in-Ok-Yes
returns-in-Ok-Yes c = λ url out is.
    let request = c.args.request.now in
    valid_has_none request.profile url request.text.now out c.in-Ok-Yes.field-0-0 c.none.result
    (rw c.in-Ok-Yes.field-0-is at c.in-Ok-Yes.ensures.verdict url is) (c.none.ensures ∙ ap no_faults c.plain.ensures)

pub returns-in-Ok-No : goal.returns-in-Ok-No
returns-in-Ok-No c = λ url out is.
    let request = c.args.request.now in
    listing_lacks request.profile url request.text.now out c.none-in-Ok-No.result
    (refused_lacks request.profile url request.text.now
    (rw c.in-Ok-No.field-0-is at c.in-Ok-No.ensures.verdict url is).none) (c.none-in-Ok-No.ensures ∙ ap no_faults c.plain-in-Ok-No.ensures)

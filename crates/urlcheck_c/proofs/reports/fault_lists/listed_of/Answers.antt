-- The faults are those against each base of the kind.
use Rattle.std.proofs.Common.{List, subst, sym}
use Rattle.std.specs.Str.{chars}
use Rattle.uv_model.specs.declared.rule.Refusal.{Refusal}
use Rattle.uv_model.specs.Violations.AllViolations.{AreFaults}
use Rattle.urlcheck_c.proofs.reports.fault_lists.listed_of.Goals as goal

pub returns-in-Ok : goal.returns-in-Ok
returns-in-Ok c = λ url is.
    let request = c.args.request.now in
    c.listed.ensures request.profile url
    (subst (λ (all : List Refusal). AreFaults request.profile url (chars request.text.now) all)
    (sym c.as_slice.ensures.value) (c.in-Ok.ensures url is))

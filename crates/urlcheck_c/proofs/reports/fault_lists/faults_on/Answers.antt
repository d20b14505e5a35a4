-- The faults are found without a base, or against each base of the kind.
use Rattle.std.proofs.Common.{Option, subst, sym}
use Rattle.std.specs.Prelude.{IfOk}
use Rattle.std.specs.Str.{chars}
use Rattle.uv_model.specs.Violations.AllViolations.{AreFaults}
use Rattle.uv_grammar.specs.declared.bases.BaseKind.{BaseKind}
use Rattle.uv_model.specs.Records.Url.{Url}
use Rattle.urlcheck_c.specs.Base.{IsOfKindGiven}
use Rattle.urlcheck_c.proofs.BaseLemmas.{against_each}
use Rattle.urlcheck_c.proofs.reports.fault_lists.faults_on.Goals as goal

pub returns-in-Some : goal.returns-in-Some
returns-in-Some c = λ url is.
    against_each c.in-Some.kind
    (λ (u : Option Url). IfOk c.faults_of_kind.result (λ found. AreFaults c.args.request.now.profile u (chars c.args.request.now.text.now) found.items))
    c.faults_of_kind.ensures url (subst (λ (k : Option BaseKind). IsOfKindGiven url k) c.in-Some.is is)

pub returns-in-None : goal.returns-in-None
returns-in-None c = λ url is.
    subst
    (λ (u : Option Url). IfOk c.faults.result (λ found. AreFaults c.args.request.now.profile u (chars c.args.request.now.text.now) found.items))
    (sym (subst (λ (k : Option BaseKind). IsOfKindGiven url k) c.in-None.is is)) c.faults.ensures

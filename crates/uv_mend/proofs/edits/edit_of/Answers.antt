-- An edit by the rule that a text violates changes its rest only by `/.`.
use Rattle.std.proofs.Common.{ap, chars, inl, option_copied, subst, sym, ◌∙◌}
use Rattle.std.proofs.lemmas.Result.{IfOk-weaker}
use Rattle.std.specs.Prelude.{IfSome}
use Rattle.uv_model.specs.Violations.Violation.{Violation}
use Rattle.uv_mend.specs.Edits.{dotted}
use Rattle.uv_mend.specs.Repairs.{decoded}
use Rattle.uv_mend.specs.Rest.{EditHasRestOf, HasRestOf, KeepsRestAfterHost}
use Rattle.uv_mend.proofs.EditedRest.{drive_rest, empty_segment_rest, has_authority, host_rule}
use Rattle.uv_mend.proofs.RepairLemmas.{some_weaker}
use Rattle.uv_mend.proofs.edits.edit_of.Goals as goal

pub returns-in-HostDomain-clause-rest : goal.returns-in-HostDomain-clause-rest
returns-in-HostDomain-clause-rest c =
    let base = option_copied c.args.base in
    let text = chars c.args.text.now in
    let number = host_rule c.args.refusal.rule c.in-HostDomain.is in
    IfOk-weaker c.rehosted.result (λ out. IfSome out (λ list. KeepsRestAfterHost text (decoded list))) _
    (λ out keeps. some_weaker out (λ list. KeepsRestAfterHost text (decoded list))
    (λ list. EditHasRestOf base c.args.refusal text (decoded list))
    (λ list same profile violation.
    inl (same (has_authority profile base text c.args.refusal.place c.args.refusal.rule number.0 number.1 violation)))
    keeps)
    c.rehosted.ensures.rest

pub returns-in_ok-dotted-in-FirstSegmentEmpty-clause-rest :
    goal.returns-in_ok-dotted-in-FirstSegmentEmpty-clause-rest
returns-in_ok-dotted-in-FirstSegmentEmpty-clause-rest c = λ profile violation.
    (let base = option_copied c.args.base in
    let text = chars c.args.text.now in
    let place = c.args.refusal.place in
    subst (HasRestOf text)
    (sym (c.in_ok-dotted-in-FirstSegmentEmpty.ensures ∙ ap (λ at. dotted at text) c.saturating_sub.ensures))
    (empty_segment_rest profile base text place
    (subst (Violation profile base text place) c.in-FirstSegmentEmpty.is violation)))

pub returns-in_ok-dotted-in-DriveAfterHost-clause-rest :
    goal.returns-in_ok-dotted-in-DriveAfterHost-clause-rest
returns-in_ok-dotted-in-DriveAfterHost-clause-rest c = λ profile violation.
    (let base = option_copied c.args.base in
    let text = chars c.args.text.now in
    let place = c.args.refusal.place in
    subst (HasRestOf text) (sym c.in_ok-dotted-in-DriveAfterHost.ensures)
    (drive_rest profile base text place
    (subst (Violation profile base text place) c.in-DriveAfterHost.is violation)))

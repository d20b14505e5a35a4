-- The host of a valid URL ends no authority.
use Rattle.std.proofs.Common.{Some, ap, chars, option_copied, option_map, subst, sym, ◌∙◌}
use Rattle.url.specs.Parts.{IsValid}
use Rattle.uv_mend.specs.Hosts.{with_host}
use Rattle.uv_mend.specs.Prefixes.{class_against}
use Rattle.uv_mend.specs.Rest.{KeepsRestAfterHost}
use Rattle.uv_mend.proofs.RestHosts.{rehosted_by, with_host_rest}
use Rattle.uv_mend.proofs.hosts.rehosted.Goals as goal

pub returns-in_default-clause-edit : goal.returns-in_default-clause-edit
returns-in_default-clause-edit c =
    sym (rw c.in_default.is at
    (rehosted_by (option_copied c.args.base) c.args.text.now c.in_ok-url.field-0 c.utf8.text c.in_ok-url.ensures))

pub returns-in_default-plain_host-clause-edit : goal.returns-in_default-plain_host-clause-edit
returns-in_default-plain_host-clause-edit c =
    let base = option_copied c.args.base in
    let text = chars c.args.text.now in
    let read =
    rw c.in-Some.is at (rehosted_by base c.args.text.now c.in_ok-url.field-0 c.utf8.text c.in_ok-url.ensures) in
    sym (read ∙ ap (option_map (with_host (class_against base text) text))
    (sym (rw c.in_default-plain_host.is at c.plain_host.ensures)))

pub returns-clause-edit : goal.returns-clause-edit
returns-clause-edit c =
    let base = option_copied c.args.base in
    let text = chars c.args.text.now in
    let host = chars c.in-Some-plain_host.host.now in
    let read =
    rw c.in-Some.is at (rehosted_by base c.args.text.now c.in_ok-url.field-0 c.utf8.text c.in_ok-url.ensures) in
    ap Some (c.in_ok-with_host.ensures ∙ ap (λ k. with_host k text host) c.class_against-class.ensures)
    ∙ sym (read ∙ ap (option_map (with_host (class_against base text) text)) (sym c.in-Some-plain_host.ensures))

pub returns-clause-rest : goal.returns-clause-rest
returns-clause-rest c =
    subst (KeepsRestAfterHost (chars c.args.text.now)) (sym c.in_ok-with_host.ensures)
    (with_host_rest c.in-Some.url c.class_against-class.result (chars c.args.text.now)
    (chars c.in-Some-plain_host.host.now) (subst IsValid c.url.view_is c.url.invariant.valid)
    (sym c.in-Some-plain_host.ensures))

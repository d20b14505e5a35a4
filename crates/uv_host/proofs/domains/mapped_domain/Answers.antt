-- A form is ASCII.
use Rattle.std.proofs.Common.{chars}
use Rattle.std.specs.Cow.{cow_str_bytes}
use Rattle.uv_model.specs.Hosts.Domain.{IsForm}
use Rattle.uv_model.proofs.Hosts.DomainLemmas.{IsAscii-form}
use Rattle.uv_host.proofs.domains.mapped_domain.Goals as goal

pub is_number-requires : goal.is_number-requires
is_number-requires c =
    let text = chars c.args.text.now in
    let form = cow_str_bytes c.in-Some.form in
    let is : IsForm c.args.profile text form = rw c.in-Some.is at c.in_ok-form.ensures in
    rw c.as_str.ensures.value (IsAscii-form c.args.profile text form is)

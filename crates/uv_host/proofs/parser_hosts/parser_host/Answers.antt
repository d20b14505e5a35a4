-- A form is ASCII.
use Rattle.std.proofs.Common.{chars, string_bytes}
use Rattle.uv_model.specs.declared.profile.Profile.TheVariants.{Parser}
use Rattle.uv_model.specs.Hosts.Domain.{IsForm}
use Rattle.uv_model.proofs.Hosts.DomainLemmas.{IsAscii-form}
use Rattle.uv_host.proofs.parser_hosts.parser_host.Goals as goal

pub check_form-requires : goal.check_form-requires
check_form-requires c =
    let is : IsForm Parser (chars c.args.text.now) (string_bytes c.in-Some.form)
    = rw c.in-Some.is at c.in_ok-form.ensures in
    IsAscii-form Parser (chars c.args.text.now) (string_bytes c.in-Some.form) is

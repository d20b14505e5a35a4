-- A lower case that is empty isn't a form.
use Rattle.std.proofs.Common.{◌==◌, ℕ, List, length, not, ap, sym, ◌∙◌, string_bytes}
use Rattle.uv_host.specs.Domains.{HasFormByLengths}
use Rattle.uv_model.specs.declared.profile.Profile.TheVariants.{Parser}
use Rattle.std.proofs.Common.{chars}
use Rattle.uv_host.proofs.parser_hosts.any_form.Goals as goal

pub returns-in-Some : goal.returns-in-Some
returns-in-Some c =
    let has : HasFormByLengths Parser (chars c.args.text.now) (string_bytes c.in-Some.form)
    = rw c.in-Some.is at c.in_ok-form.ensures in
    has.wrong
    (ap (λ (bytes : List ℕ). not (length bytes == 0)) (sym c.as_str.ensures.value)
    ∙ ap not (sym c.is_empty.ensures ∙ c.if-is_empty.true))

-- ToASCII gives the same on a text's code points and on its bytes.
use Rattle.std.proofs.Common.{sym, ap, ◌∙◌}
use Rattle.std.proofs.lemmas.Str.{encodes-chars}
use Rattle.idna.specs.declared.options.DnsLength.TheVariants.{Ignore}
use Rattle.idna.specs.Uts46.{to_ascii}
use Rattle.uv_host.proofs.fitting_forms.ascii_form.Goals as goal

pub returns-in-Ok : goal.returns-in-Ok
returns-in-Ok c =
    let bytes = c.as_bytes.ensures.value ∙ sym (encodes-chars c.args.text.now c.utf8.text) in
    sym c.in-Ok.ensures.value ∙ ap (to_ascii c.args.deny c.args.hyphens Ignore) bytes

pub returns-in-Err-Invalid : goal.returns-in-Err-Invalid
returns-in-Err-Invalid c =
    let bytes = c.as_bytes.ensures.value ∙ sym (encodes-chars c.args.text.now c.utf8.text) in
    let none = rw c.in-Err-Invalid.field-0-is at c.in-Err-Invalid.ensures.value in
    sym none ∙ ap (to_ascii c.args.deny c.args.hyphens Ignore) bytes

-- ToUnicode gives a name that is too long, or refuses the text.
use Rattle.std.proofs.Common.{◌≡◌, Some, chars, encode_utf8_all, sym, ◌∙◌}
use Rattle.std.specs.Cow.{cow_str_bytes}
use Rattle.idna.specs.Uts46.{to_unicode}
use Rattle.uv_host.proofs.FittingFormLemmas.{long_misfit, refused_misfit}
use Rattle.uv_host.proofs.fitting_forms.is_misfit.Goals as goal

pub returns-in-Some : goal.returns-in-Some
returns-in-Some c =
    let text = chars c.args.text.now in
    let name = cow_str_bytes c.in-Some.name in
    let shown : to_unicode c.args.deny c.args.hyphens (encode_utf8_all text) ≡ Some name =
    sym (rw c.in-Some.is at c.in_ok-name.ensures) in
    λ long. long_misfit c.args.deny c.args.hyphens text name shown
    (rw c.as_str.ensures.value at (sym c.is_long_name.ensures ∙ long))

pub returns-in-None : goal.returns-in-None
returns-in-None c =
    let refused = sym (rw c.in-None.is at c.in_ok-name.ensures) in
    λ yes. refused_misfit c.args.deny c.args.hyphens (chars c.args.text.now) refused

-- If each label stays in Unicode, `Uts46::process` gives what ToUnicode gives.
use Rattle.std.proofs.Common.{Some, Err, rules, sym, ap, ◌∙◌}
use Rattle.std.proofs.lemmas.Str.{encodes-chars}
use Rattle.idna.specs.Uts46.{to_unicode}
use Rattle.uv_host.proofs.FittingFormLemmas.{each_shown, in_unicode, sunk}
use Rattle.uv_host.proofs.fitting_forms.unicode_name.Goals as goal

pub returns-in-Ok-Passthrough : goal.returns-in-Ok-Passthrough
returns-in-Ok-Passthrough c =
    let bytes = encodes-chars c.args.text.now c.utf8.text ∙ sym c.as_bytes.ensures.value in
    let written = c.in-Ok-Passthrough.ensures.sink each_shown (λ label tld bidi answer post. search rules) in
    sym (ap (to_unicode c.args.deny c.args.hyphens) bytes
    ∙ sym (in_unicode c.args.deny c.args.hyphens c.as_bytes.result.now)
    ∙ (rw c.in-Ok-Passthrough.field-0-is at written).0 ∙ ap Some c.as_bytes.ensures.value)

pub returns-in-Ok-WroteToSink : goal.returns-in-Ok-WroteToSink
returns-in-Ok-WroteToSink c =
    let bytes = encodes-chars c.args.text.now c.utf8.text ∙ sym c.as_bytes.ensures.value in
    let written =
    rw c.in-Ok-WroteToSink.field-0-is at
    c.in-Ok-WroteToSink.ensures.sink each_shown (λ label tld bidi answer post. search rules) in
    sym (ap (to_unicode c.args.deny c.args.hyphens) bytes
    ∙ sunk c.args.deny c.args.hyphens c.as_bytes.result.now written.0 _ _ written.1 c.new-name.ensures.bytes
    written.3)

pub returns-in-Err-ValidityError : goal.returns-in-Err-ValidityError
returns-in-Err-ValidityError c =
    let bytes = encodes-chars c.args.text.now c.utf8.text ∙ sym c.as_bytes.ensures.value in
    let none = c.in-Err-ValidityError.ensures.ascii_sink each_shown (λ label tld bidi answer post. search rules) in
    sym (ap (to_unicode c.args.deny c.args.hyphens) bytes
    ∙ sym (in_unicode c.args.deny c.args.hyphens c.as_bytes.result.now)
    ∙ none (ap Err c.in-Err-ValidityError.field-0-is))

-- The fault of an opaque host is the least of its violations.
use Rattle.std.proofs.Common.{chars, sym, ◌∙◌}
use Rattle.uv_model.proofs.Violations.ViolationLemmas.{least_opaque_fault_within}
use Rattle.uv_host.proofs.OpaqueHostLemmas.{unbracketed_least, unbracketed_silent}
use Rattle.uv_host.proofs.opaque_hosts.opaque_fault.Goals as goal

pub returns-else-starts_with_bracket-clause-least : goal.returns-else-starts_with_bracket-clause-least
returns-else-starts_with_bracket-clause-least c =
    let no_bracket = sym c.starts_with_bracket.ensures ∙ c.if-starts_with_bracket.false in
    rw c.opaque_unit_fault.ensures.first (unbracketed_least (chars c.args.text.now) no_bracket)

pub returns-else-starts_with_bracket-clause-within : goal.returns-else-starts_with_bracket-clause-within
returns-else-starts_with_bracket-clause-within c =
    let text = chars c.args.text.now in
    let no_bracket = sym c.starts_with_bracket.ensures ∙ c.if-starts_with_bracket.false in
    rw c.opaque_unit_fault.ensures.first (least_opaque_fault_within text _ (unbracketed_least text no_bracket))

pub returns-else-starts_with_bracket-clause-silent : goal.returns-else-starts_with_bracket-clause-silent
returns-else-starts_with_bracket-clause-silent c =
    let no_bracket = sym c.starts_with_bracket.ensures ∙ c.if-starts_with_bracket.false in
    rw c.opaque_unit_fault.ensures.first (unbracketed_silent (chars c.args.text.now) no_bracket)

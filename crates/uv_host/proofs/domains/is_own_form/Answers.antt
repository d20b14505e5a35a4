-- A form's bytes with placed hyphens are plain.
use Rattle.std.proofs.Common.{sym, ◌∙◌}
use Rattle.uv_host.proofs.PlainLemmas.{plain_from_form}
use Rattle.uv_host.proofs.domains.is_own_form.Goals as goal

pub returns-then-is_form : goal.returns-then-is_form
returns-then-is_form c = rw c.in-Standard.is (λ placed. plain_from_form c.args.name.now
    (sym c.is_form.ensures ∙ c.if-is_form.true) (sym c.has_placed_hyphens.ensures ∙ placed))

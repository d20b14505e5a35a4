-- Only the diagnostic is in the room for one, and it is appended.
use Rattle.std.proofs.Common.{◌++◌, ◌∙◌, ap}
use Rattle.uv_lint.proofs.ReporterLemmas.{on_appended}
use Rattle.uv_lint.proofs.reported_line.append_framed.Goals as goal

pub returns-clause-text : goal.returns-clause-text
returns-clause-text c =
    let old = c.args.text.now.items in
    on_appended c.extend_from_slice.result old c.as_bytes.result.now c.extend_from_slice.new.self.items _
    c.extend_from_slice.ensures.items
    (λ added. added ∙ ap (λ t. old ++ t) (c.as_bytes.ensures.value ∙ c.in_ok-put_framed.ensures))

-- The least violation of the path is counted from the text's start.
use Rattle.std.proofs.Common.{Some, None, ap, subst, sym, ◌∙◌}
use Rattle.uv_model.specs.Cut.{Cut}
use Rattle.uv_model.specs.Violations.Refusal.{IsLeastRefusal}
use Rattle.uv_model.specs.Violations.Violation.{refusal_after}
use Rattle.uv_model.specs.declared.rule.Refusal.{Refusal}
use Rattle.uv_grammar.specs.PartViolations.{OfPath}
use Rattle.uv_grammar.proofs.SpacedPathLemmas.{path_least}
use Rattle.uv_grammar.proofs.unit_faults.path_fault.Goals as goal

pub returns-in-Some : goal.returns-in-Some
returns-in-Some c =
    let moved = c.refusal_after.ensures ∙ ap (λ n. refusal_after n c.in-Some.refusal) c.path_place.ensures in
    subst (λ (r : Refusal). IsLeastRefusal (OfPath c.args.setting.now c.args.cut.now) r) (sym moved)
    (path_least c.args.setting.now c.args.cut.now c.path_scan.result _ (Some c.in-Some.refusal)
    c.path_scan.ensures (ap (λ (cut : Cut). cut.path_text) c.cut.view_is) c.in-Some.ensures)

pub returns-in-None : goal.returns-in-None
returns-in-None c =
    path_least c.args.setting.now c.args.cut.now c.path_scan.result _ None
    c.path_scan.ensures (ap (λ (cut : Cut). cut.path_text) c.cut.view_is) c.in-None.ensures

-- The fix that is offered is written.
use Rattle.std.proofs.Common.{◌≡◌, ◌∙◌, ◌++◌, ◌∷◌, Option, OnOk, ap, option_map, subst, sym}
use Rattle.json.specs.Token.{begin_object}
use Rattle.json.specs.Tree.{members_tokens}
use Rattle.uv_report.specs.declared.diagnostic.Region.{Region}
use Rattle.uv_report.specs.Diagnostic.{FixView, diagnostic_view, edit_view}
use Rattle.uv_report.specs.Formats.Sarif.{members_with}
use Rattle.uv_report.proofs.formats.sarif.write_result.Goals as goal

pub returns-in-Some : goal.returns-in-Some
returns-in-Some c =
    subst (λ (edit : Option (Region × FixView)). OnOk c.write_fixed.result (c.write_fixed.new.json
    ≡ c.args.json.now ++ (begin_object ∷ members_tokens (members_with (diagnostic_view c.args.found.now) edit))))
    (ap (option_map edit_view) (sym c.in-Some.is) ∙ c.edit.ensures)
    c.write_fixed.ensures

pub returns : goal.returns
returns c =
    subst (λ (edit : Option (Region × FixView)). OnOk c.write_plain.result (c.write_plain.new.json
    ≡ c.args.json.now ++ (begin_object ∷ members_tokens (members_with (diagnostic_view c.args.found.now) edit))))
    (ap (option_map edit_view) (sym c.in-None.is) ∙ c.edit.ensures)
    c.write_plain.ensures

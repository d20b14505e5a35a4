-- The search gives the first of the rules that has the number.
use Rattle.std.proofs.Common.{◌∙◌, ◌==◌, rules, tests}
use Rattle.std.proofs.lemmas.Iterator.{YieldsList-from_slice}
use Rattle.std.proofs.lemmas.Iterator.Search.{find_from_yields_List}
use Rattle.uv_model.specs.Violations.Rule.{rule_number}
use Rattle.urlcheck_c.proofs.names.numbered.Goals as goal

pub returns : goal.returns
returns c =
    c.copied.ensures
    ∙ find_from_yields_List (λ rule. rule_number rule == c.args.number) _ _ _ c.find.ensures.ran
    (YieldsList-from_slice c.args.rules.now cc) (λ x b q k. search (rules, tests))

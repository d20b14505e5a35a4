-- All the violations of the cut text are violations of the text.
use Rattle.std.proofs.Common.{List, arith, subst}
use Rattle.std.specs.Str.{chars}
use Rattle.uv_model.specs.declared.rule.Refusal.{Refusal}
use Rattle.uv_grammar.specs.Bases.{as_base}
use Rattle.uv_grammar.specs.Faults.{AddsViolations, FirstViolation}
use Rattle.uv_grammar.proofs.PartFaultLemmas.{all_faults}
use Rattle.uv_grammar.proofs.VerdictLemmas.{countable}
use Rattle.uv_grammar.proofs.all_faults.faults_against.Goals as goal

pub push_first_faults-requires : goal.push_first_faults-requires
push_first_faults-requires c =
    countable c.args.text.now c.cut_text-cut.result.0 c.utf8.text (omega arith) c.cut_text-cut.ensures.cut.whole

pub push_held_faults-requires : goal.push_held_faults-requires
push_held_faults-requires c =
    countable c.args.text.now c.cut_text-cut.result.0 c.utf8.text (omega arith) c.cut_text-cut.ensures.cut.whole

pub returns : goal.returns
returns c =
    all_faults c.args.profile (as_base c.args.base) (chars c.args.text.now) c.cut_text-cut.result.0
    c.cut_text-cut.result.1 c.push_first_faults.new.found.items c.push_held_faults.new.found.items
    c.cut_text-cut.ensures.cut c.cut_text-cut.ensures.setting
    (subst (λ (l : List Refusal). AddsViolations
    (FirstViolation c.cut_text-cut.result.1 (chars c.args.text.now) c.cut_text-cut.result.0) l
    c.push_first_faults.new.found.items) c.new-found.ensures.items c.in_ok-push_first_faults.ensures)
    c.in_ok-push_held_faults.ensures

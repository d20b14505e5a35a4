-- The faults of the port are all of its violations.
use Rattle.std.proofs.Common.{◌∙◌, ap, sym, subst, ℕ}
use Rattle.std.specs.Str.{chars}
use Rattle.std.proofs.lemmas.Result.{on_ok_weaker}
use Rattle.uv_model.specs.Violations.Violation.{After, PortPartViolation}
use Rattle.uv_model.specs.Cut.{Cut}
use Rattle.uv_grammar.specs.Faults.{AddsViolations}
use Rattle.uv_grammar.specs.PartValues.{FitsPortPart}
use Rattle.uv_grammar.specs.Scan.{DigitViolation}
use Rattle.uv_grammar.specs.Slices.{chars_of_option}
use Rattle.uv_grammar.proofs.PartFaultLemmas.{checked_least, port_fault_adds, port_scan_adds}
use Rattle.uv_grammar.proofs.all_faults.push_port_faults.Goals as goal

pub returns-then-not-are_digits : goal.returns-then-not-are_digits
returns-then-not-are_digits c =
    on_ok_weaker c.push_scan.result
    (λ adds. port_scan_adds c.args.cut.now (chars c.in-Some.host_text.now) (chars c.in-Some-port_text.port_text.now)
    c.args.found.now.items c.push_scan.new.found.items
    (ap (λ (cut : Cut). cut.host_text) (sym c.cut.view_is) ∙ ap chars_of_option c.in-Some.is)
    (ap (λ (cut : Cut). cut.port_text) (sym c.cut.view_is) ∙ ap chars_of_option c.in-Some-port_text.is)
    (sym c.are_digits.ensures ∙ c.if-not-are_digits.true)
    (subst (λ (n : ℕ). AddsViolations (After n (DigitViolation (chars c.in-Some-port_text.port_text.now)))
    c.args.found.now.items c.push_scan.new.found.items) c.port_place.ensures adds))
    c.push_scan.ensures

pub returns : goal.returns
returns c =
    on_ok_weaker c.push_fault.result
    (λ joined. port_fault_adds c.args.cut.now (chars c.in-Some.host_text.now) (chars c.in-Some-port_text.port_text.now)
    c.args.found.now.items c.push_fault.new.found.items c.into_refusal.result
    (ap (λ (cut : Cut). cut.host_text) (sym c.cut.view_is) ∙ ap chars_of_option c.in-Some.is)
    (ap (λ (cut : Cut). cut.port_text) (sym c.cut.view_is) ∙ ap chars_of_option c.in-Some-port_text.is)
    (sym c.are_digits.ensures ∙ c.if-not-are_digits.false)
    (rw c.into_refusal.ensures (checked_least (FitsPortPart c.args.setting.now c.args.cut.now)
    (PortPartViolation c.args.cut.now) c.check_port_part.result c.check_port_part.ensures))
    joined)
    c.push_fault.ensures

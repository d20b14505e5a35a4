-- The faults of the host are all of its violations.
use Rattle.std.proofs.Common.{◌∙◌, ap, sym, subst, ℕ}
use Rattle.std.specs.Str.{chars}
use Rattle.std.proofs.lemmas.Result.{on_ok_weaker}
use Rattle.uv_model.specs.Violations.Violation.{After, HostPartViolation}
use Rattle.uv_model.specs.Cut.{Cut}
use Rattle.uv_grammar.specs.Faults.{AddsViolations}
use Rattle.uv_grammar.specs.PartsHost.{FitsPartsHost}
use Rattle.uv_grammar.specs.PartValues.{FitsHostPart}
use Rattle.uv_host.specs.OpaqueHosts.{HostUnitViolation}
use Rattle.uv_grammar.specs.Slices.{chars_of_option}
use Rattle.uv_model.specs.Setting.{Setting}
use Rattle.uv_grammar.proofs.PartFaultLemmas.{checked_least, host_fault_adds, host_scan_adds}
use Rattle.uv_grammar.proofs.all_faults.push_host_faults.Goals as goal

pub returns-then-is_scanned : goal.returns-then-is_scanned
returns-then-is_scanned c =
    on_ok_weaker c.push_scan.result
    (λ adds. host_scan_adds c.args.setting.now c.args.cut.now c.setting.inside.class
    (chars c.in-Some.host_text.now) c.args.found.now.items c.push_scan.new.found.items
    (ap (λ (cut : Cut). cut.host_text) (sym c.cut.view_is) ∙ ap chars_of_option c.in-Some.is)
    (ap (λ (s : Setting). s.class) c.setting.view_is)
    (sym c.is_scanned.ensures ∙ c.if-is_scanned.true)
    (subst (λ (n : ℕ). AddsViolations (After n (HostUnitViolation (chars c.in-Some.host_text.now)))
    c.args.found.now.items c.push_scan.new.found.items) c.host_place.ensures adds))
    c.push_scan.ensures

pub returns : goal.returns
returns c =
    on_ok_weaker c.push_fault.result
    (λ joined. host_fault_adds c.args.setting.now c.args.cut.now c.setting.inside.class
    (chars c.in-Some.host_text.now) c.args.found.now.items c.push_fault.new.found.items c.into_refusal.result
    (ap (λ (cut : Cut). cut.host_text) (sym c.cut.view_is) ∙ ap chars_of_option c.in-Some.is)
    (ap (λ (s : Setting). s.class) c.setting.view_is)
    (sym c.is_scanned.ensures ∙ c.if-is_scanned.false)
    (rw c.into_refusal.ensures (checked_least (FitsPartsHost (FitsHostPart c.args.setting.now c.args.cut.now))
    (HostPartViolation c.args.setting.now c.args.cut.now)
    c.in_ok-check_host_part.field-0 c.in_ok-check_host_part.ensures.answer))
    joined)
    c.push_fault.ensures

-- The code point after the units is the first fault, and the place counts the units.
use Rattle.std.proofs.Common.{refl}
use Rattle.std.specs.Str.{chars}
use Rattle.uv_host.proofs.OpaqueHostLemmas.{units_least}
use Rattle.uv_host.proofs.OpaqueHostScan.{fault_found, no_fault}
use Rattle.uv_text.specs.Splits.{class_has}
use Rattle.uv_text.specs.declared.units.UnitClass.TheVariants.{OpaqueHost}
use Rattle.uv_host.proofs.opaque_hosts.opaque_unit_fault.Goals as goal

pub returns-in-Some-clause-first : goal.returns-in-Some-clause-first
returns-in-Some-clause-first c =
    fault_found (class_has OpaqueHost) (chars c.args.text.now) (chars c.split_units.result.0.now)
    (chars c.split_units.result.1.now) c.in-Some.c (chars c.in-Some.field-0-1.now) c.count_code_points.result
    c.host_rule.result (λ byte. refl) c.split_units.ensures c.in-Some.ensures
    c.count_code_points.ensures c.host_rule.ensures

pub returns-in-None-clause-first : goal.returns-in-None-clause-first
returns-in-None-clause-first c =
    no_fault (class_has OpaqueHost) (chars c.args.text.now) (chars c.split_units.result.0.now)
    (chars c.split_units.result.1.now) (λ byte. refl) c.split_units.ensures c.in-None.ensures

pub returns-in-Some-clause-least : goal.returns-in-Some-clause-least
returns-in-Some-clause-least c = units_least (chars c.args.text.now) _ (returns-in-Some-clause-first c)

pub returns-in-None-clause-least : goal.returns-in-None-clause-least
returns-in-None-clause-least c = units_least (chars c.args.text.now) _ (returns-in-None-clause-first c)

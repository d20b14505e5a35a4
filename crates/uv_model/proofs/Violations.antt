-- Lemmas on violations: of units, of hosts, the least one, and that a violation excludes parts.
pub mod UnitViolationLemmas
pub mod SpacedPathLemmas
pub mod ViolationLemmas
pub mod LeastLemmas
pub mod RefusalLemmas
pub mod RefusedLemmas
pub mod AllViolationsLemmas
pub mod ViolationPlaces
pub mod FaultlessHosts
pub mod ViolationsExcludeParts

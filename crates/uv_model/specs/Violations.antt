-- What is wrong with a text and where: the rules, violations of units and of an opaque host, of a whole text, and the
-- least of them.
pub mod Rule
pub mod UnitViolation
pub mod OpaqueHostViolation
pub mod Violation
pub mod Refusal
pub mod AllViolations

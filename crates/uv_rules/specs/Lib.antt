-- The definitions, in the order in which to read them.
pub mod Explanation
pub mod LineViolation
pub mod RuleList

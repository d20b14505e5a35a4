-- Decisions: what holds of a text that is written out is proved by computing, in one line.
pub mod Decisions
pub mod DecidedViolations
pub mod DecidedTexts

-- The differences between the standard profile and the parser's: a valid text of the parser's profile is one of the
-- standard profile, or has one of the named differences.
pub mod HostDifferences
pub mod PathDifferences
pub mod SilentDifferences

-- The definitions, in the order in which to read them: texts, how they are cut and written, what is valid, what is
-- refused and why, what is denoted, and the laws.
pub mod Ascii
pub mod Removed
pub mod Units
pub mod Encoding
pub mod Scheme
pub mod Path
pub mod Hosts
pub mod Parts
pub mod ProfileName
pub mod MendKindName
pub mod WrittenProfiles
pub mod Setting
pub mod Cut
pub mod Valid
pub mod Violations
pub mod Records
pub mod Laws

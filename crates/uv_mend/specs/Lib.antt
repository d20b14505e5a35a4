-- The definitions, in the order in which to read them.
pub mod CodePoints
pub mod Prefixes
pub mod Escapes
pub mod Stripped
pub mod Slashes
pub mod Hosts
pub mod Edits
pub mod Rest
pub mod Repairs
pub mod Kinds
pub mod Readings
pub mod Mending

-- The definitions, in the order in which to read them.
pub mod Places
pub mod Json
pub mod Pieces
pub mod Diagnostic
pub mod Format
pub mod Look
pub mod Formats
pub mod Report

-- The definitions, in the order in which to read them.
pub mod Escaping
pub mod Places
pub mod Rule

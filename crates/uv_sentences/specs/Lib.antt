-- The definitions, in the order in which to read them.
pub mod Sentences

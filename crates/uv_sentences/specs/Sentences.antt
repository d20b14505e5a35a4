-- The sentence on a text.
pub mod Message

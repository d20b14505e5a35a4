pub mod CheckText
pub mod Explanations
pub mod Messages
